use Rattle.definitions.proofs.lined_table.make_above.Goals as goal

pub loop-superclass-init : goal.loop-superclass-init
loop-superclass-init g c = (c.requires, λ path had. had)

pub loop-superclass-preserved : goal.loop-superclass-preserved
loop-superclass-preserved g c = (c.in_ok-make_one.ensures.sound, λ path had. c.in_ok-make_one.ensures.kept path (c.loop-superclass.invariant.1 path had))
