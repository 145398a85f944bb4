use Rattle.steep_run.proofs.ClassLemmas.{called_with}
use Rattle.steep_run.proofs.ruby.class.note_class.Goals as goal

pub returns-in_ok-clone-in-Some-clause-called : goal.returns-in_ok-clone-in-Some-clause-called
returns-in_ok-clone-in-Some-clause-called g c =
    called_with c.put.result (g.M.Names.all c.args.members.now) c.args.classes.now c.put.new.self c.args.word.now _ _ c.in_ok-clone-in-Some.ensures c.put.ensures.values
    (rw c.in-Some.is at c.in_ok-called.ensures) c.requires
