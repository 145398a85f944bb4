use Rattle.std.proofs.Common.{arith}
use Rattle.definitions.proofs.MadeLemmas.{made_list, made_next, made_nothing}
use Rattle.definitions.proofs.lined_table.make_all.Goals as goal

pub loop-name-init : goal.loop-name-init
loop-name-init g c = (c.requires, made_nothing (g.N.Names.all c.args.names.now) c.args.made.now)

pub loop-name-preserved : goal.loop-name-preserved
loop-name-preserved g c =
    let all = g.N.Names.all c.args.names.now in
    (c.in_ok-make.ensures.sound, made_next all c.args.list.now c.loop-name.name-index c.name-item.result _ _ (omega arith) c.name-item.is c.loop-name.invariant.1 c.in_ok-make.ensures.kept c.in_ok-make.ensures.made)

pub returns-clause-made : goal.returns-clause-made
returns-clause-made g c = made_list (g.N.Names.all c.args.names.now) c.args.list.now c.loop-name.name-index _ c.loop-name-test.false c.loop-name.invariant.1
