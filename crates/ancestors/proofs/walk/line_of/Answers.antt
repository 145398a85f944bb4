use Rattle.ancestors.proofs.EndLemmas.{walk_ends}
use Rattle.ancestors.proofs.WalkLemmas.{walk_keeps}
use Rattle.ancestors.proofs.walk.line_of.Goals as goal

pub loop-task-smaller : goal.loop-task-smaller
loop-task-smaller g c =
    let walk = c.loop-task.walk in
    walk_ends (g.N.Names.all c.args.names.now) walk.tasks c.pop.new.self walk.trail walk.line c.in-Some.task c.take.new.self c.in-Some.ensures.items c.in_ok-take.ensures

pub loop-task-preserved : goal.loop-task-preserved
loop-task-preserved g c =
    let walk = c.loop-task.walk in
    walk_keeps (g.N.Names.all c.args.names.now) walk.tasks c.pop.new.self walk.trail walk.line c.in-Some.task c.take.new.self _ c.in-Some.ensures.items c.in_ok-take.ensures c.loop-task.invariant
