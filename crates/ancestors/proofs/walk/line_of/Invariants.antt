use Rattle.std.proofs.Common.{◌≡◌}
use Rattle.ancestors.specs.Walks.{line_of, trail_of}
use Rattle.ancestors.proofs.EndLemmas.{tasks_left}
use Rattle.ancestors.proofs.WalkLemmas.{whole}
use Rattle.ancestors.proofs.walk.line_of.Given as goal

abbrev pub invariant-loop-task : goal.invariant-loop-task
invariant-loop-task g l = whole (g.N.Names.all l.names) l.walk ≡ line_of (g.N.Names.all l.names) l.fn.pieces

abbrev pub decreases-loop-task : goal.decreases-loop-task
decreases-loop-task g l = tasks_left (g.N.Names.all l.names) (trail_of l.walk.trail) l.walk.tasks
