use Rattle.std.proofs.Common.{◌≡◌, ◌++◌, vec_len}
use Rattle.ancestors.specs.Pieces.{adds, parts}
use Rattle.ancestors.proofs.tasks.put_in_order.Given as goal

abbrev pub invariant-loop-applied : goal.invariant-loop-applied
invariant-loop-applied l = adds (parts l.part l.rest.items) ++ l.tasks ≡ adds (parts l.part l.fn.names) ++ l.fn.tasks

abbrev pub decreases-loop-applied : goal.decreases-loop-applied
decreases-loop-applied l = vec_len l.rest
