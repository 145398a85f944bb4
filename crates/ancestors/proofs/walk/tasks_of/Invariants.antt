use Rattle.std.proofs.Common.{◌≡◌, ◌++◌, vec_len}
use Rattle.ancestors.specs.Pieces.{adds}
use Rattle.ancestors.proofs.walk.tasks_of.Given as goal

abbrev pub invariant-loop-piece : goal.invariant-loop-piece
invariant-loop-piece l = adds l.rest.items ++ l.tasks ≡ adds l.fn.pieces

abbrev pub decreases-loop-piece : goal.decreases-loop-piece
decreases-loop-piece l = vec_len l.rest
