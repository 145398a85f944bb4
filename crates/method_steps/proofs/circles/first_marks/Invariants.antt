use Rattle.std.proofs.Common.{◌≡◌, ◌++◌, length, map}
use Rattle.method_steps.specs.Circles.{first_mark}
use Rattle.method_steps.proofs.circles.first_marks.Given as goal

abbrev pub invariant-loop-rest : goal.invariant-loop-rest
invariant-loop-rest l = l.marks.items ++ map first_mark l.rest ≡ map first_mark l.leads

abbrev pub decreases-loop-rest : goal.decreases-loop-rest
decreases-loop-rest l = length l.rest
