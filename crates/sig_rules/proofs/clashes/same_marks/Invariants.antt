use Rattle.std.proofs.Common.{◌≡◌, length}
use Rattle.sig_rules.specs.Declarations.{same_marks}
use Rattle.sig_rules.proofs.clashes.same_marks.Given as goal

abbrev pub invariant-loop-left : goal.invariant-loop-left
invariant-loop-left l = same_marks l.left l.right ≡ same_marks l.fn.params l.fn.others

abbrev pub decreases-loop-left : goal.decreases-loop-left
decreases-loop-left l = length l.left
