use Rattle.std.proofs.Common.{◌≡◌}
use Rattle.ruby_values.specs.Places.{end_of_code}
use Rattle.ruby_values.proofs.places.end_of_code.Given as goal

abbrev pub invariant-loop-left : goal.invariant-loop-left
invariant-loop-left l = end_of_code l.tokens l.left ≡ end_of_code l.tokens l.behind

abbrev pub decreases-loop-left : goal.decreases-loop-left
decreases-loop-left l = l.left
