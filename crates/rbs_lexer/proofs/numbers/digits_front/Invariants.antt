use Rattle.std.proofs.Common.{◌≡◌, ◌+◌, drop}
use Rattle.rbs_lexer.specs.Finds as spec
use Rattle.rbs_lexer.proofs.numbers.digits_front.Given as goal

abbrev pub invariant-loop-at : goal.invariant-loop-at
invariant-loop-at l = l.at + spec.digits_front (drop l.at l.text) ≡ spec.digits_front l.text
