use Rattle.std.proofs.Common.{◌≡◌, ◌+◌, drop}
use Rattle.ruby_lexer.specs.Numbers as spec
use Rattle.ruby_lexer.proofs.numbers.digits_front.Given as goal

abbrev pub invariant-loop-at : goal.invariant-loop-at
invariant-loop-at l = l.at + spec.digits_front l.base (drop l.at l.text) ≡ spec.digits_front l.base l.text
