use Rattle.std.proofs.Common.{◌≡◌, drop}
use Rattle.ruby_lexer.specs.Numbers as spec
use Rattle.ruby_lexer.proofs.numbers.value_of.Given as goal

abbrev pub invariant-loop-byte : goal.invariant-loop-byte
invariant-loop-byte l = spec.value_from l.base l.value (drop l.byte-index l.digits) ≡ spec.value_from l.base 0 l.digits
