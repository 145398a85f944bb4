use Rattle.std.proofs.Common.{◌≡◌, drop}
use Rattle.ruby_lexer.specs.Strings as spec
use Rattle.ruby_lexer.proofs.strings.hexadecimal_value.Given as goal

abbrev pub invariant-loop-digit : goal.invariant-loop-digit
invariant-loop-digit l = spec.hexadecimal_value l.value (drop l.digit-index l.digits) ≡ spec.hexadecimal_value 0 l.digits
