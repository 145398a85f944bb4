use Rattle.std.proofs.Common.{◌≡◌, drop}
use Rattle.rbs_lexer.specs.Numbers as numbers
use Rattle.rbs_parser.proofs.values.value_within.Given as goal

abbrev pub invariant-loop-byte : goal.invariant-loop-byte
invariant-loop-byte l = numbers.value_from l.value (drop l.byte-index l.digits) ≡ numbers.value_from 0 l.digits
