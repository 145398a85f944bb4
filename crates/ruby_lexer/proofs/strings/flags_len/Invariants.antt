use Rattle.std.proofs.Common.{◌≡◌, ◌+◌, drop}
use Rattle.ruby_lexer.specs.Strings as spec
use Rattle.ruby_lexer.proofs.strings.flags_len.Given as goal

abbrev pub invariant-loop-at : goal.invariant-loop-at
invariant-loop-at l = l.at + spec.flags_len (drop l.at l.text) ≡ spec.flags_len l.text
