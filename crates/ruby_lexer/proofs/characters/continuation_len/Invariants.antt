use Rattle.std.proofs.Common.{◌≡◌, ◌+◌, drop}
use Rattle.ruby_lexer.specs.Characters as spec
use Rattle.ruby_lexer.proofs.characters.continuation_len.Given as goal

abbrev pub invariant-loop-at : goal.invariant-loop-at
invariant-loop-at l = l.at + spec.continuation_len (drop l.at l.text) ≡ spec.continuation_len l.text
