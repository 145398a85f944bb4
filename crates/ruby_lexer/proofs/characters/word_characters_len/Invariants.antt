use Rattle.std.proofs.Common.{◌≡◌, ◌+◌, drop}
use Rattle.ruby_lexer.specs.Characters as spec
use Rattle.ruby_lexer.proofs.characters.word_characters_len.Given as goal

abbrev pub invariant-loop-at : goal.invariant-loop-at
invariant-loop-at l = l.at + spec.word_characters_len (drop l.at l.text) ≡ spec.word_characters_len l.text
