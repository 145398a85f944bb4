use Rattle.std.proofs.Common.{◌≡◌, ◌+◌, drop}
use Rattle.rbs_lexer.specs.Finds as spec
use Rattle.rbs_lexer.proofs.words.plain_len.Given as goal

abbrev pub invariant-loop-at : goal.invariant-loop-at
invariant-loop-at l = l.at + spec.plain_len (drop l.at l.text) ≡ spec.plain_len l.text
