use Rattle.std.proofs.Common.{◌≡◌, ◌+◌, drop}
use Rattle.ruby_lexer.specs.Lines as spec
use Rattle.ruby_lexer.proofs.lines.spaces_len.Given as goal

abbrev pub invariant-loop-at : goal.invariant-loop-at
invariant-loop-at l = l.at + spec.spaces_len (drop l.at l.text) ≡ spec.spaces_len l.text
