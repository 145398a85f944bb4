use Rattle.std.proofs.Common.{◌≡◌, ◌+◌, drop}
use Rattle.ruby_lexer.specs.Lines as spec
use Rattle.ruby_lexer.proofs.lines.line_len.Given as goal

abbrev pub invariant-loop-at : goal.invariant-loop-at
invariant-loop-at l = l.at + spec.line_len (drop l.at l.text) ≡ spec.line_len l.text
