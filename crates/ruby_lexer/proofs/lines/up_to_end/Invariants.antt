use Rattle.std.proofs.Common.{◌≡◌, drop}
use Rattle.ruby_lexer.specs.Lines as spec
use Rattle.ruby_lexer.proofs.lines.up_to_end.Given as goal

abbrev pub invariant-loop-at : goal.invariant-loop-at
invariant-loop-at l = spec.longer_by l.at (spec.up_to_end l.begins (drop l.at l.text)) ≡ spec.up_to_end l.begins_here l.text
