use Rattle.std.proofs.Common.{◌≡◌, map, drop}
use Rattle.ruby_lexer.specs.Words as spec
use Rattle.ruby_lexer.proofs.words.entry.Given as goal

abbrev pub invariant-loop-key : goal.invariant-loop-key
invariant-loop-key g l = spec.entry l.bytes (map (λ e. (e.0.now, e.1)) (drop l.key-index l.table)) ≡ spec.entry l.bytes (map (λ e. (e.0.now, e.1)) l.table)
