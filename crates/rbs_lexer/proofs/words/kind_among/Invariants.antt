use Rattle.std.proofs.Common.{◌≡◌, map, drop}
use Rattle.rbs_lexer.specs.Words as words
use Rattle.rbs_lexer.proofs.words.kind_among.Given as goal

abbrev pub invariant-loop-key : goal.invariant-loop-key
invariant-loop-key l = words.entry l.word (map (λ e. (e.0.now, e.1)) (drop l.key-index l.table)) ≡ words.entry l.word (map (λ e. (e.0.now, e.1)) l.table)
