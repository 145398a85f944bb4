use Rattle.std.proofs.Common.{◌≡◌, map, drop}
use Rattle.rbs_lexer.specs.Finds as spec
use Rattle.rbs_lexer.proofs.signs.longest.Given as goal

abbrev pub invariant-loop-prefix : goal.invariant-loop-prefix
invariant-loop-prefix l = spec.longer_len l.found (spec.longest_of (map (λ e. e.now) (drop l.prefix-index l.table)) l.text) ≡ spec.longest_of (map (λ e. e.now) l.table) l.text
