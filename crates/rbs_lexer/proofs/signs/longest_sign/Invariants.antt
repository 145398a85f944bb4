use Rattle.std.proofs.Common.{◌≡◌, map, drop}
use Rattle.rbs_lexer.specs.Finds as spec
use Rattle.rbs_lexer.proofs.signs.longest_sign.Given as goal

abbrev pub invariant-loop-sign : goal.invariant-loop-sign
invariant-loop-sign l = spec.longer l.found (spec.longest_sign (map (λ e. (e.0.now, e.1)) (drop l.sign-index l.table)) l.text) ≡ spec.longest_sign (map (λ e. (e.0.now, e.1)) l.table) l.text
