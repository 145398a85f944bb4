use Rattle.std.proofs.Common.{◌≡◌, map, drop}
use Rattle.ruby_lexer.specs.Signs as spec
use Rattle.ruby_lexer.proofs.signs.first_sign.Given as goal

abbrev pub invariant-loop-sign : goal.invariant-loop-sign
invariant-loop-sign l = spec.first_sign (map (λ e. (e.0.now, e.1)) (drop l.sign-index l.table)) l.text l.other ≡ spec.first_sign (map (λ e. (e.0.now, e.1)) l.table) l.text l.other
