use Rattle.std.proofs.Common.{◌≡◌, map, drop}
use Rattle.ruby_lexer.specs.Symbols as spec
use Rattle.ruby_lexer.proofs.symbols.first_front.Given as goal

abbrev pub invariant-loop-front : goal.invariant-loop-front
invariant-loop-front l = spec.first_front (map (λ f. f.now) (drop l.front-index l.fronts)) l.text ≡ spec.first_front (map (λ f. f.now) l.fronts) l.text
