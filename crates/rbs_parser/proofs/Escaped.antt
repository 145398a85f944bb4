-- Bytes without a backslash stand for themselves.
use Rattle.std.proofs.Common.{◌≡◌, ℕ, ◌==◌, Bool, true, false, ◌||◌, List, [], ◌∷◌, refl, ◌∙◌, ap}
use Rattle.std.specs.List.{list_any}
use Rattle.rbs_grammar.specs.Values.{unescaped}
use Rattle.rbs_grammar.proofs.Acts.{if_false}

neither : (a b : Bool) → false ≡ (a || b) → (a ≡ false) × (false ≡ b)
neither true b h = cc
neither false b h = (refl, h)

pub no_escape : (quote : ℕ) (bs : List ℕ) → false ≡ list_any (λ b. b == 92) bs → unescaped quote bs ≡ bs
no_escape quote [] h = refl
no_escape quote (b ∷ []) h = refl
no_escape quote (b ∷ c ∷ bs) h = let both = neither (b == 92) (list_any (λ d. d == 92) (c ∷ bs)) h in if_false _ _ _ both.0 ∙ ap (λ more. b ∷ more) (no_escape quote (c ∷ bs) both.1)
