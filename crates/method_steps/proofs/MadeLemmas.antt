-- What is made without a declaration.
use Rattle.std.proofs.Common.{◌≡◌, ◌∙◌, List, [], ◌∷◌, ℕ, None, false, codes, refl, ap}
use Rattle.sig_rules.specs.declared.line.Step.{Step}
use Rattle.sig_rules.specs.Methods.{Made, first_made, or_else, same_word}

-- a name for which no step makes anything
pub first_made-none : (made : Made) (steps : List Step) (name : List ℕ) → ((step : Step) (other : List ℕ) → same_word other (codes "new") ≡ false → made step other ≡ None) → same_word name (codes "new") ≡ false → first_made made steps name ≡ None
first_made-none made [] name only other = refl
first_made-none made (step ∷ steps) name only other = ap (λ m. or_else m (first_made made steps name)) (only step name other) ∙ first_made-none made steps name only other
