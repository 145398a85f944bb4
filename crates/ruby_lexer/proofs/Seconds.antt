-- No sign of two characters or more stands where the second byte is in none.
use Rattle.std.proofs.Common.{◌≡◌, ℕ, Bool, true, false, ◌==◌, ◌&&◌, if◌then◌else◌, List, [], ◌∷◌, length, Option, Some, None, refl, sym, ap, ◌∙◌}
use Rattle.std.proofs.lemmas.Bool.{and_parts, eqb-true}
use Rattle.ruby_lexer.specs.declared.signs.Meaning.{Meaning}
use Rattle.ruby_lexer.specs.declared.signs.Found.{Found}
use Rattle.ruby_lexer.specs.Signs.{first_sign, long_signs, double_signs, single_signs, sign_here, is_second, may_be_long}
use Rattle.ruby_lexer.specs.Characters.{has_front}

-- whether each sign of a table is so
abbrev all_long : List (List ℕ × Meaning) → Bool
all_long [] = true
all_long (e ∷ es) = may_be_long e.0 && all_long es

none_with : (a b : Bool) → (a ≡ true → b ≡ false) → (a && b) ≡ false
none_with true b isnt = isnt refl
none_with false b isnt = refl

without : (a b : Bool) → a ≡ false → (a && b) ≡ false
without a b isnt = ap (λ c. c && b) isnt

apart : (x b : ℕ) (c : Bool) → (x == b) ≡ c → is_second x ≡ true → is_second b ≡ false → c ≡ false
apart x b true is so isnt = absurd (let same : true ≡ false = sym so ∙ ap is_second (eqb-true x b is) ∙ isnt in cc)
apart x b false is so isnt = refl

no_front : (front text : List ℕ) → may_be_long front ≡ true → may_be_long text ≡ false → has_front front text ≡ false
no_front [] text so isnt = absurd (cc so)
no_front (x ∷ []) text so isnt = absurd (cc so)
no_front (x ∷ y ∷ more) [] so isnt = refl
no_front (x ∷ y ∷ more) (a ∷ []) so isnt = none_with (x == a) false (λ is. refl)
no_front (x ∷ y ∷ more) (a ∷ b ∷ rest) so isnt = none_with (x == a) _ (λ is. without (y == b) _ (apart y b (y == b) refl so isnt))

-- another is what it is
pub passed_over : (table : List (List ℕ × Meaning)) (text : List ℕ) (other : Option Found) → all_long table ≡ true → may_be_long text ≡ false → first_sign table text other ≡ other
passed_over [] text other long isnt = refl
passed_over (e ∷ es) text other long isnt =
    let parts : (may_be_long e.0 ≡ true) × (all_long es ≡ true) = and_parts _ _ long in
    ap (λ b. if b then Some (record { meaning = e.1; len = length e.0 }) else first_sign es text other) (no_front e.0 text parts.0 isnt) ∙ passed_over es text other parts.1 isnt

pub single_here : (text : List ℕ) → may_be_long text ≡ false → first_sign single_signs text None ≡ sign_here text
unfolding sign_here
single_here text isnt = sym (passed_over long_signs text (first_sign double_signs text (first_sign single_signs text None)) refl isnt ∙ passed_over double_signs text (first_sign single_signs text None) refl isnt)
