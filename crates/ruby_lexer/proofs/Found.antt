-- What finds a sign: it lies in the text before its line's end, and has as many bytes as a sign has at least.
use Rattle.std.proofs.Common.{◌≡◌, ◌≤◌, ◌<◌, ℕ, Bool, true, false, ◌&&◌, leb, if◌then◌else◌, List, [], ◌∷◌, length, Option, Some, None, IfSome, refl, arith}
use Rattle.std.proofs.lemmas.Bool.{and_parts, leb-true}
use Rattle.std.proofs.lemmas.Option.{IfSome_then}
use Rattle.ruby_lexer.specs.declared.signs.Meaning.{Meaning}
use Rattle.ruby_lexer.specs.declared.signs.Found.{Found}
use Rattle.ruby_lexer.specs.Signs.{is_less_less, least_len, first_sign, long_signs, double_signs, single_signs, sign_here}
use Rattle.ruby_lexer.specs.Characters.{has_front}
use Rattle.ruby_lexer.specs.Lines.{line_len}
use Rattle.ruby_lexer.proofs.Fronts.{OnLine, is_even, front_on, line_within}

-- whether each sign of a table is long enough, and no line ends in it
abbrev all_fit : List (List ℕ × Meaning) → Bool
all_fit [] = true
all_fit (e ∷ es) = (leb (least_len e.1) (length e.0) && is_even e.0) && all_fit es

abbrev Fits : List ℕ → Found → Type 0
Fits text found = (least_len found.meaning ≤ found.len) × (found.len ≤ line_len text)

-- a sign, where the text begins with it, or else another
choice : (b : Bool) (e : List ℕ × Meaning) (text : List ℕ) (more : Option Found) → (b ≡ true → length e.0 ≤ line_len text) → least_len e.1 ≤ length e.0
    → IfSome more (Fits text) → IfSome (if b then Some (record { meaning = e.1; len = length e.0 }) else more) (Fits text)
choice true e text more front long rest = (long, front refl)
choice false e text more front long rest = rest

-- the first sign of a table
first_fits : (table : List (List ℕ × Meaning)) (text : List ℕ) (other : Option Found) → all_fit table ≡ true → IfSome other (Fits text)
    → IfSome (first_sign table text other) (Fits text)
first_fits [] text other fit given = given
first_fits (e ∷ es) text other fit given = let parts : ((leb (least_len e.1) (length e.0) && is_even e.0) ≡ true) × (all_fit es ≡ true) = and_parts _ _ fit in
    let first : (leb (least_len e.1) (length e.0) ≡ true) × (is_even e.0 ≡ true) = and_parts _ _ parts.0 in
    choice (has_front e.0 text) e text (first_sign es text other) (front_on e.0 text first.1) (leb-true _ _ first.0) (first_fits es text other parts.1 given)

found_fits : (text : List ℕ) → IfSome (sign_here text) (Fits text)
unfolding sign_here
found_fits text = first_fits long_signs text (first_sign double_signs text (first_sign single_signs text None)) refl
    (first_fits double_signs text (first_sign single_signs text None) refl (first_fits single_signs text None refl tt))

-- it has a byte
some_len : (b : Bool) → 0 < (if b then 2 else 1)
some_len true = omega arith
some_len false = omega arith

-- the sign here lies in the text
pub sign_within : (text : List ℕ) → IfSome (sign_here text) (λ f. (0 < f.len) × (f.len ≤ length text))
sign_within text = IfSome_then (sign_here text) (found_fits text) (λ f fits. let some : 0 < least_len f.meaning = some_len (is_less_less f.meaning) in
    let line : line_len text ≤ length text = line_within text in (omega (arith, some, fits.0), omega (arith, line, fits.1)))

-- the sign here is as long as it has to be
pub sign_long : (text : List ℕ) → IfSome (sign_here text) (λ f. least_len f.meaning ≤ f.len)
sign_long text = IfSome_then (sign_here text) (found_fits text) (λ f fits. fits.0)

-- the sign here stands before its line's end
pub sign_on : (text : List ℕ) → IfSome (sign_here text) (λ f. (least_len f.meaning ≤ f.len) × OnLine text f.len)
sign_on text = IfSome_then (sign_here text) (found_fits text) (λ f fits. let some : 0 < least_len f.meaning = some_len (is_less_less f.meaning) in
    (fits.0, (omega (arith, some, fits.0), fits.1)))
