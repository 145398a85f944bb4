-- Whether a word is among words that stand in a row of lists.
use Rattle.std.proofs.Common.{◌≡◌, ℕ, ◌+◌, ◌<◌, Bool, true, false, ◌||◌, List, [], ◌∷◌, map, length, take, get_or, refl, sym, ap, ◌∙◌}
use Rattle.std.proofs.lemmas.List.Folds.{list_any-append, list_any_at, list_any_more}
use Rattle.std.specs.List.{list_any}
use Rattle.sig_rules.specs.Instances.{Words, is_in, in_row}

-- It is in one of the lists.
pub row-any : {A : Type 0} (f : A → Words) (xs : List A) (word : List ℕ) → is_in (in_row (map f xs)) word ≡ list_any (λ x. is_in (f x) word) xs
row-any f [] word = refl
row-any f (x ∷ xs) word =
    list_any-append _ (f x) (in_row (map f xs))
    ∙ ap (λ b. is_in (f x) word || b) (row-any f xs word)

-- It isn't in the first lists, and not in the next one.
pub row-more : {A : Type 0} (f : A → Words) (xs : List A) (i : ℕ) (x : A) (names : Words) (word : List ℕ) (b : Bool) → i < length xs → x ≡ get_or xs i x → f x ≡ names
    → is_in (in_row (map f (take i xs))) word ≡ false → b ≡ is_in names word → b ≡ false → is_in (in_row (map f (take (i + 1) xs))) word ≡ false
row-more f xs i x names word b within is parts before here isnt =
    row-any f (take (i + 1) xs) word
    ∙ list_any_more (λ y. is_in (f y) word) xs i x within
    ∙ ap (λ b. b || is_in (f (get_or xs i x)) word) (sym (row-any f (take i xs) word) ∙ before)
    ∙ ap (λ y. is_in (f y) word) (sym is)
    ∙ ap (λ y. is_in y word) parts
    ∙ sym here ∙ isnt

-- It is in one of them.
pub row-at : {A : Type 0} (f : A → Words) (xs : List A) (i : ℕ) (x : A) (names : Words) (word : List ℕ) (b : Bool) → i < length xs → x ≡ get_or xs i x → f x ≡ names
    → b ≡ is_in names word → b ≡ true → true ≡ is_in (in_row (map f xs)) word
row-at f xs i x names word b within is parts here stands =
    sym (row-any f xs word ∙ list_any_at (λ y. is_in (f y) word) xs i x within (ap (λ y. is_in (f y) word) (sym is) ∙ ap (λ y. is_in y word) parts ∙ sym here ∙ stands))
