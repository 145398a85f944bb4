-- Names are distinct where each is new in the table of those before it.
use Rattle.std.proofs.Common.{◌≡◌, ◌≤◌, ◌-◌, ℕ, suc, Bool, true, false, not, ◌&&◌, ◌||◌, List, [], ◌∷◌, Option, None, Some, is_none, refl, sym, ap, ◌∙◌, subst, true≢false, arith, length, take, drop, get_or}
use Rattle.std.proofs.Math.Seq.{take-length}
use Rattle.std.specs.List.{list_any}
use Rattle.sig_rules.specs.Worlds.{by_name}
use Rattle.steep_run.specs.Words.{same_word}
use Rattle.steep_run.specs.Small.{all_distinct, with_word, words_by}
use Rattle.steep_run.specs.Reading.{is_apart, IsNotedIfAny}

-- no name is in a table of nothing
apart_from_none : (V : Type 0) (words : List (List ℕ)) → is_apart {V = V} [] words ≡ true
apart_from_none V [] = refl
apart_from_none V (word ∷ words) = apart_from_none V words

pub first_names : {V : Type 0} (table : List (List ℕ × V)) (words : List (List ℕ)) → table ≡ [] → (is_apart table words && all_distinct words) ≡ all_distinct words
first_names {V} table words is =
    ap (λ (t : List (List ℕ × V)). is_apart t words && all_distinct words) is ∙ ap (λ b. b && all_distinct words) (apart_from_none V words)

module _ {V : Type 0} (old new : List (List ℕ × V)) where
  -- apart from a table with one more name: apart from the table, and from the name
  apart_one_more : (word : List ℕ) → ((other : List ℕ) → is_none (by_name new other) ≡ (not (same_word word other) && is_none (by_name old other)))
      → (words : List (List ℕ)) → is_apart new words ≡ (not (list_any (same_word word) words) && is_apart old words)
  apart_one_more word noted [] = refl
  apart_one_more word noted (x ∷ xs) = both (noted x) (apart_one_more word noted xs) ∙ shuffled (same_word word x) (is_none (by_name old x)) (list_any (same_word word) xs) (is_apart old xs)
    where
      both : {a b c d : Bool} → a ≡ b → c ≡ d → (a && c) ≡ (b && d)
      both p q = λ i. p i && q i

      shuffled : (s n t a : Bool) → ((not s && n) && (not t && a)) ≡ (not (s || t) && (n && a))
      shuffled true n t a = refl
      shuffled false n false a = refl
      shuffled false true true a = refl
      shuffled false false true a = refl

  -- one name more that is new
  pub one_noted : (word : Option (List ℕ)) (words : List (List ℕ)) → IsNotedIfAny old new word true
      → (is_apart new words && all_distinct words) ≡ (is_apart old (with_word word words) && all_distinct (with_word word words))
  one_noted None words noted = ap (λ (t : List (List ℕ × V)). is_apart t words && all_distinct words) noted.1
  one_noted (Some word) words noted =
      ap (λ b. b && all_distinct words) (apart_one_more word noted.1 words)
      ∙ shuffled (is_none (by_name old word)) (list_any (same_word word) words) (is_apart old words) (all_distinct words) noted.0
    where
      shuffled : (n t a d : Bool) → n ≡ true → ((not t && a) && d) ≡ ((n && a) && (not t && d))
      shuffled false t a d h = absurd (true≢false (sym h))
      shuffled true false a d h = refl
      shuffled true true false d h = refl
      shuffled true true true d h = refl

  -- and one that isn't
  pub not_noted : (word : Option (List ℕ)) (words : List (List ℕ)) → IsNotedIfAny old new word false
      → (is_apart old (with_word word words) && all_distinct (with_word word words)) ≡ false
  not_noted None words noted = absurd (true≢false (sym noted.0))
  not_noted (Some word) words noted = first (is_none (by_name old word)) noted
    where
      first : (n : Bool) → n ≡ false → ((n && is_apart old words) && all_distinct (word ∷ words)) ≡ false
      first true h = absurd (true≢false h)
      first false h = refl

-- a loop over named items goes on
pub names_more : {A V : Type 0} (word : A → Option (List ℕ)) (old new : List (List ℕ × V)) (rest more : List A) (x : A) (given : Option (List ℕ)) (is_new whole : Bool)
    → x ∷ more ≡ rest → given ≡ word x → IsNotedIfAny old new given is_new → is_new ≡ true
    → (is_apart old (words_by word rest) && all_distinct (words_by word rest)) ≡ whole → (is_apart new (words_by word more) && all_distinct (words_by word more)) ≡ whole
names_more {A} word old new rest more x given is_new whole is is_word noted passed before =
    one_noted old new (word x) (words_by word more) (subst (IsNotedIfAny old new (word x)) passed (subst (λ o. IsNotedIfAny old new o is_new) is_word noted))
    ∙ ap (λ (xs : List A). is_apart old (words_by word xs) && all_distinct (words_by word xs)) is ∙ before

-- a list and its first item
pub cons_of : {A : Type 0} (xs : List A) (x : A) → 1 ≤ length xs → x ≡ get_or xs 0 x → x ∷ take (length xs - 1) (drop 1 xs) ≡ xs
cons_of [] x some is = absurd (omega arith)
cons_of (y ∷ xs) x some is =
    let behind : suc (length xs) - 1 ≡ length xs = omega arith in
    let rest : take (suc (length xs) - 1) xs ≡ xs = ap (λ n. take n xs) behind ∙ take-length xs in
    λ i. is i ∷ rest i

-- the same, where the first one is known in another way
pub cons_as : {A : Type 0} (xs : List A) (x y : A) → y ≡ x → 1 ≤ length xs → x ≡ get_or xs 0 x → y ∷ take (length xs - 1) (drop 1 xs) ≡ xs
cons_as xs x y same some is = subst (λ z. z ∷ take (length xs - 1) (drop 1 xs) ≡ xs) (sym same) (cons_of xs x some is)
