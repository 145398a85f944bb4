-- A folder without the slashes at its end.
use Rattle.std.proofs.Common.{◌≡◌, ◌≤◌, ◌<◌, ℕ, zero, suc, ◌+◌, ◌-◌, Bool, true, false, ◌&&◌, List, [], ◌∷◌, ◌++◌, refl, sym, ap, ◌∙◌, arith, length, take}
use Rattle.std.proofs.lemmas.Bool.Decides.{nat_tests}
use Rattle.std.specs.Prelude.{◌==◌, slice_index, slice_range, if◌then◌else◌}
use Rattle.std.specs.List.{list_all}
use Rattle.steep_run.specs.Project.{without_slashes}

abbrev is_slash : ℕ → Bool
is_slash c = c == 47

slash_last : (xs : List ℕ) → list_all is_slash (xs ++ 47 ∷ []) ≡ list_all is_slash xs
slash_last [] = refl
slash_last (x ∷ xs) = ap (λ b. is_slash x && b) (slash_last xs)

-- a slash at the end is left out
one_slash : (xs : List ℕ) → without_slashes (xs ++ 47 ∷ []) ≡ without_slashes xs
one_slash [] = refl
one_slash (x ∷ xs) = λ i. if ap (λ b. is_slash x && b) (slash_last xs) i then [] else x ∷ one_slash xs i

other_last : (xs : List ℕ) (c : ℕ) → is_slash c ≡ false → list_all is_slash (xs ++ c ∷ []) ≡ false
other_last [] c h = both (is_slash c) h
  where
    both : (b : Bool) → b ≡ false → (b && true) ≡ false
    both true h = h
    both false h = refl
other_last (x ∷ xs) c h = and_false (is_slash x) (list_all is_slash (xs ++ c ∷ [])) (other_last xs c h)
  where
    and_false : (a b : Bool) → b ≡ false → (a && b) ≡ false
    and_false true b h = h
    and_false false b h = refl

-- and where another character is last nothing is
no_slash : (xs : List ℕ) (c : ℕ) → is_slash c ≡ false → without_slashes (xs ++ c ∷ []) ≡ xs ++ c ∷ []
no_slash [] c h = chosen (is_slash c && true) (other_last [] c h)
  where
    chosen : (b : Bool) → b ≡ false → (if b then [] else c ∷ []) ≡ c ∷ []
    chosen true h = cc
    chosen false h = refl
no_slash (x ∷ xs) c h = chosen (list_all is_slash (x ∷ (xs ++ c ∷ []))) (other_last (x ∷ xs) c h) (no_slash xs c h)
  where
    chosen : (b : Bool) → b ≡ false → without_slashes (xs ++ c ∷ []) ≡ xs ++ c ∷ [] → (if b then [] else x ∷ without_slashes (xs ++ c ∷ [])) ≡ x ∷ (xs ++ c ∷ [])
    chosen true h e = cc
    chosen false h e = ap (λ l. x ∷ l) e

front_and_last : (xs : List ℕ) (n : ℕ) → n < length xs → take (n + 1) xs ≡ take n xs ++ slice_index xs n ∷ []
front_and_last [] n h = absurd (omega arith)
front_and_last (x ∷ xs) zero h = refl
front_and_last (x ∷ xs) (suc n) h =
    ap (λ m. take m (x ∷ xs)) (let e : suc n + 1 ≡ suc (n + 1) = omega arith in e) ∙ ap (λ l. x ∷ l) (front_and_last xs n (omega arith))

pub slash_off : (xs : List ℕ) (end : ℕ) → 0 < end → end ≤ length xs → slice_index xs (end - 1) ≡ 47 → without_slashes (take (end - 1) xs) ≡ without_slashes (take end xs)
slash_off xs end some within slash =
    let e : end - 1 + 1 ≡ end = omega arith in
    sym (ap without_slashes (sym (ap (λ n. take n xs) e) ∙ front_and_last xs (end - 1) (omega arith) ∙ ap (λ c. take (end - 1) xs ++ c ∷ []) slash) ∙ one_slash (take (end - 1) xs))

pub stays : (xs : List ℕ) (end : ℕ) → 0 < end → end ≤ length xs → (slice_index xs (end - 1) ≡ 47 → ⊥) → without_slashes (take end xs) ≡ take end xs
stays xs end some within other =
    let e : end - 1 + 1 ≡ end = omega arith in
    let parts : take end xs ≡ take (end - 1) xs ++ slice_index xs (end - 1) ∷ [] = sym (ap (λ n. take n xs) e) ∙ front_and_last xs (end - 1) (omega arith) in
    let not_one : is_slash (slice_index xs (end - 1)) ≡ false = grind (arith, nat_tests) in
    ap without_slashes parts ∙ no_slash (take (end - 1) xs) (slice_index xs (end - 1)) not_one ∙ sym parts

pub none_left : (xs result : List ℕ) (end : ℕ) → end ≡ 0 → result ≡ take end xs → without_slashes (take end xs) ≡ without_slashes xs → result ≡ without_slashes xs
none_left xs result end none is same = is ∙ ap (λ n. take n xs) none ∙ sym (ap (λ n. without_slashes (take n xs)) none) ∙ same

pub front : (xs : List ℕ) (end : ℕ) → slice_range xs 0 end ≡ take end xs
front xs end = ap (λ n. take n xs) (let e : end - 0 ≡ end = omega arith in e)
