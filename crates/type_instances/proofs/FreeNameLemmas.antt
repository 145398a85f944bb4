-- The least number that gives a free name is found within as many turns as there are names, and one more.
use Rattle.std.proofs.Common.{◌≡◌, ◌≢◌, ℕ, zero, suc, ◌+◌, ◌-◌, ◌<◌, ◌≤◌, ◌^◌, Bool, true, false, ◌||◌, if◌then◌else◌, List, [], ◌∷◌, ◌++◌, length, nat_eq, refl, sym, ap, ◌∙◌, arith}
use Rattle.std.specs.Cmp.Lexicographic.{pointwise, same_text}
use Rattle.std.specs.Fmt.{decimal}
use Rattle.std.proofs.lemmas.Fmt.{decimal_injective}
use Rattle.sig_rules.specs.Instances.{Words, is_in, numbered, free_from, free_name}

-- ---- names of different numbers are different

cancelled : (xs ys zs : List ℕ) → xs ++ ys ≡ xs ++ zs → ys ≡ zs
cancelled [] ys zs same = same
cancelled (x ∷ xs) ys zs same = cancelled xs ys zs (cc)

numbers-differ : (name : List ℕ) (m n : ℕ) → n < m → m < 2 ^ 64 → numbered name m ≢ numbered name n
numbers-differ name m n less small same =
    let equal : m ≡ n = decimal_injective m n small (omega arith) (cancelled name (decimal m) (decimal n) same) in
    omega arith

-- ---- as many different words as stand in a list are no more than the list has

-- a list without a word
abbrev without : List ℕ → Words → Words
without word [] = []
without word (w ∷ ws) = if pointwise nat_eq word w then without word ws else w ∷ without word ws

without-le : (word : List ℕ) (ws : Words) → length (without word ws) ≤ length ws
without-le word [] = omega arith
without-le word (w ∷ ws) = go (pointwise nat_eq word w) (without-le word ws)
  where
    go : (b : Bool) → length (without word ws) ≤ length ws → length (if b then without word ws else w ∷ without word ws) ≤ suc (length ws)
    go true less = omega arith
    go false less = omega arith

without-lt : (word : List ℕ) (ws : Words) → is_in ws word ≡ true → length (without word ws) < length ws
without-lt word [] among = cc
without-lt word (w ∷ ws) among = go (pointwise nat_eq word w) (without-lt word ws) among
  where
    go : (b : Bool) → (is_in ws word ≡ true → length (without word ws) < length ws) → (b || is_in ws word) ≡ true
        → length (if b then without word ws else w ∷ without word ws) < suc (length ws)
    go true less found = omega (arith, without-le word ws)
    go false less found = let fewer = less found in omega arith

without-keeps : (word other : List ℕ) (ws : Words) → word ≢ other → is_in ws other ≡ true → is_in (without word ws) other ≡ true
without-keeps word other [] differ among = among
without-keeps word other (w ∷ ws) differ among =
    go (pointwise nat_eq word w) (pointwise nat_eq other w) refl refl (without-keeps word other ws differ) among
  where
    go : (b c : Bool) → b ≡ pointwise nat_eq word w → c ≡ pointwise nat_eq other w → (is_in ws other ≡ true → is_in (without word ws) other ≡ true)
        → (c || is_in ws other) ≡ true → is_in (if b then without word ws else w ∷ without word ws) other ≡ true
    go true true is here kept found = absurd (differ (same_text word w is ∙ sym (same_text other w here)))
    go true false is here kept found = kept found
    go false true is here kept found = ap (λ t. t || is_in (without word ws) other) (sym here)
    go false false is here kept found = ap (λ t. t || is_in (without word ws) other) (sym here) ∙ kept found

taken-le : (name : List ℕ) (m : ℕ) (taken : Words) → m < 2 ^ 64 → ((k : ℕ) → k < m → is_in taken (numbered name (suc k)) ≡ true) → m ≤ length taken
taken-le name zero taken small found = omega arith
taken-le name (suc m) taken small found =
    let word = numbered name (suc m) in
    let fewer = without-lt word taken (found m (omega arith)) in
    let others = taken-le name m (without word taken) (omega arith) (λ k less. without-keeps word (numbered name (suc k)) taken (numbers-differ name (suc m) (suc k) (omega arith) small) (found k (omega arith))) in
    omega arith

-- ---- the search

passed : (b : Bool) (x y : List ℕ) → b ≡ true → (if b then x else y) ≡ x
passed true x y is = refl
passed false x y is = cc

stopped : (b : Bool) (x y : List ℕ) → b ≡ false → (if b then x else y) ≡ y
stopped true x y is = cc
stopped false x y is = refl

least : (taken : Words) (name : List ℕ) (d turns start n : ℕ) → n ≡ start + d → d ≤ turns → ((k : ℕ) → start ≤ k → k < n → is_in taken (numbered name k) ≡ true)
    → is_in taken (numbered name n) ≡ false → free_from taken name start turns ≡ numbered name n
least taken name zero zero start n is within found free = ap (numbered name) (let e : start ≡ n = omega arith in e)
least taken name zero (suc turns) start n is within found free =
    let here : start ≡ n = omega arith in
    stopped (is_in taken (numbered name start)) _ (numbered name start) (ap (λ k. is_in taken (numbered name k)) here ∙ free) ∙ ap (numbered name) here
least taken name (suc d) zero start n is within found free = absurd (omega arith)
least taken name (suc d) (suc turns) start n is within found free =
    passed (is_in taken (numbered name start)) _ (numbered name start) (found start (omega arith) (omega arith))
    ∙ least taken name d turns (suc start) n (omega arith) (omega arith) (λ k above below. found k (omega arith) below) free

pub free-name-is : (taken : Words) (name : List ℕ) (n : ℕ) → 1 ≤ n → n < 2 ^ 64 → ((k : ℕ) → 1 ≤ k → k < n → is_in taken (numbered name k) ≡ true)
    → is_in taken (numbered name n) ≡ false → numbered name n ≡ free_name taken name
free-name-is taken name n above small found free =
    let within = taken-le name (n - 1) taken (omega arith) (λ k less. found (suc k) (omega arith) (omega arith)) in
    sym (least taken name (n - 1) (length taken) 1 n (omega arith) within found free)
