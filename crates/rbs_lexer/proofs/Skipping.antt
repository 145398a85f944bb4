-- Blanks, comments and annotations are found at the front of a text.
use Rattle.std.proofs.Common.{◌≡◌, ℕ, zero, suc, ◌+◌, ◌<◌, ◌≤◌, ◌==◌, nat_lt, Bool, true, false, ◌&&◌, ◌||◌, List, [], ◌∷◌, length, take, get_or, Some, None, refl, sym, ◌∙◌, ap, subst, arith}
use Rattle.std.specs.Prelude.{if◌then◌else◌, not}
use Rattle.std.specs.Str.{IsUtf8, IsAscii, IsCharBoundary}
use Rattle.std.proofs.lemmas.Bool.Decides.{nat_tests}
use Rattle.std.proofs.lemmas.Str.{IsCharBoundary-before_ascii, IsCharBoundary-end, IsCharBoundary-from_take, IsUtf8-from_ascii}
use Rattle.rbs_lexer.specs.Bytes.{is_blank, is_line_end, all_blank, has_line_end}
use Rattle.rbs_lexer.specs.Gaps.{is_gap}
use Rattle.rbs_lexer.specs.Finds.{line_len, blanks_len, gap_len}
use Rattle.rbs_lexer.proofs.Finding.{LongestFront, Finds, and_true, and_left, and_right, and_is, if_true, if_false, none_after, none_in_empty, one_more}

-- ---- bytes of ASCII

-- every byte is of ASCII
abbrev pub all_ascii : List ℕ → Bool
all_ascii [] = true
all_ascii (b ∷ bs) = nat_lt b 128 && all_ascii bs

pub both : (a b : Bool) → (a && b) ≡ true → (a ≡ true) × (b ≡ true)
both true b h = (refl, h)
both false b h = cc

low_is : (b : ℕ) → nat_lt b 128 ≡ true → b < 128
low_is b h = grind (arith, nat_tests)

pub ascii_is : (bs : List ℕ) → all_ascii bs ≡ true → IsAscii bs
ascii_is [] h zero = omega arith
ascii_is [] h (suc i) = omega arith
ascii_is (b ∷ bs) h zero = low_is b (both _ _ h).0
ascii_is (b ∷ bs) h (suc i) = ascii_is bs (both _ _ h).1 i

-- A text can be cut behind bytes of ASCII.
pub ascii_cut : (text : List ℕ) (n : ℕ) → IsUtf8 text → n ≤ length text → all_ascii (take n text) ≡ true → IsCharBoundary text n
ascii_cut text n u w a = IsCharBoundary-from_take text n u w (IsUtf8-from_ascii (take n text) (ascii_is (take n text) a))

-- ---- a first byte and what goes on behind it, also nothing

pub head_found : (f g : List ℕ → Bool) (b : ℕ) (bs : List ℕ) (n : ℕ) → f [] ≡ false → ((run : List ℕ) → f (b ∷ run) ≡ g run) → n ≤ length bs → g (take n bs) ≡ true
    → ((m : ℕ) → n < m → m ≤ length bs → g (take m bs) ≡ false) → IsCharBoundary (b ∷ bs) (suc n) → LongestFront (λ run next. f run) (b ∷ bs) (1 + n)
head_found f g b bs n z e w p l c = one_more (λ run next. f run) (b ∷ bs) n (record { some = omega arith; within = omega arith; pass = e (take n bs) ∙ p; longest = more; cut = c })
  where
    more : (m : ℕ) → suc n < m → m ≤ suc (length bs) → f (take m (b ∷ bs)) ≡ false
    more zero g h = z
    more (suc m) g h = e (take m bs) ∙ l m (omega arith) (omega arith)

-- ---- comments

line_within : (bs : List ℕ) → line_len bs ≤ length bs
line_within [] = omega arith
line_within (b ∷ bs) = go (is_line_end b) (line_within bs)
  where
    go : (t : Bool) → line_len bs ≤ length bs → (if t then 0 else suc (line_len bs)) ≤ suc (length bs)
    go true h = omega arith
    go false h = omega arith

line_has_none : (bs : List ℕ) → has_line_end (take (line_len bs) bs) ≡ false
line_has_none [] = refl
line_has_none (b ∷ bs) = go (is_line_end b) refl (line_has_none bs)
  where
    go : (t : Bool) → is_line_end b ≡ t → has_line_end (take (line_len bs) bs) ≡ false → has_line_end (take (if t then 0 else suc (line_len bs)) (b ∷ bs)) ≡ false
    go true e h = refl
    go false e h = rw e h

line_then_ends : (bs : List ℕ) (m : ℕ) → line_len bs < m → m ≤ length bs → has_line_end (take m bs) ≡ true
line_then_ends [] m l h = absurd (omega arith)
line_then_ends (b ∷ bs) zero l h = absurd (omega arith)
line_then_ends (b ∷ bs) (suc m) l h = go (is_line_end b) refl l (λ g. line_then_ends bs m g (omega arith))
  where
    go : (t : Bool) → is_line_end b ≡ t → (if t then 0 else suc (line_len bs)) < suc m → (line_len bs < m → has_line_end (take m bs) ≡ true) → (is_line_end b || has_line_end (take m bs)) ≡ true
    go true e g i = rw e refl
    go false e g i = rw e (i (omega arith))

line_end_low : (b : ℕ) → is_line_end b ≡ true → b < 128
line_end_low b h = grind (arith, nat_tests)

line_stops : (bs : List ℕ) → line_len bs < length bs → get_or bs (line_len bs) 0 < 128
line_stops [] l = absurd (omega arith)
line_stops (b ∷ bs) l = go (is_line_end b) refl l (λ g. line_stops bs g)
  where
    go : (t : Bool) → is_line_end b ≡ t → (if t then 0 else suc (line_len bs)) < suc (length bs) → (line_len bs < length bs → get_or bs (line_len bs) 0 < 128)
        → get_or (b ∷ bs) (if t then 0 else suc (line_len bs)) 0 < 128
    go true e g i = line_end_low b e
    go false e g i = i (omega arith)

line_cut : (b : ℕ) (bs : List ℕ) → IsCharBoundary (b ∷ bs) (suc (line_len bs))
line_cut b bs = go (nat_lt (line_len bs) (length bs)) refl
  where
    is_less : (n m : ℕ) → nat_lt n m ≡ true → n < m
    is_less n m h = grind (arith, nat_tests)

    is_all : (n m : ℕ) → nat_lt n m ≡ false → n ≤ m → n ≡ m
    is_all n m h w = grind (arith, nat_tests)

    go : (t : Bool) → nat_lt (line_len bs) (length bs) ≡ t → IsCharBoundary (b ∷ bs) (suc (line_len bs))
    go true e =
        let l : line_len bs < length bs = is_less (line_len bs) (length bs) e in
        IsCharBoundary-before_ascii (b ∷ bs) (suc (line_len bs)) (omega arith) (line_stops bs l)
    go false e =
        let same : line_len bs ≡ length bs = is_all (line_len bs) (length bs) e (line_within bs) in
        subst (λ n. IsCharBoundary (b ∷ bs) (suc n)) (sym same) (IsCharBoundary-end (b ∷ bs))

-- ---- blanks

blanks_within : (bs : List ℕ) → blanks_len bs ≤ length bs
blanks_within [] = omega arith
blanks_within (b ∷ bs) = go (is_blank b) (blanks_within bs)
  where
    go : (t : Bool) → blanks_len bs ≤ length bs → (if t then suc (blanks_len bs) else 0) ≤ suc (length bs)
    go true h = omega arith
    go false h = omega arith

blanks_are : (bs : List ℕ) → all_blank (take (blanks_len bs) bs) ≡ true
blanks_are [] = refl
blanks_are (b ∷ bs) = go (is_blank b) refl (blanks_are bs)
  where
    go : (t : Bool) → is_blank b ≡ t → all_blank (take (blanks_len bs) bs) ≡ true → all_blank (take (if t then suc (blanks_len bs) else 0) (b ∷ bs)) ≡ true
    go true e h = and_true _ _ e h
    go false e h = refl

blanks_stop : (bs : List ℕ) (m : ℕ) → blanks_len bs < m → m ≤ length bs → all_blank (take m bs) ≡ false
blanks_stop [] m l h = absurd (omega arith)
blanks_stop (b ∷ bs) zero l h = absurd (omega arith)
blanks_stop (b ∷ bs) (suc m) l h = go (is_blank b) refl l (λ g. blanks_stop bs m g (omega arith))
  where
    go : (t : Bool) → is_blank b ≡ t → (if t then suc (blanks_len bs) else 0) < suc m → (blanks_len bs < m → all_blank (take m bs) ≡ false) → (is_blank b && all_blank (take m bs)) ≡ false
    go true e g i = and_right _ _ (i (omega arith))
    go false e g i = and_left _ _ e

blank_low : (b : ℕ) → is_blank b ≡ true → nat_lt b 128 ≡ true
blank_low b h = grind (arith, nat_tests)

blanks_ascii : (bs : List ℕ) → all_blank bs ≡ true → all_ascii bs ≡ true
blanks_ascii [] h = refl
blanks_ascii (b ∷ bs) h = and_true _ _ (blank_low b (both _ _ h).0) (blanks_ascii bs (both _ _ h).1)

pub gap_found : (text : List ℕ) → IsUtf8 text → Finds (λ run next. is_gap run) text (gap_len text)
unfolding is_gap gap_len
gap_found [] u = none_in_empty is_gap refl
gap_found (b ∷ bs) u = go (b == 35) refl
  where
    blank : (b == 35) ≡ false → (t : Bool) → is_blank b ≡ t → Finds (λ run next. is_gap run) (b ∷ bs) (if t then Some (1 + blanks_len bs) else None)
    blank n true e = head_found is_gap all_blank b bs (blanks_len bs) refl (λ run. if_false _ _ _ n ∙ and_is _ _ e) (blanks_within bs) (blanks_are bs) (blanks_stop bs)
        (ascii_cut (b ∷ bs) (suc (blanks_len bs)) u (let w = blanks_within bs in omega arith) (and_true _ _ (blank_low b e) (blanks_ascii (take (blanks_len bs) bs) (blanks_are bs))))
    blank n false e = none_after is_gap b bs refl (λ run. if_false _ _ _ n ∙ and_left _ _ e)

    go : (t : Bool) → (b == 35) ≡ t → Finds (λ run next. is_gap run) (b ∷ bs) (if t then Some (1 + line_len bs) else (if is_blank b then Some (1 + blanks_len bs) else None))
    go true e = head_found is_gap (λ run. not (has_line_end run)) b bs (line_len bs) refl (λ run. if_true _ _ _ e) (line_within bs) (ap not (line_has_none bs)) (λ m l h. ap not (line_then_ends bs m l h)) (line_cut b bs)
    go false e = blank e (is_blank b) refl
