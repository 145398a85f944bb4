-- An annotation is found at the front of a text.
use Rattle.std.proofs.Common.{◌≡◌, ℕ, zero, suc, ◌+◌, ◌<◌, ◌≤◌, ◌==◌, Bool, true, false, ◌&&◌, ◌||◌, List, [], ◌∷◌, length, take, drop, Option, Some, None, refl, ◌∙◌, ap, subst, arith}
use Rattle.std.specs.Prelude.{if◌then◌else◌, not}
use Rattle.std.specs.Str.{IsUtf8, IsCharBoundary}
use Rattle.std.proofs.lemmas.Str.{IsCharBoundary-end}
use Rattle.std.proofs.lemmas.List.{drop_all}
use Rattle.std.proofs.Math.Seq.{take-length}
use Rattle.rbs_lexer.specs.declared.reading.Reading.{Reading}
use Rattle.rbs_lexer.specs.declared.reading.Reading.TheVariants.{Skipped, Refused}
use Rattle.rbs_lexer.specs.Bytes.{is_nil, has_byte, ends_at}
use Rattle.rbs_lexer.specs.Gaps.{closing, bracketed, annotation}
use Rattle.rbs_lexer.specs.Finds.{longer_by, up_to, annotation_front, up_to_or_all, bracketed as bracketed_front}
use Rattle.rbs_lexer.proofs.Finding.{LongestReading, NoReading, FindsReading, if_true, if_false, or_left, or_right, and_true, and_right}
use Rattle.rbs_lexer.proofs.Quoted.{ascii_end, EndsAt, FindsEnd, ends_found}

-- what ends at the byte has it, and so has what is longer
ends_has : (close : ℕ) (bs : List ℕ) (m k : ℕ) → ends_at close (take m bs) ≡ true → m ≤ k → has_byte close (take k bs) ≡ true
ends_has close [] zero k e h = cc
ends_has close [] (suc m) k e h = cc
ends_has close (b ∷ bs) zero k e h = cc
ends_has close (b ∷ bs) (suc m) zero e h = absurd (omega arith)
ends_has close (b ∷ bs) (suc m) (suc k) e h = go (b == close) refl e (λ g. ends_has close bs m k g (omega arith))
  where
    go : (t : Bool) → (b == close) ≡ t → (if t then is_nil (take m bs) else ends_at close (take m bs)) ≡ true → (ends_at close (take m bs) ≡ true → has_byte close (take k bs) ≡ true)
        → (b == close || has_byte close (take k bs)) ≡ true
    go true q g i = or_left _ _ q
    go false q g i = or_right _ _ (i g)

-- where it doesn't come, the bytes lack it
lacks : (close : ℕ) (bs : List ℕ) → up_to close bs ≡ None → has_byte close bs ≡ false
lacks close [] e = refl
lacks close (b ∷ bs) e = go (b == close) refl e (lacks close bs)
  where
    none_later : (o : Option ℕ) → longer_by 1 o ≡ None → o ≡ None
    none_later None h = refl
    none_later (Some n) h = cc

    go : (t : Bool) → (b == close) ≡ t → (if t then Some 1 else longer_by 1 (up_to close bs)) ≡ None → (up_to close bs ≡ None → has_byte close bs ≡ false)
        → (b == close || has_byte close bs) ≡ false
    go true q g i = cc
    go false q g i = rw q (i (none_later (up_to close bs) g))

low_close : (t : Bool) (x close : ℕ) (other : Option ℕ) → x < 128 → (other ≡ Some close → close < 128) → (if t then Some x else other) ≡ Some close → close < 128
low_close true x close other l f h = let e : x ≡ close = cc in omega arith
low_close false x close other l f h = f h

no_close : (close : ℕ) → ◌≡◌ {A = Option ℕ} None (Some close) → close < 128
no_close close h = cc

closing_low : (c close : ℕ) → closing c ≡ Some close → close < 128
closing_low c close = low_close (c == 123) 125 close _ (omega arith) (low_close (c == 40) 41 close _ (omega arith) (low_close (c == 91) 93 close _ (omega arith)
    (low_close (c == 60) 62 close _ (omega arith) (low_close (c == 124) 124 close _ (omega arith) (no_close close)))))

-- Behind three bytes the language goes on with another, and before that it has no reading.
module _ (language rest : List ℕ → List ℕ → Option Reading) (a b c : ℕ) (bs : List ℕ) (goes : (run next : List ℕ) → language (a ∷ b ∷ c ∷ run) next ≡ rest run next)
    (one : (next : List ℕ) → language [] next ≡ None) (two : (next : List ℕ) → language (a ∷ []) next ≡ None) (three : (next : List ℕ) → language (a ∷ b ∷ []) next ≡ None) where
  none_in : ((n : ℕ) → n ≤ length bs → rest (take n bs) (drop n bs) ≡ None) → NoReading language (a ∷ b ∷ c ∷ bs)
  none_in h zero l = one _
  none_in h (suc zero) l = two _
  none_in h (suc (suc zero)) l = three _
  none_in h (suc (suc (suc n))) l = goes (take n bs) (drop n bs) ∙ h n (omega arith)

  some_in : (len : ℕ) (reading : Reading) → len ≤ length bs → rest (take len bs) (drop len bs) ≡ Some reading
      → ((n : ℕ) → len < n → n ≤ length bs → rest (take n bs) (drop n bs) ≡ None) → IsCharBoundary (a ∷ b ∷ c ∷ bs) (suc (suc (suc len)))
      → LongestReading language (a ∷ b ∷ c ∷ bs) (record { reading = reading; len = 3 + len })
  some_in len reading w r l cut =
      let same : suc (suc (suc len)) ≡ 3 + len = omega arith in
      subst (λ n. LongestReading language (a ∷ b ∷ c ∷ bs) (record { reading = reading; len = n })) same (record {
        some = omega arith;
        within = omega arith;
        reads = goes (take len bs) (drop len bs) ∙ r;
        longest = more;
        cut = cut;
      })
    where
      more : (n : ℕ) → suc (suc (suc len)) < n → n ≤ suc (suc (suc (length bs))) → language (take n (a ∷ b ∷ c ∷ bs)) (drop n (a ∷ b ∷ c ∷ bs)) ≡ None
      more zero g h = one _
      more (suc zero) g h = two _
      more (suc (suc zero)) g h = three _
      more (suc (suc (suc n))) g h = goes (take n bs) (drop n bs) ∙ l n (omega arith) (omega arith)

has_then_none : (close : ℕ) (run next : List ℕ) → ends_at close run ≡ false → has_byte close run ≡ true → bracketed (Some close) run next ≡ None
has_then_none close run next e h = if_false _ _ _ e ∙ if_false _ _ _ (and_right _ _ (ap not h))

open_reads : (close : ℕ) (run next : List ℕ) → ends_at close run ≡ false → is_nil next ≡ true → has_byte close run ≡ false → bracketed (Some close) run next ≡ Some Refused
open_reads close run next e n h = if_false _ _ _ e ∙ if_true _ _ _ (and_true _ _ n (ap not h))

cut_behind : (a b c close : ℕ) (bs : List ℕ) (len : ℕ) → IsUtf8 (a ∷ b ∷ c ∷ bs) → close < 128 → EndsAt (ends_at close) close bs len → IsCharBoundary (a ∷ b ∷ c ∷ bs) (suc (suc (suc len)))
cut_behind a b c close bs zero u low x = absurd (let s = x.some in omega arith)
cut_behind a b c close bs (suc n) u low x =
    let w = x.within in
    let last = x.last n refl in
    ascii_end (a ∷ b ∷ c ∷ bs) (suc (suc (suc n))) u (omega arith) (omega arith)

pub annotation_found : (text : List ℕ) → IsUtf8 text → FindsReading annotation text (annotation_front text)
unfolding annotation annotation_front
annotation_found [] u = none
  where
    none : NoReading annotation []
    none zero h = refl
    none (suc n) h = refl
annotation_found (a ∷ []) u = none
  where
    none : NoReading annotation (a ∷ [])
    none zero h = refl
    none (suc zero) h = refl
    none (suc (suc n)) h = refl
annotation_found (a ∷ b ∷ []) u = none
  where
    none : NoReading annotation (a ∷ b ∷ [])
    none zero h = refl
    none (suc zero) h = refl
    none (suc (suc zero)) h = refl
    none (suc (suc (suc n))) h = refl
annotation_found (a ∷ b ∷ c ∷ bs) u = go (a == 37 && b == 97) refl
  where
    inside : (close : ℕ) → close < 128 → (a == 37 && b == 97) ≡ true → closing c ≡ Some close → (o : Option ℕ) → up_to close bs ≡ o → FindsEnd (ends_at close) close bs o
        → FindsReading annotation (a ∷ b ∷ c ∷ bs) (up_to_or_all o bs)
    inside close low p q None e x = some_in annotation (bracketed (Some close)) a b c bs (λ run next. if_true _ _ _ p ∙ ap (λ o. bracketed o run next) q) (λ next. refl) (λ next. refl) (λ next. refl)
        (length bs) Refused (omega arith)
        (open_reads close _ _ (x (length bs) (omega arith)) (ap is_nil (drop_all (length bs) bs (omega arith))) (ap (has_byte close) (take-length bs) ∙ lacks close bs e))
        (λ n l h. absurd (omega arith)) (IsCharBoundary-end (a ∷ b ∷ c ∷ bs))
    inside close low p q (Some len) e x = some_in annotation (bracketed (Some close)) a b c bs (λ run next. if_true _ _ _ p ∙ ap (λ o. bracketed o run next) q) (λ next. refl) (λ next. refl) (λ next. refl)
        len Skipped x.within (if_true _ _ _ x.ends) (λ n l h. has_then_none close _ _ (x.only n l h) (ends_has close bs len n x.ends (omega arith))) (cut_behind a b c close bs len u low x)

    by_close : (a == 37 && b == 97) ≡ true → (o : Option ℕ) → closing c ≡ o → FindsReading annotation (a ∷ b ∷ c ∷ bs) (bracketed_front o bs)
    by_close p None q = none_in annotation (bracketed None) a b c bs (λ run next. if_true _ _ _ p ∙ ap (λ o. bracketed o run next) q) (λ next. refl) (λ next. refl) (λ next. refl) (λ n h. refl)
    by_close p (Some close) q = inside close (closing_low c close q) p q (up_to close bs) refl (ends_found close bs)

    go : (t : Bool) → (a == 37 && b == 97) ≡ t → FindsReading annotation (a ∷ b ∷ c ∷ bs) (if t then bracketed_front (closing c) bs else None)
    go true p = by_close p (closing c) refl
    go false p = none_in annotation (bracketed None) a b c bs (λ run next. if_false _ _ _ p) (λ next. refl) (λ next. refl) (λ next. refl) (λ n h. refl)
