-- An integer is found at the front of a text.
use Rattle.std.proofs.Common.{◌≡◌, ℕ, zero, suc, ◌+◌, ◌-◌, ◌^◌, ◌<◌, ◌≤◌, ◌==◌, nat_lt, nat_le, Bool, true, false, ◌&&◌, ◌||◌, List, [], ◌∷◌, length, take, drop, Option, Some, None, refl, sym, ◌∙◌, subst, arith}
use Rattle.std.specs.Prelude.{if◌then◌else◌}
use Rattle.std.specs.Str.{IsUtf8}
use Rattle.std.proofs.lemmas.Bool.Decides.{nat_tests}
use Rattle.rbs_lexer.specs.declared.kind.Kind.TheVariants as k
use Rattle.rbs_lexer.specs.declared.reading.Reading.TheVariants.{Token, Refused}
use Rattle.rbs_lexer.specs.Bytes.{is_digit, begins_with_digit}
use Rattle.rbs_lexer.specs.Numbers.{goes_on, all_digits, is_digits, value_from}
use Rattle.rbs_lexer.specs.Runs.{sized, integer}
use Rattle.rbs_lexer.specs.Finds.{digits_front, digits_len, fitting, sized_front, number_front}
use Rattle.rbs_lexer.proofs.Finding.{Finds, or_left, LongestReading, NoReading, FindsReading, if_true, if_false, and_true, and_left, and_right, is_byte, tail_cut, tail_utf8, reads_same}
use Rattle.rbs_lexer.proofs.Skipping.{all_ascii, ascii_cut, both}

-- ---- digits

pub digits_within : (bs : List ℕ) → digits_front bs ≤ length bs
digits_within [] = omega arith
digits_within (b ∷ bs) = go (goes_on b bs) (digits_within bs)
  where
    go : (t : Bool) → digits_front bs ≤ length bs → (if t then suc (digits_front bs) else 0) ≤ suc (length bs)
    go true h = omega arith
    go false h = omega arith

-- a digit before the front's end is one of the front: what goes on in a text goes on in what is taken of it
first_taken : (bs : List ℕ) (n : ℕ) → begins_with_digit (take n bs) ≡ true → begins_with_digit bs ≡ true
first_taken bs zero h = cc
first_taken [] (suc n) h = h
first_taken (b ∷ bs) (suc n) h = h

lift : (x y d e : Bool) → (d ≡ true → e ≡ true) → (x || (y && d)) ≡ true → (x || (y && e)) ≡ true
lift true y d e f h = refl
lift false true d e f h = f h
lift false false d e f h = cc

goes_taken : (b : ℕ) (bs : List ℕ) (n : ℕ) → goes_on b (take n bs) ≡ true → goes_on b bs ≡ true
goes_taken b bs n h = lift (is_digit b) (b == 95) (begins_with_digit (take n bs)) (begins_with_digit bs) (first_taken bs n) h

front_begins : (bs : List ℕ) → begins_with_digit bs ≡ true → begins_with_digit (take (digits_front bs) bs) ≡ true
front_begins [] h = h
front_begins (b ∷ bs) h = go (goes_on b bs) (or_left _ _ h)
  where
    go : (t : Bool) → t ≡ true → begins_with_digit (take (if t then suc (digits_front bs) else 0) (b ∷ bs)) ≡ true
    go true e = h
    go false e = cc

front_some : (bs : List ℕ) → begins_with_digit bs ≡ true → 0 < digits_front bs
front_some [] h = cc
front_some (b ∷ bs) h = go (goes_on b bs) (or_left _ _ h)
  where
    go : (t : Bool) → t ≡ true → 0 < (if t then suc (digits_front bs) else 0)
    go true e = omega arith
    go false e = cc

goes_front : (b : ℕ) (bs : List ℕ) → goes_on b bs ≡ true → goes_on b (take (digits_front bs) bs) ≡ true
goes_front b bs h = lift (is_digit b) (b == 95) (begins_with_digit bs) (begins_with_digit (take (digits_front bs) bs)) (front_begins bs) h

falls : (s t : Bool) → (s ≡ true → t ≡ true) → t ≡ false → s ≡ false
falls false t f h = refl
falls true t f h = sym (f refl) ∙ h

digits_are : (bs : List ℕ) → all_digits (take (digits_front bs) bs) ≡ true
digits_are [] = refl
digits_are (b ∷ bs) = go (goes_on b bs) refl (digits_are bs)
  where
    go : (t : Bool) → goes_on b bs ≡ t → all_digits (take (digits_front bs) bs) ≡ true → all_digits (take (if t then suc (digits_front bs) else 0) (b ∷ bs)) ≡ true
    go true e h = and_true _ _ (goes_front b bs e) h
    go false e h = refl

digits_stop : (bs : List ℕ) (m : ℕ) → digits_front bs < m → m ≤ length bs → all_digits (take m bs) ≡ false
digits_stop [] m l h = absurd (omega arith)
digits_stop (b ∷ bs) zero l h = absurd (omega arith)
digits_stop (b ∷ bs) (suc m) l h = go (goes_on b bs) refl l (λ g. digits_stop bs m g (omega arith))
  where
    go : (t : Bool) → goes_on b bs ≡ t → (if t then suc (digits_front bs) else 0) < suc m → (digits_front bs < m → all_digits (take m bs) ≡ false)
        → (goes_on b (take m bs) && all_digits (take m bs)) ≡ false
    go true e g i = and_right _ _ (i (omega arith))
    go false e g i = and_left _ _ (falls (goes_on b (take m bs)) (goes_on b bs) (goes_taken b bs m) e)

goes_low : (b : ℕ) (bs : List ℕ) → goes_on b bs ≡ true → nat_lt b 128 ≡ true
goes_low b bs h = low (is_digit b) (b == 95) (begins_with_digit bs) refl refl h
  where
    digit_low : is_digit b ≡ true → nat_lt b 128 ≡ true
    digit_low h = grind (arith, nat_tests)

    line_low : (b == 95) ≡ true → nat_lt b 128 ≡ true
    line_low h = grind (arith, nat_tests)

    low : (x y d : Bool) → is_digit b ≡ x → (b == 95) ≡ y → (x || (y && d)) ≡ true → nat_lt b 128 ≡ true
    low true y d p q h = digit_low p
    low false true d p q h = line_low q
    low false false d p q h = cc

digits_ascii : (bs : List ℕ) → all_digits bs ≡ true → all_ascii bs ≡ true
digits_ascii [] h = refl
digits_ascii (b ∷ bs) h = and_true _ _ (goes_low b bs (both _ _ h).0) (digits_ascii bs (both _ _ h).1)

pub digits_found : (bs : List ℕ) → IsUtf8 bs → Finds (λ run next. is_digits run) bs (digits_len bs)
unfolding is_digits
digits_found bs u = go (begins_with_digit bs) refl
  where
    go : (t : Bool) → begins_with_digit bs ≡ t → Finds (λ run next. is_digits run) bs (if t then Some (digits_front bs) else None)
    go true e = record {
      some = front_some bs e;
      within = digits_within bs;
      pass = and_true _ _ (front_begins bs e) (digits_are bs);
      longest = λ m l h. and_right _ _ (digits_stop bs m l h);
      cut = ascii_cut bs (digits_front bs) u (digits_within bs) (digits_ascii (take (digits_front bs) bs) (digits_are bs));
    }
    go false e = λ n h. and_left _ _ (falls (begins_with_digit (take n bs)) (begins_with_digit bs) (first_taken bs n) e)

-- ---- integers

reads_digits : (limit : ℕ) (run : List ℕ) → is_digits run ≡ true → sized limit run ≡ Some (fitting limit run)
reads_digits limit run h = if_true _ _ _ h ∙ go (nat_le (value_from 0 run) limit)
  where
    go : (t : Bool) → (if t then Some (Token k.Integer) else Some Refused) ≡ Some (if t then Token k.Integer else Refused)
    go true = refl
    go false = refl

plain_found : (limit : ℕ) (bs : List ℕ) (o : Option ℕ) → Finds (λ run next. is_digits run) bs o → FindsReading (λ run next. sized limit run) bs (sized_front 0 limit bs o)
plain_found limit bs None x = λ n h. if_false _ _ _ (x n h)
plain_found limit bs (Some m) x = let same : m ≡ 0 + m = omega arith in subst (λ n. LongestReading (λ run next. sized limit run) bs (record { reading = fitting limit (take m bs); len = n })) same (record {
  some = x.some;
  within = x.within;
  reads = reads_digits limit (take m bs) x.pass;
  longest = λ n l h. if_false _ _ _ (x.longest n l h);
  cut = x.cut;
})

signed_found : (b : ℕ) (bs : List ℕ) (o : Option ℕ) → (b == 45) ≡ true → Finds (λ run next. is_digits run) bs o → FindsReading integer (b ∷ bs) (sized_front 1 (2 ^ 127) bs o)
unfolding integer
signed_found b bs None e x = none
  where
    none : NoReading integer (b ∷ bs)
    none zero h = refl
    none (suc n) h = if_true _ _ _ e ∙ if_false _ _ _ (x n (omega arith))
signed_found b bs (Some m) e x = let same : suc m ≡ 1 + m = omega arith in subst (λ n. LongestReading integer (b ∷ bs) (record { reading = fitting (2 ^ 127) (take m bs); len = n })) same (record {
  some = omega arith;
  within = (let w = x.within in omega arith);
  reads = if_true _ _ _ e ∙ reads_digits (2 ^ 127) (take m bs) x.pass;
  longest = more;
  cut = tail_cut b bs m x.cut;
})
  where
    more : (n : ℕ) → suc m < n → n ≤ suc (length bs) → integer (take n (b ∷ bs)) (drop n (b ∷ bs)) ≡ None
    more zero l h = refl
    more (suc n) l h = if_true _ _ _ e ∙ if_false _ _ _ (x.longest n (omega arith) (omega arith))

pub number_found : (text : List ℕ) → IsUtf8 text → FindsReading integer text (number_front text)
unfolding integer number_front is_digits
number_found [] u = none
  where
    none : NoReading integer []
    none zero h = refl
    none (suc n) h = refl
number_found (b ∷ bs) u = go (b == 45) refl
  where
    plain : (b == 45) ≡ false → (n : ℕ) → integer (take n (b ∷ bs)) (drop n (b ∷ bs)) ≡ sized (2 ^ 127 - 1) (take n (b ∷ bs))
    plain e zero = refl
    plain e (suc n) = if_false _ _ _ e

    go : (t : Bool) → (b == 45) ≡ t
        → FindsReading integer (b ∷ bs) (if t then sized_front 1 (2 ^ 127) bs (digits_len bs) else sized_front 0 (2 ^ 127 - 1) (b ∷ bs) (digits_len (b ∷ bs)))
    go true e = let same = is_byte b 45 e in signed_found b bs (digits_len bs) e (digits_found bs (tail_utf8 b bs (omega arith) u))
    go false e = reads_same (λ run next. sized (2 ^ 127 - 1) run) integer (b ∷ bs) (sized_front 0 (2 ^ 127 - 1) (b ∷ bs) (digits_len (b ∷ bs))) (plain e)
        (plain_found (2 ^ 127 - 1) (b ∷ bs) (digits_len (b ∷ bs)) (digits_found (b ∷ bs) u))
