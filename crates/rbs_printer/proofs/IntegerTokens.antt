-- Integer literals are read where they are printed.
use Rattle.std.proofs.Common.{◌≡◌, ℕ, suc, ◌+◌, ◌-◌, ◌*◌, ◌^◌, ◌<◌, ◌≤◌, ◌==◌, nat_lt, nat_le, Bool, true, false, ◌&&◌, List, [], ◌∷◌, ◌++◌, length, Some, None, refl, ◌∙◌, ap, arith}
use Rattle.std.specs.Prelude.{ℤ, pos, negsuc, not, codes}
use Rattle.std.specs.Fmt.{decimal}
use Rattle.std.specs.Char.{digit_value}
use Rattle.std.specs.Str.{IsUtf8}
use Rattle.std.specs.Str.Parse.{AllDigits, digits_value_after}
use Rattle.std.proofs.lemmas.Bool.Decides.{nat_tests}
use Rattle.std.proofs.lemmas.Fmt.{decimal_is_IsNumeral_wide, IsAscii-decimal_wide}
use Rattle.std.proofs.lemmas.Str.{IsUtf8-append, IsUtf8-from_ascii, digit_value_digit}
use Rattle.std.proofs.lemmas.Str.Parse.{digit_from_value}
use Rattle.std.proofs.Math.Seq.{take-append_seam}
use Rattle.rbs_lexer.specs.declared.kind.Kind.TheVariants as k
use Rattle.rbs_lexer.specs.declared.place.Place.{Place}
use Rattle.rbs_lexer.specs.declared.reading.Reading.{Reading}
use Rattle.rbs_lexer.specs.declared.reading.Reading.TheVariants.{Token, Refused}
use Rattle.rbs_lexer.specs.declared.reading.Found.{Found}
use Rattle.rbs_lexer.specs.Bytes.{is_digit, begins_with_digit}
use Rattle.rbs_lexer.specs.Words.{is_word_character}
use Rattle.rbs_lexer.specs.Numbers.{goes_on, value_from}
use Rattle.rbs_lexer.specs.Places.{has_name}
use Rattle.rbs_lexer.specs.Lexing.{token, IsFront}
use Rattle.rbs_lexer.specs.Finds.{longer_len, longer, found_of, digits_front, digits_len, fitting, sized_front, gap_len, string_len, backquoted_len, operator_len, sign_front, special_front, number_front, word_behind, word_behind_two, variable_front, symbol_len, ordinary_front, front_at}
use Rattle.rbs_lexer.proofs.Finding.{if_true, if_false, or_left}
use Rattle.rbs_printer.specs.Words.{integer_text}
use Rattle.rbs_printer.specs.Printed.{is_name, integer_front}
use Rattle.rbs_printer.proofs.Fit.{in_range}
use Rattle.rbs_printer.proofs.Follow.{ends_word}
use Rattle.rbs_printer.proofs.Starts.{is_front, ascii_before, by_place, found_apart, clash}
use Rattle.rbs_printer.proofs.WordTokens.{is_word_byte, ordinary_number}

-- ---- digits

in_digits : (b : ℕ) → 48 ≤ b → b ≤ 57 → is_digit b ≡ true
in_digits b l h = grind (arith, nat_tests)

digit_in : (b : ℕ) → is_digit b ≡ true → (48 ≤ b) × (b ≤ 57)
digit_in b h = (low, high)
  where
    low : 48 ≤ b
    low = grind (arith, nat_tests)

    high : b ≤ 57
    high = grind (arith, nat_tests)

digit_is : (c : ℕ) → digit_value c < 10 → is_digit c ≡ true
digit_is c h = let two = digit_from_value c h in in_digits c two.0 two.1

-- no digit goes on behind the end of a word
no_digit : (b : ℕ) (bs : List ℕ) → is_word_character b ≡ false → nat_lt b 128 ≡ true → goes_on b bs ≡ false
no_digit b bs h l = grind (arith, nat_tests)

ends_digits : (rest : List ℕ) → ends_word rest ≡ true → digits_front rest ≡ 0
ends_digits [] h = refl
ends_digits (b ∷ bs) h = if_false (goes_on b bs) (suc (digits_front bs)) 0 (go (nat_lt b 128) (is_word_character b) refl refl h)
  where
    go : (s t : Bool) → nat_lt b 128 ≡ s → is_word_character b ≡ t → (s && not t) ≡ true → goes_on b bs ≡ false
    go true false p q g = no_digit b bs q p
    go true true p q g = cc
    go false t p q g = cc

digits_are : (ds rest : List ℕ) → AllDigits 10 ds → ends_word rest ≡ true → digits_front (ds ++ rest) ≡ length ds
digits_are [] rest a e = ends_digits rest e
digits_are (d ∷ ds) rest a e = if_true (goes_on d (ds ++ rest)) (suc (digits_front (ds ++ rest))) 0 (or_left (is_digit d) (d == 95 && begins_with_digit (ds ++ rest)) (digit_is d a.0))
    ∙ ap suc (digits_are ds rest a.1 e)

value_is : (n : ℕ) (ds : List ℕ) → AllDigits 10 ds → value_from n ds ≡ digits_value_after 10 n ds
value_is n [] a = refl
value_is n (d ∷ ds) a =
    let two = digit_from_value d a.0 in
    let value = digit_value_digit d two in
    let same : n * 10 + (d - 48) ≡ n * 10 + digit_value d = omega arith in
    ap (λ m. value_from m ds) (if_true (is_digit d) (n * 10 + (d - 48)) n (digit_is d a.0) ∙ same) ∙ value_is (n * 10 + digit_value d) ds a.1

-- ---- numbers

digit_begins : (ds rest : List ℕ) → AllDigits 10 ds → 0 < length ds → begins_with_digit (ds ++ rest) ≡ true
digit_begins [] rest a s = absurd (omega arith)
digit_begins (d ∷ ds) rest a s = digit_is d a.0

-- digits of a number that isn't too great, up to the end of a word
sized_found : (sign limit n : ℕ) (rest : List ℕ) → n < 10 ^ 64 → nat_le n limit ≡ true → ends_word rest ≡ true
    → sized_front sign limit (decimal n ++ rest) (digits_len (decimal n ++ rest)) ≡ Some (record { reading = Token k.Integer; len = sign + length (decimal n) })
sized_found sign limit n rest small le e =
    let numeral = decimal_is_IsNumeral_wide n small in
    let value : value_from 0 (decimal n) ≡ n = value_is 0 (decimal n) numeral.0.1 ∙ numeral.1 in
    ap (sized_front sign limit (decimal n ++ rest))
    (if_true (begins_with_digit (decimal n ++ rest)) (Some (digits_front (decimal n ++ rest))) None (digit_begins (decimal n) rest numeral.0.1 numeral.0.0) ∙ ap Some (digits_are (decimal n) rest numeral.0.1 e))
    ∙ ap (λ l. Some (record { reading = fitting limit l; len = sign + length (decimal n) })) (take-append_seam (decimal n) rest)
    ∙ ap (λ (r : Reading). Some (record { reading = r; len = sign + length (decimal n) }))
    (if_true (nat_le (value_from 0 (decimal n)) limit) (Token k.Integer) Refused (ap (λ m. nat_le m limit) value ∙ le))

digit_word : (b : ℕ) → is_digit b ≡ true → is_word_byte b ≡ true
digit_word b h = grind (arith, nat_tests)

digit_not : (b c : ℕ) → is_digit b ≡ true → is_digit c ≡ false → (c == b) ≡ false
digit_not b c h n = go (c == b) refl
  where
    same : (c == b) ≡ true → c ≡ b
    same e = grind (arith, nat_tests)

    clash : is_digit c ≡ true → ⊥
    clash e = cc

    go : (t : Bool) → (c == b) ≡ t → t ≡ false
    go true e = absurd (clash (ap is_digit (same e) ∙ h))
    go false e = refl

other_way : (b c : ℕ) → (c == b) ≡ false → (b == c) ≡ false
other_way b c h = grind (arith, nat_tests)

-- without a sign
plain_front : (ds rest : List ℕ) → AllDigits 10 ds → 0 < length ds → ordinary_front (ds ++ rest) ≡ sized_front 0 (2 ^ 127 - 1) (ds ++ rest) (digits_len (ds ++ rest))
unfolding number_front
plain_front [] rest a s = absurd (omega arith)
plain_front (d ∷ ds) rest a s =
    let digit = digit_is d a.0 in
    ordinary_number d (ds ++ rest) (digit_word d digit) digit
    ∙ if_false (d == 45) (sized_front 1 (2 ^ 127) (ds ++ rest) (digits_len (ds ++ rest))) (sized_front 0 (2 ^ 127 - 1) (d ∷ (ds ++ rest)) (digits_len (d ∷ (ds ++ rest))))
    (other_way d 45 (digit_not d 45 digit refl))

-- behind a `-`
minus_sign : (d : ℕ) (bs : List ℕ) → is_digit d ≡ true → sign_front (45 ∷ d ∷ bs) ≡ None
unfolding sign_front
minus_sign d bs h = rw (digit_not d 62 h refl) refl

minus_operator : (d : ℕ) (bs : List ℕ) → is_digit d ≡ true → operator_len (45 ∷ d ∷ bs) ≡ Some 1
unfolding operator_len
minus_operator d bs h = rw (digit_not d 64 h refl) refl

longer_than_one : (n : ℕ) → 0 < n → nat_lt 1 (1 + n) ≡ true
longer_than_one n h = grind (arith, nat_tests)

minus_found : (place : Place) (n : ℕ) (ds rest : List ℕ) → AllDigits 10 ds → 0 < length ds → 0 < n → IsUtf8 (45 ∷ (ds ++ rest))
    → sized_front 1 (2 ^ 127) (ds ++ rest) (digits_len (ds ++ rest)) ≡ Some (record { reading = Token k.Integer; len = 1 + n })
    → front_at place (45 ∷ (ds ++ rest)) ≡ Some (record { reading = Token k.Integer; len = 1 + n })
unfolding gap_len number_front string_len symbol_len variable_front word_behind word_behind_two special_front backquoted_len
minus_found place n [] rest a s some u e = absurd (omega arith)
minus_found place n (d ∷ ds) rest a s some u e =
    let digit = digit_is d a.0 in
    let f : Found = record { reading = Token k.Integer; len = 1 + n } in
    found_apart 45 (d ∷ (ds ++ rest)) u refl refl place (Some f)
    (ap (λ o. longer o (sign_front (45 ∷ d ∷ (ds ++ rest)))) e ∙ ap (longer (Some f)) (minus_sign d (ds ++ rest) digit))
    (λ h. ap (λ o. longer (found_of k.MethodName (longer_len o None)) (Some f)) (minus_operator d (ds ++ rest) digit)
    ∙ if_true (nat_lt 1 (1 + n)) (Some f) (Some (record { reading = Token k.MethodName; len = 1 })) (longer_than_one n some))

-- ---- an integer is a token

and_true_false : (a : Bool) → (a && true) ≡ false → a ≡ false
and_true_false true h = cc
and_true_false false h = refl

below_limit : (n : ℕ) → nat_lt n (2 ^ 127) ≡ true → nat_le n (2 ^ 127 - 1) ≡ true
below_limit n h = grind (arith, nat_tests)

up_to_limit : (n : ℕ) → nat_lt n (2 ^ 127) ≡ true → nat_le (suc n) (2 ^ 127) ≡ true
up_to_limit n h = grind (arith, nat_tests)

small : (n : ℕ) → nat_lt n (2 ^ 127) ≡ true → suc n < 10 ^ 64
small n h = grind (arith, nat_tests)

pub integer_utf8 : (z : ℤ) → in_range z ≡ true → IsUtf8 (integer_text z)
unfolding integer_text
integer_utf8 (pos n) h = let s = small n h in IsUtf8-from_ascii (decimal n) (IsAscii-decimal_wide n (omega arith))
integer_utf8 (negsuc n) h = ascii_before (codes "-") (decimal (suc n)) refl (IsUtf8-from_ascii (decimal (suc n)) (IsAscii-decimal_wide (suc n) (small n h)))

found_integer : (place : Place) (z : ℤ) (rest : List ℕ) → in_range z ≡ true → IsUtf8 (integer_text z ++ rest) → ends_word rest ≡ true → (has_name place && is_name (integer_front z)) ≡ false
    → front_at place (integer_text z ++ rest) ≡ Some (record { reading = Token k.Integer; len = length (integer_text z) })
unfolding integer_text
found_integer place (pos n) rest r u e m =
    let s = small n r in
    let less : n < 10 ^ 64 = omega arith in
    let numeral = decimal_is_IsNumeral_wide n less in
    let size : 0 + length (decimal n) ≡ length (decimal n) = omega arith in
    by_place place (decimal n ++ rest) (Some (record { reading = Token k.Integer; len = length (decimal n) }))
    (plain_front (decimal n) rest numeral.0.1 numeral.0.0 ∙ sized_found 0 (2 ^ 127 - 1) n rest less (below_limit n r) e ∙ ap (λ i. Some (record { reading = Token k.Integer; len = i })) size)
    (λ h equals. absurd (clash (has_name place) (and_true_false (has_name place) m) h))
found_integer place (negsuc n) rest r u e m =
    let numeral = decimal_is_IsNumeral_wide (suc n) (small n r) in
    let size : 1 + length (decimal (suc n)) ≡ suc (length (decimal (suc n))) = omega arith in
    minus_found place (length (decimal (suc n))) (decimal (suc n)) rest numeral.0.1 numeral.0.0 numeral.0.0 u (sized_found 1 (2 ^ 127) (suc n) rest (small n r) (up_to_limit n r) e)
    ∙ ap (λ i. Some (record { reading = Token k.Integer; len = i })) size

pub integer_is_front : (place : Place) (z : ℤ) (rest : List ℕ) → in_range z ≡ true → IsUtf8 rest → ends_word rest ≡ true → (has_name place && is_name (integer_front z)) ≡ false
    → IsFront place (integer_text z ++ rest) (token k.Integer (integer_text z))
integer_is_front place z rest r u e m =
    let t = IsUtf8-append (integer_text z) rest (integer_utf8 z r) u in
    is_front place (token k.Integer (integer_text z)) rest t (found_integer place z rest r t e m)
