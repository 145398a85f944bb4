-- What a printed literal stands for is the literal's value.
use Rattle.std.proofs.Common.{◌≡◌, ℕ, zero, suc, ℤ, pos, negsuc, ◌+◌, ◌-◌, ◌*◌, ◌^◌, ◌<◌, ◌≤◌, ◌==◌, nat_lt, nat_le, Bool, true, false, ◌&&◌, ◌||◌, List, [], ◌∷◌, ◌++◌, length, take, refl, sym, ◌∙◌, ap, arith}
use Rattle.std.specs.Prelude.{if◌then◌else◌, codes}
use Rattle.std.specs.Str.{is_utf8, chars}
use Rattle.std.specs.Char.{digit_value}
use Rattle.std.specs.Int.{IsInRange}
use Rattle.std.specs.Str.Parse.{AllDigits, digits_value_after}
use Rattle.std.specs.Fmt.{decimal}
use Rattle.std.proofs.lemmas.Fmt.{decimal_is_IsNumeral_wide}
use Rattle.std.proofs.lemmas.Str.{digit_value_digit}
use Rattle.std.proofs.lemmas.Str.Parse.{digit_from_value}
use Rattle.std.proofs.lemmas.Bool.Decides.{nat_tests}
use Rattle.std.proofs.Math.Seq.{take-append_seam}
use Rattle.rbs_lexer.specs.Bytes.{is_digit}
use Rattle.rbs_lexer.specs.Numbers.{value_on, value_from}
use Rattle.rbs_lexer.specs.Words.{is_word, is_marked}
use Rattle.rbs_lexer.specs.Signs.{is_operator}
use Rattle.rbs_lexer.proofs.Finding.{if_true, if_false}
use Rattle.rbs_grammar.specs.Values.{inner, unescaped, string_value, symbol_value, sized, negative, integer_value}
use Rattle.rbs_printer.specs.Words.{escape, escaped, string_text, names_itself, symbol_text, integer_text}
use Rattle.rbs_printer.proofs.Fit.{in_range}

-- ---- strings

-- a byte that isn't escaped stands for itself
plain_byte : (b : ℕ) (bs : List ℕ) → (b == 92) ≡ false → unescaped 34 (b ∷ bs) ≡ b ∷ unescaped 34 bs
plain_byte b [] h = refl
plain_byte b (c ∷ bs) h = if_false _ _ _ h

is_it : (b k : ℕ) → (b == k) ≡ true → k ≡ b
is_it b k h = grind (arith, nat_tests)

-- these bytes are read as this one, before others
abbrev ReadAs : ℕ → List ℕ → List ℕ → Type 0
ReadAs b bs e = unescaped 34 (e ++ bs) ≡ b ∷ unescaped 34 bs

unescape_byte : (b : ℕ) (bs : List ℕ) → unescaped 34 (escape b ++ bs) ≡ b ∷ unescaped 34 bs
unescape_byte b bs = quote (b == 34) refl
  where
    tab : (t : Bool) → (b == 9) ≡ t → (b == 92) ≡ false → ReadAs b bs (if t then codes "\\t" else b ∷ [])
    tab true e h = ap (λ c. c ∷ unescaped 34 bs) (is_it b 9 e)
    tab false e h = plain_byte b bs h

    line : (t : Bool) → (b == 10) ≡ t → (b == 92) ≡ false → ReadAs b bs (if t then codes "\\n" else (if b == 9 then codes "\\t" else b ∷ []))
    line true e h = ap (λ c. c ∷ unescaped 34 bs) (is_it b 10 e)
    line false e h = tab (b == 9) refl h

    slash : (t : Bool) → (b == 92) ≡ t → ReadAs b bs (if t then codes "\\\\" else (if b == 10 then codes "\\n" else (if b == 9 then codes "\\t" else b ∷ [])))
    slash true e = ap (λ c. c ∷ unescaped 34 bs) (is_it b 92 e)
    slash false e = line (b == 10) refl e

    quote : (t : Bool) → (b == 34) ≡ t → ReadAs b bs (if t then codes "\\\"" else (if b == 92 then codes "\\\\" else (if b == 10 then codes "\\n" else (if b == 9 then codes "\\t" else b ∷ []))))
    quote true e = ap (λ c. c ∷ unescaped 34 bs) (is_it b 34 e)
    quote false e = slash (b == 92) refl

append_assoc : (xs ys zs : List ℕ) → (xs ++ ys) ++ zs ≡ xs ++ (ys ++ zs)
append_assoc [] ys zs = refl
append_assoc (x ∷ xs) ys zs = ap (λ l. x ∷ l) (append_assoc xs ys zs)

unescape_all : (v : List ℕ) → unescaped 34 (escaped v) ≡ v
unescape_all [] = refl
unescape_all (b ∷ bs) = unescape_byte b (escaped bs) ∙ ap (λ l. b ∷ l) (unescape_all bs)

length_one_more : (xs : List ℕ) (b : ℕ) → length (xs ++ b ∷ []) ≡ suc (length xs)
length_one_more [] b = refl
length_one_more (x ∷ xs) b = ap suc (length_one_more xs b)

-- what stands between the first byte and the last
inner_text : (a b : ℕ) (xs : List ℕ) → inner (a ∷ (xs ++ b ∷ [])) ≡ xs
inner_text a b xs =
    let size : suc (length (xs ++ b ∷ [])) - 2 ≡ length xs = omega (arith, length_one_more xs b) in
    ap (λ n. take n (xs ++ b ∷ [])) size ∙ take-append_seam xs (b ∷ [])

pub string_read : (v : List ℕ) → string_value (string_text v) ≡ v
unfolding string_value string_text
string_read v = ap (unescaped 34) (inner_text 34 34 (escaped v)) ∙ unescape_all v

-- ---- symbols

and_none : (t s : Bool) → s ≡ false → (t && s) ≡ false
and_none true s h = h
and_none false s h = refl

quote_not_word : (bs : List ℕ) → is_word (34 ∷ bs) ≡ false
unfolding is_word chars
quote_not_word [] = and_none (is_utf8 (34 ∷ [])) false refl
quote_not_word (b ∷ bs) = and_none (is_utf8 (34 ∷ b ∷ bs)) false refl

apostrophe_not_word : (bs : List ℕ) → is_word (39 ∷ bs) ≡ false
unfolding is_word chars
apostrophe_not_word [] = and_none (is_utf8 (39 ∷ [])) false refl
apostrophe_not_word (b ∷ bs) = and_none (is_utf8 (39 ∷ b ∷ bs)) false refl

nil_not_word : is_word [] ≡ false
unfolding is_word
nil_not_word = refl

quote_not_marked : (bs : List ℕ) → is_marked true (34 ∷ bs) ≡ false
unfolding is_marked
quote_not_marked bs = and_none _ _ (front (suc (length bs) - 1))
  where
    front : (n : ℕ) → is_word (take n (34 ∷ bs)) ≡ false
    front zero = nil_not_word
    front (suc n) = quote_not_word (take n bs)

apostrophe_not_marked : (bs : List ℕ) → is_marked true (39 ∷ bs) ≡ false
unfolding is_marked
apostrophe_not_marked bs = and_none _ _ (front (suc (length bs) - 1))
  where
    front : (n : ℕ) → is_word (take n (39 ∷ bs)) ≡ false
    front zero = nil_not_word
    front (suc n) = apostrophe_not_word (take n bs)

quote_not_operator : (bs : List ℕ) → is_operator (34 ∷ bs) ≡ false
unfolding is_operator
quote_not_operator bs = refl

apostrophe_not_operator : (bs : List ℕ) → is_operator (39 ∷ bs) ≡ false
unfolding is_operator
apostrophe_not_operator bs = refl

none_of : (a b c : Bool) → a ≡ false → b ≡ false → c ≡ false → (a || (b || c)) ≡ false
none_of false false c p q r = r
none_of true b c p q r = cc
none_of false true c p q r = cc

-- a name that begins with a quote doesn't name itself
quote_is_quoted : (bs : List ℕ) → names_itself (34 ∷ bs) ≡ false
unfolding names_itself
quote_is_quoted bs = none_of _ _ _ (quote_not_word bs) (quote_not_marked bs) (quote_not_operator bs)

apostrophe_is_quoted : (bs : List ℕ) → names_itself (39 ∷ bs) ≡ false
unfolding names_itself
apostrophe_is_quoted bs = none_of _ _ _ (apostrophe_not_word bs) (apostrophe_not_marked bs) (apostrophe_not_operator bs)

names_no_quote : (b : ℕ) (bs : List ℕ) → names_itself (b ∷ bs) ≡ true → (b == 34 || b == 39) ≡ false
names_no_quote b bs h = go (b == 34) (b == 39) refl refl
  where
    true≢false : ◌≡◌ {A = Bool} true false → ⊥
    true≢false h = cc

    go : (s t : Bool) → (b == 34) ≡ s → (b == 39) ≡ t → (s || t) ≡ false
    go true t p q = absurd (true≢false (sym h ∙ ap (λ c. names_itself (c ∷ bs)) (sym (is_it b 34 p)) ∙ quote_is_quoted bs))
    go false true p q = absurd (true≢false (sym h ∙ ap (λ c. names_itself (c ∷ bs)) (sym (is_it b 39 q)) ∙ apostrophe_is_quoted bs))
    go false false p q = refl

named_symbol : (name : List ℕ) → names_itself name ≡ true → symbol_value (58 ∷ name) ≡ name
unfolding symbol_value
named_symbol [] h = refl
named_symbol (b ∷ bs) h = if_false _ _ _ (names_no_quote b bs h)

quoted_symbol : (name : List ℕ) → symbol_value (58 ∷ string_text name) ≡ name
unfolding symbol_value string_text
quoted_symbol name = string_read name

pub symbol_read : (name : List ℕ) → is_utf8 name ≡ true → symbol_value (symbol_text name) ≡ name
unfolding symbol_text
symbol_read name u = go (names_itself name) refl
  where
    go : (t : Bool) → names_itself name ≡ t → symbol_value (58 ∷ (if t then name else string_text name)) ≡ name
    go true e = named_symbol name e
    go false e = quoted_symbol name

-- ---- integers

digit_tests : (c : ℕ) → IsInRange 48 57 c → is_digit c ≡ true
digit_tests c h = grind (arith, nat_tests)

digit_number : (n c : ℕ) → IsInRange 48 57 c → digit_value c + 48 ≡ c → n * 10 + (c - 48) ≡ n * 10 + digit_value c
digit_number n c h e = omega arith

value_of_digits : (n : ℕ) (ds : List ℕ) → AllDigits 10 ds → value_from n ds ≡ digits_value_after 10 n ds
value_of_digits n [] h = refl
value_of_digits n (c ∷ cs) h =
    let range = digit_from_value c h.0 in
    let one : value_on n c ≡ n * 10 + digit_value c = if_true _ _ _ (digit_tests c range) ∙ digit_number n c range (digit_value_digit c range) in
    ap (λ m. value_from m cs) one ∙ value_of_digits (n * 10 + digit_value c) cs h.1

-- the digits of a number, not too large, are read as it
decimal_read : (n : ℕ) → n < 10 ^ 64 → value_from 0 (decimal n) ≡ n
decimal_read n h = let d = decimal_is_IsNumeral_wide n h in value_of_digits 0 (decimal n) d.0.1 ∙ d.1

sized_read : (limit : ℕ) (sign : ℕ → ℤ) (n : ℕ) → n < 10 ^ 64 → n ≤ limit → sized limit sign (decimal n) ≡ sign n
sized_read limit sign n h i = let e = decimal_read n h in
    ap (λ m. if nat_le m limit then sign m else pos 0) e ∙ if_true _ _ _ (within n limit i)
  where
    within : (n m : ℕ) → n ≤ m → nat_le n m ≡ true
    within n m h = grind (arith, nat_tests)

below_tests : (n m : ℕ) → nat_lt n m ≡ true → n < m
below_tests n m h = grind (arith, nat_tests)

no_minus : (c : ℕ) → IsInRange 48 57 c → (c == 45) ≡ false
no_minus c h = grind (arith, nat_tests)

-- digits have no sign
plain_read : (ds : List ℕ) → 0 < length ds → AllDigits 10 ds → integer_value ds ≡ sized (2 ^ 127 - 1) pos ds
unfolding integer_value
plain_read [] h d = absurd (omega arith)
plain_read (c ∷ cs) h d = if_false _ _ _ (no_minus c (digit_from_value c d.0))

pub integer_read : (z : ℤ) → in_range z ≡ true → integer_value (integer_text z) ≡ z
unfolding integer_value integer_text
integer_read (pos n) h =
    let low : n < 2 ^ 127 = below_tests n (2 ^ 127) h in
    let small : n < 10 ^ 64 = omega arith in
    let d = decimal_is_IsNumeral_wide n small in
    plain_read (decimal n) d.0.0 d.0.1 ∙ sized_read (2 ^ 127 - 1) pos n small (omega arith)
integer_read (negsuc n) h =
    let low : n < 2 ^ 127 = below_tests n (2 ^ 127) h in
    sized_read (2 ^ 127) negative (suc n) (omega arith) (omega arith)

-- all of them
pub literals_read : (v name : List ℕ) (z : ℤ) → is_utf8 name ≡ true → in_range z ≡ true → (string_value (string_text v) ≡ v) × (symbol_value (symbol_text name) ≡ name) × (integer_value (integer_text z) ≡ z)
literals_read v name z u h = (string_read v, symbol_read name u, integer_read z h)
