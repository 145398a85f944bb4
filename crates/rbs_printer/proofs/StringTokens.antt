-- String literals are read where they are printed.
use Rattle.std.proofs.Common.{◌≡◌, ℕ, suc, ◌+◌, ◌<◌, ◌≤◌, ◌==◌, nat_lt, Bool, true, false, List, [], ◌∷◌, ◌++◌, length, get_or, Some, None, refl, sym, ◌∙◌, ap, subst, arith, length-append}
use Rattle.std.specs.Prelude.{if◌then◌else◌, codes}
use Rattle.std.specs.Str.{IsUtf8, is_utf8, chars, encode_utf8_all, all_scalars}
use Rattle.std.specs.Char.{encode_utf8, IsScalar}
use Rattle.std.proofs.lemmas.Bool.Decides.{nat_tests}
use Rattle.std.proofs.lemmas.Str.{IsUtf8-append, IsUtf8-nil, IsUtf8-encode, IsUtf8-from_ascii, IsUtf8-from_is_utf8, encodes-chars, scalars-chars, inside_one, encode_ascii}
use mathlib.Core.List.{append_assoc, append-nil}
use Rattle.rbs_lexer.specs.declared.kind.Kind.TheVariants as k
use Rattle.rbs_lexer.specs.declared.place.Place.{Place}
use Rattle.rbs_lexer.specs.declared.reading.Reading.TheVariants.{Token}
use Rattle.rbs_lexer.specs.Lexing.{token, IsFront}
use Rattle.rbs_lexer.specs.Finds.{longer_by, longer, found_of, closed_len, gap_len, string_len, backquoted_len, operator_len, sign_front, special_front, number_front, word_behind, word_behind_two, variable_front, symbol_len, front_at}
use Rattle.rbs_lexer.proofs.Skipping.{all_ascii, ascii_is, both}
use Rattle.rbs_printer.specs.Words.{escape, escaped, string_text}
use Rattle.rbs_printer.proofs.Starts.{is_front, ascii_before, found_apart, low_is}

-- ---- the closing quote is the first that no backslash stands before

-- the text that stands for a byte doesn't close the string
escape_passes : (b m : ℕ) (ys : List ℕ) → closed_len 34 false ys ≡ Some m → closed_len 34 false (escape b ++ ys) ≡ Some (length (escape b) + m)
escape_passes b m ys h = go (b == 34) (b == 92) (b == 10) (b == 9) refl refl
  where
    two : longer_by 1 (longer_by 1 (closed_len 34 false ys)) ≡ Some (2 + m)
    two = ap (λ o. longer_by 1 (longer_by 1 o)) h ∙ ap Some (omega arith)

    go : (x y z t : Bool) → (b == 34) ≡ x → (b == 92) ≡ y
        → closed_len 34 false ((if x then codes "\\\"" else (if y then codes "\\\\" else (if z then codes "\\n" else (if t then codes "\\t" else b ∷ [])))) ++ ys)
        ≡ Some (length (if x then codes "\\\"" else (if y then codes "\\\\" else (if z then codes "\\n" else (if t then codes "\\t" else b ∷ [])))) + m)
    go true y z t p q = two
    go false true z t p q = two
    go false false true t p q = two
    go false false false true p q = two
    go false false false false p q = rw (p, q) (ap (longer_by 1) h)

closes : (v rest : List ℕ) → closed_len 34 false (escaped v ++ (34 ∷ rest)) ≡ Some (length (escaped v) + 1)
closes [] rest = refl
closes (b ∷ bs) rest =
    let sum = length-append (escape b) (escaped bs) in
    ap (closed_len 34 false) (append_assoc (escape b) (escaped bs) (34 ∷ rest))
    ∙ escape_passes b (length (escaped bs) + 1) (escaped bs ++ (34 ∷ rest)) (closes bs rest) ∙ ap Some (omega arith)

pub string_len_is : (v rest : List ℕ) → string_len (string_text v ++ rest) ≡ Some (length (string_text v))
unfolding string_len string_text
string_len_is v rest =
    let sum = length-append (escaped v) (codes "\"") in
    let size : 1 + (length (escaped v) + 1) ≡ suc (length (escaped v ++ codes "\"")) = omega arith in
    ap (λ l. longer_by 1 (closed_len 34 false l)) (append_assoc (escaped v) (codes "\"") rest) ∙ ap (longer_by 1) (closes v rest) ∙ ap Some size

-- ---- its bytes are a text

escape_ascii : (b : ℕ) → nat_lt b 128 ≡ true → all_ascii (escape b) ≡ true
escape_ascii b h = go (b == 34) (b == 92) (b == 10) (b == 9)
  where
    go : (x y z t : Bool) → all_ascii (if x then codes "\\\"" else (if y then codes "\\\\" else (if z then codes "\\n" else (if t then codes "\\t" else b ∷ [])))) ≡ true
    go true y z t = refl
    go false true z t = refl
    go false false true t = refl
    go false false false true = refl
    go false false false false = rw h refl

-- bytes past ASCII stand for themselves
escape_high : (b : ℕ) → 128 ≤ b → escape b ≡ b ∷ []
escape_high b h = rw (differs 34 (omega arith), differs 92 (omega arith), differs 10 (omega arith), differs 9 (omega arith)) refl
  where
    differs : (c : ℕ) → c < b → (b == c) ≡ false
    differs c l = grind (arith, nat_tests)

escaped_high : (bs : List ℕ) → ((i : ℕ) → i < length bs → 128 ≤ get_or bs i 0) → escaped bs ≡ bs
escaped_high [] h = refl
escaped_high (b ∷ bs) h = ap (λ l. l ++ escaped bs) (escape_high b (h 0 (omega arith))) ∙ ap (λ l. b ∷ l) (escaped_high bs (λ i l. h (suc i) (omega arith)))

escaped_append : (xs ys : List ℕ) → escaped (xs ++ ys) ≡ escaped xs ++ escaped ys
escaped_append [] ys = refl
escaped_append (x ∷ xs) ys = ap (λ l. escape x ++ l) (escaped_append xs ys) ∙ sym (append_assoc (escape x) (escaped xs) (escaped ys))

is_high : (c : ℕ) → nat_lt c 128 ≡ false → 128 ≤ c
is_high c h = grind (arith, nat_tests)

high_bytes : (c : ℕ) → 128 ≤ c → (i : ℕ) → i < length (encode_utf8 c) → 128 ≤ get_or (encode_utf8 c) i 0
high_bytes c h i l = go (nat_lt (get_or (encode_utf8 c) i 0) 128) refl
  where
    go : (t : Bool) → nat_lt (get_or (encode_utf8 c) i 0) 128 ≡ t → 128 ≤ get_or (encode_utf8 c) i 0
    go true e =
        let low = low_is (get_or (encode_utf8 c) i 0) e in
        let same = inside_one c [] (encode_utf8 c) i (sym (append-nil (encode_utf8 c))) l low in
        absurd (omega arith)
    go false e = is_high (get_or (encode_utf8 c) i 0) e

one_utf8 : (c : ℕ) → IsScalar c → IsUtf8 (escaped (encode_utf8 c))
one_utf8 c s = go (nat_lt c 128) refl
  where
    go : (t : Bool) → nat_lt c 128 ≡ t → IsUtf8 (escaped (encode_utf8 c))
    go true e = subst (λ l. IsUtf8 (escaped l)) (sym (encode_ascii c (low_is c e)))
        (subst IsUtf8 (sym (append-nil (escape c))) (IsUtf8-from_ascii (escape c) (ascii_is (escape c) (escape_ascii c e))))
    go false e = subst IsUtf8 (sym (escaped_high (encode_utf8 c) (high_bytes c (is_high c e)))) (IsUtf8-encode c s)

all_utf8 : (cs : List ℕ) → all_scalars cs ≡ true → IsUtf8 (escaped (encode_utf8_all cs))
all_utf8 [] h = IsUtf8-nil
all_utf8 (c ∷ cs) h =
    let two = both _ _ h in
    subst IsUtf8 (sym (escaped_append (encode_utf8 c) (encode_utf8_all cs))) (IsUtf8-append (escaped (encode_utf8 c)) (escaped (encode_utf8_all cs)) (one_utf8 c two.0) (all_utf8 cs two.1))

escaped_utf8 : (v : List ℕ) → is_utf8 v ≡ true → IsUtf8 (escaped v)
escaped_utf8 v h =
    let u = IsUtf8-from_is_utf8 v h in
    subst (λ l. IsUtf8 (escaped l)) (encodes-chars v u) (all_utf8 (chars v) (scalars-chars v u))

pub string_utf8 : (v : List ℕ) → is_utf8 v ≡ true → IsUtf8 (string_text v)
unfolding string_text
string_utf8 v h = ascii_before (codes "\"") (escaped v ++ codes "\"") refl (IsUtf8-append (escaped v) (codes "\"") (escaped_utf8 v h) (IsUtf8-from_ascii (codes "\"") (ascii_is (codes "\"") refl)))

-- ---- it is a token

found_string : (place : Place) (v rest : List ℕ) → IsUtf8 (string_text v ++ rest) → front_at place (string_text v ++ rest) ≡ Some (record { reading = Token k.String; len = length (string_text v) })
unfolding string_text gap_len number_front symbol_len variable_front word_behind word_behind_two sign_front special_front operator_len backquoted_len
found_string place v rest u = found_apart 34 ((escaped v ++ codes "\"") ++ rest) u refl refl place (Some (record { reading = Token k.String; len = length (string_text v) }))
    (ap (λ o. longer (found_of k.String o) None) (string_len_is v rest)) (λ h. refl)

pub string_is_front : (place : Place) (v rest : List ℕ) → is_utf8 v ≡ true → IsUtf8 rest → IsFront place (string_text v ++ rest) (token k.String (string_text v))
string_is_front place v rest h u =
    let t = IsUtf8-append (string_text v) rest (string_utf8 v h) u in
    is_front place (token k.String (string_text v)) rest t (found_string place v rest t)
