-- Symbols are read where they are printed.
use Rattle.std.proofs.Common.{◌≡◌, ℕ, zero, suc, ◌+◌, ◌-◌, ◌<◌, ◌≤◌, ◌==◌, nat_lt, Bool, true, false, ◌&&◌, ◌||◌, List, [], ◌∷◌, ◌++◌, length, take, Option, Some, None, refl, sym, ◌∙◌, ap, subst, arith, length-append}
use Rattle.std.specs.Prelude.{if◌then◌else◌, not, codes, slice_index, bytes_eq}
use Rattle.std.specs.List.{list_any, list_all}
use Rattle.std.specs.Str.{IsUtf8, is_utf8, chars}
use Rattle.std.proofs.lemmas.Bool.Decides.{nat_tests}
use Rattle.std.proofs.lemmas.Slice.Eq.{bytes_eq-Decides}
use Rattle.std.proofs.lemmas.Str.{IsUtf8-append, IsUtf8-from_is_utf8}
use mathlib.Core.List.{append_assoc}
use Rattle.rbs_lexer.specs.declared.kind.Kind.TheVariants as k
use Rattle.rbs_lexer.specs.declared.place.Place.{Place}
use Rattle.rbs_lexer.specs.declared.reading.Reading.TheVariants.{Token}
use Rattle.rbs_lexer.specs.declared.reading.Found.{Found}
use Rattle.rbs_lexer.specs.Words.{is_word_character, is_word, is_mark, is_marked}
use Rattle.rbs_lexer.specs.Signs.{operators, is_operator}
use Rattle.rbs_lexer.specs.Lexing.{token, IsFront}
use Rattle.rbs_lexer.specs.Finds.{longer_by, longer_len, longer, found_of, word_bytes, gap_len, string_len, backquoted_len, longest_of, operator_len, sign_front, special_front, number_front, any_word_len, marked_by, marked_len, word_behind, word_behind_two, variable_front, symbol_name_len, symbol_len, front_at}
use Rattle.rbs_lexer.specs.Quotes.{is_string}
use Rattle.rbs_lexer.proofs.Finding.{Finds, if_true, if_false}
use Rattle.rbs_lexer.proofs.Fronts.{symbol_name_found}
use Rattle.rbs_lexer.proofs.Skipping.{both}
use Rattle.rbs_printer.specs.declared.level.Level.TheVariants as at
use Rattle.rbs_printer.specs.Words.{escaped, string_text, names_itself, symbol_text}
use Rattle.rbs_printer.specs.Printed.{symbol_level}
use Rattle.rbs_printer.proofs.Claims.{follows}
use Rattle.rbs_printer.proofs.Follow.{ends_word, has_mark}
use Rattle.rbs_printer.proofs.Starts.{is_front, ascii_before, is_apart, found_apart, symbol_name_apart, not_false}
use Rattle.rbs_printer.proofs.WordTokens.{word_byte, no_operator, no_string, any_word_is, no_marked, ends_bytes, slice_seam, no_empty_word}
use Rattle.rbs_printer.proofs.StringTokens.{string_len_is, string_utf8}

-- ---- what follows a symbol

small_byte : (P : ℕ → Type 0) → P 32 → P 44 → P 41 → P 93 → (b : ℕ) → (b == 32 || (b == 44 || (b == 41 || b == 93))) ≡ true → P b
small_byte P p q r s b h = go (b == 32) (b == 44) (b == 41) (b == 93) refl refl refl refl h
  where
    is : (c : ℕ) → (b == c) ≡ true → c ≡ b
    is c e = grind (arith, nat_tests)

    go : (x y z t : Bool) → (b == 32) ≡ x → (b == 44) ≡ y → (b == 41) ≡ z → (b == 93) ≡ t → (x || (y || (z || t))) ≡ true → P b
    go true y z t d e f g h = subst P (is 32 d) p
    go false true z t d e f g h = subst P (is 44 e) q
    go false false true t d e f g h = subst P (is 41 f) r
    go false false false true d e f g h = subst P (is 93 g) s
    go false false false false d e f g h = cc

any_byte : (P : ℕ → Type 0) → P 32 → P 44 → P 41 → P 93 → P 63 → (b : ℕ) → (b == 32 || (b == 44 || (b == 41 || (b == 93 || b == 63)))) ≡ true → P b
any_byte P p q r s l b h = go (b == 32) (b == 44) (b == 41) (b == 93) (b == 63) refl refl refl refl refl h
  where
    is : (c : ℕ) → (b == c) ≡ true → c ≡ b
    is c e = grind (arith, nat_tests)

    go : (x y z t w : Bool) → (b == 32) ≡ x → (b == 44) ≡ y → (b == 41) ≡ z → (b == 93) ≡ t → (b == 63) ≡ w → (x || (y || (z || (t || w)))) ≡ true → P b
    go true y z t w d e f g i h = subst P (is 32 d) p
    go false true z t w d e f g i h = subst P (is 44 e) q
    go false false true t w d e f g i h = subst P (is 41 f) r
    go false false false true w d e f g i h = subst P (is 93 g) s
    go false false false false true d e f g i h = subst P (is 63 i) l
    go false false false false false d e f g i h = cc

word_ends : (rest : List ℕ) → follows at.Optional rest ≡ true → (ends_word rest ≡ true) × (has_mark rest ≡ false)
word_ends [] h = (refl, refl)
word_ends (b ∷ bs) h = (small_byte (λ c. ends_word (c ∷ bs) ≡ true) refl refl refl refl b h, small_byte (λ c. has_mark (c ∷ bs) ≡ false) refl refl refl refl b h)

-- ---- the name is a word

word_name : (name rest : List ℕ) → is_word name ≡ true → IsUtf8 rest → follows at.Optional rest ≡ true → symbol_name_len (name ++ rest) ≡ Some (length name)
unfolding symbol_name_len
word_name [] rest h u f = absurd (no_empty_word h)
word_name (b ∷ bs) rest h u f =
    let two = word_ends rest f in
    let ends = ends_bytes rest u two.0 in
    let first = word_byte b bs h in
    rw (any_word_is (b ∷ bs) rest h u ends, no_marked (b ∷ bs) rest h u ends true two.1, no_operator b (bs ++ rest) first, no_string b (bs ++ rest) first) refl

-- ---- the name is a word with a mark

split_at_last : (name : List ℕ) (m : ℕ) → length name ≡ suc m → take m name ++ (slice_index name m ∷ []) ≡ name
split_at_last [] m h = absurd (omega arith)
split_at_last (b ∷ []) zero h = refl
split_at_last (b ∷ c ∷ bs) zero h = absurd (omega arith)
split_at_last (b ∷ bs) (suc m) h = ap (λ l. b ∷ l) (split_at_last bs m (omega arith))

mark_apart : (m : ℕ) → is_mark true m ≡ true → is_apart m ≡ true
mark_apart m h = grind (arith, nat_tests)

module _ (m : ℕ) (rest : List ℕ) (u : IsUtf8 rest) (h : is_mark true m ≡ true) where
  mark_utf8 : IsUtf8 (m ∷ rest)
  mark_utf8 = ascii_before (m ∷ []) rest (rw (both (nat_lt m 128) (not (is_word_character m)) (mark_apart m h)).0 refl) u

  mark_stops : word_bytes (chars (m ∷ rest)) ≡ 0
  mark_stops = ends_bytes (m ∷ rest) mark_utf8 (mark_apart m h)

longer_by_one : (n : ℕ) → nat_lt n (n + 1) ≡ true
longer_by_one n = grind (arith, nat_tests)

with_mark : (w : List ℕ) (m : ℕ) (rest : List ℕ) → is_word w ≡ true → is_mark true m ≡ true → IsUtf8 rest → symbol_name_len (w ++ (m ∷ rest)) ≡ Some (length w + 1)
unfolding symbol_name_len marked_len
with_mark [] m rest h k u = absurd (no_empty_word h)
with_mark (b ∷ bs) m rest h k u =
    let any : any_word_len ((b ∷ bs) ++ (m ∷ rest)) ≡ Some (length (b ∷ bs)) = any_word_is (b ∷ bs) (m ∷ rest) h (mark_utf8 m rest u k) (mark_stops m rest u k) in
    let marked : marked_len true ((b ∷ bs) ++ (m ∷ rest)) ≡ Some (length (b ∷ bs) + 1) = ap (marked_by true ((b ∷ bs) ++ (m ∷ rest))) any
    ∙ if_true (is_mark true (slice_index ((b ∷ bs) ++ (m ∷ rest)) (length (b ∷ bs)))) (Some (length (b ∷ bs) + 1)) None (ap (is_mark true) (slice_seam (b ∷ bs) (m ∷ rest)) ∙ k) in
    let first = word_byte b bs h in
    ap (λ o. longer_len o (longer_len (marked_len true ((b ∷ bs) ++ (m ∷ rest))) (longer_len (operator_len ((b ∷ bs) ++ (m ∷ rest))) (string_len ((b ∷ bs) ++ (m ∷ rest)))))) any
    ∙ ap (λ o. longer_len (Some (length (b ∷ bs))) (longer_len o (longer_len (operator_len ((b ∷ bs) ++ (m ∷ rest))) (string_len ((b ∷ bs) ++ (m ∷ rest)))))) marked
    ∙ ap (λ o. longer_len (Some (length (b ∷ bs))) (longer_len (Some (length (b ∷ bs) + 1)) (longer_len o (string_len ((b ∷ bs) ++ (m ∷ rest)))))) (no_operator b (bs ++ (m ∷ rest)) first)
    ∙ ap (λ o. longer_len (Some (length (b ∷ bs))) (longer_len (Some (length (b ∷ bs) + 1)) o)) (no_string b (bs ++ (m ∷ rest)) first)
    ∙ if_true (nat_lt (length (b ∷ bs)) (length (b ∷ bs) + 1)) (Some (length (b ∷ bs) + 1)) (Some (length (b ∷ bs))) (longer_by_one (length (b ∷ bs)))

marked_parts : (name : List ℕ) (m : ℕ) → length name ≡ suc m → is_marked true name ≡ true → (is_mark true (slice_index name m) ≡ true) × (is_word (take m name) ≡ true)
unfolding is_marked
marked_parts name m e h =
    let last : length name - 1 ≡ m = omega arith in
    both (is_mark true (slice_index name m)) (is_word (take m name)) (subst (λ i. (is_mark true (slice_index name i) && is_word (take i name)) ≡ true) last h)

no_empty_marked : is_marked true [] ≡ true → ⊥
unfolding is_marked
no_empty_marked h = cc

marked_name : (name rest : List ℕ) → is_marked true name ≡ true → IsUtf8 rest → symbol_name_len (name ++ rest) ≡ Some (length name)
marked_name [] rest h u = absurd (no_empty_marked h)
marked_name (b ∷ bs) rest h u =
    let parts = marked_parts (b ∷ bs) (length bs) refl h in
    let w : List ℕ = take (length bs) (b ∷ bs) in
    let m : ℕ = slice_index (b ∷ bs) (length bs) in
    subst (λ l. symbol_name_len (l ++ rest) ≡ Some (length l)) (split_at_last (b ∷ bs) (length bs) refl)
    (ap symbol_name_len (append_assoc w (m ∷ []) rest) ∙ with_mark w m rest parts.1 parts.0 u ∙ ap Some (sym (length-append w (m ∷ []))))

-- ---- the name is an operator

-- whether the length is there and this one
abbrev is_len : Option ℕ → ℕ → Bool
is_len None n = false
is_len (Some m) n = m == n

is_len_same : (o : Option ℕ) (n : ℕ) → is_len o n ≡ true → o ≡ Some n
is_len_same None n h = cc
is_len_same (Some m) n h = ap Some same
  where
    same : m ≡ n
    same = grind (arith, nat_tests)

-- whether each operator is the longest at the front of itself and the rest
abbrev all_longest : List ℕ → Bool
all_longest rest = list_all (λ op. is_len (longest_of operators (op ++ rest)) (length op)) operators

-- whether an operator begins with a byte of ASCII that is in no word, and no string
abbrev begins_operator : List ℕ → Bool
begins_operator [] = false
begins_operator (b ∷ bs) = is_apart b && not (b == 34 || b == 39)

each : (P : List ℕ → Bool) (table : List (List ℕ)) (name : List ℕ) → list_all P table ≡ true → list_any (bytes_eq name) table ≡ true → P name ≡ true
each P [] name a h = cc
each P (e ∷ es) name a h = let two = both (P e) (list_all P es) a in go (bytes_eq name e) refl two.0 h (each P es name two.1)
  where
    go : (t : Bool) → bytes_eq name e ≡ t → P e ≡ true → (t || list_any (bytes_eq name) es) ≡ true → (list_any (bytes_eq name) es ≡ true → P name ≡ true) → P name ≡ true
    go true q p g i = ap P ((bytes_eq-Decides name e).0 q) ∙ p
    go false q p g i = i g

all_begin : list_all begins_operator operators ≡ true
all_begin = refl

longest_before : (rest : List ℕ) → follows at.Base rest ≡ true → all_longest rest ≡ true
longest_before [] h = refl
longest_before (b ∷ bs) h = any_byte (λ c. all_longest (c ∷ bs) ≡ true) refl refl refl refl refl b h

operator_begins : (name : List ℕ) → is_operator name ≡ true → begins_operator name ≡ true
unfolding is_operator
operator_begins name h = each begins_operator operators name all_begin h

operator_longest : (name rest : List ℕ) → is_operator name ≡ true → follows at.Base rest ≡ true → operator_len (name ++ rest) ≡ Some (length name)
unfolding is_operator operator_len
operator_longest name rest h f = is_len_same (longest_of operators (name ++ rest)) (length name)
    (each (λ op. is_len (longest_of operators (op ++ rest)) (length op)) operators name (longest_before rest f) h)

operator_name : (name rest : List ℕ) → is_operator name ≡ true → IsUtf8 (name ++ rest) → follows at.Base rest ≡ true → symbol_name_len (name ++ rest) ≡ Some (length name)
unfolding string_len
operator_name [] rest h u f = absurd (none (operator_begins [] h))
  where
    none : ◌≡◌ {A = Bool} false true → ⊥
    none h = cc
operator_name (b ∷ bs) rest h u f =
    let two = both (is_apart b) (not (b == 34 || b == 39)) (operator_begins (b ∷ bs) h) in
    let none : string_len ((b ∷ bs) ++ rest) ≡ None = if_false (b == 34 || b == 39) _ None (not_false (b == 34 || b == 39) two.1) in
    symbol_name_apart b (bs ++ rest) u two.0 ∙ ap (longer_len (operator_len ((b ∷ bs) ++ rest))) none ∙ ap (λ o. longer_len o None) (operator_longest (b ∷ bs) rest h f)

-- ---- the name is none of these

quoted_name : (name rest : List ℕ) → IsUtf8 (string_text name ++ rest) → symbol_name_len (string_text name ++ rest) ≡ Some (length (string_text name))
unfolding string_text operator_len
quoted_name name rest u = symbol_name_apart 34 ((escaped name ++ codes "\"") ++ rest) u refl ∙ string_len_is name rest

-- ---- a symbol is a token

body : List ℕ → List ℕ
body name = if names_itself name then name else string_text name

body_utf8 : (name : List ℕ) → is_utf8 name ≡ true → IsUtf8 (body name)
unfolding body
body_utf8 name h = go (names_itself name)
  where
    go : (t : Bool) → IsUtf8 (if t then name else string_text name)
    go true = IsUtf8-from_is_utf8 name h
    go false = string_utf8 name h

body_found : (name rest : List ℕ) → is_utf8 name ≡ true → IsUtf8 rest → follows (symbol_level name) rest ≡ true → symbol_name_len (body name ++ rest) ≡ Some (length (body name))
unfolding body names_itself
body_found name rest h u f = go (is_word name) (is_marked true name) (is_operator name) refl refl refl f
  where
    go : (x y z : Bool) → is_word name ≡ x → is_marked true name ≡ y → is_operator name ≡ z → follows (if x then at.Optional else at.Base) rest ≡ true
        → symbol_name_len ((if x || (y || z) then name else string_text name) ++ rest) ≡ Some (length (if x || (y || z) then name else string_text name))
    go true y z p q r f = word_name name rest p u f
    go false true z p q r f = marked_name name rest q u
    go false false true p q r f = operator_name name rest r (IsUtf8-append name rest (IsUtf8-from_is_utf8 name h) u) f
    go false false false p q r f = quoted_name name rest (IsUtf8-append (string_text name) rest (string_utf8 name h) u)

pub symbol_utf8 : (name : List ℕ) → is_utf8 name ≡ true → IsUtf8 (symbol_text name)
unfolding symbol_text body
symbol_utf8 name h = ascii_before (codes ":") (body name) refl (body_utf8 name h)

not_longer : (n m : ℕ) → m ≤ n → nat_lt n m ≡ false
not_longer n m h = grind (arith, nat_tests)

-- no sign is longer
colon_shorter : (bs : List ℕ) (f : Found) → 2 ≤ f.len → longer (Some f) (sign_front (58 ∷ bs)) ≡ Some f
unfolding sign_front
colon_shorter [] f h = if_false (nat_lt f.len 1) (Some (record { reading = Token k.Colon; len = 1 })) (Some f) (not_longer f.len 1 (omega arith))
colon_shorter (b ∷ bs) f h = go (58 == b) refl
  where
    go : (t : Bool) → (58 == b) ≡ t → longer (Some f) (sign_front (58 ∷ b ∷ bs)) ≡ Some f
    go true e = rw e (if_false (nat_lt f.len 2) (Some (record { reading = Token k.ColonColon; len = 2 })) (Some f) (not_longer f.len 2 h))
    go false e = rw e (if_false (nat_lt f.len 1) (Some (record { reading = Token k.Colon; len = 1 })) (Some f) (not_longer f.len 1 (omega arith)))

found_behind_colon : (place : Place) (bs : List ℕ) (n : ℕ) → IsUtf8 (58 ∷ bs) → symbol_name_len bs ≡ Some n → 0 < n → front_at place (58 ∷ bs) ≡ Some (record { reading = Token k.Symbol; len = 1 + n })
unfolding gap_len number_front string_len symbol_len variable_front word_behind word_behind_two special_front operator_len backquoted_len
found_behind_colon place bs n u e s =
    let f : Found = record { reading = Token k.Symbol; len = 1 + n } in
    found_apart 58 bs u refl refl place (Some f)
    (ap (λ o. longer (found_of k.Symbol (longer_by 1 o)) (sign_front (58 ∷ bs))) e ∙ colon_shorter bs f (omega arith)) (λ h. refl)

found_some : (bs : List ℕ) (n : ℕ) → IsUtf8 bs → symbol_name_len bs ≡ Some n → 0 < n
found_some bs n u e = (subst (λ (o : Option ℕ). Finds (λ run next. is_word run || (is_marked true run || (is_operator run || is_string run))) bs o) e (symbol_name_found bs u)).some

pub symbol_is_front : (place : Place) (name rest : List ℕ) → is_utf8 name ≡ true → IsUtf8 rest → follows (symbol_level name) rest ≡ true
    → IsFront place (symbol_text name ++ rest) (token k.Symbol (symbol_text name))
unfolding symbol_text body
symbol_is_front place name rest h u f =
    let t = IsUtf8-append (body name) rest (body_utf8 name h) u in
    let e = body_found name rest h u f in
    let size : 1 + length (body name) ≡ suc (length (body name)) = omega arith in
    let all = ascii_before (codes ":") (body name ++ rest) refl t in
    is_front place (token k.Symbol (symbol_text name)) rest all
    (found_behind_colon place (body name ++ rest) (length (body name)) all e (found_some (body name ++ rest) (length (body name)) t e) ∙ ap (λ n. Some (record { reading = Token k.Symbol; len = n })) size)
