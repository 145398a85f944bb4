-- Words are read where they are printed.
use Rattle.std.proofs.Common.{◌≡◌, ℕ, suc, ◌+◌, ◌<◌, ◌≤◌, ◌==◌, nat_lt, Bool, true, false, ◌&&◌, ◌||◌, List, [], ◌∷◌, ◌++◌, length, take, Option, Some, None, refl, sym, ◌∙◌, ap, subst, arith, length-append}
use Rattle.std.specs.Prelude.{if◌then◌else◌, not, codes, slice_index, bytes_eq}
use Rattle.std.specs.Str.{IsUtf8, is_utf8, chars, encode_utf8_all}
use Rattle.std.specs.Char.{len_utf8, encode_utf8}
use Rattle.std.proofs.lemmas.Bool.Decides.{nat_tests}
use Rattle.std.proofs.lemmas.Slice.Eq.{bytes_eq-Decides}
use Rattle.std.proofs.lemmas.Str.{IsUtf8-append, IsUtf8-from_is_utf8, chars-append, chars-nil, encodes-chars, length-encode}
use Rattle.std.proofs.lemmas.List.{length-take}
use Rattle.std.proofs.Math.Seq.{take-append_seam}
use Rattle.rbs_lexer.specs.declared.kind.Kind.{Kind}
use Rattle.rbs_lexer.specs.declared.place.Place.{Place}
use Rattle.rbs_lexer.specs.declared.reading.Reading.TheVariants.{Token}
use Rattle.rbs_lexer.specs.declared.reading.Found.{Found}
use Rattle.rbs_lexer.specs.Bytes.{is_nil, is_digit, begins_with_digit}
use Rattle.rbs_lexer.specs.Words.{is_word_character, all_word, is_word, is_mark, is_marked, word_kind}
use Rattle.rbs_lexer.specs.Signs.{signs, operators}
use Rattle.rbs_lexer.specs.Places.{has_name}
use Rattle.rbs_lexer.specs.Lexing.{token, IsFront}
use Rattle.rbs_lexer.specs.Finds.{longer_len, longer, found_of, word_bytes, word_len, gap_len, string_len, backquoted_len, prefix_len, longest_of, longest_sign, operator_len, sign_front, special_front, number_front, any_word_len, word_of, word_front, marked_by, marked_len, word_behind, word_behind_two, variable_front, symbol_len, ordinary_front, numeric_len, method_name_len, front_at}
use Rattle.rbs_lexer.proofs.Finding.{Finds, if_true, if_false, and_left}
use Rattle.rbs_lexer.proofs.Skipping.{both}
use Rattle.rbs_lexer.proofs.Marked.{marked_found}
use Rattle.rbs_printer.proofs.Follow.{ends_word, has_mark}
use Rattle.rbs_printer.proofs.Starts.{is_front, by_place, named, no_annotation, chars_ascii, second_false, clash, not_false}

-- ---- the bytes that words begin with

-- a byte past ASCII, or of ASCII and in words
abbrev pub is_word_byte : ℕ → Bool
is_word_byte b = not (nat_lt b 128) || is_word_character b

-- an entry that begins with another byte
abbrev pub begins_apart : List ℕ → Bool
begins_apart [] = false
begins_apart (c ∷ cs) = not (is_word_byte c)

is_byte : (b c : ℕ) → (b == c) ≡ true → b ≡ c
is_byte b c h = grind (arith, nat_tests)

not_zero : (n : ℕ) → 0 < n → (n == 0) ≡ false
not_zero n h = grind (arith, nat_tests)

abbrev all_apart : List (List ℕ) → Bool
all_apart [] = true
all_apart (e ∷ es) = begins_apart e && all_apart es

abbrev all_signs_apart : List (List ℕ × Kind) → Bool
all_signs_apart [] = true
all_signs_apart (e ∷ es) = begins_apart e.0 && all_signs_apart es

module _ (b : ℕ) (bs : List ℕ) (w : is_word_byte b ≡ true) where
  pub not_byte : (c : ℕ) → is_word_byte c ≡ false → (b == c) ≡ false
  not_byte c n = go (b == c) refl
    where
      go : (t : Bool) → (b == c) ≡ t → t ≡ false
      go true e = absurd (clash (is_word_byte c) n (ap is_word_byte (sym (is_byte b c e)) ∙ w))
      go false e = refl

  pub byte_not : (c : ℕ) → is_word_byte c ≡ false → (c == b) ≡ false
  byte_not c n = go (c == b) refl
    where
      go : (t : Bool) → (c == b) ≡ t → t ≡ false
      go true e = absurd (clash (is_word_byte c) n (ap is_word_byte (is_byte c b e) ∙ w))
      go false e = refl

  no_prefix : (e : List ℕ) → begins_apart e ≡ true → prefix_len e (b ∷ bs) ≡ None
  no_prefix [] h = cc
  no_prefix (c ∷ cs) h = if_false (bytes_eq (c ∷ cs) (b ∷ take (length cs) bs)) (Some (suc (length cs))) None
      (and_left (c == b) (bytes_eq cs (take (length cs) bs)) (byte_not c (not_false (is_word_byte c) h)))

  no_entry : (table : List (List ℕ)) → all_apart table ≡ true → longest_of table (b ∷ bs) ≡ None
  no_entry [] h = refl
  no_entry (e ∷ es) h = let two = both (begins_apart e) (all_apart es) h in
      ap (λ o. longer_len o (longest_of es (b ∷ bs))) (no_prefix e two.0) ∙ no_entry es two.1

  no_sign_of : (table : List (List ℕ × Kind)) → all_signs_apart table ≡ true → longest_sign table (b ∷ bs) ≡ None
  no_sign_of [] h = refl
  no_sign_of (e ∷ es) h = let two = both (begins_apart e.0) (all_signs_apart es) h in
      ap (λ o. longer (found_of e.1 o) (longest_sign es (b ∷ bs))) (no_prefix e.0 two.0) ∙ no_sign_of es two.1

  pub no_operator : operator_len (b ∷ bs) ≡ None
  unfolding operator_len
  no_operator = no_entry operators refl

  no_sign : sign_front (b ∷ bs) ≡ None
  unfolding sign_front
  no_sign = no_sign_of signs refl

  pub no_string : string_len (b ∷ bs) ≡ None
  unfolding string_len
  no_string = rw (not_byte 34 refl, not_byte 39 refl) refl

  no_backquoted : backquoted_len (b ∷ bs) ≡ None
  unfolding backquoted_len
  no_backquoted = rw (not_byte 96 refl) refl

  no_gap : gap_len (b ∷ bs) ≡ None
  unfolding gap_len
  no_gap = rw (not_byte 35 refl, not_byte 32 refl, not_byte 9 refl, not_byte 10 refl, not_byte 13 refl) refl

  no_number : is_digit b ≡ false → number_front (b ∷ bs) ≡ None
  unfolding number_front
  no_number d = rw (not_byte 45 refl, d) refl

  no_symbol : symbol_len (b ∷ bs) ≡ None
  unfolding symbol_len
  no_symbol = rw (not_byte 58 refl) refl

  no_variable : variable_front (b ∷ bs) ≡ None
  unfolding variable_front word_behind word_behind_two
  no_variable = rw (not_byte 64 refl, not_byte 36 refl) refl

  longer_none : (o : Option Found) → longer o None ≡ o
  longer_none None = refl
  longer_none (Some f) = refl

  pub ordinary_word : is_digit b ≡ false → ordinary_front (b ∷ bs) ≡ word_front (b ∷ bs)
  unfolding ordinary_front
  ordinary_word d = rw (no_gap, no_annotation b bs (not_byte 37 refl), no_number d, no_string, no_symbol, no_variable, no_sign) (longer_none (word_front (b ∷ bs)))

  digit_no_word : is_digit b ≡ true → word_front (b ∷ bs) ≡ None
  unfolding word_front
  digit_no_word d = if_true (is_digit b) None (word_of (b ∷ bs) (any_word_len (b ∷ bs))) d

  -- what begins with a digit is a number alone
  pub ordinary_number : is_digit b ≡ true → ordinary_front (b ∷ bs) ≡ number_front (b ∷ bs)
  unfolding ordinary_front
  ordinary_number d = rw (no_gap, no_annotation b bs (not_byte 37 refl), digit_no_word d, no_string, no_symbol, no_variable, no_sign) (longer_none (number_front (b ∷ bs)))

-- ---- a word and what follows it

module _ (w : List ℕ) (h : is_word w ≡ true) where
  pub word_utf8 : IsUtf8 w
  unfolding is_word
  word_utf8 = IsUtf8-from_is_utf8 w (both (is_utf8 w) (all_word (chars w)) (both (not (is_nil w)) (is_utf8 w && all_word (chars w)) h).1).0

  word_all : all_word (chars w) ≡ true
  unfolding is_word
  word_all = (both (is_utf8 w) (all_word (chars w)) (both (not (is_nil w)) (is_utf8 w && all_word (chars w)) h).1).1

  word_some : is_nil w ≡ false
  unfolding is_word
  word_some = not_false (is_nil w) (both (not (is_nil w)) (is_utf8 w && all_word (chars w)) h).0

pub word_byte : (b : ℕ) (bs : List ℕ) → is_word (b ∷ bs) ≡ true → is_word_byte b ≡ true
word_byte b bs h = go (nat_lt b 128) refl
  where
    go : (t : Bool) → nat_lt b 128 ≡ t → (not t || is_word_character b) ≡ true
    go true e = (both (is_word_character b) (all_word (chars bs)) (ap all_word (sym (chars_ascii b bs (word_utf8 (b ∷ bs) h) e)) ∙ word_all (b ∷ bs) h)).0
    go false e = refl

-- the bytes of words' characters, before others
all_bytes : (cs es : List ℕ) → all_word cs ≡ true → word_bytes es ≡ 0 → word_bytes (cs ++ es) ≡ length (encode_utf8_all cs)
all_bytes [] es h e = e
all_bytes (c ∷ cs) es h e =
    let two = both (is_word_character c) (all_word cs) h in
    let more = all_bytes cs es two.1 e in
    let long = length-encode c in
    let sum = length-append (encode_utf8 c) (encode_utf8_all cs) in
    if_true (is_word_character c) (len_utf8 c + word_bytes (cs ++ es)) 0 two.0 ∙ omega arith

pub ends_bytes : (rest : List ℕ) → IsUtf8 rest → ends_word rest ≡ true → word_bytes (chars rest) ≡ 0
ends_bytes [] u h = ap word_bytes chars-nil
ends_bytes (b ∷ bs) u h =
    let two = both (nat_lt b 128) (not (is_word_character b)) h in
    ap word_bytes (chars_ascii b bs u two.0) ∙ if_false (is_word_character b) (len_utf8 b + word_bytes (chars bs)) 0 (not_false (is_word_character b) two.1)

pub slice_seam : (w rest : List ℕ) → slice_index (w ++ rest) (length w) ≡ slice_index rest 0
slice_seam [] rest = refl
slice_seam (b ∷ bs) rest = slice_seam bs rest

any_mark : (x y z e : Bool) → (x || (y || z)) ≡ false → (x || y || (z && e)) ≡ false
any_mark true y z e h = cc
any_mark false true z e h = cc
any_mark false false true e h = cc
any_mark false false false e h = refl

no_mark : (equals : Bool) (rest : List ℕ) → has_mark rest ≡ false → is_mark equals (slice_index rest 0) ≡ false
no_mark equals [] h = refl
no_mark equals (b ∷ bs) h = any_mark (b == 63) (b == 33) (b == 61) equals h

module _ (w rest : List ℕ) (h : is_word w ≡ true) (u : IsUtf8 rest) (e : word_bytes (chars rest) ≡ 0) where
  pub text_utf8 : IsUtf8 (w ++ rest)
  text_utf8 = IsUtf8-append w rest (word_utf8 w h) u

  word_len_is : word_len (w ++ rest) ≡ length w
  word_len_is = ap word_bytes (chars-append w rest (word_utf8 w h)) ∙ all_bytes (chars w) (chars rest) (word_all w h) e ∙ ap length (encodes-chars w (word_utf8 w h))

  pub any_word_is : any_word_len (w ++ rest) ≡ Some (length w)
  unfolding any_word_len
  any_word_is = ap (λ n. if n == 0 then None else Some n) word_len_is ∙ go w (word_some w h)
    where
      go : (w : List ℕ) → is_nil w ≡ false → (if length w == 0 then None else Some (length w)) ≡ Some (length w)
      go [] n = cc
      go (b ∷ bs) n = if_false (length (b ∷ bs) == 0) None (Some (length (b ∷ bs))) (not_zero (length (b ∷ bs)) (omega arith))

  pub no_marked : (equals : Bool) → has_mark rest ≡ false → marked_len equals (w ++ rest) ≡ None
  unfolding marked_len
  no_marked equals m = ap (marked_by equals (w ++ rest)) any_word_is
      ∙ if_false (is_mark equals (slice_index (w ++ rest) (length w))) (Some (length w + 1)) None (ap (is_mark equals) (slice_seam w rest) ∙ no_mark equals rest m)

-- ---- the name `self?`

mark_of_self : is_marked true (codes "self?") ≡ true
unfolding is_marked is_word is_utf8 chars encode_utf8
mark_of_self = refl

-- a text none of whose fronts is a word with a mark doesn't begin with it
no_self : (text : List ℕ) → IsUtf8 text → marked_len true text ≡ None → prefix_len (codes "self?") text ≡ None
no_self text u m = if_false (bytes_eq (codes "self?") (take 5 text)) (Some 5) None (go (bytes_eq (codes "self?") (take 5 text)) refl)
  where
    none : (n : ℕ) → n ≤ length text → is_marked true (take n text) ≡ false
    none = subst (λ (o : Option ℕ). Finds (λ run next. is_marked true run) text o) m (marked_found text u (λ next. true))

    go : (t : Bool) → bytes_eq (codes "self?") (take 5 text) ≡ t → t ≡ false
    go true e =
        let same : codes "self?" ≡ take 5 text = (bytes_eq-Decides (codes "self?") (take 5 text)).0 e in
        let size : 5 ≡ length (take 5 text) = ap length same in
        let taken = length-take 5 text in
        absurd (clash (is_marked true (take 5 text)) (none 5 (omega arith)) (ap (is_marked true) (sym same) ∙ mark_of_self))
    go false e = refl

-- ---- a word is a token

module _ (b : ℕ) (bs rest : List ℕ) (h : is_word (b ∷ bs) ≡ true) (d : is_digit b ≡ false) (u : IsUtf8 rest) (e : ends_word rest ≡ true) where
  front_word : word_front ((b ∷ bs) ++ rest) ≡ Some (record { reading = Token (word_kind (b ∷ bs)); len = length (b ∷ bs) })
  unfolding word_front
  front_word = if_false (is_digit b) None (word_of ((b ∷ bs) ++ rest) (any_word_len ((b ∷ bs) ++ rest))) d
      ∙ ap (word_of ((b ∷ bs) ++ rest)) (any_word_is (b ∷ bs) rest h u (ends_bytes rest u e))
      ∙ ap (λ l. Some (record { reading = Token (word_kind l); len = length (b ∷ bs) })) (take-append_seam (b ∷ bs) rest)

  no_special : has_mark rest ≡ false → special_front ((b ∷ bs) ++ rest) ≡ None
  unfolding special_front
  no_special m = rw (
    no_prefix b (bs ++ rest) (word_byte b bs h) (codes "|") refl,
    no_prefix b (bs ++ rest) (word_byte b bs h) (codes "&") refl,
    no_self ((b ∷ bs) ++ rest) (text_utf8 (b ∷ bs) rest h u (ends_bytes rest u e)) (no_marked (b ∷ bs) rest h u (ends_bytes rest u e) true m),
  ) refl

  no_numeric : numeric_len ((b ∷ bs) ++ rest) ≡ None
  no_numeric = if_false (is_digit b) (any_word_len ((b ∷ bs) ++ rest)) None d

  no_method_name : (equals : Bool) → has_mark rest ≡ false → method_name_len equals ((b ∷ bs) ++ rest) ≡ None
  unfolding method_name_len
  no_method_name equals m = rw (no_marked (b ∷ bs) rest h u (ends_bytes rest u e) equals m, no_numeric, no_operator b (bs ++ rest) (word_byte b bs h), no_backquoted b (bs ++ rest) (word_byte b bs h)) refl

  not_named : (equals : Bool) → has_mark rest ≡ false → (o : Option Found) → named equals ((b ∷ bs) ++ rest) o ≡ o
  not_named equals m o = rw (no_special m, no_method_name equals m) refl

  found_word : (place : Place) → (has_name place && has_mark rest) ≡ false → front_at place ((b ∷ bs) ++ rest) ≡ Some (record { reading = Token (word_kind (b ∷ bs)); len = length (b ∷ bs) })
  found_word place m = by_place place ((b ∷ bs) ++ rest) (Some (record { reading = Token (word_kind (b ∷ bs)); len = length (b ∷ bs) }))
      (ordinary_word b (bs ++ rest) (word_byte b bs h) d ∙ front_word)
      (λ p equals. not_named equals (second_false (has_name place) (has_mark rest) m p) (Some (record { reading = Token (word_kind (b ∷ bs)); len = length (b ∷ bs) })))

pub no_empty_word : is_word [] ≡ true → ⊥
unfolding is_word
no_empty_word h = cc

pub word_is_front : (place : Place) (w rest : List ℕ) → is_word w ≡ true → begins_with_digit w ≡ false → IsUtf8 rest → ends_word rest ≡ true → (has_name place && has_mark rest) ≡ false
    → IsFront place (w ++ rest) (token (word_kind w) w)
word_is_front place [] rest h d u e m = absurd (no_empty_word h)
word_is_front place (b ∷ bs) rest h d u e m = is_front place (token (word_kind (b ∷ bs)) (b ∷ bs)) rest (text_utf8 (b ∷ bs) rest h u (ends_bytes rest u e)) (found_word b bs rest h d u e place m)
