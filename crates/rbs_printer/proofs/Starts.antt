-- What a text begins with, by the parts of the lexer's finder.
use Rattle.std.proofs.Common.{◌≡◌, ℕ, ◌+◌, ◌<◌, ◌==◌, nat_lt, Bool, true, false, ◌&&◌, List, [], ◌∷◌, ◌++◌, length, Option, Some, None, refl, sym, ◌∙◌, ap, arith}
use Rattle.std.specs.Prelude.{if◌then◌else◌, not}
use Rattle.std.specs.Str.{IsUtf8, chars}
use Rattle.std.specs.Char.{len_utf8}
use Rattle.std.proofs.lemmas.Bool.Decides.{nat_tests}
use Rattle.std.proofs.lemmas.Str.{IsUtf8-append, IsUtf8-from_ascii, chars_past_char, encode_ascii}
use Rattle.std.proofs.Math.Seq.{take-append_seam}
use Rattle.rbs_lexer.specs.declared.kind.Kind.TheVariants as k
use Rattle.rbs_lexer.specs.declared.place.Place.{Place}
use Rattle.rbs_lexer.specs.declared.reading.Found.{Found}
use Rattle.rbs_lexer.specs.Bytes.{begins_with_digit}
use Rattle.rbs_lexer.specs.Words.{is_word_character}
use Rattle.rbs_lexer.specs.Places.{has_name}
use Rattle.rbs_lexer.specs.Lexing.{Longest, Piece, bytes_of, reading_of, IsFront}
use Rattle.rbs_lexer.specs.Finds.{name_front, longer_len, longer, found_of, skipped, word_bytes, word_len, gap_len, annotation_front, string_len, backquoted_len, operator_len, sign_front, special_front, number_front, any_word_len, word_of, word_front, marked_by, marked_len, variable_front, symbol_name_len, symbol_len, ordinary_front, numeric_len, method_name_len, takes_it, front_at}
use Rattle.rbs_lexer.proofs.Finding.{if_false, and_left}
use Rattle.rbs_lexer.proofs.Skipping.{all_ascii, ascii_is, both}
use Rattle.rbs_lexer.proofs.Cutting.{front_longest}

-- ---- what is found is a piece

pub is_front : (place : Place) (p : Piece) (rest : List ℕ) → IsUtf8 (bytes_of p ++ rest)
    → front_at place (bytes_of p ++ rest) ≡ Some (record { reading = reading_of p; len = length (bytes_of p) }) → IsFront place (bytes_of p ++ rest) p
is_front place p rest u e =
    let l = front_longest place (bytes_of p ++ rest) (record { reading = reading_of p; len = length (bytes_of p) }) u (sym e) in
    let longest : Longest place (bytes_of p ++ rest) (reading_of p) (length (bytes_of p)) = record { within = l.within; reads = l.reads; longest = l.longest } in
    record { longest = longest; bytes = sym (take-append_seam (bytes_of p) rest) }

-- bytes of ASCII before a text
pub ascii_before : (sign rest : List ℕ) → all_ascii sign ≡ true → IsUtf8 rest → IsUtf8 (sign ++ rest)
ascii_before sign rest a u = IsUtf8-append sign rest (IsUtf8-from_ascii sign (ascii_is sign a)) u

-- ---- by the place

pub clash : (b : Bool) → b ≡ false → b ≡ true → ⊥
clash b p q = cc

pub second_false : (a b : Bool) → (a && b) ≡ false → a ≡ true → b ≡ false
second_false true b h e = h
second_false false b h e = cc

-- what is found where a name may stand, before what may stand anywhere
abbrev pub named : Bool → List ℕ → Option Found → Option Found
named equals text o = longer (special_front text) (longer (found_of k.MethodName (method_name_len equals text)) o)

pub by_place : (place : Place) (text : List ℕ) (o : Option Found) → ordinary_front text ≡ o → (has_name place ≡ true → (equals : Bool) → named equals text o ≡ o) → front_at place text ≡ o
unfolding front_at name_front
by_place place text o e n = go (has_name place) refl
  where
    go : (t : Bool) → has_name place ≡ t → (if t then named (takes_it place text) text (ordinary_front text) else ordinary_front text) ≡ o
    go true h = ap (named (takes_it place text) text) e ∙ n h (takes_it place text)
    go false h = e

-- ---- by the first byte, where it is of ASCII and in no word

-- whether a byte is of ASCII and in no word
abbrev pub is_apart : ℕ → Bool
is_apart b = nat_lt b 128 && not (is_word_character b)

pub not_false : (t : Bool) → not t ≡ true → t ≡ false
not_false true h = cc
not_false false h = refl

pub low_is : (b : ℕ) → nat_lt b 128 ≡ true → b < 128
low_is b h = grind (arith, nat_tests)

pub no_annotation : (b : ℕ) (bs : List ℕ) → (b == 37) ≡ false → annotation_front (b ∷ bs) ≡ None
unfolding annotation_front
no_annotation b [] h = refl
no_annotation b (c ∷ []) h = refl
no_annotation b (c ∷ d ∷ bs) h = if_false _ _ _ (and_left (b == 37) (c == 97) h)

-- the characters of a text that begins with a byte of ASCII
pub chars_ascii : (b : ℕ) (bs : List ℕ) → IsUtf8 (b ∷ bs) → nat_lt b 128 ≡ true → chars (b ∷ bs) ≡ b ∷ chars bs
chars_ascii b bs u h = chars_past_char (b ∷ bs) bs b u (ap (λ l. l ++ bs) (sym (encode_ascii b (low_is b h))))

-- what may stand anywhere, where no word begins
abbrev pub apart : List ℕ → Option Found
apart text = longer (skipped (gap_len text)) (longer (number_front text) (longer (found_of k.String (string_len text)) (longer (found_of k.Symbol (symbol_len text)) (longer (variable_front text) (sign_front text)))))

-- what only a name can be, where no word begins
abbrev pub named_apart : List ℕ → Option Found → Option Found
named_apart text o = longer (special_front text) (longer (found_of k.MethodName (longer_len (operator_len text) (backquoted_len text))) o)

module _ (b : ℕ) (bs : List ℕ) (u : IsUtf8 (b ∷ bs)) (s : is_apart b ≡ true) where
  no_word_len : word_len (b ∷ bs) ≡ 0
  no_word_len = let two = both (nat_lt b 128) (not (is_word_character b)) s in
      ap word_bytes (chars_ascii b bs u two.0) ∙ if_false (is_word_character b) (len_utf8 b + word_bytes (chars bs)) 0 (not_false (is_word_character b) two.1)

  no_any_word : any_word_len (b ∷ bs) ≡ None
  unfolding any_word_len
  no_any_word = ap (λ n. if n == 0 then None else Some n) no_word_len

  no_word : word_front (b ∷ bs) ≡ None
  unfolding word_front
  no_word = ap (λ o. if begins_with_digit (b ∷ bs) then None else word_of (b ∷ bs) o) no_any_word ∙ go (begins_with_digit (b ∷ bs))
    where
      go : (t : Bool) → (if t then None else word_of (b ∷ bs) None) ≡ None
      go true = refl
      go false = refl

  no_marked : (equals : Bool) → marked_len equals (b ∷ bs) ≡ None
  unfolding marked_len
  no_marked equals = ap (marked_by equals (b ∷ bs)) no_any_word

  no_numeric : numeric_len (b ∷ bs) ≡ None
  no_numeric = ap (λ o. if begins_with_digit (b ∷ bs) then o else None) no_any_word ∙ go (begins_with_digit (b ∷ bs))
    where
      go : (t : Bool) → ◌≡◌ {A = Option ℕ} (if t then None else None) None
      go true = refl
      go false = refl

  ordinary_apart : (b == 37) ≡ false → ordinary_front (b ∷ bs) ≡ apart (b ∷ bs)
  unfolding ordinary_front
  ordinary_apart n = rw (no_annotation b bs n, no_word) refl

  method_name_apart : (equals : Bool) → method_name_len equals (b ∷ bs) ≡ longer_len (operator_len (b ∷ bs)) (backquoted_len (b ∷ bs))
  unfolding method_name_len
  method_name_apart equals = rw (no_marked equals, no_numeric) refl

  pub symbol_name_apart : symbol_name_len (b ∷ bs) ≡ longer_len (operator_len (b ∷ bs)) (string_len (b ∷ bs))
  unfolding symbol_name_len
  symbol_name_apart = rw (no_any_word, no_marked true) refl

  pub found_apart : (b == 37) ≡ false → (place : Place) (o : Option Found) → apart (b ∷ bs) ≡ o → (has_name place ≡ true → named_apart (b ∷ bs) o ≡ o) → front_at place (b ∷ bs) ≡ o
  found_apart n place o e m = by_place place (b ∷ bs) o (ordinary_apart n ∙ e)
      (λ h equals. ap (λ l. longer (special_front (b ∷ bs)) (longer (found_of k.MethodName l) o)) (method_name_apart equals) ∙ m h)
