-- A walk over the characters of a word.
use Rattle.std.proofs.Common.{◌≡◌, ℕ, ◌+◌, ◌^◌, ◌<◌, ◌≤◌, Bool, true, false, List, [], ◌∷◌, ◌++◌, length, drop, refl, sym, ◌∙◌, ap, subst, arith, length-append, length-drop, ◌-◌}
use Rattle.std.specs.Prelude.{if◌then◌else◌}
use Rattle.std.specs.Str.{IsUtf8, IsCharBoundary, chars}
use Rattle.std.specs.Char.{encode_utf8, len_utf8}
use Rattle.std.proofs.lemmas.Str.{chars_past_char, IsUtf8-drop, drop_past_char, IsCharBoundary-past_char, length-encode, chars-nil, IsCharBoundary-start}
use Rattle.rbs_lexer.specs.Words.{is_word_character}
use Rattle.rbs_lexer.specs.Finds.{word_bytes, word_len}

-- Where a walk over a text stands, i bytes on, before the rest.
pub record Stands (text : List ℕ) (i : ℕ) (rest : List ℕ) : Type 0 where
  pub fits : i + length rest < 2 ^ 64
  pub left : rest ≡ drop i text
  pub boundary : IsCharBoundary text i
  pub value : i + word_bytes (chars rest) ≡ word_len text

module _ (text : List ℕ) (i : ℕ) (rest next : List ℕ) (c : ℕ) (u : IsUtf8 text) (s : Stands text i rest) (split : rest ≡ encode_utf8 c ++ next) where
  rest_utf8 : IsUtf8 rest
  rest_utf8 = subst IsUtf8 (sym s.left) (IsUtf8-drop text i u s.boundary)

  next_bytes : word_bytes (chars rest) ≡ (if is_word_character c then len_utf8 c + word_bytes (chars next) else 0)
  next_bytes = ap word_bytes (chars_past_char rest next c rest_utf8 split)

  pub stops : is_word_character c ≡ false → i ≡ word_len text
  stops e =
      let none : word_bytes (chars rest) ≡ 0 = next_bytes ∙ ap (λ (t : Bool). if t then len_utf8 c + word_bytes (chars next) else 0) e in
      let v = s.value in
      omega arith

  pub goes : (j : ℕ) → j ≡ i + length (encode_utf8 c) → is_word_character c ≡ true → Stands text j next
  goes j at e =
      let more : word_bytes (chars rest) ≡ len_utf8 c + word_bytes (chars next) = next_bytes ∙ ap (λ (t : Bool). if t then len_utf8 c + word_bytes (chars next) else 0) e in
      let long = length-encode c in
      let v = s.value in
      let fits = s.fits in
      let sizes : length rest ≡ length (encode_utf8 c) + length next = ap length split ∙ length-append (encode_utf8 c) next in
      let j_is : j ≡ i + len_utf8 c = omega arith in
      let front : drop i text ≡ encode_utf8 c ++ next = sym s.left ∙ split in
      record {
        fits = omega arith;
        left = sym (subst (λ n. drop n text ≡ next) (sym j_is) (drop_past_char text next i c front));
        boundary = subst (IsCharBoundary text) (sym j_is) (IsCharBoundary-past_char text next i c s.boundary.0 (IsUtf8-drop text i u s.boundary) front);
        value = omega arith;
      }

pub starts : (text : List ℕ) (i : ℕ) (rest : List ℕ) → length text < 2 ^ 64 → IsUtf8 text → i ≡ 0 → rest ≡ text → Stands text i rest
starts text i rest l u e r = subst (λ n. Stands text n rest) (sym e) (subst (Stands text 0) (sym r) (record { fits = omega arith; left = refl; boundary = IsCharBoundary-start text u; value = omega arith }))

pub ends : (text : List ℕ) (i : ℕ) (rest : List ℕ) → Stands text i rest → length rest ≡ 0 → length text ≡ word_len text
ends text i [] s e =
    let v = s.value in
    let none : word_bytes (chars []) ≡ 0 = ap word_bytes chars-nil in
    let all : 0 ≡ length text - i = ap length s.left ∙ length-drop i text in
    let within : i ≤ length text = s.boundary.0 in
    omega arith
ends text i (b ∷ rest) s e = absurd (omega arith)
