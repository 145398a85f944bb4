-- Blanks and signs are read where they are printed.
use Rattle.std.proofs.Common.{◌≡◌, ℕ, ◌+◌, ◌==◌, false, ◌&&◌, List, [], ◌∷◌, ◌++◌, Some, None, refl, ap, arith}
use Rattle.std.specs.Prelude.{codes}
use Rattle.std.specs.Str.{IsUtf8}
use Rattle.std.proofs.lemmas.Bool.Decides.{nat_tests}
use Rattle.rbs_lexer.specs.declared.kind.Kind.TheVariants as k
use Rattle.rbs_lexer.specs.declared.place.Place.{Place}
use Rattle.rbs_lexer.specs.declared.reading.Reading.TheVariants.{Token, Skipped}
use Rattle.rbs_lexer.specs.declared.reading.Found.{Found}
use Rattle.rbs_lexer.specs.Bytes.{is_blank, first_is, begins_with}
use Rattle.rbs_lexer.specs.Places.{has_name}
use Rattle.rbs_lexer.specs.Lexing.{token, gap, IsFront}
use Rattle.rbs_lexer.specs.Finds.{longer_by, longer_len, longer, skipped, found_of, gap_len, blanks_len, string_len, backquoted_len, operator_len, sign_front, special_front, number_front, word_behind, word_behind_two, variable_front, symbol_name_len, symbol_len}
use Rattle.rbs_printer.proofs.Starts.{is_front, ascii_before, found_apart, symbol_name_apart, second_false, clash}

-- ---- blanks

no_blanks : (rest : List ℕ) → first_is is_blank rest ≡ false → blanks_len rest ≡ 0
no_blanks [] h = refl
no_blanks (b ∷ bs) h = rw h refl

pub blank_is_front : (place : Place) (rest : List ℕ) → IsUtf8 rest → first_is is_blank rest ≡ false → IsFront place (codes " " ++ rest) (gap (codes " "))
unfolding gap_len number_front string_len symbol_len variable_front word_behind word_behind_two sign_front special_front operator_len backquoted_len
blank_is_front place rest u h =
    let t = ascii_before (codes " ") rest refl u in
    is_front place (gap (codes " ")) rest t (found_apart 32 rest t refl refl place (Some (record { reading = Skipped; len = 1 }))
    (ap (λ n. skipped (Some (1 + n))) (no_blanks rest h)) (λ h. refl))

-- ---- signs of one meaning

module _ (place : Place) (rest : List ℕ) (u : IsUtf8 rest) where
  pub left_paren_is_front : IsFront place (codes "(" ++ rest) (token k.LeftParen (codes "("))
  unfolding gap_len number_front string_len symbol_len variable_front word_behind word_behind_two sign_front special_front operator_len backquoted_len
  left_paren_is_front =
      let t = ascii_before (codes "(") rest refl u in
      is_front place (token k.LeftParen (codes "(")) rest t (found_apart 40 rest t refl refl place (Some (record { reading = Token k.LeftParen; len = 1 })) refl (λ h. refl))

  pub right_paren_is_front : IsFront place (codes ")" ++ rest) (token k.RightParen (codes ")"))
  unfolding gap_len number_front string_len symbol_len variable_front word_behind word_behind_two sign_front special_front operator_len backquoted_len
  right_paren_is_front =
      let t = ascii_before (codes ")") rest refl u in
      is_front place (token k.RightParen (codes ")")) rest t (found_apart 41 rest t refl refl place (Some (record { reading = Token k.RightParen; len = 1 })) refl (λ h. refl))

  pub right_bracket_is_front : IsFront place (codes "]" ++ rest) (token k.RightBracket (codes "]"))
  unfolding gap_len number_front string_len symbol_len variable_front word_behind word_behind_two sign_front special_front operator_len backquoted_len
  right_bracket_is_front =
      let t = ascii_before (codes "]") rest refl u in
      is_front place (token k.RightBracket (codes "]")) rest t (found_apart 93 rest t refl refl place (Some (record { reading = Token k.RightBracket; len = 1 })) refl (λ h. refl))

  pub left_brace_is_front : IsFront place (codes "{" ++ rest) (token k.LeftBrace (codes "{"))
  unfolding gap_len number_front string_len symbol_len variable_front word_behind word_behind_two sign_front special_front operator_len backquoted_len
  left_brace_is_front =
      let t = ascii_before (codes "{") rest refl u in
      is_front place (token k.LeftBrace (codes "{")) rest t (found_apart 123 rest t refl refl place (Some (record { reading = Token k.LeftBrace; len = 1 })) refl (λ h. refl))

  pub right_brace_is_front : IsFront place (codes "}" ++ rest) (token k.RightBrace (codes "}"))
  unfolding gap_len number_front string_len symbol_len variable_front word_behind word_behind_two sign_front special_front operator_len backquoted_len
  right_brace_is_front =
      let t = ascii_before (codes "}") rest refl u in
      is_front place (token k.RightBrace (codes "}")) rest t (found_apart 125 rest t refl refl place (Some (record { reading = Token k.RightBrace; len = 1 })) refl (λ h. refl))

  pub comma_is_front : IsFront place (codes "," ++ rest) (token k.Comma (codes ","))
  unfolding gap_len number_front string_len symbol_len variable_front word_behind word_behind_two sign_front special_front operator_len backquoted_len
  comma_is_front =
      let t = ascii_before (codes ",") rest refl u in
      is_front place (token k.Comma (codes ",")) rest t (found_apart 44 rest t refl refl place (Some (record { reading = Token k.Comma; len = 1 })) refl (λ h. refl))

  pub question_is_front : IsFront place (codes "?" ++ rest) (token k.Question (codes "?"))
  unfolding gap_len number_front string_len symbol_len variable_front word_behind word_behind_two sign_front special_front operator_len backquoted_len
  question_is_front =
      let t = ascii_before (codes "?") rest refl u in
      is_front place (token k.Question (codes "?")) rest t (found_apart 63 rest t refl refl place (Some (record { reading = Token k.Question; len = 1 })) refl (λ h. refl))

  pub colons_is_front : IsFront place (codes "::" ++ rest) (token k.ColonColon (codes "::"))
  unfolding gap_len number_front string_len symbol_len variable_front word_behind word_behind_two sign_front special_front operator_len backquoted_len
  colons_is_front =
      let t = ascii_before (codes "::") rest refl u in
      let none : symbol_name_len (58 ∷ rest) ≡ None = symbol_name_apart 58 rest (ascii_before (codes ":") rest refl u) refl in
      is_front place (token k.ColonColon (codes "::")) rest t (found_apart 58 (58 ∷ rest) t refl refl place (Some (record { reading = Token k.ColonColon; len = 2 }))
      (ap (λ o. longer (found_of k.Symbol (longer_by 1 o)) (sign_front (58 ∷ 58 ∷ rest))) none) (λ h. refl))

  -- ---- signs before a blank

  pub colon_is_front : IsFront place (codes ":" ++ (codes " " ++ rest)) (token k.Colon (codes ":"))
  unfolding gap_len number_front string_len symbol_len variable_front word_behind word_behind_two sign_front special_front operator_len backquoted_len
  colon_is_front =
      let v = ascii_before (codes " ") rest refl u in
      let t = ascii_before (codes ":") (codes " " ++ rest) refl v in
      let none : symbol_name_len (32 ∷ rest) ≡ None = symbol_name_apart 32 rest v refl in
      is_front place (token k.Colon (codes ":")) (codes " " ++ rest) t (found_apart 58 (32 ∷ rest) t refl refl place (Some (record { reading = Token k.Colon; len = 1 }))
      (ap (λ o. longer (found_of k.Symbol (longer_by 1 o)) (sign_front (58 ∷ 32 ∷ rest))) none) (λ h. refl))

  pub arrow_is_front : IsFront place (codes "->" ++ (codes " " ++ rest)) (token k.Arrow (codes "->"))
  unfolding gap_len number_front string_len symbol_len variable_front word_behind word_behind_two sign_front special_front operator_len backquoted_len
  arrow_is_front =
      let t = ascii_before (codes "->") (codes " " ++ rest) refl (ascii_before (codes " ") rest refl u) in
      is_front place (token k.Arrow (codes "->")) (codes " " ++ rest) t
      (found_apart 45 (62 ∷ 32 ∷ rest) t refl refl place (Some (record { reading = Token k.Arrow; len = 2 })) refl (λ h. refl))

  pub bar_is_front : IsFront place (codes "|" ++ (codes " " ++ rest)) (token k.Bar (codes "|"))
  unfolding gap_len number_front string_len symbol_len variable_front word_behind word_behind_two sign_front special_front operator_len backquoted_len
  bar_is_front =
      let t = ascii_before (codes "|") (codes " " ++ rest) refl (ascii_before (codes " ") rest refl u) in
      is_front place (token k.Bar (codes "|")) (codes " " ++ rest) t
      (found_apart 124 (32 ∷ rest) t refl refl place (Some (record { reading = Token k.Bar; len = 1 })) refl (λ h. refl))

  pub ampersand_is_front : IsFront place (codes "&" ++ (codes " " ++ rest)) (token k.Ampersand (codes "&"))
  unfolding gap_len number_front string_len symbol_len variable_front word_behind word_behind_two sign_front special_front operator_len backquoted_len
  ampersand_is_front =
      let t = ascii_before (codes "&") (codes " " ++ rest) refl (ascii_before (codes " ") rest refl u) in
      is_front place (token k.Ampersand (codes "&")) (codes " " ++ rest) t
      (found_apart 38 (32 ∷ rest) t refl refl place (Some (record { reading = Token k.Ampersand; len = 1 })) refl (λ h. refl))

-- ---- signs of two meanings

other_byte : (b c : ℕ) → (b == c) ≡ false → (c == b) ≡ false
other_byte b c h = grind (arith, nat_tests)

no_operator : (rest : List ℕ) → begins_with 93 rest ≡ false → operator_len (91 ∷ rest) ≡ None
unfolding operator_len
no_operator [] h = refl
no_operator (b ∷ bs) h = rw (other_byte b 93 h) refl

pub left_bracket_is_front : (place : Place) (rest : List ℕ) → IsUtf8 rest → (has_name place && begins_with 93 rest) ≡ false → IsFront place (codes "[" ++ rest) (token k.LeftBracket (codes "["))
unfolding gap_len number_front string_len symbol_len variable_front word_behind word_behind_two sign_front special_front backquoted_len
left_bracket_is_front place rest u n =
    let t = ascii_before (codes "[") rest refl u in
    let f : Found = record { reading = Token k.LeftBracket; len = 1 } in
    is_front place (token k.LeftBracket (codes "[")) rest t (found_apart 91 rest t refl refl place (Some f) refl
    (λ h. ap (λ o. longer (found_of k.MethodName (longer_len o None)) (Some f)) (no_operator rest (second_false (has_name place) (begins_with 93 rest) n h))))

no_double : (rest : List ℕ) → begins_with 42 rest ≡ false → sign_front (42 ∷ rest) ≡ Some (record { reading = Token k.Star; len = 1 })
unfolding sign_front
no_double [] h = refl
no_double (b ∷ bs) h = rw (other_byte b 42 h) refl

pub star_is_front : (place : Place) (rest : List ℕ) → IsUtf8 rest → has_name place ≡ false → begins_with 42 rest ≡ false → IsFront place (codes "*" ++ rest) (token k.Star (codes "*"))
unfolding gap_len number_front string_len symbol_len variable_front word_behind word_behind_two
star_is_front place rest u n h =
    let t = ascii_before (codes "*") rest refl u in
    is_front place (token k.Star (codes "*")) rest t (found_apart 42 rest t refl refl place (Some (record { reading = Token k.Star; len = 1 })) (no_double rest h) (λ g. absurd (clash (has_name place) n g)))

pub star_star_is_front : (place : Place) (rest : List ℕ) → IsUtf8 rest → has_name place ≡ false → IsFront place (codes "**" ++ rest) (token k.StarStar (codes "**"))
unfolding gap_len number_front string_len symbol_len variable_front word_behind word_behind_two sign_front
star_star_is_front place rest u n =
    let t = ascii_before (codes "**") rest refl u in
    is_front place (token k.StarStar (codes "**")) rest t
    (found_apart 42 (42 ∷ rest) t refl refl place (Some (record { reading = Token k.StarStar; len = 2 })) refl (λ g. absurd (clash (has_name place) n g)))

pub caret_is_front : (place : Place) (rest : List ℕ) → IsUtf8 rest → has_name place ≡ false → IsFront place (codes "^" ++ rest) (token k.Caret (codes "^"))
unfolding gap_len number_front string_len symbol_len variable_front word_behind word_behind_two sign_front
caret_is_front place rest u n =
    let t = ascii_before (codes "^") rest refl u in
    is_front place (token k.Caret (codes "^")) rest t
    (found_apart 94 rest t refl refl place (Some (record { reading = Token k.Caret; len = 1 })) refl (λ g. absurd (clash (has_name place) n g)))
