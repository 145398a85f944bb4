-- What begins with a letter is a word, what begins with a blank or `#` is skipped, and what begins with most signs is one.
use Rattle.std.proofs.Common.{◌≡◌, ℕ, ◌<◌, ◌==◌, ◌-◌, ◌^◌, nat_lt, Bool, true, false, not, ◌&&◌, ◌||◌, List, [], ◌∷◌, length, take, Option, Some, None, refl, sym, ◌∙◌, ap, subst, arith}
use Rattle.std.specs.Prelude.{if◌then◌else◌, bytes_eq}
use Rattle.std.proofs.lemmas.Bool.Decides.{nat_tests}
use Rattle.std.proofs.lemmas.Slice.Eq.{bytes_eq-Decides}
use Rattle.rbs_lexer.specs.declared.kind.Kind.{Kind}
use Rattle.rbs_lexer.specs.declared.reading.Found.{Found}
use Rattle.rbs_lexer.specs.declared.kind.Kind.TheVariants as k
use Rattle.rbs_lexer.specs.declared.reading.Reading.TheVariants.{Token}
use Rattle.rbs_lexer.specs.Bytes.{is_blank, is_letter, is_digit, first_is, begins_with}
use Rattle.rbs_lexer.specs.Words.{is_word_character}
use Rattle.rbs_lexer.specs.declared.place.Place.{Place}
use Rattle.rbs_lexer.specs.Places.{has_name}
use Rattle.rbs_lexer.specs.Signs.{signs, special_names, operators}
use Rattle.rbs_lexer.specs.Finds.{longer_by, longer_len, longest_of, any_word_len, word_of, marked_by, marked_len, symbol_name_len, operator_len, numeric_len, backquoted_len, special_front, method_name_len, takes_it, name_front, front_at, begins_gap, begins_sign, begins_sign_by, sign_alone, longer, found_of, skipped, gap_len, annotation_front, sized_front, number_front, string_len, symbol_len, word_behind, word_behind_two, variable_front, word_front, prefix_len, longest_sign, sign_front, ordinary_front}
use Rattle.rbs_lexer.proofs.Finding.{if_false, and_left, is_byte}
use Rattle.rbs_lexer.proofs.Keywords.{differ}
use Rattle.rbs_lexer.proofs.Skipping.{both}
use Rattle.rbs_lexer.proofs.Below.{every_below, below_holds, implied, not_false}
use Rattle.rbs_lexer.proofs.PlainWords.{no_character}

-- ---- no sign begins so

abbrev begins_so : ℕ → List ℕ → Bool
begins_so b [] = true
begins_so b (c ∷ cs) = c == b

-- no entry of the table begins with the byte, and none is empty
abbrev none_begins : ℕ → List (List ℕ × Kind) → Bool
none_begins b [] = true
none_begins b (e ∷ es) = not (begins_so b e.0) && none_begins b es

heads : (c b : ℕ) (cs bs : List ℕ) → c ∷ cs ≡ b ∷ bs → c ≡ b
heads c b cs bs h = cc

same_test : (c b : ℕ) → c ≡ b → (c == b) ≡ true
same_test c b h = grind (arith, nat_tests)

true≢false : ◌≡◌ {A = Bool} true false → ⊥
true≢false h = cc

prefix_none : (e : List ℕ) (b : ℕ) (bs : List ℕ) → begins_so b e ≡ false → prefix_len e (b ∷ bs) ≡ None
prefix_none [] b bs h = cc
prefix_none (c ∷ cs) b bs h = if_false _ _ _ (go (bytes_eq (c ∷ cs) (b ∷ take (length cs) bs)) refl)
  where
    go : (t : Bool) → bytes_eq (c ∷ cs) (b ∷ take (length cs) bs) ≡ t → t ≡ false
    go true e = absurd (true≢false (sym (same_test c b (heads c b cs (take (length cs) bs) ((bytes_eq-Decides (c ∷ cs) (b ∷ take (length cs) bs)).0 e))) ∙ h))
    go false e = refl

no_entry : (table : List (List ℕ × Kind)) (b : ℕ) (bs : List ℕ) → none_begins b table ≡ true → longest_sign table (b ∷ bs) ≡ None
no_entry [] b bs h = refl
no_entry (e ∷ es) b bs h =
    let two = both _ _ h in
    ap (λ (o : Option ℕ). longer (found_of e.1 o) (longest_sign es (b ∷ bs))) (prefix_none e.0 b bs (not_false _ two.0)) ∙ no_entry es b bs two.1

-- the same for a table without kinds
abbrev none_starts : ℕ → List (List ℕ) → Bool
none_starts b [] = true
none_starts b (e ∷ es) = not (begins_so b e) && none_starts b es

no_prefix : (table : List (List ℕ)) (b : ℕ) (bs : List ℕ) → none_starts b table ≡ true → longest_of table (b ∷ bs) ≡ None
no_prefix [] b bs h = refl
no_prefix (e ∷ es) b bs h =
    let two = both _ _ h in
    ap (λ (o : Option ℕ). longer_len o (longest_of es (b ∷ bs))) (prefix_none e b bs (not_false _ two.0)) ∙ no_prefix es b bs two.1

-- ---- tests of the first byte, computed

-- what a byte that begins a word isn't
abbrev begins_word_alone : ℕ → Bool
begins_word_alone b = not (b == 35) && (not (is_blank b) && (not (b == 37) && (not (b == 45) && (not (is_digit b) && (not (b == 34 || b == 39) && (not (b == 58) && (not (b == 64) && (not (b == 36) && none_begins b signs))))))))

letters : every_below 123 (λ b. not (is_letter b) || begins_word_alone b) ≡ true
unfolding every_below
letters = refl

letter_small : (b : ℕ) → is_letter b ≡ true → b < 123
letter_small b h = grind (arith, nat_tests)

letter_alone : (b : ℕ) → is_letter b ≡ true → begins_word_alone b ≡ true
letter_alone b h = implied (is_letter b) (begins_word_alone b) (below_holds 123 (λ b. not (is_letter b) || begins_word_alone b) letters b (letter_small b h)) h

-- ---- a letter

-- a word, where nothing else is found
alone : (w : Option Found) (g a n s y v z : Option Found) → g ≡ None → a ≡ None → n ≡ None → s ≡ None → y ≡ None → v ≡ None → z ≡ None
    → longer g (longer a (longer w (longer n (longer s (longer y (longer v z)))))) ≡ longer w None
alone w g a n s y v z eg ea en es ey ev ez =
    ap (λ o. longer o (longer a (longer w (longer n (longer s (longer y (longer v z))))))) eg
    ∙ ap (λ o. longer o (longer w (longer n (longer s (longer y (longer v z)))))) ea
    ∙ ap (λ o. longer w (longer o (longer s (longer y (longer v z))))) en
    ∙ ap (λ o. longer w (longer o (longer y (longer v z)))) es
    ∙ ap (λ o. longer w (longer o (longer v z))) ey
    ∙ ap (λ o. longer w (longer o z)) ev
    ∙ ap (λ o. longer w o) ez

longer_none : (w : Option Found) → longer w None ≡ w
longer_none None = refl
longer_none (Some f) = refl

no_annotation : (b : ℕ) (bs : List ℕ) → (b == 37) ≡ false → annotation_front (b ∷ bs) ≡ None
unfolding annotation_front
no_annotation b [] h = refl
no_annotation b (c ∷ []) h = refl
no_annotation b (c ∷ d ∷ bs) h = if_false _ _ _ (and_left (b == 37) (c == 97) h)

module _ (b : ℕ) (bs : List ℕ) where
  no_gap : (b == 35) ≡ false → is_blank b ≡ false → skipped (gap_len (b ∷ bs)) ≡ None
  unfolding gap_len
  no_gap h i = ap skipped (if_false _ _ _ h ∙ if_false _ _ _ i)

  no_number : (b == 45) ≡ false → is_digit b ≡ false → number_front (b ∷ bs) ≡ None
  unfolding number_front
  no_number h i = if_false _ _ _ h ∙ ap (sized_front 0 (2 ^ 127 - 1) (b ∷ bs)) (if_false _ _ _ i)

  no_string : (b == 34 || b == 39) ≡ false → string_len (b ∷ bs) ≡ None
  unfolding string_len
  no_string h = if_false _ _ _ h

  no_symbol : (b == 58) ≡ false → symbol_len (b ∷ bs) ≡ None
  unfolding symbol_len
  no_symbol h = if_false _ _ _ h

  no_variable : (b == 64) ≡ false → (b == 36) ≡ false → variable_front (b ∷ bs) ≡ None
  unfolding variable_front word_behind word_behind_two
  no_variable h i = rw (h, i) refl

  no_sign : none_begins b signs ≡ true → sign_front (b ∷ bs) ≡ None
  unfolding sign_front
  no_sign h = no_entry signs b bs h

  word_alone : begins_word_alone b ≡ true → ordinary_front (b ∷ bs) ≡ word_front (b ∷ bs)
  unfolding ordinary_front
  word_alone h =
      let c1 = both _ _ h in
      let c2 = both _ _ c1.1 in
      let c3 = both _ _ c2.1 in
      let c4 = both _ _ c3.1 in
      let c5 = both _ _ c4.1 in
      let c6 = both _ _ c5.1 in
      let c7 = both _ _ c6.1 in
      let c8 = both _ _ c7.1 in
      let c9 = both _ _ c8.1 in
      alone (word_front (b ∷ bs)) _ _ _ _ _ _ _ (no_gap (not_false _ c1.0) (not_false _ c2.0)) (no_annotation b bs (not_false _ c3.0)) (no_number (not_false _ c4.0) (not_false _ c5.0))
      (ap (found_of _) (no_string (not_false _ c6.0))) (ap (found_of _) (no_symbol (not_false _ c7.0))) (no_variable (not_false _ c8.0) (not_false _ c9.0)) (no_sign c9.1)
      ∙ longer_none (word_front (b ∷ bs))

pub of_letter : (text : List ℕ) → first_is is_letter text ≡ true → ordinary_front text ≡ word_front text
of_letter [] h = cc
of_letter (b ∷ bs) h = word_alone b bs (letter_alone b h)

-- ---- a blank or `#`

-- no word begins with the byte, which is of ASCII
abbrev begins_no_word : ℕ → Bool
begins_no_word b = nat_lt b 128 && (not (is_digit b) && not (is_word_character b))

-- what a byte that begins a gap isn't
abbrev begins_gap_alone : ℕ → Bool
begins_gap_alone b = not (b == 37) && (begins_no_word b && (not (b == 45) && (not (b == 34 || b == 39) && (not (b == 58) && (not (b == 64) && (not (b == 36) && none_begins b signs))))))

gaps : every_below 128 (λ b. not (begins_gap b) || begins_gap_alone b) ≡ true
unfolding every_below
gaps = refl

gap_small : (b : ℕ) → begins_gap b ≡ true → b < 128
gap_small b h = grind (arith, nat_tests)

-- the first of all, where nothing else is found
first_alone : (g a w n s y v z : Option Found) → a ≡ None → w ≡ None → n ≡ None → s ≡ None → y ≡ None → v ≡ None → z ≡ None
    → longer g (longer a (longer w (longer n (longer s (longer y (longer v z)))))) ≡ g
first_alone g a w n s y v z ea ew en es ey ev ez =
    ap (λ o. longer g (longer o (longer w (longer n (longer s (longer y (longer v z))))))) ea
    ∙ ap (λ o. longer g (longer o (longer n (longer s (longer y (longer v z)))))) ew
    ∙ ap (λ o. longer g (longer o (longer s (longer y (longer v z))))) en
    ∙ ap (λ o. longer g (longer o (longer y (longer v z)))) es
    ∙ ap (λ o. longer g (longer o (longer v z))) ey
    ∙ ap (λ o. longer g (longer o z)) ev
    ∙ ap (λ o. longer g o) ez
    ∙ longer_none g

-- the last of all
last_alone : (g a w n s y v z : Option Found) → g ≡ None → a ≡ None → w ≡ None → n ≡ None → s ≡ None → y ≡ None → v ≡ None
    → longer g (longer a (longer w (longer n (longer s (longer y (longer v z)))))) ≡ z
last_alone g a w n s y v z eg ea ew en es ey ev =
    ap (λ o. longer o (longer a (longer w (longer n (longer s (longer y (longer v z))))))) eg
    ∙ ap (λ o. longer o (longer w (longer n (longer s (longer y (longer v z)))))) ea
    ∙ ap (λ o. longer o (longer n (longer s (longer y (longer v z))))) ew
    ∙ ap (λ o. longer o (longer s (longer y (longer v z)))) en
    ∙ ap (λ o. longer o (longer y (longer v z))) es
    ∙ ap (λ o. longer o (longer v z)) ey
    ∙ ap (λ o. longer o z) ev

module _ (b : ℕ) (bs : List ℕ) where
  no_word : begins_no_word b ≡ true → word_front (b ∷ bs) ≡ None
  unfolding word_front any_word_len
  no_word h =
      let c1 = both _ _ h in
      let c2 = both _ _ c1.1 in
      if_false _ _ _ (not_false _ c2.0)
      ∙ ap (λ n. word_of (b ∷ bs) (if n == 0 then None else Some n)) (no_character b bs c1.0 (not_false _ c2.1))

  gap_alone : begins_gap_alone b ≡ true → ordinary_front (b ∷ bs) ≡ skipped (gap_len (b ∷ bs))
  unfolding ordinary_front
  gap_alone h =
      let c1 = both _ _ h in
      let c2 = both _ _ c1.1 in
      let c3 = both _ _ c2.1 in
      let c4 = both _ _ c3.1 in
      let c5 = both _ _ c4.1 in
      let c6 = both _ _ c5.1 in
      let c7 = both _ _ c6.1 in
      let digit = both _ _ (both _ _ c2.0).1 in
      first_alone (skipped (gap_len (b ∷ bs))) _ _ _ _ _ _ _ (no_annotation b bs (not_false _ c1.0)) (no_word c2.0) (no_number b bs (not_false _ c3.0) (not_false _ digit.0))
      (ap (found_of _) (no_string b bs (not_false _ c4.0))) (ap (found_of _) (no_symbol b bs (not_false _ c5.0))) (no_variable b bs (not_false _ c6.0) (not_false _ c7.0)) (no_sign b bs c7.1)

of_gap : (text : List ℕ) → first_is begins_gap text ≡ true → ordinary_front text ≡ skipped (gap_len text)
of_gap [] h = cc
of_gap (b ∷ bs) h = gap_alone b bs (implied (begins_gap b) (begins_gap_alone b) (below_holds 128 (λ b. not (begins_gap b) || begins_gap_alone b) gaps b (gap_small b h)) h)

-- no name of a method begins with the byte
abbrev begins_no_name : ℕ → Bool
begins_no_name b = begins_no_word b && (not (b == 96) && (none_begins b special_names && none_starts b operators))

unnamed : every_below 128 (λ b. not (begins_gap b) || begins_no_name b) ≡ true
unfolding every_below
unnamed = refl

module _ (b : ℕ) (bs : List ℕ) where
  no_any_word : begins_no_word b ≡ true → any_word_len (b ∷ bs) ≡ None
  unfolding any_word_len
  no_any_word h =
      let c1 = both _ _ h in
      let c2 = both _ _ c1.1 in
      ap (λ n. if n == 0 then None else Some n) (no_character b bs c1.0 (not_false _ c2.1))

  no_marked : (equals : Bool) → begins_no_word b ≡ true → marked_len equals (b ∷ bs) ≡ None
  unfolding marked_len
  no_marked equals h = ap (marked_by equals (b ∷ bs)) (no_any_word h)

  no_numeric : begins_no_word b ≡ true → numeric_len (b ∷ bs) ≡ None
  no_numeric h =
      let c1 = both _ _ h in
      let c2 = both _ _ c1.1 in
      if_false (is_digit b) (any_word_len (b ∷ bs)) None (not_false _ c2.0)

  no_operator_begins : none_starts b operators ≡ true → operator_len (b ∷ bs) ≡ None
  unfolding operator_len
  no_operator_begins h = no_prefix operators b bs h

  no_special : none_begins b special_names ≡ true → special_front (b ∷ bs) ≡ None
  unfolding special_front
  no_special h = no_entry special_names b bs h

  no_backquoted : (b == 96) ≡ false → backquoted_len (b ∷ bs) ≡ None
  unfolding backquoted_len
  no_backquoted h = if_false _ _ _ h

  no_method_name : (equals : Bool) → begins_no_name b ≡ true → method_name_len equals (b ∷ bs) ≡ None
  unfolding method_name_len
  no_method_name equals h =
      let c1 = both _ _ h in
      let c2 = both _ _ c1.1 in
      let c3 = both _ _ c2.1 in
      ap (λ o. longer_len o (longer_len (numeric_len (b ∷ bs)) (longer_len (operator_len (b ∷ bs)) (backquoted_len (b ∷ bs))))) (no_marked equals c1.0)
      ∙ ap (λ o. longer_len o (longer_len (operator_len (b ∷ bs)) (backquoted_len (b ∷ bs)))) (no_numeric c1.0)
      ∙ ap (λ o. longer_len o (backquoted_len (b ∷ bs))) (no_operator_begins c3.1)
      ∙ no_backquoted (not_false _ c2.0)

  no_name_begins : (place : Place) → begins_gap b ≡ true → name_front place (b ∷ bs) ≡ ordinary_front (b ∷ bs)
  unfolding name_front
  no_name_begins place h =
      let n = implied (begins_gap b) (begins_no_name b) (below_holds 128 (λ b. not (begins_gap b) || begins_no_name b) unnamed b (gap_small b h)) h in
      let c1 = both _ _ n in
      let c2 = both _ _ c1.1 in
      let c3 = both _ _ c2.1 in
      ap (λ o. longer o (longer (found_of k.MethodName (method_name_len (takes_it place (b ∷ bs)) (b ∷ bs))) (ordinary_front (b ∷ bs)))) (no_special c3.0)
      ∙ ap (λ o. longer (found_of k.MethodName o) (ordinary_front (b ∷ bs))) (no_method_name (takes_it place (b ∷ bs)) n)

pub gap_anywhere : (place : Place) (text : List ℕ) → first_is begins_gap text ≡ true → front_at place text ≡ skipped (gap_len text)
unfolding front_at
gap_anywhere place [] h = cc
gap_anywhere place (b ∷ bs) h = go (has_name place) ∙ of_gap (b ∷ bs) h
  where
    go : (t : Bool) → (if t then name_front place (b ∷ bs) else ordinary_front (b ∷ bs)) ≡ ordinary_front (b ∷ bs)
    go true = no_name_begins b bs place h
    go false = refl

-- ---- a sign

-- what neither a byte that begins a sign is, nor `:` or `-`
abbrev begins_like_sign : ℕ → Bool
begins_like_sign b = not (b == 35) && (not (is_blank b) && (not (b == 37) && (begins_no_word b && (not (b == 34 || b == 39) && (not (b == 64) && not (b == 36))))))

-- what a byte that begins a sign isn't
abbrev begins_sign_alone : ℕ → Bool
begins_sign_alone b = begins_like_sign b && (not (b == 45) && (not (is_digit b) && not (b == 58)))

sign_bytes : every_below 128 (λ b. not (begins_sign b) || begins_sign_alone b) ≡ true
unfolding every_below
sign_bytes = refl

sign_small : (b : ℕ) → begins_sign b ≡ true → b < 128
sign_small b h = grind (arith, nat_tests)

module _ (b : ℕ) (bs : List ℕ) where
  like_sign : begins_like_sign b ≡ true → number_front (b ∷ bs) ≡ None → symbol_len (b ∷ bs) ≡ None → ordinary_front (b ∷ bs) ≡ sign_front (b ∷ bs)
  unfolding ordinary_front
  like_sign h number symbol =
      let c1 = both _ _ h in
      let c2 = both _ _ c1.1 in
      let c3 = both _ _ c2.1 in
      let c4 = both _ _ c3.1 in
      let c5 = both _ _ c4.1 in
      let c6 = both _ _ c5.1 in
      last_alone _ _ _ _ _ _ _ (sign_front (b ∷ bs)) (no_gap b bs (not_false _ c1.0) (not_false _ c2.0)) (no_annotation b bs (not_false _ c3.0)) (no_word b bs c4.0) number
      (ap (found_of _) (no_string b bs (not_false _ c5.0))) (ap (found_of _) symbol) (no_variable b bs (not_false _ c6.0) (not_false _ c6.1))

  by_one : begins_sign b ≡ true → ordinary_front (b ∷ bs) ≡ sign_front (b ∷ bs)
  by_one h =
      let is = both _ _ (implied (begins_sign b) (begins_sign_alone b) (below_holds 128 (λ b. not (begins_sign b) || begins_sign_alone b) sign_bytes b (sign_small b h)) h) in
      let c1 = both _ _ is.1 in
      let c2 = both _ _ c1.1 in
      like_sign is.0 (no_number b bs (not_false _ c1.0) (not_false _ c2.0)) (no_symbol b bs (not_false _ c2.1))

-- `->`
arrow : (bs : List ℕ) → ordinary_front (45 ∷ 62 ∷ bs) ≡ sign_front (45 ∷ 62 ∷ bs)
unfolding number_front symbol_len
arrow bs = like_sign 45 (62 ∷ bs) refl refl refl

-- what the byte behind a `:` isn't where no symbol begins
abbrev names_nothing : ℕ → Bool
names_nothing c = begins_no_word c && (not (c == 34 || c == 39) && none_starts c operators)

namers : every_below 128 (λ c. not (c == 58 || is_blank c) || names_nothing c) ≡ true
unfolding every_below
namers = refl

namer_small : (c : ℕ) → (c == 58 || is_blank c) ≡ true → c < 128
namer_small c h = grind (arith, nat_tests)

module _ (c : ℕ) (bs : List ℕ) where
  no_name : names_nothing c ≡ true → symbol_name_len (c ∷ bs) ≡ None
  unfolding symbol_name_len
  no_name h =
      let c1 = both _ _ h in
      let c2 = both _ _ c1.1 in
      ap (λ o. longer_len o (longer_len (marked_len true (c ∷ bs)) (longer_len (operator_len (c ∷ bs)) (string_len (c ∷ bs))))) (no_any_word c bs c1.0)
      ∙ ap (λ o. longer_len o (longer_len (operator_len (c ∷ bs)) (string_len (c ∷ bs)))) (no_marked c bs true c1.0)
      ∙ ap (λ o. longer_len o (string_len (c ∷ bs))) (no_operator_begins c bs c2.1)
      ∙ no_string c bs (not_false _ c2.0)

  colon : (c == 58 || is_blank c) ≡ true → ordinary_front (58 ∷ c ∷ bs) ≡ sign_front (58 ∷ c ∷ bs)
  unfolding number_front symbol_len
  colon h =
      let nothing = no_name (implied (c == 58 || is_blank c) (names_nothing c) (below_holds 128 (λ c. not (c == 58 || is_blank c) || names_nothing c) namers c (namer_small c h)) h) in
      like_sign 58 (c ∷ bs) refl refl (ap (longer_by 1) nothing)

by_two : (b c : ℕ) (bs : List ℕ) → begins_sign_by b c ≡ true → ordinary_front (b ∷ c ∷ bs) ≡ sign_front (b ∷ c ∷ bs)
by_two b c bs h = go (b == 45 && c == 62) refl h
  where
    go : (t : Bool) → (b == 45 && c == 62) ≡ t → (t || (b == 58 && (c == 58 || is_blank c))) ≡ true → ordinary_front (b ∷ c ∷ bs) ≡ sign_front (b ∷ c ∷ bs)
    go true e h =
        let two = both _ _ e in
        subst (λ m. ordinary_front (m ∷ c ∷ bs) ≡ sign_front (m ∷ c ∷ bs)) (sym (is_byte b 45 two.0))
        (subst (λ m. ordinary_front (45 ∷ m ∷ bs) ≡ sign_front (45 ∷ m ∷ bs)) (sym (is_byte c 62 two.1)) (arrow bs))
    go false e h =
        let two = both _ _ h in
        subst (λ m. ordinary_front (m ∷ c ∷ bs) ≡ sign_front (m ∷ c ∷ bs)) (sym (is_byte b 58 two.0)) (colon c bs two.1)

pub of_sign : (text : List ℕ) → sign_alone text ≡ true → ordinary_front text ≡ sign_front text
of_sign [] h = cc
of_sign (b ∷ []) h = by_one b [] h
of_sign (b ∷ c ∷ bs) h = go (begins_sign b) refl h
  where
    go : (t : Bool) → begins_sign b ≡ t → (t || begins_sign_by b c) ≡ true → ordinary_front (b ∷ c ∷ bs) ≡ sign_front (b ∷ c ∷ bs)
    go true e h = by_one b (c ∷ bs) e
    go false e h = by_two b c bs h

-- a `:` before no other
pub one_colon : (rest : List ℕ) → begins_with 58 rest ≡ false → sign_front (58 ∷ rest) ≡ Some (record { reading = Token k.Colon; len = 1 })
unfolding sign_front
one_colon [] h = refl
one_colon (c ∷ bs) h = ap two (differ (58 ∷ 58 ∷ []) (58 ∷ c ∷ []) (λ e. true≢false (sym (same_test c 58 (heads c 58 bs bs (seconds e))) ∙ h)))
  where
    seconds : (58 ∷ 58 ∷ []) ≡ (58 ∷ c ∷ []) → (c ∷ bs) ≡ (58 ∷ bs)
    seconds e = cc

    two : Bool → Option Found
    two t = longer (found_of k.Colon (Some 1)) (longer (found_of k.ColonColon (if t then Some 2 else None)) None)

-- ---- no operator begins with a letter

operator_letters : every_below 123 (λ b. not (is_letter b) || none_starts b operators) ≡ true
unfolding every_below
operator_letters = refl

pub no_operator : (text : List ℕ) → first_is is_letter text ≡ true → operator_len text ≡ None
no_operator [] h = cc
no_operator (b ∷ bs) h = no_operator_begins b bs (implied (is_letter b) (none_starts b operators) (below_holds 123 (λ b. not (is_letter b) || none_starts b operators) operator_letters b (letter_small b h)) h)
