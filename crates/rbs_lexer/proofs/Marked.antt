-- A word with a mark is found at the front of a text.
use Rattle.std.proofs.Common.{◌≡◌, ℕ, zero, suc, ◌+◌, ◌-◌, ◌<◌, ◌≤◌, ◌==◌, Bool, true, false, ◌&&◌, ◌||◌, List, [], ◌∷◌, ◌++◌, length, take, drop, get_or, Some, None, refl, sym, ◌∙◌, ap, subst, arith, ⊎_elim}
use Rattle.std.specs.Prelude.{if◌then◌else◌}
use Rattle.std.specs.Str.{IsUtf8, chars, encode_utf8_all}
use Rattle.std.specs.Char.{len_utf8, encode_utf8}
use Rattle.std.proofs.lemmas.Bool.{cases_lt}
use Rattle.std.proofs.lemmas.Str.{encodes-chars, length-encode, inside_one}
use Rattle.std.proofs.lemmas.List.{length-take, get_or-take}
use Rattle.std.proofs.Math.Seq.{get_or-append_right}
use Rattle.rbs_lexer.specs.Words.{is_word_character, is_word, is_marked, is_mark}
use Rattle.rbs_lexer.specs.Finds.{word_bytes, word_len, any_word_len, marked_by, marked_len}
use Rattle.rbs_lexer.proofs.Finding.{LongestFront, Finds, and_true, and_left, and_right, is_byte}
use Rattle.rbs_lexer.proofs.Quoted.{ascii_end}
use Rattle.rbs_lexer.proofs.WordsFound.{longer_not, word_is, no_word, some_bytes}

-- ---- no byte of a word is a mark

mark_cases : (P : ℕ → Type 0) → P 63 → P 33 → P 61 → (equals : Bool) (b : ℕ) → is_mark equals b ≡ true → P b
mark_cases P p q r equals b h = go (b == 63) (b == 33) (b == 61) refl refl refl h
  where
    go : (x y z : Bool) → (b == 63) ≡ x → (b == 33) ≡ y → (b == 61) ≡ z → (x || y || (z && equals)) ≡ true → P b
    go true y z e f g h = subst P (sym (is_byte b 63 e)) p
    go false true z e f g h = subst P (sym (is_byte b 33 f)) q
    go false false true e f g h = subst P (sym (is_byte b 61 g)) r
    go false false false e f g h = cc

mark_low : (equals : Bool) (b : ℕ) → is_mark equals b ≡ true → b < 128
mark_low equals b h = let P : ℕ → Type 0 = λ b. b < 128 in mark_cases P (omega arith) (omega arith) (omega arith) equals b h

mark_no_word : (equals : Bool) (c : ℕ) → is_mark equals c ≡ true → is_word_character c ≡ false
mark_no_word equals c h = let P : ℕ → Type 0 = λ c. is_word_character c ≡ false in mark_cases P refl refl refl equals c h

clash : (b : Bool) → b ≡ true → b ≡ false → ⊥
clash b p q = cc

-- a byte of one character of a word
in_character : (equals : Bool) (c : ℕ) (rest : List ℕ) (i : ℕ) → is_word_character c ≡ true → i < length (encode_utf8 c) → is_mark equals (get_or (encode_utf8 c ++ rest) i 0) ≡ false
in_character equals c rest i e h = go (is_mark equals (get_or (encode_utf8 c ++ rest) i 0)) refl
  where
    go : (t : Bool) → is_mark equals (get_or (encode_utf8 c ++ rest) i 0) ≡ t → t ≡ false
    go true m =
        let same : c ≡ get_or (encode_utf8 c ++ rest) i 0 = inside_one c rest (encode_utf8 c ++ rest) i refl h (mark_low equals _ m) in
        absurd (clash (is_word_character c) e (mark_no_word equals c (ap (is_mark equals) same ∙ m)))
    go false m = refl

in_word : (equals : Bool) (cs : List ℕ) (i : ℕ) → i < word_bytes cs → is_mark equals (get_or (encode_utf8_all cs) i 0) ≡ false
in_word equals [] i l = absurd (omega arith)
in_word equals (c ∷ cs) i l = go (is_word_character c) refl l (λ j g. in_word equals cs j g)
  where
    go : (t : Bool) → is_word_character c ≡ t → i < (if t then len_utf8 c + word_bytes cs else 0) → ((j : ℕ) → j < word_bytes cs → is_mark equals (get_or (encode_utf8_all cs) j 0) ≡ false)
        → is_mark equals (get_or (encode_utf8 c ++ encode_utf8_all cs) i 0) ≡ false
    go true e l ih = ⊎_elim (λ h. in_character equals c (encode_utf8_all cs) i e h)
        (λ h. ap (is_mark equals) (get_or-append_right (encode_utf8 c) (encode_utf8_all cs) i 0 h) ∙ ih (i - length (encode_utf8 c)) (let a = length-encode c in omega arith))
        (cases_lt i (length (encode_utf8 c)))
    go false e l ih = absurd (omega arith)

-- ---- a word with a mark

-- what a front with one byte more than m is
marked_at : (equals : Bool) (text : List ℕ) (m : ℕ) → m < length text → is_marked equals (take (suc m) text) ≡ (is_mark equals (get_or text m 0) && is_word (take m text))
unfolding is_marked
marked_at equals text m l =
    let long : length (take (suc m) text) - 1 ≡ m = (let a = length-take (suc m) text in omega arith) in
    ap (λ n. is_mark equals (get_or (take (suc m) text) n 0) && is_word (take n (take (suc m) text))) long
    ∙ ap (λ b. is_mark equals b && is_word (take m (take (suc m) text))) (get_or-take (suc m) text m 0 (omega arith))
    ∙ ap (λ l. is_mark equals (get_or text m 0) && is_word l) (shorter m text)
  where
    shorter : (m : ℕ) (text : List ℕ) → take m (take (suc m) text) ≡ take m text
    shorter zero text = refl
    shorter (suc m) [] = refl
    shorter (suc m) (b ∷ bs) = ap (λ l. b ∷ l) (shorter m bs)

past_end : (equals : Bool) (text : List ℕ) (n : ℕ) → is_mark equals (get_or text n 0) ≡ true → n < length text
past_end equals [] zero h = cc
past_end equals [] (suc n) h = cc
past_end equals (b ∷ bs) zero h = omega arith
past_end equals (b ∷ bs) (suc n) h = let l = past_end equals bs n h in omega arith

module _ (text : List ℕ) (u : IsUtf8 text) (takes : List ℕ → Bool) where
  -- no word with a mark ends elsewhere than behind the whole word
  not_marked : (m : ℕ) → m < length text → (m ≡ word_len text → is_mark (takes (drop (suc m) text)) (get_or text m 0) ≡ false) → is_marked (takes (drop (suc m) text)) (take (suc m) text) ≡ false
  not_marked m l here = marked_at (takes (drop (suc m) text)) text m l ∙ ⊎_elim inside (λ h. ⊎_elim (λ g. and_right _ _ (longer_not text u m g (omega arith))) (λ g. and_left _ _ (here (omega arith))) (cases_lt (word_len text) m))
      (cases_lt m (word_len text))
    where
      inside : m < word_len text → (is_mark (takes (drop (suc m) text)) (get_or text m 0) && is_word (take m text)) ≡ false
      inside h = and_left _ _ (ap (λ l. is_mark (takes (drop (suc m) text)) (get_or l m 0)) (sym (encodes-chars text u)) ∙ in_word (takes (drop (suc m) text)) (chars text) m h)

  no_word_at : word_len text ≡ 0 → (m : ℕ) → m ≤ length text → is_word (take m text) ≡ false
  no_word_at e zero l = no_word
  no_word_at e (suc m) l = longer_not text u (suc m) (omega arith) l

  pub marked_found : Finds (λ run next. is_marked (takes next) run) text (marked_len (takes (drop (word_len text + 1) text)) text)
  unfolding marked_len any_word_len is_marked
  marked_found = go (word_len text == 0) refl
    where
      one : suc (word_len text) ≡ word_len text + 1
      one = omega arith

      no_mark : word_len text ≡ 0 → (n : ℕ) → n ≤ length text → is_marked (takes (drop n text)) (take n text) ≡ false
      no_mark e zero w = refl
      no_mark e (suc m) w = marked_at (takes (drop (suc m) text)) text m w ∙ and_right _ _ (no_word_at e m (omega arith))

      other : is_mark (takes (drop (suc (word_len text)) text)) (get_or text (word_len text) 0) ≡ false → (n : ℕ) → n ≤ length text → is_marked (takes (drop n text)) (take n text) ≡ false
      other k zero w = refl
      other k (suc m) w = not_marked m w (λ same. subst (λ j. is_mark (takes (drop (suc j) text)) (get_or text j 0) ≡ false) (sym same) k)

      more : (n : ℕ) → suc (word_len text) < n → n ≤ length text → is_marked (takes (drop n text)) (take n text) ≡ false
      more zero l w = refl
      more (suc m) l w = marked_at (takes (drop (suc m) text)) text m w ∙ and_right _ _ (longer_not text u m (omega arith) (omega arith))

      found : 0 < word_len text → is_mark (takes (drop (suc (word_len text)) text)) (get_or text (word_len text) 0) ≡ true → LongestFront (λ run next. is_marked (takes next) run) text (suc (word_len text))
      found s k =
          let l : word_len text < length text = past_end (takes (drop (suc (word_len text)) text)) text (word_len text) k in
          record {
            some = omega arith;
            within = l;
            pass = marked_at (takes (drop (suc (word_len text)) text)) text (word_len text) l ∙ and_true _ _ k (word_is text u s);
            longest = more;
            cut = ascii_end text (word_len text) u l (mark_low (takes (drop (suc (word_len text)) text)) (get_or text (word_len text) 0) k);
          }

      by_mark : 0 < word_len text → (t : Bool) → is_mark (takes (drop (word_len text + 1) text)) (get_or text (word_len text) 0) ≡ t
          → Finds (λ run next. is_marked (takes next) run) text (if t then Some (word_len text + 1) else None)
      by_mark s true k = subst (λ n. LongestFront (λ run next. is_marked (takes next) run) text n) one (found s (subst (λ n. is_mark (takes (drop n text)) (get_or text (word_len text) 0) ≡ true) (sym one) k))
      by_mark s false k = other (subst (λ n. is_mark (takes (drop n text)) (get_or text (word_len text) 0) ≡ false) (sym one) k)

      go : (t : Bool) → (word_len text == 0) ≡ t
          → Finds (λ run next. is_marked (takes next) run) text (marked_by (takes (drop (word_len text + 1) text)) text (if t then None else Some (word_len text)))
      go true e = no_mark (is_byte (word_len text) 0 e)
      go false e = by_mark (some_bytes (word_len text) e) (is_mark (takes (drop (word_len text + 1) text)) (get_or text (word_len text) 0)) refl
