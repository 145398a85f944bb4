-- Words are found at the front of a text.
use Rattle.std.proofs.Common.{◌≡◌, ℕ, zero, suc, ◌+◌, ◌<◌, ◌≤◌, ◌==◌, Bool, true, false, ◌&&◌, List, [], ◌∷◌, ◌++◌, length, take, drop, Option, Some, None, refl, sym, ◌∙◌, ap, subst, arith, length-append}
use Rattle.std.specs.Prelude.{if◌then◌else◌, not}
use Rattle.std.specs.Str.{IsUtf8, IsCharBoundary, is_utf8, chars, encode_utf8_all, all_scalars}
use Rattle.std.specs.Char.{len_utf8, encode_utf8}
use Rattle.std.proofs.lemmas.Bool.Decides.{nat_tests}
use Rattle.std.proofs.lemmas.Str.{IsUtf8-from_is_utf8, is_utf8-from_IsUtf8, IsCharBoundary-from_take, encodes-append, chars-encodes, encodes-chars, chars-append, scalars-chars, length-encode}
use Rattle.std.proofs.lemmas.List.{length-take, take-append-drop}
use Rattle.std.proofs.Math.Seq.{take-append_seam}
use Rattle.rbs_lexer.specs.Bytes.{is_nil, is_digit, begins_with_digit}
use Rattle.rbs_lexer.specs.Words.{is_word_character, all_word, is_word}
use Rattle.rbs_lexer.specs.Runs.{word}
use Rattle.rbs_lexer.specs.Finds.{word_bytes, word_len, any_word_len, word_of, word_front, numeric_len}
use Rattle.rbs_lexer.proofs.Finding.{Finds, NoReading, FindsReading, and_true, and_left, and_right, and_is, if_true, if_false, is_byte, finds_same}
use Rattle.rbs_lexer.proofs.Skipping.{both}

-- ---- over characters

-- the characters split where the word ends
pub record Front (cs : List ℕ) : Type 0 where
  pub word : List ℕ
  pub rest : List ℕ
  pub split : cs ≡ word ++ rest
  pub size : length (encode_utf8_all word) ≡ word_bytes cs
  pub all : all_word word ≡ true

front_of : (cs : List ℕ) → Front cs
front_of [] = record { word = []; rest = []; split = refl; size = refl; all = refl }
front_of (c ∷ cs) = go (is_word_character c) refl (front_of cs)
  where
    go : (t : Bool) → is_word_character c ≡ t → Front cs → Front (c ∷ cs)
    go true e f =
        let a = length-encode c in
        let b = f.size in
        let s : length (encode_utf8 c) + length (encode_utf8_all f.word) ≡ len_utf8 c + word_bytes cs = omega arith in
        record {
          word = c ∷ f.word;
          rest = f.rest;
          split = ap (λ l. c ∷ l) f.split;
          size = length-append (encode_utf8 c) (encode_utf8_all f.word) ∙ s ∙ sym (if_true _ _ _ e);
          all = and_true _ _ e f.all;
        }
    go false e f = record { word = []; rest = c ∷ cs; split = refl; size = sym (if_false _ _ _ e); all = refl }

-- what is longer than the word has another character
word_stops : (ds cs es : List ℕ) → cs ≡ ds ++ es → word_bytes cs < length (encode_utf8_all ds) → all_word ds ≡ false
word_stops [] cs es e l = absurd (omega arith)
word_stops (d ∷ ds) cs es e l = go (is_word_character d) refl (subst (λ z. word_bytes z < length (encode_utf8 d ++ encode_utf8_all ds)) e l) (λ g. word_stops ds (ds ++ es) es refl g)
  where
    go : (t : Bool) → is_word_character d ≡ t → (if t then len_utf8 d + word_bytes (ds ++ es) else 0) < length (encode_utf8 d ++ encode_utf8_all ds)
        → (word_bytes (ds ++ es) < length (encode_utf8_all ds) → all_word ds ≡ false) → (is_word_character d && all_word ds) ≡ false
    go true q g i = and_right _ _ (i (let a = length-encode d in let b = length-append (encode_utf8 d) (encode_utf8_all ds) in omega arith))
    go false q g i = and_left _ _ q

scalars_both : (xs ys : List ℕ) → all_scalars (xs ++ ys) ≡ true → (all_scalars xs ≡ true) × (all_scalars ys ≡ true)
scalars_both [] ys h = (refl, h)
scalars_both (x ∷ xs) ys h = let r = scalars_both xs ys (both _ _ h).1 in (and_true _ _ (both _ _ h).0 r.0, r.1)

-- ---- over bytes

pub some_bytes : (n : ℕ) → (n == 0) ≡ false → 0 < n
some_bytes n h = grind (arith, nat_tests)

module _ (text : List ℕ) (u : IsUtf8 text) where
  front : Front (chars text)
  front = front_of (chars text)

  text_split : text ≡ encode_utf8_all front.word ++ encode_utf8_all front.rest
  text_split = sym (encodes-chars text u) ∙ ap encode_utf8_all front.split ∙ encodes-append front.word front.rest

  word_scalars : all_scalars front.word ≡ true
  word_scalars = (scalars_both front.word front.rest (ap all_scalars (sym front.split) ∙ scalars-chars text u)).0

  word_taken : take (word_len text) text ≡ encode_utf8_all front.word
  word_taken = ap (λ l. take (word_len text) l) text_split ∙ ap (λ n. take n (encode_utf8_all front.word ++ encode_utf8_all front.rest)) (sym front.size)
      ∙ take-append_seam (encode_utf8_all front.word) (encode_utf8_all front.rest)

  pub word_within : word_len text ≤ length text
  word_within =
      let s = ap length text_split in
      let a = length-append (encode_utf8_all front.word) (encode_utf8_all front.rest) in
      let b = front.size in
      omega arith

  word_utf8 : IsUtf8 (take (word_len text) text)
  word_utf8 = subst IsUtf8 (sym word_taken) (front.word, (word_scalars, refl))

  pub word_cut : IsCharBoundary text (word_len text)
  word_cut = IsCharBoundary-from_take text (word_len text) u word_within word_utf8

  some_taken : (n : ℕ) → 0 < n → n ≤ length text → is_nil (take n text) ≡ false
  some_taken n s w = not_nil (take n text) (let l = length-take n text in omega arith)
    where
      not_nil : (bs : List ℕ) → 0 < length bs → is_nil bs ≡ false
      not_nil [] h = absurd (omega arith)
      not_nil (b ∷ bs) h = refl

  pub word_is : 0 < word_len text → is_word (take (word_len text) text) ≡ true
  unfolding is_word
  word_is s = and_true _ _ (ap not (some_taken (word_len text) s word_within))
      (and_true _ _ (is_utf8-from_IsUtf8 (take (word_len text) text) word_utf8)
      (ap all_word (ap chars word_taken ∙ chars-encodes front.word word_scalars) ∙ front.all))

  pub longer_not : (n : ℕ) → word_len text < n → n ≤ length text → is_word (take n text) ≡ false
  unfolding is_word
  longer_not n l w = and_right _ _ (go (is_utf8 (take n text)) refl)
    where
      stops : IsUtf8 (take n text) → all_word (chars (take n text)) ≡ false
      stops v =
          let cut = IsCharBoundary-from_take text n u w v in
          let size : length (encode_utf8_all (chars (take n text))) ≡ length (take n text) = ap length (encodes-chars (take n text) v) in
          let long = length-take n text in
          word_stops (chars (take n text)) (chars text) (chars (drop n text)) (ap chars (sym (take-append-drop n text)) ∙ chars-append (take n text) (drop n text) v) (omega arith)

      go : (t : Bool) → is_utf8 (take n text) ≡ t → (is_utf8 (take n text) && all_word (chars (take n text))) ≡ false
      go true e = and_right _ _ (stops (IsUtf8-from_is_utf8 (take n text) e))
      go false e = and_left _ _ e

  pub any_word_found : Finds (λ run next. is_word run) text (any_word_len text)
  unfolding any_word_len is_word
  any_word_found = go (word_len text == 0) refl
    where
      none : word_len text ≡ 0 → (n : ℕ) → n ≤ length text → is_word (take n text) ≡ false
      none e zero h = refl
      none e (suc n) h = longer_not (suc n) (omega arith) h

      go : (t : Bool) → (word_len text == 0) ≡ t → Finds (λ run next. is_word run) text (if t then None else Some (word_len text))
      go true e = none (is_byte (word_len text) 0 e)
      go false e = record {
        some = some_bytes (word_len text) e;
        within = word_within;
        pass = word_is (some_bytes (word_len text) e);
        longest = longer_not;
        cut = word_cut;
      }

-- ---- by the first byte

pub no_word : is_word [] ≡ false
unfolding is_word
no_word = refl

pub numeric_found : (text : List ℕ) → IsUtf8 text → Finds (λ run next. begins_with_digit run && is_word run) text (numeric_len text)
numeric_found [] u = none
  where
    none : (n : ℕ) → n ≤ 0 → (begins_with_digit (take n []) && is_word (take n [])) ≡ false
    none zero h = refl
    none (suc n) h = refl
numeric_found (b ∷ bs) u = go (is_digit b) refl
  where
    same : is_digit b ≡ true → (n : ℕ) → (begins_with_digit (take n (b ∷ bs)) && is_word (take n (b ∷ bs))) ≡ is_word (take n (b ∷ bs))
    same e zero = sym no_word
    same e (suc n) = and_is _ _ e

    none : is_digit b ≡ false → (n : ℕ) → n ≤ suc (length bs) → (begins_with_digit (take n (b ∷ bs)) && is_word (take n (b ∷ bs))) ≡ false
    none e zero h = refl
    none e (suc n) h = and_left _ _ e

    go : (t : Bool) → is_digit b ≡ t → Finds (λ run next. begins_with_digit run && is_word run) (b ∷ bs) (if t then any_word_len (b ∷ bs) else None)
    go true e = finds_same (λ run next. is_word run) (λ run next. begins_with_digit run && is_word run) (b ∷ bs) (any_word_len (b ∷ bs)) (same e) (any_word_found (b ∷ bs) u)
    go false e = none e

pub word_found : (text : List ℕ) → IsUtf8 text → FindsReading word text (word_front text)
unfolding word word_front any_word_len chars
word_found [] u = none
  where
    none : NoReading word []
    none zero h = if_false _ _ _ no_word
    none (suc n) h = if_false _ _ _ no_word
word_found (b ∷ bs) u = go (is_digit b) refl
  where
    numeric : is_digit b ≡ true → NoReading word (b ∷ bs)
    numeric e zero h = if_false _ _ _ no_word
    numeric e (suc n) h = if_false _ _ _ (and_left _ _ (ap not e))

    test : is_digit b ≡ false → (n : ℕ) → (not (begins_with_digit (take n (b ∷ bs))) && is_word (take n (b ∷ bs))) ≡ is_word (take n (b ∷ bs))
    test e zero = refl
    test e (suc n) = and_is _ _ (ap not e)

    other : is_digit b ≡ false → (o : Option ℕ) → Finds (λ run next. is_word run) (b ∷ bs) o → FindsReading word (b ∷ bs) (word_of (b ∷ bs) o)
    other e None x = λ n h. if_false _ _ _ (test e n ∙ x n h)
    other e (Some m) x = record {
      some = x.some;
      within = x.within;
      reads = if_true _ _ _ (test e m ∙ x.pass);
      longest = λ n l h. if_false _ _ _ (test e n ∙ x.longest n l h);
      cut = x.cut;
    }

    go : (t : Bool) → is_digit b ≡ t → FindsReading word (b ∷ bs) (if t then None else word_of (b ∷ bs) (any_word_len (b ∷ bs)))
    go true e = numeric e
    go false e = other e (any_word_len (b ∷ bs)) (any_word_found (b ∷ bs) u)
