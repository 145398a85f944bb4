-- Strings and texts between backquotes are found at the front of a text.
use Rattle.std.proofs.Common.{◌≡◌, ℕ, zero, suc, ◌+◌, ◌<◌, ◌≤◌, ◌==◌, Bool, true, false, ◌&&◌, ◌||◌, List, [], ◌∷◌, length, take, get_or, Option, Some, None, refl, ◌∙◌, subst, arith}
use Rattle.std.specs.Prelude.{if◌then◌else◌, not}
use Rattle.std.specs.Str.{IsUtf8, IsCharBoundary}
use Rattle.std.proofs.lemmas.Bool.Decides.{nat_tests}
use Rattle.std.proofs.lemmas.Str.{IsCharBoundary-after_ascii}
use Rattle.rbs_lexer.specs.Bytes.{is_nil, ends_at}
use Rattle.rbs_lexer.specs.Quotes.{is_closed, is_string, is_backquoted}
use Rattle.rbs_lexer.specs.Finds.{longer_by, up_to, closed_len, string_len, backquoted_len}
use Rattle.rbs_lexer.proofs.Finding.{Finds, and_left, and_is, if_true, if_false, is_byte, finds_after, none_after, none_in_empty, tail_utf8}

-- ---- where the last byte is

-- These bytes end with a byte of ASCII.
pub ascii_end : (text : List ℕ) (n : ℕ) → IsUtf8 text → n < length text → get_or text n 0 < 128 → IsCharBoundary text (suc n)
ascii_end text n u l a = let e : n + 1 ≡ suc n = omega arith in let P : ℕ → Type 0 = IsCharBoundary text in subst P e (IsCharBoundary-after_ascii text n u l a)

-- A test that holds at exactly one length, behind the closing byte.
pub record EndsAt (f : List ℕ → Bool) (close : ℕ) (text : List ℕ) (len : ℕ) : Type 0 where
  pub some : 0 < len
  pub within : len ≤ length text
  pub last : (n : ℕ) → len ≡ suc n → get_or text n 0 ≡ close
  pub ends : f (take len text) ≡ true
  pub only : (n : ℕ) → len < n → n ≤ length text → f (take n text) ≡ false

abbrev pub FindsEnd : (List ℕ → Bool) → ℕ → List ℕ → Option ℕ → Type 0
FindsEnd f close text None = (n : ℕ) → n ≤ length text → f (take n text) ≡ false
FindsEnd f close text (Some len) = EndsAt f close text len

-- one byte more in front
later : (f g : List ℕ → Bool) (close b : ℕ) (bs : List ℕ) (o : Option ℕ) → ((run : List ℕ) → f (b ∷ run) ≡ g run) → f [] ≡ false → FindsEnd g close bs o → FindsEnd f close (b ∷ bs) (longer_by 1 o)
later f g close b bs None e z x = none
  where
    none : (n : ℕ) → n ≤ suc (length bs) → f (take n (b ∷ bs)) ≡ false
    none zero h = z
    none (suc n) h = e (take n bs) ∙ x n (omega arith)
later f g close b bs (Some m) e z x = let same : suc m ≡ 1 + m = omega arith in subst (λ k. EndsAt f close (b ∷ bs) k) same (record {
  some = omega arith;
  within = (let w = x.within in omega arith);
  last = last;
  ends = e (take m bs) ∙ x.ends;
  only = only;
})
  where
    last : (n : ℕ) → suc m ≡ suc n → get_or (b ∷ bs) n 0 ≡ close
    last zero h = absurd (let s = x.some in omega arith)
    last (suc n) h = x.last n (omega arith)

    only : (n : ℕ) → suc m < n → n ≤ suc (length bs) → f (take n (b ∷ bs)) ≡ false
    only zero l h = z
    only (suc n) l h = e (take n bs) ∙ x.only n (omega arith) (omega arith)

longer_is : (bs : List ℕ) (n : ℕ) → 0 < n → n ≤ length bs → is_nil (take n bs) ≡ false
longer_is [] n g h = absurd (omega arith)
longer_is (b ∷ bs) zero g h = absurd (omega arith)
longer_is (b ∷ bs) (suc n) g h = refl

-- the closing byte itself
here : (f : List ℕ → Bool) (close b : ℕ) (bs : List ℕ) → b ≡ close → ((run : List ℕ) → f (b ∷ run) ≡ is_nil run) → f [] ≡ false → EndsAt f close (b ∷ bs) 1
here f close b bs same e z = record { some = omega arith; within = omega arith; last = last; ends = e []; only = only }
  where
    last : (n : ℕ) → 1 ≡ suc n → get_or (b ∷ bs) n 0 ≡ close
    last zero h = same
    last (suc n) h = absurd (omega arith)

    only : (n : ℕ) → 1 < n → n ≤ suc (length bs) → f (take n (b ∷ bs)) ≡ false
    only zero l h = z
    only (suc n) l h = e (take n bs) ∙ longer_is bs n (omega arith) (omega arith)

no_end : (f : List ℕ → Bool) (close : ℕ) → f [] ≡ false → FindsEnd f close [] None
no_end f close z zero h = z
no_end f close z (suc n) h = z

pub ends_found : (close : ℕ) (text : List ℕ) → FindsEnd (ends_at close) close text (up_to close text)
ends_found close [] = no_end (ends_at close) close refl
ends_found close (b ∷ bs) = go (b == close) refl (ends_found close bs)
  where
    go : (t : Bool) → (b == close) ≡ t → FindsEnd (ends_at close) close bs (up_to close bs) → FindsEnd (ends_at close) close (b ∷ bs) (if t then Some 1 else longer_by 1 (up_to close bs))
    go true e x = here (ends_at close) close b bs (is_byte b close e) (λ run. if_true _ _ _ e) refl
    go false e x = later (ends_at close) (ends_at close) close b bs (up_to close bs) (λ run. if_false _ _ _ e) refl x

closes_byte : (escaped same : Bool) → (not escaped && same) ≡ true → same ≡ true
closes_byte true same h = cc
closes_byte false same h = h

pub closed_found : (text : List ℕ) (quote : ℕ) (escaped : Bool) → FindsEnd (is_closed quote escaped) quote text (closed_len quote escaped text)
closed_found [] quote escaped = no_end (is_closed quote escaped) quote refl
closed_found (b ∷ bs) quote escaped = go (not escaped && b == quote) refl (closed_found bs quote (not escaped && b == 92))
  where
    go : (t : Bool) → (not escaped && b == quote) ≡ t → FindsEnd (is_closed quote (not escaped && b == 92)) quote bs (closed_len quote (not escaped && b == 92) bs)
        → FindsEnd (is_closed quote escaped) quote (b ∷ bs) (if t then Some 1 else longer_by 1 (closed_len quote (not escaped && b == 92) bs))
    go true e x = here (is_closed quote escaped) quote b bs (is_byte b quote (closes_byte escaped (b == quote) e)) (λ run. if_true _ _ _ e) refl
    go false e x = later (is_closed quote escaped) (is_closed quote (not escaped && b == 92)) quote b bs (closed_len quote (not escaped && b == 92) bs) (λ run. if_false _ _ _ e) refl x

-- What ends so is found, where the closing byte is of ASCII.
end_found : (f : List ℕ → Bool) (close : ℕ) (text : List ℕ) (o : Option ℕ) → IsUtf8 text → close < 128 → FindsEnd f close text o → Finds (λ run next. f run) text o
end_found f close text None u a x = x
end_found f close text (Some zero) u a x = absurd (let s = x.some in omega arith)
end_found f close text (Some (suc n)) u a x = record {
  some = x.some;
  within = x.within;
  pass = x.ends;
  longest = x.only;
  cut = ascii_end text n u x.within (let e = x.last n refl in omega arith);
}

-- ---- strings and texts between backquotes

pub backquoted_found : (text : List ℕ) → IsUtf8 text → Finds (λ run next. is_backquoted run) text (backquoted_len text)
unfolding is_backquoted backquoted_len
backquoted_found [] u = none_in_empty is_backquoted refl
backquoted_found (b ∷ bs) u = go (b == 96) refl
  where
    go : (t : Bool) → (b == 96) ≡ t → Finds (λ run next. is_backquoted run) (b ∷ bs) (if t then longer_by 1 (up_to 96 bs) else None)
    go true e =
        let same = is_byte b 96 e in
        finds_after is_backquoted (ends_at 96) b bs (up_to 96 bs) refl (λ run. and_is _ _ e) (end_found (ends_at 96) 96 bs (up_to 96 bs) (tail_utf8 b bs (omega arith) u) (omega arith) (ends_found 96 bs))
    go false e = none_after is_backquoted b bs refl (λ run. and_left _ _ e)

is_quote_below : (b : ℕ) → (b == 34 || b == 39) ≡ true → b < 128
is_quote_below b h = grind (arith, nat_tests)

pub string_found : (text : List ℕ) → IsUtf8 text → Finds (λ run next. is_string run) text (string_len text)
unfolding is_string string_len
string_found [] u = none_in_empty is_string refl
string_found (b ∷ bs) u = go (b == 34 || b == 39) refl
  where
    go : (t : Bool) → (b == 34 || b == 39) ≡ t → Finds (λ run next. is_string run) (b ∷ bs) (if t then longer_by 1 (closed_len b false bs) else None)
    go true e =
        let low = is_quote_below b e in
        finds_after is_string (is_closed b false) b bs (closed_len b false bs) refl (λ run. and_is _ _ e) (end_found (is_closed b false) b bs (closed_len b false bs) (tail_utf8 b bs low u) low (closed_found bs b false))
    go false e = none_after is_string b bs refl (λ run. and_left _ _ e)
