-- Words of ASCII are read byte after byte.
use Rattle.std.proofs.Common.{◌≡◌, ℕ, suc, ◌+◌, ◌<◌, ◌≤◌, nat_lt, Bool, true, false, not, ◌&&◌, ◌||◌, List, [], ◌∷◌, length, take, drop, refl, sym, ◌∙◌, ap, subst, arith}
use Rattle.std.specs.Prelude.{if◌then◌else◌, slice_index}
use Rattle.std.specs.Str.{IsUtf8, IsCharBoundary, chars}
use Rattle.std.proofs.lemmas.Bool.Decides.{nat_tests}
use Rattle.rbs_lexer.specs.Words.{is_word_character}
use Rattle.rbs_lexer.specs.Finds.{is_word_byte, plain_len, word_bytes, word_len}
use Rattle.rbs_lexer.proofs.Finding.{if_true, if_false, and_true}
use Rattle.rbs_lexer.proofs.Skipping.{all_ascii, ascii_cut, both}
use Rattle.rbs_lexer.proofs.WordsFound.{word_cut}
use Rattle.rbs_lexer.proofs.Below.{every_below, below_holds, implied, not_false}

-- ---- the first byte, where it is of ASCII

pub chars_plain : (b : ℕ) (bs : List ℕ) → nat_lt b 128 ≡ true → chars (b ∷ bs) ≡ b ∷ chars bs
unfolding chars
chars_plain b [] h = rw h refl
chars_plain b (c ∷ bs) h = rw h refl

pub no_character : (b : ℕ) (bs : List ℕ) → nat_lt b 128 ≡ true → is_word_character b ≡ false → word_len (b ∷ bs) ≡ 0
no_character b bs h e = ap word_bytes (chars_plain b bs h) ∙ if_false _ _ _ e

one_character : (b : ℕ) (bs : List ℕ) → nat_lt b 128 ≡ true → is_word_character b ≡ true → word_len (b ∷ bs) ≡ suc (word_len bs)
one_character b bs h e = ap word_bytes (chars_plain b bs h) ∙ if_true _ _ _ e ∙ rw h (let more : 1 + word_bytes (chars bs) ≡ suc (word_bytes (chars bs)) = omega arith in more)

-- ---- tests of a byte, computed

words_pass : every_below 123 (λ b. not (is_word_byte b) || (nat_lt b 128 && is_word_character b)) ≡ true
unfolding every_below
words_pass = refl

others_fail : every_below 128 (λ b. not (not (is_word_byte b)) || not (is_word_character b)) ≡ true
unfolding every_below
others_fail = refl

word_byte_small : (b : ℕ) → is_word_byte b ≡ true → b < 123
word_byte_small b h = grind (arith, nat_tests)

is_small : (b : ℕ) → nat_lt b 128 ≡ true → b < 128
is_small b h = grind (arith, nat_tests)

passes : (b : ℕ) → is_word_byte b ≡ true → (nat_lt b 128 ≡ true) × (is_word_character b ≡ true)
passes b e = both _ _ (implied (is_word_byte b) _ (below_holds 123 (λ b. not (is_word_byte b) || (nat_lt b 128 && is_word_character b)) words_pass b (word_byte_small b e)) e)

fails : (b : ℕ) → nat_lt b 128 ≡ true → is_word_byte b ≡ false → is_word_character b ≡ false
fails b h e = not_false _ (implied (not (is_word_byte b)) _ (below_holds 128 (λ b. not (not (is_word_byte b)) || not (is_word_character b)) others_fail b (is_small b h)) (ap not e))

next : (b : ℕ) (bs : List ℕ) → is_word_byte b ≡ true → word_len (b ∷ bs) ≡ suc (word_len bs)
next b bs e = let p = passes b e in one_character b bs p.0 p.1

-- ---- all of them

pub goes_on : (text : List ℕ) → word_len text ≡ plain_len text + word_len (drop (plain_len text) text)
goes_on [] = omega arith
goes_on (b ∷ bs) = go (is_word_byte b) refl (goes_on bs)
  where
    go : (t : Bool) → is_word_byte b ≡ t → word_len bs ≡ plain_len bs + word_len (drop (plain_len bs) bs)
        → word_len (b ∷ bs) ≡ (if t then suc (plain_len bs) else 0) + word_len (drop (if t then suc (plain_len bs) else 0) (b ∷ bs))
    go true e h = let n = next b bs e in omega arith
    go false e h = omega arith

pub plain_all : (text : List ℕ) → nat_lt (slice_index text (plain_len text)) 128 ≡ true → plain_len text ≡ word_len text
unfolding chars
plain_all [] h = refl
plain_all (b ∷ bs) h = go (is_word_byte b) refl h (plain_all bs)
  where
    go : (t : Bool) → is_word_byte b ≡ t → nat_lt (slice_index (b ∷ bs) (if t then suc (plain_len bs) else 0)) 128 ≡ true
        → (nat_lt (slice_index bs (plain_len bs)) 128 ≡ true → plain_len bs ≡ word_len bs) → (if t then suc (plain_len bs) else 0) ≡ word_len (b ∷ bs)
    go true e h i = ap suc (i h) ∙ sym (next b bs e)
    go false e h i = sym (no_character b bs h (fails b h e))

within : (text : List ℕ) → plain_len text ≤ length text
within [] = omega arith
within (b ∷ bs) = go (is_word_byte b) (within bs)
  where
    go : (t : Bool) → plain_len bs ≤ length bs → (if t then suc (plain_len bs) else 0) ≤ suc (length bs)
    go true h = omega arith
    go false h = omega arith

plain_ascii : (text : List ℕ) → all_ascii (take (plain_len text) text) ≡ true
plain_ascii [] = refl
plain_ascii (b ∷ bs) = go (is_word_byte b) refl (plain_ascii bs)
  where
    go : (t : Bool) → is_word_byte b ≡ t → all_ascii (take (plain_len bs) bs) ≡ true → all_ascii (take (if t then suc (plain_len bs) else 0) (b ∷ bs)) ≡ true
    go true e h = and_true _ _ (passes b e).0 h
    go false e h = refl

pub plain_cut : (text : List ℕ) → IsUtf8 text → IsCharBoundary text (plain_len text)
plain_cut text u = ascii_cut text (plain_len text) u (within text) (plain_ascii text)

pub cut_there : (text : List ℕ) (len : ℕ) → IsUtf8 text → len ≡ word_len text → IsCharBoundary text len
cut_there text len u e = subst (IsCharBoundary text) (sym e) (word_cut text u)
