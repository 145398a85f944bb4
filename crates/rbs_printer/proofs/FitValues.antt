-- What the values of real tokens are: integers of 128 bits, and texts.
use Rattle.std.proofs.Common.{◌≡◌, ℕ, zero, suc, ◌+◌, ◌-◌, ◌^◌, ◌<◌, ◌≤◌, ◌==◌, Bool, true, false, not, ◌&&◌, ◌||◌, if◌then◌else◌, List, [], ◌∷◌, ◌++◌, length, take, get_or, slice_index, refl, ap, sym, ◌∙◌, subst, arith, lt-ltb, length-append}
use Rattle.std.specs.Prelude.{ℤ, pos, nat_le, Option, Some, None}
use Rattle.std.specs.Str.{IsUtf8, is_utf8, chars}
use Rattle.std.proofs.lemmas.Bool.{eqb-true}
use Rattle.std.proofs.lemmas.Bool.Decides.{nat_tests}
use Rattle.std.proofs.lemmas.Str.{IsUtf8-append, IsUtf8-take, IsUtf8-drop, IsCharBoundary-before_ascii, IsCharBoundary-after_ascii, IsUtf8-from_ascii, IsUtf8-from_is_utf8, chars_past_char, encode_ascii}
use Rattle.std.proofs.Math.Seq.{take-append_seam, drop-append-add, get_or-append_seam}
use mathlib.Core.List.{append_assoc}
use Rattle.rbs_lexer.specs.Numbers.{value_from}
use Rattle.rbs_lexer.specs.Bytes.{is_nil}
use Rattle.rbs_lexer.specs.Quotes.{is_closed, is_string}
use Rattle.rbs_lexer.specs.Words.{is_word_character, all_word, is_word, is_mark, is_marked}
use Rattle.rbs_lexer.specs.Signs.{is_operator}
use Rattle.rbs_lexer.specs.Runs.{is_symbol}
use Rattle.rbs_grammar.specs.Values.{inner, escaped, unescaped, string_value, symbol_value, negative, sized, integer_value}
use Rattle.rbs_printer.proofs.Fit.{in_range}

-- ---- integers

within : (n m : ℕ) → nat_le n m ≡ true → n ≤ m
within n m h = grind (arith, nat_tests)

sized_in_range : (limit : ℕ) (sign : ℕ → ℤ) (digits : List ℕ) → ((n : ℕ) → n ≤ limit → in_range (sign n) ≡ true) → in_range (sized limit sign digits) ≡ true
sized_in_range limit sign digits fits = go (nat_le (value_from 0 digits) limit) refl
  where
    go : (b : Bool) → nat_le (value_from 0 digits) limit ≡ b → in_range (if b then sign (value_from 0 digits) else pos 0) ≡ true
    go true e = fits (value_from 0 digits) (within (value_from 0 digits) limit e)
    go false e = refl

positive_in_range : (n : ℕ) → n ≤ 2 ^ 127 - 1 → in_range (pos n) ≡ true
positive_in_range n h = lt-ltb n (2 ^ 127) (omega arith)

negative_in_range : (n : ℕ) → n ≤ 2 ^ 127 → in_range (negative n) ≡ true
negative_in_range zero h = refl
negative_in_range (suc n) h = lt-ltb n (2 ^ 127) (omega arith)

pub integer_in_range : (text : List ℕ) → in_range (integer_value text) ≡ true
unfolding integer_value
integer_in_range [] = refl
integer_in_range (b ∷ bs) = go (b == 45)
  where
    go : (t : Bool) → in_range (if t then sized (2 ^ 127) negative bs else sized (2 ^ 127 - 1) pos (b ∷ bs)) ≡ true
    go true = sized_in_range (2 ^ 127) negative bs negative_in_range
    go false = sized_in_range (2 ^ 127 - 1) pos (b ∷ bs) positive_in_range

-- ---- texts cut at a byte of ASCII

one_ascii : (a : ℕ) → a < 128 → IsUtf8 (a ∷ [])
one_ascii a h = IsUtf8-from_ascii (a ∷ []) all
  where
    all : (i : ℕ) → slice_index (a ∷ []) i < 128
    all zero = h
    all (suc i) = omega arith

-- before a byte of ASCII and behind it
pub cut_ascii : (before more : List ℕ) (a : ℕ) → a < 128 → IsUtf8 (before ++ a ∷ more) → IsUtf8 before × IsUtf8 more
cut_ascii before more a small u =
    let there : get_or (before ++ a ∷ more) (length before) 0 ≡ a = get_or-append_seam before a more 0 in
    let long : length (before ++ a ∷ more) ≡ length before + suc (length more) = length-append before (a ∷ more) in
    let low : get_or (before ++ a ∷ more) (length before) 0 < 128 = subst (λ b. b < 128) (sym there) small in
    let room : length before < length (before ++ a ∷ more) = omega arith in (
      subst IsUtf8 (take-append_seam before (a ∷ more)) (IsUtf8-take (before ++ a ∷ more) (length before) u (IsCharBoundary-before_ascii (before ++ a ∷ more) (length before) room low)),
      subst IsUtf8 (drop-append-add before (a ∷ more) 1) (IsUtf8-drop (before ++ a ∷ more) (length before + 1) u (IsCharBoundary-after_ascii (before ++ a ∷ more) (length before) u room low)),
    )

-- another byte of ASCII in the place of some
put_ascii : (before more : List ℕ) (a : ℕ) → a < 128 → IsUtf8 before → IsUtf8 more → IsUtf8 (before ++ a ∷ more)
put_ascii before more a small u v = IsUtf8-append before (a ∷ more) u (IsUtf8-append (a ∷ []) more (one_ascii a small) v)

-- ---- escapes

-- what an escape is made of and stands for are bytes of ASCII
abbrev IsLow : ℕ → Option ℕ → Type 0
IsLow c None = Unit {0}
IsLow c (Some d) = (c < 128) × (d < 128)

escaped_low : (quote c : ℕ) → quote < 128 → IsLow c (escaped quote c)
escaped_low quote c low = go (c == quote) refl (c == 92) refl (quote == 34) (c == 110) refl (c == 116) refl
  where
    go : (t : Bool) → (c == quote) ≡ t → (u : Bool) → (c == 92) ≡ u → (v w : Bool) → (c == 110) ≡ w → (x : Bool) → (c == 116) ≡ x
        → IsLow c (if t || u then Some c else (if v then (if w then Some 10 else (if x then Some 9 else None)) else None))
    go true e u f v w g x h = let same : c < 128 = subst (λ n. n < 128) (sym (eqb-true c quote e)) low in (same, same)
    go false e true f v w g x h = let same : c ≡ 92 = eqb-true c 92 f in (omega arith, omega arith)
    go false e false f false w g x h = tt
    go false e false f true true g x h = let same : c ≡ 110 = eqb-true c 110 g in (omega arith, omega arith)
    go false e false f true false g true h = let same : c ≡ 116 = eqb-true c 116 h in (omega arith, omega arith)
    go false e false f true false g false h = tt

unescaped_plain : (quote b c : ℕ) (bs : List ℕ) → (b == 92) ≡ false → unescaped quote (b ∷ c ∷ bs) ≡ b ∷ unescaped quote (c ∷ bs)
unescaped_plain quote b c bs e = rw e refl

unescaped_one : (quote b c d : ℕ) (bs : List ℕ) → (b == 92) ≡ true → escaped quote c ≡ Some d → unescaped quote (b ∷ c ∷ bs) ≡ d ∷ unescaped quote bs
unescaped_one quote b c d bs e f = rw (e, f) refl

unescaped_none : (quote b c : ℕ) (bs : List ℕ) → (b == 92) ≡ true → escaped quote c ≡ None → unescaped quote (b ∷ c ∷ bs) ≡ 92 ∷ unescaped quote (c ∷ bs)
unescaped_none quote b c bs e f = rw (e, f) refl

-- a byte more before the others
shifted : (before more : List ℕ) (b : ℕ) → (before ++ b ∷ []) ++ more ≡ before ++ b ∷ more
shifted before more b = append_assoc before (b ∷ []) more

unescaped_utf8 : (quote : ℕ) → quote < 128 → (before bs : List ℕ) → IsUtf8 (before ++ bs) → IsUtf8 (before ++ unescaped quote bs)
unescaped_utf8 quote low before [] u = u
unescaped_utf8 quote low before (b ∷ []) u = u
unescaped_utf8 quote low before (b ∷ c ∷ bs) u = go (b == 92) refl (escaped quote c) refl (escaped_low quote c low)
    (λ before u. unescaped_utf8 quote low before (c ∷ bs) u) (λ before u. unescaped_utf8 quote low before bs u)
  where
    kept : (b : ℕ) (value : List ℕ) → IsUtf8 ((before ++ b ∷ []) ++ value) → IsUtf8 (before ++ b ∷ value)
    kept b value u = subst IsUtf8 (shifted before value b) u

    go : (t : Bool) → (b == 92) ≡ t → (o : Option ℕ) → escaped quote c ≡ o → IsLow c o
        → ((before : List ℕ) → IsUtf8 (before ++ c ∷ bs) → IsUtf8 (before ++ unescaped quote (c ∷ bs))) → ((before : List ℕ) → IsUtf8 (before ++ bs) → IsUtf8 (before ++ unescaped quote bs))
        → IsUtf8 (before ++ unescaped quote (b ∷ c ∷ bs))
    go false e o f small one two =
        subst (λ value. IsUtf8 (before ++ value)) (sym (unescaped_plain quote b c bs e)) (kept b (unescaped quote (c ∷ bs)) (one (before ++ b ∷ []) (subst IsUtf8 (sym (shifted before (c ∷ bs) b)) u)))
    go true e None f small one two =
        let same : b ≡ 92 = eqb-true b 92 e in
        subst (λ value. IsUtf8 (before ++ value)) (sym (unescaped_none quote b c bs e f)) (kept 92 (unescaped quote (c ∷ bs)) (one (before ++ 92 ∷ []) (subst IsUtf8 (sym (shifted before (c ∷ bs) 92)) (subst (λ n. IsUtf8 (before ++ n ∷ c ∷ bs)) same u))))
    go true e (Some d) f small one two =
        let same : b ≡ 92 = eqb-true b 92 e in
        let first = cut_ascii before (c ∷ bs) b (omega arith) u in
        let more = (cut_ascii [] bs c small.0 first.1).1 in
        subst (λ value. IsUtf8 (before ++ value)) (sym (unescaped_one quote b c d bs e f)) (kept d (unescaped quote bs) (two (before ++ d ∷ []) (subst IsUtf8 (sym (shifted before bs d)) (put_ascii before bs d small.1 first.0 more))))

-- ---- strings

-- what ends at a quote has it at its end
closed_at : (quote : ℕ) (skips : Bool) (bs : List ℕ) → is_closed quote skips bs ≡ true → (middle : List ℕ) × (bs ≡ middle ++ quote ∷ [])
closed_at quote skips [] h = cc
closed_at quote skips (b ∷ bs) h = go (not skips && b == quote) refl bs h (λ s h. closed_at quote s bs h)
  where
    go : (t : Bool) → (not skips && b == quote) ≡ t → (bs : List ℕ) → (if t then is_nil bs else is_closed quote (not skips && b == 92) bs) ≡ true
        → ((s : Bool) → is_closed quote s bs ≡ true → (middle : List ℕ) × (bs ≡ middle ++ quote ∷ [])) → (middle : List ℕ) × (b ∷ bs ≡ middle ++ quote ∷ [])
    go true e [] h ends = ([], ap (λ n. n ∷ []) (eqb-true b quote (last (not skips) (b == quote) e)))
      where
        last : (s t : Bool) → (s && t) ≡ true → t ≡ true
        last true t h = h
        last false t h = cc
    go true e (c ∷ bs) h ends = cc
    go false e bs h ends = let more = ends (not skips && b == 92) h in (b ∷ more.0, ap (λ xs. b ∷ xs) more.1)

inner_closed : (quote : ℕ) (middle : List ℕ) → inner (quote ∷ (middle ++ quote ∷ [])) ≡ middle
inner_closed quote middle =
    let size : length (quote ∷ (middle ++ quote ∷ [])) - 2 ≡ length middle = omega (arith, length-append middle (quote ∷ [])) in
    ap (λ n. take n (middle ++ quote ∷ [])) size ∙ take-append_seam middle (quote ∷ [])

is_quote : (b : ℕ) → (b == 34 || b == 39) ≡ true → b < 128
is_quote b h = go (b == 34) refl (b == 39) refl h
  where
    go : (t : Bool) → (b == 34) ≡ t → (u : Bool) → (b == 39) ≡ u → (t || u) ≡ true → b < 128
    go true e u f h = let same : b ≡ 34 = eqb-true b 34 e in omega arith
    go false e true f h = let same : b ≡ 39 = eqb-true b 39 f in omega arith
    go false e false f h = cc

both_true : (s t : Bool) → (s && t) ≡ true → (s ≡ true) × (t ≡ true)
both_true true t h = (refl, h)
both_true false t h = cc

-- A string stands for a text.
pub string_is_utf8 : (text : List ℕ) → IsUtf8 text → is_string text ≡ true → IsUtf8 (string_value text)
unfolding is_string string_value
string_is_utf8 [] u h = cc
string_is_utf8 (b ∷ bs) u h =
    let tests = both_true (b == 34 || b == 39) (is_closed b false bs) h in
    let low = is_quote b tests.0 in
    let closed = closed_at b false bs tests.1 in
    let rest : IsUtf8 (closed.0 ++ b ∷ []) = subst IsUtf8 closed.1 (cut_ascii [] bs b low u).1 in
    let middle : IsUtf8 (unescaped b closed.0) = unescaped_utf8 b low [] closed.0 (cut_ascii closed.0 [] b low rest).0 in
    subst (λ bytes. IsUtf8 (unescaped b bytes)) (sym (ap (λ xs. inner (b ∷ xs)) closed.1 ∙ inner_closed b closed.0)) middle

-- ---- symbols

not_both : (s t : Bool) → t ≡ false → (s && t) ≡ false
not_both true t h = h
not_both false t h = refl

-- what begins with another character of ASCII is no word
not_word : (c : ℕ) (xs : List ℕ) → c < 128 → is_word_character c ≡ false → is_word (c ∷ xs) ≡ false
unfolding is_word
not_word c xs low other = go (is_utf8 (c ∷ xs)) refl
  where
    go : (t : Bool) → is_utf8 (c ∷ xs) ≡ t → (t && all_word (chars (c ∷ xs))) ≡ false
    go true e = ap all_word (chars_past_char (c ∷ xs) xs c (IsUtf8-from_is_utf8 (c ∷ xs) e) (ap (λ bytes. bytes ++ xs) (sym (encode_ascii c low)))) ∙ ap (λ t. t && all_word (chars xs)) other
    go false e = refl

not_marked : (c : ℕ) (xs : List ℕ) → c < 128 → is_word_character c ≡ false → is_marked true (c ∷ xs) ≡ false
unfolding is_marked is_word
not_marked c [] low other = not_both (is_mark true (slice_index (c ∷ []) (length (c ∷ []) - 1))) false refl
not_marked c (d ∷ ds) low other =
    let size : length (c ∷ d ∷ ds) - 1 ≡ suc (length ds) = omega arith in
    not_both (is_mark true (slice_index (c ∷ d ∷ ds) (length (c ∷ d ∷ ds) - 1))) (is_word (take (length (c ∷ d ∷ ds) - 1) (c ∷ d ∷ ds)))
    (ap (λ n. is_word (take n (c ∷ d ∷ ds))) size ∙ not_word c (take (length ds) (d ∷ ds)) low other)

-- which of four tests holds where the first three don't
fourth : (s t u v : Bool) → s ≡ false → t ≡ false → u ≡ false → (s || (t || (u || v))) ≡ true → v ≡ true
fourth true t u v e f g h = cc
fourth false true u v e f g h = cc
fourth false false true v e f g h = cc
fourth false false false v e f g h = h

abbrev named : List ℕ → Bool
named run = is_word run || (is_marked true run || (is_operator run || is_string run))

double_quoted : (xs : List ℕ) → named (34 ∷ xs) ≡ true → is_string (34 ∷ xs) ≡ true
unfolding is_operator
double_quoted xs h = fourth (is_word (34 ∷ xs)) (is_marked true (34 ∷ xs)) (is_operator (34 ∷ xs)) (is_string (34 ∷ xs)) (not_word 34 xs (omega arith) refl) (not_marked 34 xs (omega arith) refl) refl h

single_quoted : (xs : List ℕ) → named (39 ∷ xs) ≡ true → is_string (39 ∷ xs) ≡ true
unfolding is_operator
single_quoted xs h = fourth (is_word (39 ∷ xs)) (is_marked true (39 ∷ xs)) (is_operator (39 ∷ xs)) (is_string (39 ∷ xs)) (not_word 39 xs (omega arith) refl) (not_marked 39 xs (omega arith) refl) refl h

quoted_name : (c : ℕ) (xs : List ℕ) → (t : Bool) → (c == 34) ≡ t → (u : Bool) → (c == 39) ≡ u → (t || u) ≡ true → named (c ∷ xs) ≡ true → is_string (c ∷ xs) ≡ true
quoted_name c xs true e u f some h = let same : c ≡ 34 = eqb-true c 34 e in subst (λ n. is_string (n ∷ xs) ≡ true) (sym same) (double_quoted xs (subst (λ n. named (n ∷ xs) ≡ true) same h))
quoted_name c xs false e true f some h = let same : c ≡ 39 = eqb-true c 39 f in subst (λ n. is_string (n ∷ xs) ≡ true) (sym same) (single_quoted xs (subst (λ n. named (n ∷ xs) ≡ true) same h))
quoted_name c xs false e false f some h = cc

name_is_utf8 : (name : List ℕ) → IsUtf8 name → named name ≡ true → IsUtf8 (if slice_index name 0 == 34 || slice_index name 0 == 39 then string_value name else name)
name_is_utf8 [] u h = u
name_is_utf8 (c ∷ xs) u h = go (c == 34) refl (c == 39) refl
  where
    go : (t : Bool) → (c == 34) ≡ t → (v : Bool) → (c == 39) ≡ v → IsUtf8 (if t || v then string_value (c ∷ xs) else c ∷ xs)
    go true e v f = string_is_utf8 (c ∷ xs) u (quoted_name c xs true e v f refl h)
    go false e true f = string_is_utf8 (c ∷ xs) u (quoted_name c xs false e true f refl h)
    go false e false f = u

-- The name of a symbol is a text.
pub symbol_is_utf8 : (text : List ℕ) → IsUtf8 text → is_symbol text ≡ true → IsUtf8 (symbol_value text)
unfolding is_symbol symbol_value
symbol_is_utf8 [] u h = cc
symbol_is_utf8 (b ∷ run) u h =
    let tests = both_true (b == 58) (named run) h in
    let same : b ≡ 58 = eqb-true b 58 tests.0 in
    name_is_utf8 run (cut_ascii [] run b (omega arith) u).1 tests.1
