-- The longest run is found at the front of a text at each place.
use Rattle.std.proofs.Common.{◌≡◌, ℕ, ◌<◌, ◌≤◌, ◌==◌, Bool, true, false, ◌&&◌, ◌||◌, List, [], ◌∷◌, length, Option, Some, None, refl, sym, subst, arith}
use Rattle.std.specs.Prelude.{if◌then◌else◌, slice_index, IfSome}
use Rattle.std.specs.Str.{IsUtf8, IsCharBoundary}
use Rattle.std.proofs.lemmas.Str.{IsCharBoundary-after_ascii}
use Rattle.rbs_lexer.specs.declared.kind.Kind.TheVariants as k
use Rattle.rbs_lexer.specs.declared.place.Place.{Place}
use Rattle.rbs_lexer.specs.declared.reading.Found.{Found}
use Rattle.rbs_lexer.specs.Bytes.{begins_with_digit}
use Rattle.rbs_lexer.specs.Words.{is_word, is_marked}
use Rattle.rbs_lexer.specs.Quotes.{is_string, is_backquoted}
use Rattle.rbs_lexer.specs.Signs.{is_operator}
use Rattle.rbs_lexer.specs.Gaps.{is_gap, annotation}
use Rattle.rbs_lexer.specs.Places.{has_name, takes_equals}
use Rattle.rbs_lexer.specs.Runs.{Language, either, of_kind, behind, gap, string, symbol, sign, special, word, integer, is_symbol, variable, ordinary, is_method_name, name, reading}
use Rattle.rbs_lexer.specs.Finds.{longer_by, longer_len, longer, found_of, gap_len, string_len, backquoted_len, operator_len, any_word_len, marked_len, numeric_len, word_behind, word_behind_two, variable_front, symbol_name_len, symbol_len, special_front, ordinary_front, method_name_len, takes_it, name_front, front_at}
use Rattle.rbs_lexer.proofs.Finding.{Test, Finds, FindsReading, finds_or, finds_after, none_after, none_in_empty, tail_utf8, reads_either, reads_of_kind, reads_skipped, and_left, and_is, is_byte}
use Rattle.rbs_lexer.proofs.Quoted.{string_found, backquoted_found}
use Rattle.rbs_lexer.proofs.Skipping.{gap_found}
use Rattle.rbs_lexer.proofs.Annotated.{annotation_found}
use Rattle.rbs_lexer.proofs.Integers.{number_found}
use Rattle.rbs_lexer.proofs.Tables.{operator_found, sign_found, special_found}
use Rattle.rbs_lexer.proofs.WordsFound.{any_word_found, numeric_found, word_found}
use Rattle.rbs_lexer.proofs.Marked.{marked_found}

pub first_cut : (text : List ℕ) → IsUtf8 text → 0 < length text → slice_index text 0 < 128 → IsCharBoundary text 1
first_cut text u s a = IsCharBoundary-after_ascii text 0 u s a

-- what passes behind a byte of ASCII
behind_found : (c : ℕ) (passes : List ℕ → Bool) (len : List ℕ → Option ℕ) → c < 128 → ((text : List ℕ) → IsUtf8 text → Finds (λ run next. passes run) text (len text))
    → (b : ℕ) (bs : List ℕ) → IsUtf8 (b ∷ bs) → Finds (λ run next. behind c passes run) (b ∷ bs) (if b == c then longer_by 1 (len bs) else None)
behind_found c passes len low found b bs u = go (b == c) refl
  where
    go : (t : Bool) → (b == c) ≡ t → Finds (λ run next. behind c passes run) (b ∷ bs) (if t then longer_by 1 (len bs) else None)
    go true e = let same = is_byte b c e in finds_after (behind c passes) passes b bs (len bs) refl (λ run. and_is _ _ e) (found bs (tail_utf8 b bs (omega arith) u))
    go false e = none_after (behind c passes) b bs refl (λ run. and_left _ _ e)

word_behind_found : (c : ℕ) → c < 128 → (text : List ℕ) → IsUtf8 text → Finds (λ run next. behind c is_word run) text (word_behind c text)
unfolding word_behind
word_behind_found c low [] u = none_in_empty (behind c is_word) refl
word_behind_found c low (b ∷ bs) u = behind_found c is_word any_word_len low any_word_found b bs u

word_behind_two_found : (c : ℕ) → c < 128 → (text : List ℕ) → IsUtf8 text → Finds (λ run next. behind c (behind c is_word) run) text (word_behind_two c text)
unfolding word_behind_two
word_behind_two_found c low [] u = none_in_empty (behind c (behind c is_word)) refl
word_behind_two_found c low (b ∷ bs) u = behind_found c (behind c is_word) (word_behind c) low (word_behind_found c low) b bs u

variable_found : (text : List ℕ) → IsUtf8 text → FindsReading variable text (variable_front text)
unfolding variable variable_front
variable_found text u =
    let instance : Language = λ run next. of_kind k.InstanceVariable (behind 64 is_word run) in
    let shared : Language = λ run next. of_kind k.ClassVariable (behind 64 (behind 64 is_word) run) in
    let global : Language = λ run next. of_kind k.Global (behind 36 is_word run) in
    reads_either instance (either shared global) text (found_of k.InstanceVariable (word_behind 64 text)) (longer (found_of k.ClassVariable (word_behind_two 64 text)) (found_of k.Global (word_behind 36 text)))
    (reads_of_kind k.InstanceVariable (λ run next. behind 64 is_word run) text (word_behind 64 text) (word_behind_found 64 (omega arith) text u))
    (reads_either shared global text (found_of k.ClassVariable (word_behind_two 64 text)) (found_of k.Global (word_behind 36 text))
    (reads_of_kind k.ClassVariable (λ run next. behind 64 (behind 64 is_word) run) text (word_behind_two 64 text) (word_behind_two_found 64 (omega arith) text u))
    (reads_of_kind k.Global (λ run next. behind 36 is_word run) text (word_behind 36 text) (word_behind_found 36 (omega arith) text u)))

-- ---- symbols

pub symbol_name_found : (text : List ℕ) → IsUtf8 text → Finds (λ run next. is_word run || (is_marked true run || (is_operator run || is_string run))) text (symbol_name_len text)
unfolding symbol_name_len
symbol_name_found text u =
    finds_or (λ run next. is_word run) (λ run next. is_marked true run || (is_operator run || is_string run)) text (any_word_len text) (longer_len (marked_len true text) (longer_len (operator_len text) (string_len text)))
    (any_word_found text u)
    (finds_or (λ run next. is_marked true run) (λ run next. is_operator run || is_string run) text (marked_len true text) (longer_len (operator_len text) (string_len text))
    (marked_found text u (λ next. true))
    (finds_or (λ run next. is_operator run) (λ run next. is_string run) text (operator_len text) (string_len text) (operator_found text u) (string_found text u)))

finds_within : (a : Test) (text : List ℕ) (o : Option ℕ) → Finds a text o → IfSome o (λ len. len ≤ length text)
finds_within a text None x = tt {0}
finds_within a text (Some len) x = x.within

pub symbol_name_within : (text : List ℕ) (o : Option ℕ) → IsUtf8 text → o ≡ symbol_name_len text → IfSome o (λ len. len ≤ length text)
symbol_name_within text o u e = finds_within (λ run next. is_word run || (is_marked true run || (is_operator run || is_string run))) text o
    (subst (λ (o : Option ℕ). Finds (λ run next. is_word run || (is_marked true run || (is_operator run || is_string run))) text o) (sym e) (symbol_name_found text u))

symbol_found : (text : List ℕ) → IsUtf8 text → Finds (λ run next. is_symbol run) text (symbol_len text)
unfolding is_symbol symbol_len
symbol_found [] u = none_in_empty is_symbol refl
symbol_found (b ∷ bs) u = behind_found 58 (λ run. is_word run || (is_marked true run || (is_operator run || is_string run))) symbol_name_len (omega arith) symbol_name_found b bs u

-- ---- what can stand anywhere

ordinary_found : (text : List ℕ) → IsUtf8 text → FindsReading ordinary text (ordinary_front text)
unfolding ordinary ordinary_front
ordinary_found text u =
    let from_variable : Language = either variable sign in
    let from_symbol : Language = either symbol from_variable in
    let from_string : Language = either string from_symbol in
    let from_integer : Language = either integer from_string in
    let from_word : Language = either word from_integer in
    let from_annotation : Language = either annotation from_word in
    reads_either gap from_annotation text _ _ (reads_skipped (λ run next. is_gap run) text (gap_len text) (gap_found text u))
    (reads_either annotation from_word text _ _ (annotation_found text u)
    (reads_either word from_integer text _ _ (word_found text u)
    (reads_either integer from_string text _ _ (number_found text u)
    (reads_either string from_symbol text _ _ (reads_of_kind k.String (λ run next. is_string run) text (string_len text) (string_found text u))
    (reads_either symbol from_variable text _ _ (reads_of_kind k.Symbol (λ run next. is_symbol run) text (symbol_len text) (symbol_found text u))
    (reads_either variable sign text _ _ (variable_found text u) (sign_found text u)))))))

-- ---- names of methods

method_name_found : (place : Place) (text : List ℕ) → IsUtf8 text → Finds (λ run next. is_method_name (takes_equals place next) run) text (method_name_len (takes_it place text) text)
unfolding is_method_name method_name_len
method_name_found place text u =
    finds_or (λ run next. is_marked (takes_equals place next) run) (λ run next. (begins_with_digit run && is_word run) || (is_operator run || is_backquoted run)) text
    (marked_len (takes_it place text) text) (longer_len (numeric_len text) (longer_len (operator_len text) (backquoted_len text)))
    (marked_found text u (takes_equals place))
    (finds_or (λ run next. begins_with_digit run && is_word run) (λ run next. is_operator run || is_backquoted run) text (numeric_len text) (longer_len (operator_len text) (backquoted_len text))
    (numeric_found text u)
    (finds_or (λ run next. is_operator run) (λ run next. is_backquoted run) text (operator_len text) (backquoted_len text) (operator_found text u) (backquoted_found text u)))

name_found : (place : Place) (text : List ℕ) → IsUtf8 text → FindsReading (name place) text (found_of k.MethodName (method_name_len (takes_it place text) text))
unfolding name
name_found place text u = reads_of_kind k.MethodName (λ run next. is_method_name (takes_equals place next) run) text (method_name_len (takes_it place text) text) (method_name_found place text u)

pub front_found : (place : Place) (text : List ℕ) → IsUtf8 text → FindsReading (reading place) text (front_at place text)
unfolding reading front_at name_front
front_found place text u = go (has_name place)
  where
    named : Option Found
    named = found_of k.MethodName (method_name_len (takes_it place text) text)

    go : (t : Bool) → FindsReading (if t then either special (either (name place) ordinary) else ordinary) text
        (if t then longer (special_front text) (longer named (ordinary_front text)) else ordinary_front text)
    go true = reads_either special (either (name place) ordinary) text (special_front text) (longer named (ordinary_front text)) (special_found text u)
        (reads_either (name place) ordinary text named (ordinary_front text) (name_found place text u) (ordinary_found text u))
    go false = ordinary_found text u
