-- What passes a test as a whole: the longest front that passes is all of it.
use Rattle.std.proofs.Common.{◌≡◌, ℕ, ◌<◌, ◌==◌, Bool, true, false, ◌||◌, List, [], ◌∷◌, length, take, Option, Some, None, refl, ◌∙◌, sym, ap, subst, arith}
use Rattle.std.specs.Str.{IsUtf8}
use Rattle.std.proofs.lemmas.Bool.Decides.{nat_tests}
use Rattle.rbs_lexer.specs.Words.{is_word, is_marked}
use Rattle.rbs_lexer.specs.Signs.{is_operator}
use Rattle.rbs_lexer.specs.Finds.{is_all, longer_len, any_word_len, marked_len, operator_len}
use Rattle.rbs_lexer.proofs.Finding.{Finds, finds_or}
use Rattle.rbs_lexer.proofs.Tables.{operator_found}
use Rattle.rbs_lexer.proofs.WordsFound.{any_word_found}
use Rattle.rbs_lexer.proofs.Marked.{marked_found}

take_all : (xs : List ℕ) → take (length xs) xs ≡ xs
take_all [] = refl
take_all (x ∷ xs) = ap (λ ys. x ∷ ys) (take_all xs)

passes_all : (f : List ℕ → Bool) (text : List ℕ) (o : Option ℕ) → Finds (λ run next. f run) text o → is_all o text ≡ f text
passes_all f text None none = sym (ap f (sym (take_all text)) ∙ none (length text) (omega arith))
passes_all f text (Some len) found = go (len == length text) refl
  where
    go : (t : Bool) → (len == length text) ≡ t → (len == length text) ≡ f text
    go true e = let same : len ≡ length text = grind (arith, nat_tests) in
        e ∙ sym (ap f (sym (take_all text)) ∙ subst (λ n. f (take n text) ≡ true) same found.pass)
    go false e = let within = found.within in let less : len < length text = grind (arith, nat_tests) in
        e ∙ sym (ap f (sym (take_all text)) ∙ found.longest (length text) less (omega arith))

pub word_whole : (text : List ℕ) → IsUtf8 text → is_all (any_word_len text) text ≡ is_word text
word_whole text u = passes_all is_word text (any_word_len text) (any_word_found text u)

pub symbol_name_whole : (text : List ℕ) → IsUtf8 text → is_all (longer_len (any_word_len text) (longer_len (marked_len true text) (operator_len text))) text
    ≡ (is_word text || (is_marked true text || is_operator text))
symbol_name_whole text u = passes_all (λ run. is_word run || (is_marked true run || is_operator run)) text _
    (finds_or (λ run next. is_word run) (λ run next. is_marked true run || is_operator run) text _ _ (any_word_found text u)
    (finds_or (λ run next. is_marked true run) (λ run next. is_operator run) text _ _ (marked_found text u (λ next. true)) (operator_found text u)))
