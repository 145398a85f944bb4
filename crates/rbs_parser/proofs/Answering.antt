-- What is found of a text's tokens is the text's one answer.
use Rattle.std.proofs.Common.{◌≡◌, ℕ, List, length, Option, Result, Ok, Err, refl, sym, subst}
use Rattle.src_text.specs.declared.span.Span.{Span}
use Rattle.rbs_lexer.specs.Tokens.{Token}
use Rattle.rbs_lexer.specs.Lexing.{IsLexed}
use Rattle.rbs_grammar.specs.Grammar.{Fault}
use Rattle.rbs_grammar.specs.Parse.{Tree, parse}
use Rattle.rbs_grammar.specs.Texts.{room_of_texts, stop_of, Answer, IsAnswer, answer_of}
use Rattle.rbs_grammar.proofs.Texts.{answers, one_answer}
use Rattle.rbs_parser.specs.declared.refusal.Refusal.{Refusal}
use Rattle.rbs_parser.specs.declared.whole.ParseFault.{ParseFault}
use Rattle.rbs_parser.specs.declared.whole.ParseFault.TheVariants as fault
use Rattle.rbs_parser.specs.Answers.{IsFound, IsOnly, Parses}

found_by : (text : List ℕ) (a : Answer) (r : Result Tree ParseFault) → IsAnswer text a → IsOnly r a → IsFound text r
found_by text a (Ok x) h e = subst (IsAnswer text) e h
found_by text a (Err (fault.Syntax span)) h e = subst (IsAnswer text) e h
found_by text a (Err (fault.TooDeep span)) h e = subst (IsAnswer text) e h
found_by text a (Err fault.NoMemory) h e = tt {0}

module _ (text : List ℕ) (tokens begun there rest : List Token) (bad : Option Span) (stop : Span) (found : Result Tree Refusal) (result : Result Tree ParseFault)
    (begins : begun ≡ tokens) (is_rest : rest ≡ there) (parses : Parses (parse room_of_texts begun) found there) (is_stop : stop ≡ stop_of (length text) bad)
    (answered : (outcome : Result Tree (Fault × List Token)) → Parses outcome found rest → IsOnly result (answer_of stop bad outcome)) where
  abbrev the_answer : Answer
  the_answer = answer_of (stop_of (length text) bad) bad (parse room_of_texts tokens)

  only_it : IsOnly result the_answer
  only_it = subst (λ s. IsOnly result (answer_of s bad (parse room_of_texts tokens))) is_stop
      (answered (parse room_of_texts tokens) (subst (λ l. Parses (parse room_of_texts tokens) found l) (sym is_rest) (subst (λ l. Parses (parse room_of_texts l) found there) begins parses)))

  pub is_found : IsLexed text tokens bad → IsFound text result
  is_found l = found_by text the_answer result (answers text tokens bad l (parse room_of_texts tokens) refl) only_it

  pub is_only : ((these : List Token) (other : Option Span) → IsLexed text these other → (tokens ≡ these) × (bad ≡ other)) → (this : Answer) → IsAnswer text this → IsOnly result this
  is_only one this h = subst (IsOnly result) (one_answer text tokens bad one this h) only_it
