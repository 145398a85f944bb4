-- The tree of a text, or the first of its refusals.
use Rattle.std.specs.Prelude.{◌≡◌, ℕ, List, [], ◌∷◌, length, Option, Some, None, Result, Ok, Err}
use Rattle.src_text.specs.declared.span.Span.{Span}
use Rattle.rbs_lexer.specs.Tokens.{Token}
use Rattle.rbs_lexer.specs.Lexing.{AreTokens, IsLexed}
use Rattle.rbs_grammar.specs.Grammar.{Fault, syntax, deep}
use Rattle.rbs_grammar.specs.Levels.{Room, rooms}
use Rattle.rbs_grammar.specs.Parse.{Tree, Spells, Opens, CanGoOn, SyntaxAt, DeepAt}

-- 128 declarations and types may be open at once, and 128 functions.
unfoldable pub room_of_texts : Room
room_of_texts = rooms 128 128

-- The tokens of the text spell the tree.
abbrev pub HasTree : List ℕ → Tree → Type 0
HasTree text x = (tokens : List Token) × AreTokens text tokens × Spells room_of_texts tokens x

-- where the tokens end: at a place where no token begins, or at the text's end
abbrev pub stop_of : ℕ → Option Span → Span
stop_of end None = record { start = end; end = end }
stop_of end (Some bad) = bad

-- the span of the first of some tokens, or of where they end
abbrev pub place_of : Span → List Token → Span
place_of stop [] = stop
place_of stop (t ∷ ts) = t.at

-- The tokens can't go on: with the first of the second list, or at their end, where the text has no further token or it is no tree.
abbrev pub StopsAt : List Token → Option Span → List Token → Type 0
StopsAt tokens bad (t ∷ ts) = SyntaxAt tokens (t ∷ ts)
StopsAt tokens None [] = SyntaxAt tokens []
StopsAt tokens (Some bad) [] = CanGoOn tokens

-- The span is of the first token at which the text can't go on, or of the place where no token begins, or it is the text's end, where
-- more is wanted. No rule too many opens before it.
pub record IsRefused (text : List ℕ) (span : Span) : Type 0 where
  pub tokens : List Token
  pub bad : Option Span
  pub lexed : IsLexed text tokens bad
  pub at : List Token
  pub stops : StopsAt tokens bad at
  pub not_deep : (there : List Token) → Opens room_of_texts tokens there → ⊥
  pub is_there : span ≡ place_of (stop_of (length text) bad) at

-- The span is of the first token of a rule that is one too many, and the text can go on up to it.
pub record IsTooDeep (text : List ℕ) (span : Span) : Type 0 where
  pub tokens : List Token
  pub bad : Option Span
  pub lexed : IsLexed text tokens bad
  pub at : List Token
  pub deep : DeepAt room_of_texts tokens at
  pub is_there : span ≡ place_of (stop_of (length text) bad) at

-- What a text is found to be: a tree, or refused at a place.
abbrev pub Answer : Type 0
Answer = Result Tree (Fault × Span)

abbrev pub IsAnswer : List ℕ → Answer → Type 0
IsAnswer text (Ok x) = HasTree text x
IsAnswer text (Err (syntax, span)) = IsRefused text span
IsAnswer text (Err (deep, span)) = IsTooDeep text span

-- the tree of all tokens, unless behind them no token begins
abbrev pub at_the_end : Option Span → Tree → Answer
at_the_end None x = Ok x
at_the_end (Some bad) x = Err (syntax, bad)

-- the answer by what parsing the tokens gives
abbrev pub answer_of : Span → Option Span → Result Tree (Fault × List Token) → Answer
answer_of stop bad (Ok x) = at_the_end bad x
answer_of stop bad (Err e) = Err (e.0, place_of stop e.1)
