-- Operators that methods are named by, and symbols without quotes.
use Rattle.std.specs.Prelude.{ℕ, suc, ◌==◌, ◌&&◌, if◌then◌else◌, List, [], ◌∷◌, length, take, drop, Option, Some, None, codes}
use Rattle.ruby_lexer.specs.declared.kind.RubyKind.TheVariants as k
use Rattle.ruby_lexer.specs.declared.token.RubyToken.{RubyToken}
use Rattle.ruby_lexer.specs.declared.token.RubyValue.TheVariants as value
use Rattle.ruby_lexer.specs.declared.state.State.{State}
use Rattle.ruby_lexer.specs.Characters.{has_front, word_len, marked_len, single_equals}
use Rattle.ruby_lexer.specs.Tokens.{token}

-- the operators, those first that are longer
abbrev pub operators : List (List ℕ)
operators = codes "===" ∷ codes "<=>" ∷ codes "[]=" ∷ codes "**" ∷ codes "==" ∷ codes "!=" ∷ codes "=~" ∷ codes "!~" ∷ codes "<=" ∷ codes ">=" ∷ codes "<<"
    ∷ codes ">>" ∷ codes "[]" ∷ codes "+@" ∷ codes "-@" ∷ codes "+" ∷ codes "-" ∷ codes "*" ∷ codes "/" ∷ codes "%" ∷ codes "<" ∷ codes ">" ∷ codes "&"
    ∷ codes "|" ∷ codes "^" ∷ codes "~" ∷ codes "!" ∷ []

-- how long the first of these is with which the text begins
abbrev pub first_front : List (List ℕ) → List ℕ → ℕ
first_front [] text = 0
first_front (front ∷ fronts) text = if has_front front text then length front else first_front fronts text

-- the longest operator
unfoldable pub operator_len : List ℕ → ℕ
operator_len text = first_front operators text

-- the name of a symbol: a word with its mark, or with a single `=` behind it, or else the longest operator
abbrev pub symbol_name_len : List ℕ → ℕ
symbol_name_len text = let n = marked_len text in
    if n == 0 then operator_len text else (if n == word_len text && single_equals (drop n text) then suc n else n)

-- the symbol of this length behind the `:`
abbrev pub symbol_token : State → List ℕ → ℕ → Option RubyToken
symbol_token s rest len = if len == 0 then None else Some (token s k.Symbol (value.Text (take len (drop 1 rest))) (suc len))

-- the symbol without quotes whose `:` is here
unfoldable pub symbol_here : State → List ℕ → Option RubyToken
symbol_here s rest = symbol_token s rest (symbol_name_len (drop 1 rest))
