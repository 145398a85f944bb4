-- Punctuation, and the operators that methods are named by.
use Rattle.std.specs.Prelude.{ℕ, Bool, List, [], ◌∷◌, codes, bytes_eq, Option}
use Rattle.std.specs.List.{list_any}
use Rattle.rbs_lexer.specs.declared.kind.Kind.{Kind}
use Rattle.rbs_lexer.specs.declared.kind.Kind.TheVariants as k
use Rattle.rbs_lexer.specs.Words.{entry}

-- the signs
abbrev pub signs : List (List ℕ × Kind)
signs = (codes "(", k.LeftParen) ∷ (codes ")", k.RightParen) ∷ (codes "[", k.LeftBracket) ∷ (codes "]", k.RightBracket)
    ∷ (codes "{", k.LeftBrace) ∷ (codes "}", k.RightBrace) ∷ (codes ",", k.Comma) ∷ (codes ":", k.Colon) ∷ (codes "::", k.ColonColon)
    ∷ (codes ".", k.Dot) ∷ (codes "|", k.Bar) ∷ (codes "&", k.Ampersand) ∷ (codes "?", k.Question) ∷ (codes "*", k.Star) ∷ (codes "**", k.StarStar)
    ∷ (codes "^", k.Caret) ∷ (codes "->", k.Arrow) ∷ (codes "=", k.Equals) ∷ (codes "<", k.Less) ∷ (codes "...", k.Ellipsis) ∷ []

-- the operators
abbrev pub operators : List (List ℕ)
operators = codes "+" ∷ codes "-" ∷ codes "*" ∷ codes "/" ∷ codes "%" ∷ codes "**" ∷ codes "==" ∷ codes "!=" ∷ codes "===" ∷ codes "=~" ∷ codes "!~"
    ∷ codes "<=>" ∷ codes "<" ∷ codes "<=" ∷ codes ">" ∷ codes ">=" ∷ codes "<<" ∷ codes ">>" ∷ codes "&" ∷ codes "|" ∷ codes "^" ∷ codes "~"
    ∷ codes "!" ∷ codes "[]" ∷ codes "[]=" ∷ codes "+@" ∷ codes "-@" ∷ []

-- what is a token of its own where a name may stand: the operators that are signs too, and `self?`
abbrev pub special_names : List (List ℕ × Kind)
special_names = (codes "|", k.Bar) ∷ (codes "&", k.Ampersand) ∷ (codes "self?", k.SelfQuestion) ∷ []

-- the kind of a sign
unfoldable pub sign_kind : List ℕ → Option Kind
sign_kind run = entry run signs

-- the kind of such a name
unfoldable pub special_kind : List ℕ → Option Kind
special_kind run = entry run special_names

-- an operator
unfoldable pub is_operator : List ℕ → Bool
is_operator run = list_any (bytes_eq run) operators
