-- The tokens of pieces that stand behind other pieces.
use Rattle.std.proofs.Common.{◌≡◌, ◌+◌, length, List, [], ◌∷◌, ◌++◌, refl, ap, ◌∙◌}
use mathlib.Core.List.{append_assoc}
use Rattle.rbs_lexer.specs.Tokens.{Token}
use Rattle.rbs_lexer.specs.declared.walk.Walk.{Walk}
use Rattle.rbs_lexer.specs.Lexing.{Piece, token, gap, past, past_all, tokens_of}

pub past_all-append : (walk : Walk) (a b : List Piece) → past_all walk (a ++ b) ≡ past_all (past_all walk a) b
past_all-append walk [] b = refl
past_all-append walk (p ∷ a) b = past_all-append (past walk p) a b

pub tokens_of-append : (walk : Walk) (a b : List Piece) → tokens_of walk (a ++ b) ≡ tokens_of walk a ++ tokens_of (past_all walk a) b
tokens_of-append walk [] b = refl
tokens_of-append walk (token kind bytes ∷ a) b = ap (λ ts. record { kind = kind; text = bytes; at = record { start = walk.at; end = walk.at + length bytes }; begins_line = walk.line_ended } ∷ ts) (tokens_of-append (past walk (token kind bytes)) a b)
tokens_of-append walk (gap bytes ∷ a) b = tokens_of-append (past walk (gap bytes)) a b

-- the same before other tokens
pub tokens_before : (walk : Walk) (a b : List Piece) (rest : List Token) → tokens_of walk (a ++ b) ++ rest ≡ tokens_of walk a ++ (tokens_of (past_all walk a) b ++ rest)
tokens_before walk a b rest = ap (λ ts. ts ++ rest) (tokens_of-append walk a b) ∙ append_assoc (tokens_of walk a) (tokens_of (past_all walk a) b) rest
