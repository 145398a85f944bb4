-- A text is lexed in one way, whatever its bytes are.
use Rattle.std.proofs.Common.{◌≡◌, ℕ, ◌<◌, List, [], ◌∷◌, length, Option, Some, None, refl, sym, ◌∙◌, ap, arith}
use Rattle.src_text.specs.declared.span.Span.{Span}
use Rattle.rbs_lexer.specs.Tokens.{Token}
use Rattle.rbs_lexer.specs.Lexing.{start, past_all, tokens_of, AreTokens, IsBad, IsLexed}
use Rattle.rbs_lexer.proofs.Cutting.{one_cut, none_at_end, one_bad, one_before}

-- The tokens of the whole text are its only ones.
one_whole : (text : List ℕ) (tokens others : List Token) → AreTokens text tokens → AreTokens text others → tokens ≡ others
one_whole text tokens others a b =
    let same = one_cut a.0 b.0 start text [] [] a.1 b.1 (none_at_end (past_all start a.0).place) (none_at_end (past_all start b.0).place) in
    a.2 ∙ ap (tokens_of start) same.0 ∙ sym b.2

nothing_left : (rest : List ℕ) → [] ≡ rest → 0 < length rest → ⊥
nothing_left [] e more = omega arith
nothing_left (x ∷ xs) e more = cc

-- Where it can't be cut on it has no tokens to its end.
whole_or_short : (text : List ℕ) (tokens : List Token) (at : Span) → AreTokens text tokens → IsBad text at → ⊥
whole_or_short text tokens at a b =
    let same = one_cut a.0 b.pieces start text [] b.rest a.1 b.cut (none_at_end (past_all start a.0).place) b.no_token in
    nothing_left b.rest same.1 b.more

pub one_lexing : (text : List ℕ) (tokens others : List Token) (bad other : Option Span) → IsLexed text tokens bad → IsLexed text others other → (tokens ≡ others) × (bad ≡ other)
one_lexing text tokens others None None a b = (one_whole text tokens others a b, refl)
one_lexing text tokens others None (Some at) a b = absurd (whole_or_short text tokens at a b.0)
one_lexing text tokens others (Some at) None a b = absurd (whole_or_short text others at b a.0)
one_lexing text tokens others (Some at) (Some there) a b = (one_before text at there tokens others a b, ap Some (one_bad text at there a.0 b.0))
