-- What `tokens` answers.
use Rattle.std.specs.Prelude.{◌≡◌, ℕ, List, Result, Ok, Err}
use Rattle.src_text.specs.declared.span.Span.{Span}
use Rattle.rbs_lexer.specs.Tokens.{Token}
use Rattle.rbs_lexer.specs.declared.token.BadToken.{BadToken}
use Rattle.rbs_lexer.specs.declared.token.BadToken.TheVariants as bad
use Rattle.rbs_lexer.specs.Lexing.{AreTokens, IsBad}

-- What is answered is so.
abbrev pub Answers : List ℕ → Result (List Token) BadToken → Type 0
Answers text (Ok tokens) = AreTokens text tokens
Answers text (Err (bad.At at)) = IsBad text at
Answers text (Err bad.NoMemory) = Unit {0}

-- These tokens are answered, unless there is no memory.
abbrev pub IsTokens : Result (List Token) BadToken → List Token → Type 0
IsTokens (Ok tokens) these = tokens ≡ these
IsTokens (Err (bad.At at)) these = ⊥
IsTokens (Err bad.NoMemory) these = Unit {0}

-- This span is answered, unless there is no memory.
abbrev pub IsBadAt : Result (List Token) BadToken → Span → Type 0
IsBadAt (Ok tokens) this = ⊥
IsBadAt (Err (bad.At at)) this = at ≡ this
IsBadAt (Err bad.NoMemory) this = Unit {0}
