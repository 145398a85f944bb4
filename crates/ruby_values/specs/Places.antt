-- What stands at a place of the tokens.
use Rattle.std.specs.Prelude.{ℕ, zero, suc, ◌-◌, ◌==◌, Bool, true, false, if◌then◌else◌, List, [], slice_get, Option, Some, None}
use Rattle.ruby_lexer.specs.declared.kind.RubyKind.{RubyKind}
use Rattle.ruby_lexer.specs.declared.token.RubyToken.{RubyToken}
use Rattle.ruby_lexer.specs.declared.token.RubyValue.{RubyValue}
use Rattle.src_text.specs.declared.span.Span.{Span}
use Rattle.ruby_lexer.specs.declared.kind.RubyKind.TheVariants as tok
use Rattle.ruby_lexer.specs.declared.kind.Sign.TheVariants as sign
use Rattle.ruby_lexer.specs.declared.token.RubyValue.TheVariants as carried

abbrev pub span_of_token : Option RubyToken → Span
span_of_token None = record { start = 0; end = 0 }
span_of_token (Some t) = t.span

-- a token's span
abbrev pub span_at : List RubyToken → ℕ → Span
span_at tokens place = span_of_token (slice_get tokens place)

abbrev pub kind_of_token : Option RubyToken → RubyKind
kind_of_token None = tok.End
kind_of_token (Some t) = t.kind

-- a token's kind
abbrev pub kind_at : List RubyToken → ℕ → RubyKind
kind_at tokens place = kind_of_token (slice_get tokens place)

abbrev pub text_of : RubyValue → List ℕ
text_of (carried.Text text) = text
text_of other = []

abbrev pub text_of_token : Option RubyToken → List ℕ
text_of_token None = []
text_of_token (Some t) = text_of t.value

-- the text that a token carries
abbrev pub text_at : List RubyToken → ℕ → List ℕ
text_at tokens place = text_of_token (slice_get tokens place)

-- the end of the token before a place
abbrev pub end_before : List RubyToken → ℕ → ℕ
end_before tokens place = if place == 0 then 0 else (span_at tokens (place - 1)).end

-- from the start of the token at a place to the end of the one before another
abbrev pub span_between : List RubyToken → ℕ → ℕ → Span
span_between tokens first behind = record { start = (span_at tokens first).start; end = end_before tokens behind }

-- a line's end or a `;`
abbrev pub ends_statement : RubyKind → Bool
ends_statement tok.Newline = true
ends_statement (tok.Sign sign.Semicolon) = true
ends_statement other = false

-- the end of the last token before a place that ends no statement
abbrev pub end_of_code : List RubyToken → ℕ → ℕ
end_of_code tokens zero = 0
end_of_code tokens (suc n) = if ends_statement (kind_at tokens n) then end_of_code tokens n else (span_at tokens n).end

abbrev pub place_or : Option ℕ → ℕ
place_or None = 0
place_or (Some place) = place

-- the place of one of a node's own tokens
abbrev pub leaf : List ℕ → ℕ → ℕ
leaf leaves index = place_or (slice_get leaves index)
