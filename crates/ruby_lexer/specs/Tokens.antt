-- Tokens, and where the lexer stands behind them.
use Rattle.std.specs.Prelude.{ℕ, ◌+◌, ◌-◌, true, false, List, take, drop, Option, Some, None}
use Rattle.src_text.specs.declared.span.Span.{Span}
use Rattle.ruby_lexer.specs.declared.kind.RubyKind.{RubyKind}
use Rattle.ruby_lexer.specs.declared.token.RubyToken.{RubyToken}
use Rattle.ruby_lexer.specs.declared.token.RubyValue.{RubyValue}
use Rattle.ruby_lexer.specs.declared.refusal.RubyAt.{RubyAt}
use Rattle.ruby_lexer.specs.declared.refusal.RubyAt.TheVariants as at
use Rattle.ruby_lexer.specs.declared.refusal.Form.{Form}
use Rattle.ruby_lexer.specs.declared.state.State.{State}
use Rattle.ruby_lexer.specs.declared.state.Alias.TheVariants as alias
use Rattle.ruby_lexer.specs.Kinds.{alias_behind}

-- the bytes from a place to another
abbrev pub slice : List ℕ → ℕ → ℕ → List ℕ
slice text start end = take (end - start) (drop start text)

-- the token that begins where the lexer stands and has so many bytes
abbrev pub token : State → RubyKind → RubyValue → ℕ → RubyToken
token s kind value len = record { kind = kind; value = value; span = record { start = s.place; end = s.place + len }; blank = s.blank }

-- at the text's start
abbrev pub start : State
start = record { place = 0; blank = false; line_start = true; last = None; before = None; last_span = record { start = 0; end = 0 }; alias = alias.Neither; bodies_end = None; part_start = 0 }

-- behind a token
abbrev pub put : State → RubyToken → State
put s t = record { place = t.span.end; blank = false; line_start = false; last = Some t.kind; before = s.last; last_span = t.span; alias = alias_behind s.alias t.kind; bodies_end = s.bodies_end; part_start = t.span.end }

-- No token stands at the place, whose character has so many bytes.
abbrev pub no_token : ℕ → ℕ → RubyAt
no_token place len = at.Syntax (record { start = place; end = place + len })

-- The form that stands from here on for so many bytes is refused.
abbrev pub refused : State → ℕ → Form → RubyAt
refused s len form = at.Unsupported (record { start = s.place; end = s.place + len }) form

-- the span of the character here, which is one of ASCII
abbrev pub here : State → Span
here s = record { start = s.place; end = s.place + 1 }

-- the place behind a line's end, where the plain place behind it is this: behind the bodies of the line's heredocs, where it has some
abbrev pub behind_line : Option ℕ → ℕ → ℕ
behind_line None place = place
behind_line (Some bodies_end) place = bodies_end
