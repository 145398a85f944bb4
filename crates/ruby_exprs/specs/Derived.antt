-- What the tokens of a text are read as.
use Rattle.std.specs.Prelude.{ℕ, ◌-◌, List, [], ◌∷◌, length, map, slice_get, Option, Some, None, Result, Ok, Err}
use Rattle.src_text.specs.declared.span.Span.{Span}
use Rattle.ruby_lexer.specs.declared.token.RubyToken.{RubyToken}
use Rattle.ruby_lexer.specs.declared.refusal.RubyAt.{RubyAt}
use Rattle.ruby_lexer.specs.declared.refusal.RubyAt.TheVariants as at
use Rattle.ruby_grammar.specs.declared.token.Token.{Token}
use Rattle.ruby_grammar.specs.declared.tree.Tree.{Tree}
use Rattle.ruby_grammar.specs.declared.tree.Fault.{Fault}
use Rattle.ruby_grammar.specs.declared.tree.Fault.TheVariants as fault
use Rattle.ruby_grammar.specs.Parsed.{parsed}
use Rattle.ruby_exprs.specs.Kinds.{kind_number}
use Rattle.ruby_exprs.specs.Grammar.{ruby_grammar}

-- a token as the grammar sees it
abbrev pub seen : RubyToken → Token
seen token = record { kind = kind_number token.kind; blank = token.blank }

abbrev pub span_of : Option RubyToken → Span
span_of None = record { start = 0; end = 0 }
span_of (Some token) = token.span

abbrev pub span_or_last : List RubyToken → Option RubyToken → Span
span_or_last tokens None = span_of (slice_get tokens (length tokens - 1))
span_or_last tokens (Some token) = token.span

-- The span of the token at a place. The last token's, where none stands there; the engine never gives such a place.
abbrev pub span_at : List RubyToken → ℕ → Span
span_at tokens place = span_or_last tokens (slice_get tokens place)

-- The tree of the whole text. The start rule makes a node, so there is always one tree, and one alone.
abbrev pub one_tree : List RubyToken → List Tree → Result Tree RubyAt
one_tree tokens (tree ∷ []) = Ok tree
one_tree tokens other = Err (at.Syntax (span_at tokens 0))

abbrev pub told : List RubyToken → Result (List Tree) Fault → Result Tree RubyAt
told tokens (Ok trees) = one_tree tokens trees
told tokens (Err (fault.Syntax place)) = Err (at.Syntax (span_at tokens place))
told tokens (Err (fault.TooDeep place)) = Err (at.TooDeep (span_at tokens place))
told tokens (Err fault.NoMemory) = Err at.NoMemory

-- What is derived of a text's tokens: its tree, or else where it is refused, at the farthest token at which something that was tried
-- failed or at the token that begins a rule, a word or a link too many.
unfoldable pub derived : List RubyToken → Result Tree RubyAt
derived tokens = told tokens (parsed ruby_grammar (map seen tokens))
