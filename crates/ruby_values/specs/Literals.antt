-- Nodes of one token.
use Rattle.std.specs.Prelude.{ℕ, List, slice_get, Option, Some, None, ℤ, pos}
use Rattle.ruby_lexer.specs.declared.kind.Keyword.{Keyword}
use Rattle.ruby_lexer.specs.declared.kind.RubyKind.{RubyKind}
use Rattle.ruby_lexer.specs.declared.token.RubyToken.{RubyToken}
use Rattle.ruby_lexer.specs.declared.token.RubyValue.{RubyValue}
use Rattle.ruby_values.specs.declared.value.Value.{Value}
use Rattle.ruby_tree.specs.declared.nodes.Node.{Node}
use Rattle.ruby_tree.specs.declared.nodes.NodeKind.{NodeKind}
use Rattle.src_text.specs.declared.span.Span.{Span}
use Rattle.ruby_tree.specs.declared.nodes.NodeKind.TheVariants as kind
use Rattle.ruby_lexer.specs.declared.kind.RubyKind.TheVariants as tok
use Rattle.ruby_lexer.specs.declared.kind.Keyword.TheVariants as word
use Rattle.ruby_lexer.specs.declared.token.RubyValue.TheVariants as carried
use Rattle.ruby_values.specs.declared.value.Value.TheVariants as value
use Rattle.ruby_values.specs.Making.{node}
use Rattle.ruby_values.specs.Places.{kind_at, text_at}

abbrev pub integer_of : RubyValue → ℤ
integer_of (carried.Integer n) = n
integer_of other = pos 0

abbrev pub integer_of_token : Option RubyToken → ℤ
integer_of_token None = pos 0
integer_of_token (Some t) = integer_of t.value

abbrev pub integer : List RubyToken → Span → ℕ → Node
integer tokens at place = node at (kind.Int (integer_of_token (slice_get tokens place)))

-- a symbol without quotes
abbrev pub symbol : List RubyToken → Span → ℕ → Node
symbol tokens at place = node at (kind.Sym (text_at tokens place))

-- a bare word
abbrev pub name : List RubyToken → Span → ℕ → Node
name tokens at place = node at (kind.Name (text_at tokens place))

-- a keyword that is a value
abbrev pub keyword_kind : Keyword → NodeKind
keyword_kind word.True = kind.True
keyword_kind word.False = kind.False
keyword_kind word.SelfWord = kind.SelfRef
keyword_kind word.File = kind.File
keyword_kind other = kind.Nil

abbrev pub keyword : RubyKind → NodeKind
keyword (tok.Keyword w) = keyword_kind w
keyword other = kind.Nil

-- a variable with its signs, or the local variable of a `rescue`
abbrev pub variable_in : RubyKind → Span → List ℕ → Value
variable_in tok.InstanceVariable at text = value.Node (node at (kind.IVar text))
variable_in tok.ClassVariable at text = value.Node (node at (kind.CVar text))
variable_in tok.GlobalVariable at text = value.Node (node at (kind.GVar text))
variable_in other at text = value.Local (record { name = text; at = at })

abbrev pub variable_at : List RubyToken → Span → ℕ → Value
variable_at tokens at place = variable_in (kind_at tokens place) at (text_at tokens place)
