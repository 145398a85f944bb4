-- Operators between values, and before one.
use Rattle.std.specs.Prelude.{ℕ, Bool, true, false, if◌then◌else◌, List, [], ◌∷◌, Option, Some, None, codes}
use Rattle.ruby_lexer.specs.declared.kind.RubyKind.{RubyKind}
use Rattle.ruby_lexer.specs.declared.kind.Sign.{Sign}
use Rattle.ruby_lexer.specs.declared.token.RubyToken.{RubyToken}
use Rattle.ruby_values.specs.declared.operators.Operator.{Operator}
use Rattle.ruby_tree.specs.declared.names.MethodName.{MethodName}
use Rattle.ruby_tree.specs.declared.nodes.Node.{Node}
use Rattle.src_text.specs.declared.span.Span.{Span}
use Rattle.ruby_tree.specs.declared.nodes.NodeKind.TheVariants as kind
use Rattle.ruby_lexer.specs.declared.kind.RubyKind.TheVariants as tok
use Rattle.ruby_lexer.specs.declared.kind.Keyword.TheVariants as word
use Rattle.ruby_lexer.specs.declared.kind.Sign.TheVariants as sign
use Rattle.ruby_tree.specs.declared.parts.Item.TheVariants as item
use Rattle.ruby_tree.specs.declared.parts.Dot.TheVariants as dot
use Rattle.ruby_values.specs.declared.operators.Operator.TheVariants as operator
use Rattle.ruby_values.specs.Lists.{behind_front}
use Rattle.ruby_values.specs.Making.{first, node, second, span_over, third}
use Rattle.ruby_values.specs.Places.{kind_at, span_at}
use Rattle.ruby_values.specs.Statements.{arm_of, one_arm}

-- what a token between two values stands for
abbrev pub operator_of : RubyKind → Operator
operator_of (tok.Sign sign.AmpersandAmpersand) = operator.And
operator_of (tok.Sign sign.BarBar) = operator.Or
operator_of (tok.Sign sign.BangTilde) = operator.NotMatches
operator_of (tok.Keyword word.And) = operator.And
operator_of (tok.Keyword word.Or) = operator.Or
operator_of other = operator.Method

-- the method that a sign calls; `a !~ b` calls `=~`
abbrev pub sign_method : Sign → List ℕ
sign_method sign.EqualsEquals = codes "=="
sign_method sign.BangEquals = codes "!="
sign_method sign.EqualsEqualsEquals = codes "==="
sign_method sign.EqualsTilde = codes "=~"
sign_method sign.BangTilde = codes "=~"
sign_method sign.Spaceship = codes "<=>"
sign_method sign.Less = codes "<"
sign_method sign.LessEquals = codes "<="
sign_method sign.Greater = codes ">"
sign_method sign.GreaterEquals = codes ">="
sign_method sign.Bar = codes "|"
sign_method sign.Caret = codes "^"
sign_method sign.Ampersand = codes "&"
sign_method sign.LessLess = codes "<<"
sign_method sign.GreaterGreater = codes ">>"
sign_method sign.Plus = codes "+"
sign_method sign.Minus = codes "-"
sign_method sign.Star = codes "*"
sign_method sign.Slash = codes "/"
sign_method sign.Percent = codes "%"
sign_method sign.StarStar = codes "**"
sign_method sign.Tilde = codes "~"
sign_method other = []

abbrev pub prefix_method : Sign → List ℕ
prefix_method sign.Minus = codes "-@"
prefix_method sign.Plus = codes "+@"
prefix_method other = []

abbrev pub method_of : RubyKind → List ℕ
method_of (tok.Sign s) = sign_method s
method_of (tok.Prefix s) = prefix_method s
method_of other = []

abbrev pub sign_name : List ℕ → Span → MethodName
sign_name text at = record { name = text; at = at }

-- a call with one argument, written by a sign
abbrev pub sent : Span → List ℕ → Span → Node → Node → Node
sent at method place left right = node at (kind.Call (Some left) dot.Plain (sign_name method place) (item.Value right ∷ []) None)

-- two values with an operator between them
abbrev pub joined_by : Operator → Span → RubyKind → Span → Node → Node → Node
joined_by operator.And at of_kind place left right = node at (kind.And left right)
joined_by operator.Or at of_kind place left right = node at (kind.Or left right)
joined_by operator.NotMatches at of_kind place left right = node at (kind.Not (sent at (codes "=~") place left right))
joined_by operator.Method at of_kind place left right = sent at (method_of of_kind) place left right

abbrev pub operated : RubyKind → Span → Node → Node → Node
operated of_kind place left right = joined_by (operator_of of_kind) (span_over left right) of_kind place left right

-- a line's end may stand behind an operator
abbrev pub is_newline : RubyKind → Bool
is_newline tok.Newline = true
is_newline other = false

-- a value, and behind it operators with a value each, from the left on
abbrev pub chained : List RubyToken → Node → List ℕ → List Node → Node
chained tokens left [] rights = left
chained tokens left (place ∷ places) rights = if is_newline (kind_at tokens place) then chained tokens left places rights
    else chained tokens (operated (kind_at tokens place) (span_at tokens place) left (first rights)) places (behind_front rights)

abbrev pub operators : List RubyToken → List ℕ → List Node → Node
operators tokens places ns = chained tokens (first ns) places (behind_front ns)

-- `!` and `not`
abbrev pub negates : RubyKind → Bool
negates (tok.Sign sign.Bang) = true
negates (tok.Keyword word.Not) = true
negates other = false

-- an operator before a value
abbrev pub prefixed : Span → RubyKind → Span → Node → Node
prefixed at of_kind place inner = node at (if negates of_kind then kind.Not inner else kind.Call (Some inner) dot.Plain (sign_name (method_of of_kind) place) [] None)

-- `a ? b : c`
abbrev pub choice : Span → List Node → Node
choice at ns = node at (one_arm (arm_of (first ns) (Some (second ns))) (Some (third ns)))

abbrev pub is_short : RubyKind → Bool
is_short (tok.Sign sign.DotDotDot) = true
is_short other = false

-- `a..b`, `a..` and `..b`
abbrev pub range : Span → RubyKind → Option Node → Option Node → Node
range at of_kind from to = node at (kind.RangeOf from to (is_short of_kind))
