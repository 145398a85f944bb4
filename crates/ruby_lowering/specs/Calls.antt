-- Calls, and what is linked to a receiver.
use Rattle.std.specs.Prelude.{Bool, true, false, if◌then◌else◌, ℕ, List, [], ◌∷◌, ◌++◌, Option, Some, None}
use Rattle.std.specs.List.{fold}
use Rattle.ruby_lexer.specs.declared.kind.RubyKind.{RubyKind}
use Rattle.ruby_lexer.specs.declared.token.RubyToken.{RubyToken}
use Rattle.ruby_values.specs.declared.value.Placed.{Placed}
use Rattle.ruby_tree.specs.declared.names.ConstPath.{ConstPath}
use Rattle.ruby_tree.specs.declared.names.MethodName.{MethodName}
use Rattle.ruby_tree.specs.declared.nodes.Node.{Node}
use Rattle.ruby_tree.specs.declared.nodes.NodeKind.{NodeKind}
use Rattle.ruby_tree.specs.declared.parts.Arm.{Arm}
use Rattle.ruby_tree.specs.declared.parts.Dot.{Dot}
use Rattle.ruby_tree.specs.declared.parts.Item.{Item}
use Rattle.ruby_tree.specs.declared.parts.Param.{Param}
use Rattle.ruby_tree.specs.declared.parts.Part.{Part}
use Rattle.ruby_tree.specs.declared.parts.Rescue.{Rescue}
use Rattle.ruby_tree.specs.declared.parts.Target.{Target}
use Rattle.ruby_tree.specs.declared.parts.When.{When}
use Rattle.src_text.specs.declared.span.Span.{Span}
use Rattle.ruby_tree.specs.declared.nodes.NodeKind.TheVariants as kind
use Rattle.ruby_lexer.specs.declared.kind.RubyKind.TheVariants as tok
use Rattle.ruby_lexer.specs.declared.kind.Keyword.TheVariants as word
use Rattle.ruby_lexer.specs.declared.kind.Sign.TheVariants as sign
use Rattle.ruby_tree.specs.declared.parts.Dot.TheVariants as dot
use Rattle.ruby_tree.specs.declared.nodes.NodeKind.TheViews.{out-Node, out-NodeKind}
use Rattle.ruby_tree.specs.declared.nodes.NodeKind.TheOpen.{NodeKind-F}
use Rattle.ruby_items.specs.Items.{optional_items, plain_items}
use Rattle.ruby_values.specs.Lists.{behind_front, front}
use Rattle.ruby_values.specs.Making.{first, node, span_over}
use Rattle.ruby_values.specs.Places.{span_at, text_at}

-- how a link is joined to its receiver
abbrev pub dot_of : RubyKind → Dot
dot_of (tok.Sign sign.SafeDot) = dot.Safe
dot_of other = dot.Plain

-- a word as the name of a method
abbrev pub word_name : List RubyToken → ℕ → MethodName
word_name tokens place = record { name = text_at tokens place; at = span_at tokens place }

-- a call that has no receiver, or waits for it
abbrev pub call : Span → Dot → Option MethodName → Option (List Placed) → Option Node → Node
call at joint None items block = node at kind.Nil
call at joint (Some method) items block = node at (kind.Call None joint method (optional_items items) block)

-- a constant, where its word stands
abbrev pub constant : List RubyToken → Span → Bool → ℕ → Node
constant tokens at absolute place = node at (kind.Const None (record { absolute = absolute; words = text_at tokens place ∷ [] }))

abbrev pub longer_path : ConstPath → ConstPath → ConstPath
longer_path path link = record { absolute = path.absolute; words = path.words ++ link.words }

-- whether a node is a constant
abbrev pub is_const : Node → Bool
is_const n = layer (out-NodeKind (out-Node n).kind)
  where
    layer : NodeKind-F NodeKind Item Param Part Target Node Arm Rescue When → Bool
    layer (NodeKind-F.NodeKind::Const scope path) = true
    layer other = false

-- a constant with the words of a link
abbrev pub const_with : Node → ConstPath → NodeKind
const_with constant link = layer (out-NodeKind (out-Node constant).kind)
  where
    layer : NodeKind-F NodeKind Item Param Part Target Node Arm Rescue When → NodeKind
    layer (NodeKind-F.NodeKind::Const scope path) = kind.Const scope (longer_path path link)
    layer other = kind.Nil

-- a constant behind a value: one constant with it, where the value is a constant
abbrev pub const_joined : Node → ConstPath → NodeKind
const_joined receiver link = if is_const receiver then const_with receiver link else kind.Const (Some receiver) link

-- a receiver and a link that waits for it
abbrev pub joined : Node → Node → Node
joined receiver link = layer (out-NodeKind (out-Node link).kind)
  where
    layer : NodeKind-F NodeKind Item Param Part Target Node Arm Rescue When → Node
    layer (NodeKind-F.Call _ joint method args block) = node (span_over receiver link) (kind.Call (Some receiver) joint method args block)
    layer (NodeKind-F.NodeKind::Const _ path) = node (span_over receiver link) (const_joined receiver path)
    layer other = receiver

-- a value and its links, from the left on
abbrev pub linked : List Node → Node
linked ns = fold joined (first ns) (behind_front ns)

-- what is called, with arguments that have no brackets: a word, or a call without arguments
abbrev pub called_with : Span → List Item → Option Node → NodeKind-F NodeKind Item Param Part Target Node Arm Rescue When → NodeKind
called_with place args block (NodeKind-F.Name name) = kind.Call None dot.Plain (record { name = name; at = place }) args block
called_with place args block (NodeKind-F.Call receiver joint method _ _) = kind.Call receiver joint method args block
called_with place args block other = kind.Nil

-- a call whose arguments have no brackets
abbrev pub command : Span → List Node → Option (List Placed) → Node
command at ns items = node at (called_with (out-Node (first ns)).span (optional_items items) (front (behind_front ns)) (out-NodeKind (out-Node (first ns)).kind))

abbrev pub is_yield : RubyKind → Bool
is_yield (tok.Keyword word.Yield) = true
is_yield other = false

abbrev pub items_or_none : Option (List Placed) → Option (List Item)
items_or_none None = None
items_or_none (Some items) = Some (plain_items items)

-- `yield`, and `super`, which is not the same with brackets and without
abbrev pub yielded : Span → RubyKind → Option (List Placed) → Option Node → Node
yielded at of_kind items block = node at (if is_yield of_kind then kind.Yield (optional_items items) block else kind.Super (items_or_none items) block)
