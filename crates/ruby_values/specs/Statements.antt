-- Statements, one behind the other and with modifiers.
use Rattle.std.specs.Prelude.{ℕ, ◌-◌, true, false, List, [], ◌∷◌, length, slice_get, Option, Some, None}
use Rattle.std.specs.List.{flat_map, fold}
use Rattle.ruby_lexer.specs.declared.kind.RubyKind.{RubyKind}
use Rattle.ruby_lexer.specs.declared.token.RubyToken.{RubyToken}
use Rattle.ruby_values.specs.declared.value.Modifier.{Modifier}
use Rattle.ruby_values.specs.declared.value.ModifierWord.{ModifierWord}
use Rattle.ruby_values.specs.declared.value.Value.{Value}
use Rattle.ruby_tree.specs.declared.names.MethodName.{MethodName}
use Rattle.ruby_tree.specs.declared.nodes.Node.{Node}
use Rattle.ruby_tree.specs.declared.nodes.NodeKind.{NodeKind}
use Rattle.ruby_tree.specs.declared.parts.Arm.{Arm}
use Rattle.src_text.specs.declared.span.Span.{Span}
use Rattle.ruby_tree.specs.declared.nodes.NodeKind.TheVariants as kind
use Rattle.ruby_lexer.specs.declared.kind.RubyKind.TheVariants as tok
use Rattle.ruby_lexer.specs.declared.kind.Keyword.TheVariants as word
use Rattle.ruby_values.specs.declared.value.Value.TheVariants as value
use Rattle.ruby_values.specs.declared.value.ModifierWord.TheVariants as modifier
use Rattle.ruby_tree.specs.declared.nodes.NodeKind.TheViews.{roll-Arm, roll-Rescue, out-Node}
use Rattle.ruby_values.specs.Making.{end_of, node, span_over, start_of}
use Rattle.ruby_values.specs.Places.{end_before}

abbrev pub node_among : Value → List Node
node_among (value.Node n) = n ∷ []
node_among other = []

-- the nodes among values
abbrev pub nodes_among : List Value → List Node
nodes_among = flat_map node_among

abbrev pub start_or : ℕ → Option Node → ℕ
start_or otherwise None = otherwise
start_or otherwise (Some n) = start_of n

abbrev pub end_or : ℕ → Option Node → ℕ
end_or otherwise None = otherwise
end_or otherwise (Some n) = end_of n

-- from the first node's start to the last one's end; where there is none, nothing at a place
abbrev pub span_of_nodes : List Node → ℕ → Span
span_of_nodes ns otherwise = record { start = start_or otherwise (slice_get ns 0); end = end_or otherwise (slice_get ns (length ns - 1)) }

-- Statements one behind the other. Where there are none, they stand at the end of the token before their place.
abbrev pub statements : List RubyToken → ℕ → List Value → Value
statements tokens place values = value.Node (node (span_of_nodes (nodes_among values) (end_before tokens place)) (kind.Seq (nodes_among values)))

-- a node with another span
abbrev pub placed_at : Span → Node → Node
placed_at at n = node at (out-Node n).kind

-- a condition and what is read where it holds
abbrev pub arm_of : Node → Option Node → Arm
arm_of condition body = roll-Arm (record { condition = condition; body = body })

-- an `If` of one arm
abbrev pub one_arm : Arm → Option Node → NodeKind
one_arm arm otherwise = kind.If (arm ∷ []) otherwise

-- a statement with the modifier `rescue`
abbrev pub rescued : Node → Node → NodeKind
rescued statement other = kind.Begin statement (roll-Rescue (record { classes = []; variable = None; body = other }) ∷ []) None None

-- what a modifier makes of a statement
abbrev pub modified_by : ModifierWord → Node → Node → NodeKind
modified_by modifier.If statement other = one_arm (arm_of other (Some statement)) None
modified_by modifier.Unless statement other = one_arm (arm_of other None) (Some statement)
modified_by modifier.While statement other = kind.While other false statement
modified_by modifier.Until statement other = kind.While other true statement
modified_by modifier.Rescue statement other = rescued statement other

abbrev pub with_modifier : Node → Modifier → Node
with_modifier statement m = node (span_over statement m.other) (modified_by m.word statement m.other)

-- a statement with its modifiers, the first inside
abbrev pub modified : Node → List Modifier → Node
modified = fold with_modifier

abbrev pub modifier_word : RubyKind → ModifierWord
modifier_word (tok.Keyword word.Unless) = modifier.Unless
modifier_word (tok.Keyword word.While) = modifier.While
modifier_word (tok.Keyword word.Until) = modifier.Until
modifier_word (tok.Keyword word.Rescue) = modifier.Rescue
modifier_word other = modifier.If

-- two names
abbrev pub alias : Span → List MethodName → Value
alias at (new_name ∷ old_name ∷ more) = value.Node (node at (kind.AliasOf new_name old_name))
alias at others = value.Node (node at kind.Nil)
