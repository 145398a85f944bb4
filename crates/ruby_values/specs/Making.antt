-- Nodes, before they have numbers.
use Rattle.std.specs.Prelude.{ℕ, List, Option, Some, None}
use Rattle.ruby_tree.specs.declared.nodes.Node.{Node}
use Rattle.ruby_tree.specs.declared.nodes.NodeKind.{NodeKind}
use Rattle.src_text.specs.declared.span.Span.{Span}
use Rattle.ruby_tree.specs.declared.nodes.NodeKind.TheVariants as kind
use Rattle.ruby_tree.specs.declared.nodes.NodeKind.TheViews.{roll-Node, out-Node}
use Rattle.ruby_values.specs.Lists.{behind_front, front}

-- a node with its span
abbrev pub node : Span → NodeKind → Node
node at of_kind = roll-Node (record { span = at; number = 0; kind = of_kind })

-- what stands for a node that is missing; the grammar leaves none out
abbrev pub missing : Node
missing = node (record { start = 0; end = 0 }) kind.Nil

abbrev pub or_missing : Option Node → Node
or_missing None = missing
or_missing (Some n) = n

abbrev pub first : List Node → Node
first ns = or_missing (front ns)

abbrev pub second : List Node → Node
second ns = first (behind_front ns)

abbrev pub third : List Node → Node
third ns = second (behind_front ns)

abbrev pub start_of : Node → ℕ
start_of n = (out-Node n).span.start

abbrev pub end_of : Node → ℕ
end_of n = (out-Node n).span.end

-- from the start of a node to the end of another
abbrev pub span_over : Node → Node → Span
span_over a b = record { start = start_of a; end = end_of b }
