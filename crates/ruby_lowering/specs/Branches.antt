-- `if`, `case`, `while`, and what leaves them.
use Rattle.std.specs.Prelude.{ℕ, Bool, true, false, List, [], ◌∷◌, Option, Some}
use Rattle.ruby_lexer.specs.declared.kind.Keyword.{Keyword}
use Rattle.ruby_lexer.specs.declared.kind.RubyKind.{RubyKind}
use Rattle.ruby_values.specs.declared.value.Placed.{Placed}
use Rattle.ruby_tree.specs.declared.nodes.Node.{Node}
use Rattle.ruby_tree.specs.declared.nodes.NodeKind.{NodeKind}
use Rattle.ruby_tree.specs.declared.parts.Arm.{Arm}
use Rattle.ruby_tree.specs.declared.parts.When.{When}
use Rattle.src_text.specs.declared.span.Span.{Span}
use Rattle.ruby_tree.specs.declared.nodes.NodeKind.TheVariants as kind
use Rattle.ruby_lexer.specs.declared.kind.RubyKind.TheVariants as tok
use Rattle.ruby_lexer.specs.declared.kind.Keyword.TheVariants as word
use Rattle.ruby_tree.specs.declared.nodes.NodeKind.TheViews.{roll-When}
use Rattle.ruby_items.specs.Items.{elements}
use Rattle.ruby_values.specs.Making.{first, node, second}
use Rattle.ruby_values.specs.Statements.{arm_of, one_arm}

abbrev pub arm_in : List Node → Arm
arm_in ns = arm_of (first ns) (Some (second ns))

-- `if`
abbrev pub if_form : Span → List Node → List Arm → Option Node → Node
if_form at ns more otherwise = node at (kind.If (arm_in ns ∷ more) otherwise)

-- what an `unless` reads where its condition holds: its `else`, or one `if` of its `elsif` arms and its `else`
abbrev pub other_side : Span → List Arm → ℕ → Option Node → Option Node
other_side at [] more_start otherwise = otherwise
other_side at (arm ∷ arms) more_start otherwise = Some (node (record { start = more_start; end = at.end }) (kind.If (arm ∷ arms) otherwise))

-- `unless`: an `if` with its sides exchanged
abbrev pub unless_form : Span → List Node → List Arm → ℕ → Option Node → Node
unless_form at ns more more_start otherwise = node at (one_arm (arm_of (first ns) (other_side at more more_start otherwise)) (Some (second ns)))

-- `when`
abbrev pub when_of : Option (List Placed) → Node → When
when_of items body = roll-When (record { values = elements items; body = body })

abbrev pub is_until : RubyKind → Bool
is_until (tok.Keyword word.Until) = true
is_until other = false

-- `while` and `until`
abbrev pub while_form : Span → RubyKind → List Node → Node
while_form at of_kind ns = node at (kind.While (first ns) (is_until of_kind) (second ns))

abbrev pub returned_by : Keyword → List Node → NodeKind
returned_by word.Break ns = kind.Break ns
returned_by word.Next ns = kind.Next ns
returned_by other ns = kind.Return ns

abbrev pub returned_kind : RubyKind → List Node → NodeKind
returned_kind (tok.Keyword w) ns = returned_by w ns
returned_kind other ns = kind.Return ns

-- `return`, `break` and `next`
abbrev pub returned : Span → RubyKind → List Node → Node
returned at of_kind ns = node at (returned_kind of_kind ns)
