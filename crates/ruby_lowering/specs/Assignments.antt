-- Assignments.
use Rattle.std.specs.Prelude.{ℕ, ◌==◌, Bool, if◌then◌else◌, List, [], ◌∷◌, ◌++◌, length, map, nat_eq, Option, Some, None, codes}
use Rattle.std.specs.Cmp.Lexicographic.{pointwise}
use Rattle.ruby_lexer.specs.declared.kind.RubyKind.{RubyKind}
use Rattle.ruby_lexer.specs.declared.token.RubyToken.{RubyToken}
use Rattle.ruby_tree.specs.declared.names.ListTarget.{ListTarget}
use Rattle.ruby_tree.specs.declared.names.MethodName.{MethodName}
use Rattle.ruby_tree.specs.declared.names.Variable.{Variable}
use Rattle.ruby_tree.specs.declared.nodes.Node.{Node}
use Rattle.ruby_tree.specs.declared.nodes.NodeKind.{NodeKind}
use Rattle.ruby_tree.specs.declared.parts.Arm.{Arm}
use Rattle.ruby_tree.specs.declared.parts.Dot.{Dot}
use Rattle.ruby_tree.specs.declared.parts.Item.{Item}
use Rattle.ruby_tree.specs.declared.parts.Param.{Param}
use Rattle.ruby_tree.specs.declared.parts.Part.{Part}
use Rattle.ruby_tree.specs.declared.parts.Rescue.{Rescue}
use Rattle.ruby_tree.specs.declared.parts.Target.{Target}
use Rattle.ruby_tree.specs.declared.parts.When.{When}
use Rattle.src_text.specs.declared.span.Span.{Span}
use Rattle.ruby_tree.specs.declared.nodes.NodeKind.TheVariants as kind
use Rattle.ruby_lexer.specs.declared.kind.RubyKind.TheVariants as tok
use Rattle.ruby_tree.specs.declared.parts.Item.TheVariants as item
use Rattle.ruby_tree.specs.declared.parts.Target.TheVariants as target
use Rattle.ruby_tree.specs.declared.names.Variable.TheVariants as variable
use Rattle.ruby_tree.specs.declared.nodes.NodeKind.TheViews.{out-Node, out-NodeKind}
use Rattle.ruby_tree.specs.declared.nodes.NodeKind.TheOpen.{NodeKind-F}
use Rattle.ruby_values.specs.Lists.{behind_front, listed}
use Rattle.ruby_values.specs.Making.{first, node, second}
use Rattle.ruby_values.specs.Names.{setter}
use Rattle.ruby_values.specs.Operators.{sent}
use Rattle.ruby_values.specs.Places.{kind_at, leaf, span_at, text_at}
use Rattle.ruby_values.specs.Statements.{span_of_nodes}

-- values beside each other
abbrev pub array_of : List Node → Node
array_of ns = node (span_of_nodes ns 0) (kind.ArrayOf (map item.Value ns))

-- the call of a setter, whose last argument is the value
abbrev pub set : Node → Dot → MethodName → List Item → Node → NodeKind
set receiver joint method args given = kind.AsgnCall receiver joint (setter method) (args ++ item.Value given ∷ [])

abbrev pub set_or_nil : Option Node → Dot → MethodName → List Item → Node → NodeKind
set_or_nil None joint method args given = kind.Nil
set_or_nil (Some receiver) joint method args given = set receiver joint method args given

-- What is assigned to, by what the left side is as a value: a word is a local variable, a call the call of its setter.
abbrev pub assigned_to : Span → NodeKind-F NodeKind Item Param Part Target Node Arm Rescue When → Node → NodeKind
assigned_to place (NodeKind-F.Name name) given = kind.Asgn (target.Local name place) given
assigned_to place (NodeKind-F.NodeKind::IVar name) given = kind.Asgn (target.IVar name place) given
assigned_to place (NodeKind-F.NodeKind::CVar name) given = kind.Asgn (target.CVar name place) given
assigned_to place (NodeKind-F.NodeKind::GVar name) given = kind.Asgn (target.GVar name place) given
assigned_to place (NodeKind-F.NodeKind::Const scope path) given = kind.Asgn (target.Const scope path place) given
assigned_to place (NodeKind-F.Call receiver joint method args block) given = set_or_nil receiver joint method args given
assigned_to place other given = kind.Nil

-- a value that is assigned to the left side
abbrev pub assigned : Span → Node → Node → Node
assigned at left given = node at (assigned_to (out-Node left).span (out-NodeKind (out-Node left).kind) given)

-- the value that is assigned, where it stands first
abbrev pub next_value : List Node → Option (List Node) → Node
next_value ns None = first ns
next_value ns (Some values) = array_of values

-- `a = b`
abbrev pub assignment : Span → List Node → Option (List Node) → Node
assignment at ns values = assigned at (first ns) (next_value (behind_front ns) values)

-- what an operator makes of an old value and another
abbrev pub new_value : Span → List ℕ → Span → Node → Node → Node
new_value at text place old right = if pointwise nat_eq text (codes "&&") then node at (kind.And old right)
    else (if pointwise nat_eq text (codes "||") then node at (kind.Or old right) else sent at text place old right)

-- what an operator makes of a value and the old one behind it
abbrev pub changed_value : List RubyToken → Span → ℕ → List Node → Node
changed_value tokens at place ns = new_value at (text_at tokens place) (span_at tokens place) (second ns) (first ns)

-- `a += b`, where the left side stands once more behind the other two
abbrev pub changed : List RubyToken → Span → ℕ → List Node → Node
changed tokens at place ns = assigned at (first ns) (changed_value tokens at place (behind_front ns))

abbrev pub variable_of : RubyKind → List ℕ → Variable
variable_of tok.InstanceVariable name = variable.Instance name
variable_of other name = variable.Local name

abbrev pub target_at : List RubyToken → Bool → ℕ → ListTarget
target_at tokens splat place = record { splat = splat; variable = variable_of (kind_at tokens place) (text_at tokens place); at = span_at tokens place }

-- one of several targets: a variable, or `*` and a variable
abbrev pub list_target : List RubyToken → List ℕ → ListTarget
list_target tokens leaves = let splat = length leaves == 2 in target_at tokens splat (if splat then leaf leaves 1 else leaf leaves 0)

-- `a, *b = c, d`
abbrev pub list_assignment : Span → List ListTarget → Option (List Node) → Node
list_assignment at targets values = node at (kind.MultiAsgn targets (listed values) (span_of_nodes (listed values) 0))
