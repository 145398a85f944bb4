-- Bodies, and what has one.
use Rattle.std.specs.Prelude.{Bool, true, false, if◌then◌else◌, ℕ, List, [], ◌∷◌, Option, Some, None}
use Rattle.ruby_lexer.specs.declared.token.RubyToken.{RubyToken}
use Rattle.ruby_values.specs.declared.value.PlacedPath.{PlacedPath}
use Rattle.ruby_tree.specs.declared.names.Local.{Local}
use Rattle.ruby_tree.specs.declared.names.MethodName.{MethodName}
use Rattle.ruby_tree.specs.declared.nodes.Node.{Node}
use Rattle.ruby_tree.specs.declared.nodes.NodeKind.{NodeKind}
use Rattle.ruby_tree.specs.declared.parts.Arm.{Arm}
use Rattle.ruby_tree.specs.declared.parts.Item.{Item}
use Rattle.ruby_tree.specs.declared.parts.Param.{Param}
use Rattle.ruby_tree.specs.declared.parts.Part.{Part}
use Rattle.ruby_tree.specs.declared.parts.Rescue.{Rescue}
use Rattle.ruby_tree.specs.declared.parts.Target.{Target}
use Rattle.ruby_tree.specs.declared.parts.When.{When}
use Rattle.src_text.specs.declared.span.Span.{Span}
use Rattle.ruby_tree.specs.declared.nodes.NodeKind.TheVariants as kind
use Rattle.ruby_tree.specs.declared.nodes.NodeKind.TheViews.{roll-Rescue, out-Node, out-NodeKind}
use Rattle.ruby_tree.specs.declared.nodes.NodeKind.TheOpen.{NodeKind-F}
use Rattle.ruby_values.specs.Lists.{listed}
use Rattle.ruby_values.specs.Making.{node, start_of}
use Rattle.ruby_values.specs.Places.{end_of_code}

abbrev pub is_plain : List Rescue → Option Node → Option Node → Bool
is_plain [] None None = true
is_plain _ _ _ = false

-- a body: its statements, or a `Begin` where it has `rescue`, `else` or `ensure`
abbrev pub body : List RubyToken → ℕ → Node → List Rescue → Option Node → Option Node → Node
body tokens behind statements rescues otherwise ensure = if is_plain rescues otherwise ensure then statements
    else node (record { start = start_of statements; end = end_of_code tokens behind }) (kind.Begin statements rescues otherwise ensure)

-- whether a node is a `Begin` already
abbrev pub is_begin : Node → Bool
is_begin n = layer (out-NodeKind (out-Node n).kind)
  where
    layer : NodeKind-F NodeKind Item Param Part Target Node Arm Rescue When → Bool
    layer (NodeKind-F.Begin statements rescues otherwise ensure) = true
    layer other = false

-- `begin`, which is a `Begin` also without `rescue`, `else` and `ensure`
abbrev pub begin_kind : Node → NodeKind
begin_kind n = if is_begin n then (out-Node n).kind else kind.Begin n [] None None

abbrev pub begin_form : Span → Node → Node
begin_form at n = node at (begin_kind n)

abbrev pub rescue_of : Option (List Node) → Option Local → Node → Rescue
rescue_of classes variable body = roll-Rescue (record { classes = listed classes; variable = variable; body = body })

-- `def`
abbrev pub definition : Span → Bool → Option MethodName → Option (List Param) → Node → Node
definition at singleton None params body = node at kind.Nil
definition at singleton (Some method) params body = node at (kind.Def singleton method (listed params) body)

-- the body that one value is
abbrev pub value_body : Node → Node
value_body n = node (out-Node n).span (kind.Seq (n ∷ []))

abbrev pub class_form : Span → Option PlacedPath → Option Node → Node → Node
class_form at None superclass body = node at kind.Nil
class_form at (Some path) superclass body = node at (kind.ClassBody path.path path.at superclass body)

abbrev pub module_form : Span → Option PlacedPath → Node → Node
module_form at None body = node at kind.Nil
module_form at (Some path) body = node at (kind.ModuleBody path.path path.at body)

-- `class << self`
abbrev pub singleton_form : Span → Node → Node
singleton_form at body = node at (kind.SingletonBody body)

abbrev pub block : Span → Option (List Param) → Node → Node
block at params body = node at (kind.Block (listed params) body)

-- `->(a) { b }`
abbrev pub lambda : Span → Option (List Param) → Node → Node
lambda at params body = node at (kind.Lambda (listed params) body)
