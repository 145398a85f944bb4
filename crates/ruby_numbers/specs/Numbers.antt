-- Numbers of nodes, in the order of the text.
use Rattle.std.specs.Prelude.{ℕ, ◌+◌, Bool, true, false, ◌||◌, if◌then◌else◌, nat_lt, List, [], ◌∷◌, ◌++◌, Option, Some, None, Result, Ok, Err}
use Rattle.std.specs.Option.{option_map}
use Rattle.std.specs.List.{fold}
use Rattle.ruby_tree.specs.declared.nodes.Node.{Node}
use Rattle.ruby_tree.specs.declared.nodes.NodeKind.{NodeKind}
use Rattle.ruby_tree.specs.declared.parts.Arm.{Arm}
use Rattle.ruby_tree.specs.declared.parts.Item.{Item}
use Rattle.ruby_tree.specs.declared.parts.Param.{Param}
use Rattle.ruby_tree.specs.declared.parts.Part.{Part}
use Rattle.ruby_tree.specs.declared.parts.Rescue.{Rescue}
use Rattle.ruby_tree.specs.declared.parts.Target.{Target}
use Rattle.ruby_tree.specs.declared.parts.When.{When}
use Rattle.ruby_tree.specs.declared.nodes.NodeKind.TheVariants as kind
use Rattle.ruby_tree.specs.declared.parts.Item.TheVariants as item
use Rattle.ruby_tree.specs.declared.parts.Param.TheVariants as param
use Rattle.ruby_tree.specs.declared.parts.Part.TheVariants as piece
use Rattle.ruby_tree.specs.declared.parts.Target.TheVariants as target
use Rattle.ruby_tree.specs.declared.nodes.NodeKind.TheViews.{roll-Node, roll-Arm, roll-When, roll-Rescue}
use Rattle.ruby_tree.specs.declared.nodes.NodeKind.TheOpen.{Node-F, NodeKind-F, Part-F, Item-F, Target-F, Arm-F, When-F, Rescue-F, Param-F}
use Rattle.ruby_tree.specs.declared.nodes.NodeKind.TheFolds.{fold-NodeKind}
use Rattle.ruby_tree.specs.declared.nodes.NodeKind.TheFolds.{fold-Part}
use Rattle.ruby_tree.specs.declared.nodes.NodeKind.TheFolds.{fold-Node}
use Rattle.ruby_tree.specs.declared.nodes.NodeKind.TheFolds.{fold-Target}
use Rattle.ruby_tree.specs.declared.nodes.NodeKind.TheFolds.{fold-Param}
use Rattle.ruby_tree.specs.declared.nodes.NodeKind.TheFolds.{fold-Item}
use Rattle.ruby_tree.specs.declared.nodes.NodeKind.TheFolds.{fold-Arm}
use Rattle.ruby_tree.specs.declared.nodes.NodeKind.TheFolds.{fold-When}
use Rattle.ruby_tree.specs.declared.nodes.NodeKind.TheFolds.{fold-Rescue}

-- What has numbers from a number on, and the number behind.
abbrev pub Numbering : Type 0 → Type 0
Numbering T = ℕ → T × ℕ

-- what a node with numbers is, and where it begins
pub record Begun : Type 0 where
  pub start : ℕ
  pub numbered : ℕ → Node × ℕ

-- what the parts of an arm with numbers are
pub record Sides : Type 0 where
  pub condition : Begun
  pub body : Option Begun

-- ---- one behind the other

abbrev pub one_more : {S T : Type 0} → (S → ℕ → T × ℕ) → List T × ℕ → S → List T × ℕ
one_more number done x = let y = number x done.1 in (done.0 ++ y.0 ∷ [], y.1)

abbrev pub row_by : {S T : Type 0} → (S → ℕ → T × ℕ) → List S → ℕ → List T × ℕ
row_by number xs n = fold (one_more number) ([], n) xs

abbrev pub row : {T : Type 0} → List (ℕ → T × ℕ) → ℕ → List T × ℕ
row = row_by (λ number. number)

abbrev pub option_by : {S T : Type 0} → (S → ℕ → T × ℕ) → Option S → ℕ → Option T × ℕ
option_by number None n = (None, n)
option_by number (Some x) n = let y = number x n in (Some y.0, y.1)

abbrev pub node_by : Begun → ℕ → Node × ℕ
node_by b = b.numbered

abbrev pub nodes_row : List Begun → ℕ → List Node × ℕ
nodes_row = row_by node_by

abbrev pub node_option : Option Begun → ℕ → Option Node × ℕ
node_option = option_by node_by

abbrev pub in_turn : {A B : Type 0} → (ℕ → A × ℕ) → (ℕ → B × ℕ) → ℕ → (A × B) × ℕ
in_turn one other n = let x = one n in let y = other x.1 in ((x.0, y.0), y.1)

-- ---- what may stand in another order than the fields that hold it

-- two parts, the other one first where it begins first
abbrev pub in_order : {A B : Type 0} → Bool → (ℕ → A × ℕ) → (ℕ → B × ℕ) → ℕ → (A × B) × ℕ
in_order other_first one other n = if other_first then (let y = other n in let x = one y.1 in ((x.0, y.0), x.1)) else in_turn one other n

-- whether both are there, and the one begins before the other
abbrev pub begins_before : Option ℕ → Option ℕ → Bool
begins_before (Some one) (Some other) = nat_lt one other
begins_before one other = false

abbrev pub start_in : Option Begun → Option ℕ
start_in = option_map (λ (b : Begun). b.start)

-- whether one of the sides of a condition begins before it, as before a modifier
abbrev pub sides_before : ℕ → Option ℕ → Option ℕ → Bool
sides_before condition body otherwise = begins_before body (Some condition) || begins_before otherwise (Some condition)

abbrev pub arm_number : Sides → ℕ → Arm × ℕ
arm_number a n = let x = in_turn a.condition.numbered (node_option a.body) n in (roll-Arm (record { condition = x.0.0; body = x.0.1 }), x.1)

-- An `If` with one arm: the condition before or behind its two sides, and these in their order. What an `unless` reads first is the side
-- that is read where the condition doesn't hold.
abbrev pub choice_number : Sides → Option Begun → ℕ → (List Arm × Option Node) × ℕ
choice_number a otherwise n =
    let sides = in_order (begins_before (start_in otherwise) (start_in a.body)) (node_option a.body) (node_option otherwise) in
    let x = in_order (sides_before a.condition.start (start_in a.body) (start_in otherwise)) a.condition.numbered sides n in
    ((roll-Arm (record { condition = x.0.0; body = x.0.1.0 }) ∷ [], x.0.1.1), x.1)

-- the one that stands alone in a list, or the list
abbrev pub only : {T : Type 0} → List T → Result T (List T)
only (x ∷ []) = Ok x
only xs = Err xs

-- An `If` with several arms is written with `elsif`, so all of it stands in the order of its fields.
abbrev pub if_number : List Sides → Option Begun → ℕ → (List Arm × Option Node) × ℕ
if_number (a ∷ []) otherwise n = choice_number a otherwise n
if_number arms otherwise n = in_turn (row_by arm_number arms) (node_option otherwise) n

-- `while`, and the modifier behind its body
abbrev pub while_number : Begun → Begun → ℕ → (Node × Node) × ℕ
while_number condition body = in_order (nat_lt body.start condition.start) condition.numbered body.numbered

-- ---- each node before those in it

abbrev pub node_number : Node-F (ℕ → NodeKind × ℕ) (ℕ → Item × ℕ) (ℕ → Param × ℕ) (ℕ → Part × ℕ) (ℕ → Target × ℕ) Begun Sides (ℕ → Rescue × ℕ) (ℕ → When × ℕ) → Begun
node_number layer = record { start = layer.span.start; numbered = λ n. let x = layer.kind (n + 1) in (roll-Node (record { span = layer.span; number = n; kind = x.0 }), x.1) }

abbrev pub kind_number : NodeKind-F (ℕ → NodeKind × ℕ) (ℕ → Item × ℕ) (ℕ → Param × ℕ) (ℕ → Part × ℕ) (ℕ → Target × ℕ) Begun Sides (ℕ → Rescue × ℕ) (ℕ → When × ℕ) → ℕ → NodeKind × ℕ
kind_number NodeKind-F.Nil n = (kind.Nil, n)
kind_number NodeKind-F.True n = (kind.True, n)
kind_number NodeKind-F.False n = (kind.False, n)
kind_number (NodeKind-F.Int value) n = (kind.Int value, n)
kind_number (NodeKind-F.Str text) n = (kind.Str text, n)
kind_number (NodeKind-F.Sym text) n = (kind.Sym text, n)
kind_number (NodeKind-F.StrParts parts) n = let x = row parts n in (kind.StrParts x.0, x.1)
kind_number (NodeKind-F.SymParts parts) n = let x = row parts n in (kind.SymParts x.0, x.1)
kind_number (NodeKind-F.Regexp parts flags) n = let x = row parts n in (kind.Regexp x.0 flags, x.1)
kind_number NodeKind-F.File n = (kind.File, n)
kind_number (NodeKind-F.Words whose words) n = (kind.Words whose words, n)
kind_number NodeKind-F.SelfRef n = (kind.SelfRef, n)
kind_number (NodeKind-F.Name name) n = (kind.Name name, n)
kind_number (NodeKind-F.NodeKind::IVar name) n = (kind.IVar name, n)
kind_number (NodeKind-F.NodeKind::CVar name) n = (kind.CVar name, n)
kind_number (NodeKind-F.NodeKind::GVar name) n = (kind.GVar name, n)
kind_number (NodeKind-F.NodeKind::Const scope path) n = let x = node_option scope n in (kind.Const x.0 path, x.1)
kind_number (NodeKind-F.ArrayOf items) n = let x = row items n in (kind.ArrayOf x.0, x.1)
kind_number (NodeKind-F.HashOf items) n = let x = row items n in (kind.HashOf x.0, x.1)
kind_number (NodeKind-F.RangeOf first last without_last) n = let x = node_option first n in let y = node_option last x.1 in (kind.RangeOf x.0 y.0 without_last, y.1)
kind_number (NodeKind-F.Asgn target value) n = let x = target n in let y = value.numbered x.1 in (kind.Asgn x.0 y.0, y.1)
kind_number (NodeKind-F.MultiAsgn targets values values_at) n = let x = nodes_row values n in (kind.MultiAsgn targets x.0 values_at, x.1)
kind_number (NodeKind-F.Call receiver dot method args block) n = let x = node_option receiver n in let y = row args x.1 in let z = node_option block y.1 in (kind.Call x.0 dot method y.0 z.0, z.1)
kind_number (NodeKind-F.AsgnCall receiver dot method args) n = let x = receiver.numbered n in let y = row args x.1 in (kind.AsgnCall x.0 dot method y.0, y.1)
kind_number (NodeKind-F.NodeKind::Block params body) n = let x = row params n in let y = body.numbered x.1 in (kind.Block x.0 y.0, y.1)
kind_number (NodeKind-F.BlockPass value) n = let x = value.numbered n in (kind.BlockPass x.0, x.1)
kind_number (NodeKind-F.Super args block) n = let x = option_by row args n in let y = node_option block x.1 in (kind.Super x.0 y.0, y.1)
kind_number (NodeKind-F.Yield args block) n = let x = row args n in let y = node_option block x.1 in (kind.Yield x.0 y.0, y.1)
kind_number (NodeKind-F.And left right) n = let x = left.numbered n in let y = right.numbered x.1 in (kind.And x.0 y.0, y.1)
kind_number (NodeKind-F.Or left right) n = let x = left.numbered n in let y = right.numbered x.1 in (kind.Or x.0 y.0, y.1)
kind_number (NodeKind-F.Not value) n = let x = value.numbered n in (kind.Not x.0, x.1)
kind_number (NodeKind-F.Defined value) n = let x = value.numbered n in (kind.Defined x.0, x.1)
kind_number (NodeKind-F.If arms otherwise) n = let x = if_number arms otherwise n in (kind.If x.0.0 x.0.1, x.1)
kind_number (NodeKind-F.Case subject arms otherwise) n = let x = node_option subject n in let y = row arms x.1 in let z = node_option otherwise y.1 in (kind.Case x.0 y.0 z.0, z.1)
kind_number (NodeKind-F.While condition negated body) n = let x = while_number condition body n in (kind.While x.0.0 negated x.0.1, x.1)
kind_number (NodeKind-F.Return values) n = let x = nodes_row values n in (kind.Return x.0, x.1)
kind_number (NodeKind-F.Break values) n = let x = nodes_row values n in (kind.Break x.0, x.1)
kind_number (NodeKind-F.Next values) n = let x = nodes_row values n in (kind.Next x.0, x.1)
kind_number (NodeKind-F.Begin body rescues otherwise ensure) n = let x = body.numbered n in let y = row rescues x.1 in let z = node_option otherwise y.1 in let w = node_option ensure z.1 in (kind.Begin x.0 y.0 z.0 w.0, w.1)
kind_number (NodeKind-F.Seq nodes) n = let x = nodes_row nodes n in (kind.Seq x.0, x.1)
kind_number (NodeKind-F.Lambda params body) n = let x = row params n in let y = body.numbered x.1 in (kind.Lambda x.0 y.0, y.1)
kind_number (NodeKind-F.Def singleton method params body) n = let x = row params n in let y = body.numbered x.1 in (kind.Def singleton method x.0 y.0, y.1)
kind_number (NodeKind-F.ClassBody path path_at superclass body) n = let x = node_option superclass n in let y = body.numbered x.1 in (kind.ClassBody path path_at x.0 y.0, y.1)
kind_number (NodeKind-F.ModuleBody path path_at body) n = let x = body.numbered n in (kind.ModuleBody path path_at x.0, x.1)
kind_number (NodeKind-F.SingletonBody body) n = let x = body.numbered n in (kind.SingletonBody x.0, x.1)
kind_number (NodeKind-F.AliasOf new_name old_name) n = (kind.AliasOf new_name old_name, n)

abbrev pub item_number : Item-F (ℕ → NodeKind × ℕ) (ℕ → Item × ℕ) (ℕ → Param × ℕ) (ℕ → Part × ℕ) (ℕ → Target × ℕ) Begun Sides (ℕ → Rescue × ℕ) (ℕ → When × ℕ) → ℕ → Item × ℕ
item_number (Item-F.Value node) n = let x = node.numbered n in (item.Value x.0, x.1)
item_number (Item-F.Splat node) n = let x = node.numbered n in (item.Splat x.0, x.1)
item_number (Item-F.DoubleSplat node) n = let x = node.numbered n in (item.DoubleSplat x.0, x.1)
item_number (Item-F.Label key at value) n = let x = value.numbered n in (item.Label key at x.0, x.1)
item_number (Item-F.Pair key value) n = let x = key.numbered n in let y = value.numbered x.1 in (item.Pair x.0 y.0, y.1)

abbrev pub part_number : Part-F (ℕ → NodeKind × ℕ) (ℕ → Item × ℕ) (ℕ → Param × ℕ) (ℕ → Part × ℕ) (ℕ → Target × ℕ) Begun Sides (ℕ → Rescue × ℕ) (ℕ → When × ℕ) → ℕ → Part × ℕ
part_number (Part-F.Text text) n = (piece.Text text, n)
part_number (Part-F.Code node) n = let x = node.numbered n in (piece.Code x.0, x.1)

abbrev pub target_number : Target-F (ℕ → NodeKind × ℕ) (ℕ → Item × ℕ) (ℕ → Param × ℕ) (ℕ → Part × ℕ) (ℕ → Target × ℕ) Begun Sides (ℕ → Rescue × ℕ) (ℕ → When × ℕ) → ℕ → Target × ℕ
target_number (Target-F.Local name at) n = (target.Local name at, n)
target_number (Target-F.Target::IVar name at) n = (target.IVar name at, n)
target_number (Target-F.Target::CVar name at) n = (target.CVar name at, n)
target_number (Target-F.Target::GVar name at) n = (target.GVar name at, n)
target_number (Target-F.Target::Const scope path at) n = let x = node_option scope n in (target.Const x.0 path at, x.1)

abbrev pub param_number : Param-F (ℕ → NodeKind × ℕ) (ℕ → Item × ℕ) (ℕ → Param × ℕ) (ℕ → Part × ℕ) (ℕ → Target × ℕ) Begun Sides (ℕ → Rescue × ℕ) (ℕ → When × ℕ) → ℕ → Param × ℕ
param_number (Param-F.Required local) n = (param.Required local, n)
param_number (Param-F.Optional local default) n = let x = default.numbered n in (param.Optional local x.0, x.1)
param_number (Param-F.Rest local) n = (param.Rest local, n)
param_number (Param-F.Trailing local) n = (param.Trailing local, n)
param_number (Param-F.Keyword local) n = (param.Keyword local, n)
param_number (Param-F.OptionalKeyword local default) n = let x = default.numbered n in (param.OptionalKeyword local x.0, x.1)
param_number (Param-F.RestKeywords local) n = (param.RestKeywords local, n)
param_number (Param-F.Param::Block local) n = (param.Block local, n)
param_number (Param-F.Group locals) n = (param.Group locals, n)

abbrev pub arm_sides : Arm-F (ℕ → NodeKind × ℕ) (ℕ → Item × ℕ) (ℕ → Param × ℕ) (ℕ → Part × ℕ) (ℕ → Target × ℕ) Begun Sides (ℕ → Rescue × ℕ) (ℕ → When × ℕ) → Sides
arm_sides a = record { condition = a.condition; body = a.body }

abbrev pub when_number : When-F (ℕ → NodeKind × ℕ) (ℕ → Item × ℕ) (ℕ → Param × ℕ) (ℕ → Part × ℕ) (ℕ → Target × ℕ) Begun Sides (ℕ → Rescue × ℕ) (ℕ → When × ℕ) → ℕ → When × ℕ
when_number w n = let x = row w.values n in let y = w.body.numbered x.1 in (roll-When (record { values = x.0; body = y.0 }), y.1)

abbrev pub rescue_number : Rescue-F (ℕ → NodeKind × ℕ) (ℕ → Item × ℕ) (ℕ → Param × ℕ) (ℕ → Part × ℕ) (ℕ → Target × ℕ) Begun Sides (ℕ → Rescue × ℕ) (ℕ → When × ℕ) → ℕ → Rescue × ℕ
rescue_number r n = let x = nodes_row r.classes n in let y = r.body.numbered x.1 in (roll-Rescue (record { classes = x.0; variable = r.variable; body = y.0 }), y.1)

abbrev pub begun_in : Node → Begun
begun_in = fold-Node (ℕ → NodeKind × ℕ) (ℕ → Item × ℕ) (ℕ → Param × ℕ) (ℕ → Part × ℕ) (ℕ → Target × ℕ) Begun Sides (ℕ → Rescue × ℕ) (ℕ → When × ℕ) kind_number item_number param_number part_number target_number node_number arm_sides rescue_number when_number

abbrev pub kind_numbered : NodeKind → ℕ → NodeKind × ℕ
kind_numbered = fold-NodeKind (ℕ → NodeKind × ℕ) (ℕ → Item × ℕ) (ℕ → Param × ℕ) (ℕ → Part × ℕ) (ℕ → Target × ℕ) Begun Sides (ℕ → Rescue × ℕ) (ℕ → When × ℕ) kind_number item_number param_number part_number target_number node_number arm_sides rescue_number when_number

abbrev pub part_numbered : Part → ℕ → Part × ℕ
part_numbered = fold-Part (ℕ → NodeKind × ℕ) (ℕ → Item × ℕ) (ℕ → Param × ℕ) (ℕ → Part × ℕ) (ℕ → Target × ℕ) Begun Sides (ℕ → Rescue × ℕ) (ℕ → When × ℕ) kind_number item_number param_number part_number target_number node_number arm_sides rescue_number when_number

abbrev pub item_numbered : Item → ℕ → Item × ℕ
item_numbered = fold-Item (ℕ → NodeKind × ℕ) (ℕ → Item × ℕ) (ℕ → Param × ℕ) (ℕ → Part × ℕ) (ℕ → Target × ℕ) Begun Sides (ℕ → Rescue × ℕ) (ℕ → When × ℕ) kind_number item_number param_number part_number target_number node_number arm_sides rescue_number when_number

abbrev pub target_numbered : Target → ℕ → Target × ℕ
target_numbered = fold-Target (ℕ → NodeKind × ℕ) (ℕ → Item × ℕ) (ℕ → Param × ℕ) (ℕ → Part × ℕ) (ℕ → Target × ℕ) Begun Sides (ℕ → Rescue × ℕ) (ℕ → When × ℕ) kind_number item_number param_number part_number target_number node_number arm_sides rescue_number when_number

abbrev pub sides_in : Arm → Sides
sides_in = fold-Arm (ℕ → NodeKind × ℕ) (ℕ → Item × ℕ) (ℕ → Param × ℕ) (ℕ → Part × ℕ) (ℕ → Target × ℕ) Begun Sides (ℕ → Rescue × ℕ) (ℕ → When × ℕ) kind_number item_number param_number part_number target_number node_number arm_sides rescue_number when_number

abbrev pub when_numbered : When → ℕ → When × ℕ
when_numbered = fold-When (ℕ → NodeKind × ℕ) (ℕ → Item × ℕ) (ℕ → Param × ℕ) (ℕ → Part × ℕ) (ℕ → Target × ℕ) Begun Sides (ℕ → Rescue × ℕ) (ℕ → When × ℕ) kind_number item_number param_number part_number target_number node_number arm_sides rescue_number when_number

abbrev pub rescue_numbered : Rescue → ℕ → Rescue × ℕ
rescue_numbered = fold-Rescue (ℕ → NodeKind × ℕ) (ℕ → Item × ℕ) (ℕ → Param × ℕ) (ℕ → Part × ℕ) (ℕ → Target × ℕ) Begun Sides (ℕ → Rescue × ℕ) (ℕ → When × ℕ) kind_number item_number param_number part_number target_number node_number arm_sides rescue_number when_number

abbrev pub param_numbered : Param → ℕ → Param × ℕ
param_numbered = fold-Param (ℕ → NodeKind × ℕ) (ℕ → Item × ℕ) (ℕ → Param × ℕ) (ℕ → Part × ℕ) (ℕ → Target × ℕ) Begun Sides (ℕ → Rescue × ℕ) (ℕ → When × ℕ) kind_number item_number param_number part_number target_number node_number arm_sides rescue_number when_number

-- a tree whose nodes have numbers from a number on, and the number behind
abbrev pub node_numbered : Node → ℕ → Node × ℕ
node_numbered n = (begun_in n).numbered
