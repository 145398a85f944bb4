-- What holds of the numbers of every program.
use Rattle.std.specs.Prelude.{◌≡◌, ℕ, zero, suc, ◌+◌, Bool, if◌then◌else◌, nat_eq, nat_lt, List, [], ◌∷◌, ◌++◌, length, Option, Some, None}
use Rattle.std.specs.List.{flat_map, IsDistinct}
use Rattle.std.specs.Option.{option_map}
use Rattle.ruby_tree.specs.declared.nodes.Program.{Program}
use Rattle.ruby_tree.specs.declared.nodes.Node.{Node}
use Rattle.ruby_tree.specs.declared.nodes.NodeKind.{NodeKind}
use Rattle.ruby_tree.specs.declared.parts.Arm.{Arm}
use Rattle.ruby_tree.specs.declared.parts.Item.{Item}
use Rattle.ruby_tree.specs.declared.parts.Param.{Param}
use Rattle.ruby_tree.specs.declared.parts.Part.{Part}
use Rattle.ruby_tree.specs.declared.parts.Rescue.{Rescue}
use Rattle.ruby_tree.specs.declared.parts.Target.{Target}
use Rattle.ruby_tree.specs.declared.parts.When.{When}
use Rattle.ruby_tree.specs.declared.nodes.NodeKind.TheOpen.{Node-F, NodeKind-F, Part-F, Item-F, Target-F, Arm-F, When-F, Rescue-F, Param-F}
use Rattle.ruby_tree.specs.declared.nodes.NodeKind.TheFolds.{fold-NodeKind}
use Rattle.ruby_tree.specs.declared.nodes.NodeKind.TheFolds.{fold-Part}
use Rattle.ruby_tree.specs.declared.nodes.NodeKind.TheFolds.{fold-Node}
use Rattle.ruby_tree.specs.declared.nodes.NodeKind.TheFolds.{fold-Target}
use Rattle.ruby_tree.specs.declared.nodes.NodeKind.TheFolds.{fold-Param}
use Rattle.ruby_tree.specs.declared.nodes.NodeKind.TheFolds.{fold-Item}
use Rattle.ruby_tree.specs.declared.nodes.NodeKind.TheFolds.{fold-Arm}
use Rattle.ruby_tree.specs.declared.nodes.NodeKind.TheFolds.{fold-When}
use Rattle.ruby_tree.specs.declared.nodes.NodeKind.TheFolds.{fold-Rescue}
use Rattle.ruby_numbers.specs.Numbers.{begins_before, sides_before}

-- ---- the numbers in a tree

-- the numbers of a node and of those in it, in the order of the text, and where the node begins
pub record Listed : Type 0 where
  pub start : ℕ
  pub numbers : List ℕ

-- the numbers in the parts of an arm
pub record ArmListed : Type 0 where
  pub condition : Listed
  pub body : Option Listed

abbrev pub numbers_of : Listed → List ℕ
numbers_of l = l.numbers

abbrev pub option_list : Option Listed → List ℕ
option_list None = []
option_list (Some l) = l.numbers

-- one list behind the other
abbrev pub joined : List (List ℕ) → List ℕ
joined = flat_map (λ xs. xs)

abbrev pub nodes_list : List Listed → List ℕ
nodes_list = flat_map numbers_of

abbrev pub items_list : Option (List (List ℕ)) → List ℕ
items_list None = []
items_list (Some xs) = joined xs

-- two lists, the other one first where it begins first
abbrev pub in_order : Bool → List ℕ → List ℕ → List ℕ
in_order other_first one other = if other_first then other ++ one else one ++ other

abbrev pub start_in : Option Listed → Option ℕ
start_in = option_map (λ (l : Listed). l.start)

abbrev pub arm_list : ArmListed → List ℕ
arm_list a = a.condition.numbers ++ option_list a.body

-- the parts of an `If` with one arm, in the order in which they begin
abbrev pub choice_list : ArmListed → Option Listed → List ℕ
choice_list a otherwise = in_order (sides_before a.condition.start (start_in a.body) (start_in otherwise)) a.condition.numbers
    (in_order (begins_before (start_in otherwise) (start_in a.body)) (option_list a.body) (option_list otherwise))

abbrev pub if_list : List ArmListed → Option Listed → List ℕ
if_list (a ∷ []) otherwise = choice_list a otherwise
if_list arms otherwise = flat_map arm_list arms ++ option_list otherwise

abbrev pub while_list : Listed → Listed → List ℕ
while_list condition body = in_order (nat_lt body.start condition.start) condition.numbers body.numbers

abbrev pub node_step : Node-F (List ℕ) (List ℕ) (List ℕ) (List ℕ) (List ℕ) Listed ArmListed (List ℕ) (List ℕ) → Listed
node_step n = record { start = n.span.start; numbers = n.number ∷ n.kind }

abbrev pub kind_step : NodeKind-F (List ℕ) (List ℕ) (List ℕ) (List ℕ) (List ℕ) Listed ArmListed (List ℕ) (List ℕ) → List ℕ
kind_step (NodeKind-F.StrParts parts) = joined parts
kind_step (NodeKind-F.SymParts parts) = joined parts
kind_step (NodeKind-F.Regexp parts flags) = joined parts
kind_step (NodeKind-F.NodeKind::Const scope path) = option_list scope
kind_step (NodeKind-F.ArrayOf items) = joined items
kind_step (NodeKind-F.HashOf items) = joined items
kind_step (NodeKind-F.RangeOf first last without_last) = option_list first ++ option_list last
kind_step (NodeKind-F.Asgn target value) = target ++ value.numbers
kind_step (NodeKind-F.MultiAsgn targets values values_at) = nodes_list values
kind_step (NodeKind-F.Call receiver dot method args block) = option_list receiver ++ joined args ++ option_list block
kind_step (NodeKind-F.AsgnCall receiver dot method args) = receiver.numbers ++ joined args
kind_step (NodeKind-F.NodeKind::Block params body) = joined params ++ body.numbers
kind_step (NodeKind-F.BlockPass value) = value.numbers
kind_step (NodeKind-F.Super args block) = items_list args ++ option_list block
kind_step (NodeKind-F.Yield args block) = joined args ++ option_list block
kind_step (NodeKind-F.And left right) = left.numbers ++ right.numbers
kind_step (NodeKind-F.Or left right) = left.numbers ++ right.numbers
kind_step (NodeKind-F.Not value) = value.numbers
kind_step (NodeKind-F.Defined value) = value.numbers
kind_step (NodeKind-F.If arms otherwise) = if_list arms otherwise
kind_step (NodeKind-F.Case subject arms otherwise) = option_list subject ++ joined arms ++ option_list otherwise
kind_step (NodeKind-F.While condition negated body) = while_list condition body
kind_step (NodeKind-F.Return values) = nodes_list values
kind_step (NodeKind-F.Break values) = nodes_list values
kind_step (NodeKind-F.Next values) = nodes_list values
kind_step (NodeKind-F.Begin body rescues otherwise ensure) = body.numbers ++ joined rescues ++ option_list otherwise ++ option_list ensure
kind_step (NodeKind-F.Seq nodes) = nodes_list nodes
kind_step (NodeKind-F.Lambda params body) = joined params ++ body.numbers
kind_step (NodeKind-F.Def singleton method params body) = joined params ++ body.numbers
kind_step (NodeKind-F.ClassBody path path_at superclass body) = option_list superclass ++ body.numbers
kind_step (NodeKind-F.ModuleBody path path_at body) = body.numbers
kind_step (NodeKind-F.SingletonBody body) = body.numbers
kind_step other = []

abbrev pub item_step : Item-F (List ℕ) (List ℕ) (List ℕ) (List ℕ) (List ℕ) Listed ArmListed (List ℕ) (List ℕ) → List ℕ
item_step (Item-F.Value node) = node.numbers
item_step (Item-F.Splat node) = node.numbers
item_step (Item-F.DoubleSplat node) = node.numbers
item_step (Item-F.Label key at value) = value.numbers
item_step (Item-F.Pair key value) = key.numbers ++ value.numbers

abbrev pub part_step : Part-F (List ℕ) (List ℕ) (List ℕ) (List ℕ) (List ℕ) Listed ArmListed (List ℕ) (List ℕ) → List ℕ
part_step (Part-F.Text text) = []
part_step (Part-F.Code node) = node.numbers

abbrev pub target_step : Target-F (List ℕ) (List ℕ) (List ℕ) (List ℕ) (List ℕ) Listed ArmListed (List ℕ) (List ℕ) → List ℕ
target_step (Target-F.Target::Const scope path at) = option_list scope
target_step other = []

abbrev pub param_step : Param-F (List ℕ) (List ℕ) (List ℕ) (List ℕ) (List ℕ) Listed ArmListed (List ℕ) (List ℕ) → List ℕ
param_step (Param-F.Optional local default) = default.numbers
param_step (Param-F.OptionalKeyword local default) = default.numbers
param_step other = []

abbrev pub arm_step : Arm-F (List ℕ) (List ℕ) (List ℕ) (List ℕ) (List ℕ) Listed ArmListed (List ℕ) (List ℕ) → ArmListed
arm_step a = record { condition = a.condition; body = a.body }

abbrev pub when_step : When-F (List ℕ) (List ℕ) (List ℕ) (List ℕ) (List ℕ) Listed ArmListed (List ℕ) (List ℕ) → List ℕ
when_step w = joined w.values ++ w.body.numbers

abbrev pub rescue_step : Rescue-F (List ℕ) (List ℕ) (List ℕ) (List ℕ) (List ℕ) Listed ArmListed (List ℕ) (List ℕ) → List ℕ
rescue_step r = nodes_list r.classes ++ r.body.numbers

abbrev pub listed_in : Node → Listed
listed_in = fold-Node (List ℕ) (List ℕ) (List ℕ) (List ℕ) (List ℕ) Listed ArmListed (List ℕ) (List ℕ) kind_step item_step param_step part_step target_step node_step arm_step rescue_step when_step

abbrev pub in_kind : NodeKind → List ℕ
in_kind = fold-NodeKind (List ℕ) (List ℕ) (List ℕ) (List ℕ) (List ℕ) Listed ArmListed (List ℕ) (List ℕ) kind_step item_step param_step part_step target_step node_step arm_step rescue_step when_step

abbrev pub in_part : Part → List ℕ
in_part = fold-Part (List ℕ) (List ℕ) (List ℕ) (List ℕ) (List ℕ) Listed ArmListed (List ℕ) (List ℕ) kind_step item_step param_step part_step target_step node_step arm_step rescue_step when_step

abbrev pub in_item : Item → List ℕ
in_item = fold-Item (List ℕ) (List ℕ) (List ℕ) (List ℕ) (List ℕ) Listed ArmListed (List ℕ) (List ℕ) kind_step item_step param_step part_step target_step node_step arm_step rescue_step when_step

abbrev pub in_target : Target → List ℕ
in_target = fold-Target (List ℕ) (List ℕ) (List ℕ) (List ℕ) (List ℕ) Listed ArmListed (List ℕ) (List ℕ) kind_step item_step param_step part_step target_step node_step arm_step rescue_step when_step

abbrev pub in_arm : Arm → ArmListed
in_arm = fold-Arm (List ℕ) (List ℕ) (List ℕ) (List ℕ) (List ℕ) Listed ArmListed (List ℕ) (List ℕ) kind_step item_step param_step part_step target_step node_step arm_step rescue_step when_step

abbrev pub in_when : When → List ℕ
in_when = fold-When (List ℕ) (List ℕ) (List ℕ) (List ℕ) (List ℕ) Listed ArmListed (List ℕ) (List ℕ) kind_step item_step param_step part_step target_step node_step arm_step rescue_step when_step

abbrev pub in_rescue : Rescue → List ℕ
in_rescue = fold-Rescue (List ℕ) (List ℕ) (List ℕ) (List ℕ) (List ℕ) Listed ArmListed (List ℕ) (List ℕ) kind_step item_step param_step part_step target_step node_step arm_step rescue_step when_step

abbrev pub in_param : Param → List ℕ
in_param = fold-Param (List ℕ) (List ℕ) (List ℕ) (List ℕ) (List ℕ) Listed ArmListed (List ℕ) (List ℕ) kind_step item_step param_step part_step target_step node_step arm_step rescue_step when_step

-- the numbers of all nodes of a tree, in the order of the text
abbrev pub numbers_in : Node → List ℕ
numbers_in n = (listed_in n).numbers

-- ---- the law

-- so many numbers, each the next one, from one on
abbrev pub counted : ℕ → ℕ → List ℕ
counted from zero = []
counted from (suc more) = from ∷ counted (from + 1) more

-- The numbers of a program's nodes are 0, 1, 2 and so on, in the order of the text.
abbrev pub IsNumbered : Program → Type 0
IsNumbered p = numbers_in p.root ≡ counted 0 (length (numbers_in p.root))

-- No two nodes of a program have one number.
abbrev pub HasEachOnce : Program → Type 0
HasEachOnce p = IsDistinct nat_eq (numbers_in p.root)
