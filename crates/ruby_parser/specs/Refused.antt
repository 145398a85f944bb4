-- Nodes whose forms are refused, and the first of them.
use Rattle.std.specs.Prelude.{ℕ, ◌==◌, Bool, true, false, if◌then◌else◌, List, [], ◌∷◌, map, nat_eq, Option, Some, None, codes, nat_lt}
use Rattle.std.specs.List.{fold}
use Rattle.std.specs.Cmp.Lexicographic.{pointwise}
use Rattle.ruby_lexer.specs.declared.refusal.Form.{Form}
use Rattle.ruby_parser.specs.declared.refused.Refused.{Refused}
use Rattle.ruby_tree.specs.declared.nodes.Node.{Node}
use Rattle.ruby_tree.specs.declared.nodes.NodeKind.{NodeKind}
use Rattle.ruby_tree.specs.declared.parts.Arm.{Arm}
use Rattle.ruby_tree.specs.declared.parts.Item.{Item}
use Rattle.ruby_tree.specs.declared.parts.Param.{Param}
use Rattle.ruby_tree.specs.declared.parts.Part.{Part}
use Rattle.ruby_tree.specs.declared.parts.Rescue.{Rescue}
use Rattle.ruby_tree.specs.declared.parts.Target.{Target}
use Rattle.ruby_tree.specs.declared.parts.When.{When}
use Rattle.src_text.specs.declared.span.Span.{Span}
use Rattle.ruby_lexer.specs.declared.refusal.Form.TheVariants as form
use Rattle.ruby_tree.specs.declared.nodes.NodeKind.TheOpen.{Node-F, NodeKind-F, Part-F, Item-F, Target-F, Arm-F, When-F, Rescue-F, Param-F}
use Rattle.ruby_tree.specs.declared.nodes.NodeKind.TheFolds.{fold-NodeKind}
use Rattle.ruby_tree.specs.declared.nodes.NodeKind.TheFolds.{fold-Part}
use Rattle.ruby_tree.specs.declared.nodes.NodeKind.TheFolds.{fold-Node}
use Rattle.ruby_tree.specs.declared.nodes.NodeKind.TheFolds.{fold-Target}
use Rattle.ruby_tree.specs.declared.nodes.NodeKind.TheFolds.{fold-Param}
use Rattle.ruby_tree.specs.declared.nodes.NodeKind.TheFolds.{fold-Item}
use Rattle.ruby_tree.specs.declared.nodes.NodeKind.TheFolds.{fold-Arm}
use Rattle.ruby_tree.specs.declared.nodes.NodeKind.TheFolds.{fold-When}
use Rattle.ruby_tree.specs.declared.nodes.NodeKind.TheFolds.{fold-Rescue}

-- ---- the first of two

abbrev pub R : Type 0
R = Option Refused

-- what begins before another, or where it does and goes on behind it
abbrev pub comes_before : Span → Span → Bool
comes_before one other = if one.start == other.start then nat_lt other.end one.end else nat_lt one.start other.start

abbrev pub first_refused : Refused → Refused → Refused
first_refused one other = if comes_before other.at one.at then other else one

-- the one that begins first, of two with one start the outer
abbrev pub first_of : R → R → R
first_of None other = other
first_of (Some one) None = Some one
first_of (Some one) (Some other) = Some (first_refused one other)

abbrev pub firsts : List R → R
firsts = fold first_of None

-- ---- what a node is refused for

abbrev pub form_named : List ℕ → List (List ℕ × Form) → Option Form
form_named name [] = None
form_named name (e ∷ es) = if pointwise nat_eq name e.0 then Some e.1 else form_named name es

-- the methods whose calls are refused
abbrev pub refused_calls : List (List ℕ × Form)
refused_calls = (codes "using", form.Using) ∷ (codes "refine", form.Refine) ∷ (codes "define_method", form.DefineMethod) ∷ (codes "eval", form.Eval)
    ∷ (codes "instance_eval", form.InstanceEval) ∷ (codes "class_eval", form.ClassEval) ∷ (codes "module_eval", form.ModuleEval) ∷ []

-- the methods whose definitions are refused
abbrev pub refused_definitions : List (List ℕ × Form)
refused_definitions = (codes "method_missing", form.MethodMissing) ∷ []

abbrev pub with_form : Span → Option Form → R
with_form at None = None
with_form at (Some f) = Some (record { at = at; form = f })

-- ---- the first in a tree

-- the first refused one in a node, and where the node is a condition
pub record Found : Type 0 where
  pub refused : R
  pub condition : R

-- the first refused one in what a node is, the form that the node itself is refused for, and whether it is a range
pub record Kinds : Type 0 where
  pub refused : R
  pub own : Option Form
  pub range : Bool

-- A condition that is a range itself is refused.
abbrev pub flip_flop : Span → Bool → R
flip_flop at true = Some (record { at = at; form = form.FlipFlop })
flip_flop at false = None

abbrev pub in_span : Span → Kinds → Found
in_span at k = let refused = first_of (with_form at k.own) k.refused in record { refused = refused; condition = first_of (flip_flop at k.range) refused }

abbrev pub node_step : Node-F Kinds R R R R Found R R R → Found
node_step n = in_span n.span n.kind

abbrev pub in_option : Option Found → R
in_option None = None
in_option (Some f) = f.refused

abbrev pub in_options : Option (List R) → R
in_options None = None
in_options (Some rs) = firsts rs

abbrev pub in_list : List Found → R
in_list fs = firsts (map (λ (f : Found). f.refused) fs)

abbrev pub plain : R → Kinds
plain r = record { refused = r; own = None; range = false }

abbrev pub kind_step : NodeKind-F Kinds R R R R Found R R R → Kinds
kind_step (NodeKind-F.StrParts parts) = plain (firsts parts)
kind_step (NodeKind-F.SymParts parts) = plain (firsts parts)
kind_step (NodeKind-F.Regexp parts flags) = plain (firsts parts)
kind_step (NodeKind-F.NodeKind::Const scope path) = plain (in_option scope)
kind_step (NodeKind-F.ArrayOf items) = plain (firsts items)
kind_step (NodeKind-F.HashOf items) = plain (firsts items)
kind_step (NodeKind-F.RangeOf from to short) = record { refused = first_of (in_option from) (in_option to); own = None; range = true }
kind_step (NodeKind-F.Asgn place given) = plain (first_of place given.refused)
kind_step (NodeKind-F.MultiAsgn targets values values_at) = plain (in_list values)
kind_step (NodeKind-F.Call receiver joint method args block) =
    record { refused = first_of (in_option receiver) (first_of (firsts args) (in_option block)); own = form_named method.name refused_calls; range = false }
kind_step (NodeKind-F.AsgnCall receiver joint method args) = plain (first_of receiver.refused (firsts args))
kind_step (NodeKind-F.NodeKind::Block params body) = plain (first_of (firsts params) body.refused)
kind_step (NodeKind-F.BlockPass n) = plain n.refused
kind_step (NodeKind-F.Super args block) = plain (first_of (in_options args) (in_option block))
kind_step (NodeKind-F.Yield args block) = plain (first_of (firsts args) (in_option block))
kind_step (NodeKind-F.And left right) = plain (first_of left.refused right.refused)
kind_step (NodeKind-F.Or left right) = plain (first_of left.refused right.refused)
kind_step (NodeKind-F.Not n) = plain n.refused
kind_step (NodeKind-F.Defined n) = plain n.refused
kind_step (NodeKind-F.If arms otherwise) = plain (first_of (firsts arms) (in_option otherwise))
kind_step (NodeKind-F.Case subject arms otherwise) = plain (first_of (in_option subject) (first_of (firsts arms) (in_option otherwise)))
kind_step (NodeKind-F.While condition negated body) = plain (first_of condition.condition body.refused)
kind_step (NodeKind-F.Return values) = plain (in_list values)
kind_step (NodeKind-F.Break values) = plain (in_list values)
kind_step (NodeKind-F.Next values) = plain (in_list values)
kind_step (NodeKind-F.Begin body rescues otherwise ensure) = plain (first_of (first_of body.refused (firsts rescues)) (first_of (in_option otherwise) (in_option ensure)))
kind_step (NodeKind-F.Seq nodes) = plain (in_list nodes)
kind_step (NodeKind-F.Lambda params body) = plain (first_of (firsts params) body.refused)
kind_step (NodeKind-F.Def singleton method params body) = record { refused = first_of (firsts params) body.refused; own = form_named method.name refused_definitions; range = false }
kind_step (NodeKind-F.ClassBody path path_at superclass body) = plain (first_of (in_option superclass) body.refused)
kind_step (NodeKind-F.ModuleBody path path_at body) = plain body.refused
kind_step (NodeKind-F.SingletonBody body) = plain body.refused
kind_step other = plain None

abbrev pub part_step : Part-F Kinds R R R R Found R R R → R
part_step (Part-F.Text text) = None
part_step (Part-F.Code n) = n.refused

abbrev pub item_step : Item-F Kinds R R R R Found R R R → R
item_step (Item-F.Value n) = n.refused
item_step (Item-F.Splat n) = n.refused
item_step (Item-F.DoubleSplat n) = n.refused
item_step (Item-F.Label key at given) = given.refused
item_step (Item-F.Pair key given) = first_of key.refused given.refused

abbrev pub target_step : Target-F Kinds R R R R Found R R R → R
target_step (Target-F.Target::Const scope path at) = in_option scope
target_step other = None

abbrev pub arm_step : Arm-F Kinds R R R R Found R R R → R
arm_step a = first_of a.condition.condition (in_option a.body)

abbrev pub when_step : When-F Kinds R R R R Found R R R → R
when_step w = first_of (firsts w.values) w.body.refused

abbrev pub rescue_step : Rescue-F Kinds R R R R Found R R R → R
rescue_step r = first_of (in_list r.classes) r.body.refused

abbrev pub param_step : Param-F Kinds R R R R Found R R R → R
param_step (Param-F.Optional local n) = n.refused
param_step (Param-F.OptionalKeyword local n) = n.refused
param_step other = None

-- the first refused node in a node
abbrev pub found_in : Node → Found
found_in = fold-Node Kinds R R R R Found R R R kind_step item_step param_step part_step target_step node_step arm_step rescue_step when_step

abbrev pub kinds_in : NodeKind → Kinds
kinds_in = fold-NodeKind Kinds R R R R Found R R R kind_step item_step param_step part_step target_step node_step arm_step rescue_step when_step

abbrev pub in_part : Part → R
in_part = fold-Part Kinds R R R R Found R R R kind_step item_step param_step part_step target_step node_step arm_step rescue_step when_step

abbrev pub in_item : Item → R
in_item = fold-Item Kinds R R R R Found R R R kind_step item_step param_step part_step target_step node_step arm_step rescue_step when_step

abbrev pub in_target : Target → R
in_target = fold-Target Kinds R R R R Found R R R kind_step item_step param_step part_step target_step node_step arm_step rescue_step when_step

abbrev pub in_arm : Arm → R
in_arm = fold-Arm Kinds R R R R Found R R R kind_step item_step param_step part_step target_step node_step arm_step rescue_step when_step

abbrev pub in_when : When → R
in_when = fold-When Kinds R R R R Found R R R kind_step item_step param_step part_step target_step node_step arm_step rescue_step when_step

abbrev pub in_rescue : Rescue → R
in_rescue = fold-Rescue Kinds R R R R Found R R R kind_step item_step param_step part_step target_step node_step arm_step rescue_step when_step

abbrev pub in_param : Param → R
in_param = fold-Param Kinds R R R R Found R R R kind_step item_step param_step part_step target_step node_step arm_step rescue_step when_step

abbrev pub refused_in : Node → R
refused_in n = (found_in n).refused

abbrev pub in_condition : Node → R
in_condition n = (found_in n).condition
