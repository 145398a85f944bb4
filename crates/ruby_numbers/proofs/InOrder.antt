-- The numbers of a tree with numbers are one behind the other, in the order of the text.
use Rattle.std.proofs.Common.{◌≡◌, ℕ, ◌+◌, Bool, true, false, nat_lt, List, [], ◌∷◌, ◌++◌, map, length, refl, ◌∙◌, sym, ap, ap₂, subst as along}
use Rattle.std.specs.Prelude.{Option, Some, None, Result, Ok, Err, IfOk}
use Rattle.std.specs.List.{fold, flat_map}
use mathlib.Core.List.{append_assoc}
use Rattle.ruby_tree.specs.declared.nodes.Node.{Node}
use Rattle.ruby_tree.specs.declared.nodes.NodeKind.{NodeKind}
use Rattle.ruby_tree.specs.declared.parts.Arm.{Arm}
use Rattle.ruby_tree.specs.declared.parts.Item.{Item}
use Rattle.ruby_tree.specs.declared.parts.Param.{Param}
use Rattle.ruby_tree.specs.declared.parts.Part.{Part}
use Rattle.ruby_tree.specs.declared.parts.Rescue.{Rescue}
use Rattle.ruby_tree.specs.declared.parts.Target.{Target}
use Rattle.ruby_tree.specs.declared.parts.When.{When}
use Rattle.ruby_tree.specs.declared.nodes.NodeKind.TheVariants as kind
use Rattle.ruby_tree.specs.declared.parts.Item.TheVariants as item
use Rattle.ruby_tree.specs.declared.parts.Param.TheVariants as param
use Rattle.ruby_tree.specs.declared.parts.Part.TheVariants as piece
use Rattle.ruby_tree.specs.declared.parts.Target.TheVariants as target
use Rattle.ruby_tree.specs.declared.nodes.NodeKind.TheOpen.{Node-F, NodeKind-F, Part-F, Item-F, Target-F, Arm-F, When-F, Rescue-F, Param-F}
use Rattle.ruby_tree.specs.declared.nodes.NodeKind.TheViews.{roll-NodeKind, roll-Node, roll-Item, roll-Part, roll-Param, roll-Target, roll-Arm, roll-When, roll-Rescue}
use Rattle.ruby_tree.specs.declared.nodes.NodeKind.TheFolds.{fold-roll-NodeKind, fold-roll-Node, fold-roll-Item, fold-roll-Part, fold-roll-Param, fold-roll-Target, fold-roll-Arm, fold-roll-When, fold-roll-Rescue, map-NodeKind, map-Node, map-Item, map-Part, map-Param, map-Target, map-Arm, map-When, map-Rescue, ind-Node}
use Rattle.ruby_numbers.specs.Numbers as num
use Rattle.ruby_numbers.specs.Laws as law

-- ---- runs of numbers

-- each number the next one, from a number on, and the number behind
abbrev Runs : List ℕ → ℕ → ℕ → Type 0
Runs [] n m = n ≡ m
Runs (x ∷ xs) n m = (x ≡ n) × Runs xs (n + 1) m

runs_on : (xs ys : List ℕ) (n m k : ℕ) → Runs xs n m → Runs ys m k → Runs (xs ++ ys) n k
runs_on [] ys n m k e r = along (λ z. Runs ys z k) (sym e) r
runs_on (x ∷ xs) ys n m k e r = (e.0, runs_on xs ys (n + 1) m k e.1 r)

pub runs_counted : (xs : List ℕ) (n m : ℕ) → Runs xs n m → xs ≡ law.counted n (length xs)
runs_counted [] n m r = refl
runs_counted (x ∷ xs) n m r = ap₂ ◌∷◌ r.0 (runs_counted xs (n + 1) m r.1)

-- what is numbered from any number on has the numbers up to the one behind
abbrev Is : {T : Type 0} → (T → List ℕ) → (ℕ → T × ℕ) → Type 0
Is list number = (n : ℕ) → Runs (list (number n).0) n (number n).1

abbrev IsNode : num.Begun → Type 0
IsNode b = (n : ℕ) → Runs (law.numbers_in (b.numbered n).0) n (b.numbered n).1 × ((law.listed_in (b.numbered n).0).start ≡ b.start)

abbrev IsOption : Option num.Begun → Type 0
IsOption None = Unit {0}
IsOption (Some b) = IsNode b

abbrev IsArm : num.Sides → Type 0
IsArm s = IsNode s.condition × IsOption s.body

abbrev NodeP : Type 0
NodeP = (x : Node) × IsNode (num.begun_in x)

abbrev NodeKindP : Type 0
NodeKindP = (x : NodeKind) × Is law.in_kind (num.kind_numbered x)

abbrev ItemP : Type 0
ItemP = (x : Item) × Is law.in_item (num.item_numbered x)

abbrev ParamP : Type 0
ParamP = (x : Param) × Is law.in_param (num.param_numbered x)

abbrev PartP : Type 0
PartP = (x : Part) × Is law.in_part (num.part_numbered x)

abbrev TargetP : Type 0
TargetP = (x : Target) × Is law.in_target (num.target_numbered x)

abbrev ArmP : Type 0
ArmP = (x : Arm) × IsArm (num.sides_in x)

abbrev RescueP : Type 0
RescueP = (x : Rescue) × Is law.in_rescue (num.rescue_numbered x)

abbrev WhenP : Type 0
WhenP = (x : When) × Is law.in_when (num.when_numbered x)

-- ---- lists

append_none : (xs : List ℕ) → xs ++ [] ≡ xs
append_none [] = refl
append_none (x ∷ xs) = ap (λ ys. x ∷ ys) (append_none xs)

one_more_list : {T U : Type 0} (h : T → U) (g : U → List ℕ) (xs : List T) (x : T) → flat_map g (map h (xs ++ x ∷ [])) ≡ flat_map g (map h xs) ++ g (h x)
one_more_list h g [] x = append_none (g (h x))
one_more_list h g (y ∷ ys) x = ap (λ zs. g (h y) ++ zs) (one_more_list h g ys x) ∙ sym (append_assoc (g (h y)) (flat_map g (map h ys)) (g (h x)))

rows : {X S T U : Type 0} (P : X → Type 0) (step : S → ℕ → T × ℕ) (f : X → S) (h : T → U) (g : U → List ℕ)
    → ((x : X) → P x → (n : ℕ) → Runs (g (h (step (f x) n).0)) n (step (f x) n).1)
    → (ps : List ((x : X) × P x)) (done : List T) (from n : ℕ) → Runs (flat_map g (map h done)) from n
    → Runs (flat_map g (map h (fold (num.one_more step) (done, n) (map f (map (λ e. e.0) ps))).0)) from (fold (num.one_more step) (done, n) (map f (map (λ e. e.0) ps))).1
rows P step f h g each [] done from n r = r
rows P step f h g each (p ∷ ps) done from n r =
    let y = step (f p.0) n in
    rows P step f h g each ps (done ++ y.0 ∷ []) from y.1
    (along (λ z. Runs z from y.1) (sym (one_more_list h g done y.0)) (runs_on (flat_map g (map h done)) (g (h y.0)) from n y.1 r (each p.0 p.1 n)))

abbrev of_kind : NodeKind-F NodeKindP ItemP ParamP PartP TargetP NodeP ArmP RescueP WhenP → NodeKind-F NodeKind Item Param Part Target Node Arm Rescue When
of_kind y = map-NodeKind _ _ _ _ _ _ _ _ _ _ _ _ _ _ _ _ _ _ (λ e. e.0) (λ e. e.0) (λ e. e.0) (λ e. e.0) (λ e. e.0) (λ e. e.0) (λ e. e.0) (λ e. e.0) (λ e. e.0) y

abbrev list_kind : NodeKind-F NodeKind Item Param Part Target Node Arm Rescue When → NodeKind-F (List ℕ) (List ℕ) (List ℕ) (List ℕ) (List ℕ) law.Listed law.ArmListed (List ℕ) (List ℕ)
list_kind x = map-NodeKind _ _ _ _ _ _ _ _ _ _ _ _ _ _ _ _ _ _ law.in_kind law.in_item law.in_param law.in_part law.in_target law.listed_in law.in_arm law.in_rescue law.in_when x

abbrev number_kind : NodeKind-F NodeKind Item Param Part Target Node Arm Rescue When → NodeKind-F (ℕ → NodeKind × ℕ) (ℕ → Item × ℕ) (ℕ → Param × ℕ) (ℕ → Part × ℕ) (ℕ → Target × ℕ) num.Begun num.Sides (ℕ → Rescue × ℕ) (ℕ → When × ℕ)
number_kind x = map-NodeKind _ _ _ _ _ _ _ _ _ _ _ _ _ _ _ _ _ _ num.kind_numbered num.item_numbered num.param_numbered num.part_numbered num.target_numbered num.begun_in num.sides_in num.rescue_numbered num.when_numbered x

abbrev of_item : Item-F NodeKindP ItemP ParamP PartP TargetP NodeP ArmP RescueP WhenP → Item-F NodeKind Item Param Part Target Node Arm Rescue When
of_item y = map-Item _ _ _ _ _ _ _ _ _ _ _ _ _ _ _ _ _ _ (λ e. e.0) (λ e. e.0) (λ e. e.0) (λ e. e.0) (λ e. e.0) (λ e. e.0) (λ e. e.0) (λ e. e.0) (λ e. e.0) y

abbrev list_item : Item-F NodeKind Item Param Part Target Node Arm Rescue When → Item-F (List ℕ) (List ℕ) (List ℕ) (List ℕ) (List ℕ) law.Listed law.ArmListed (List ℕ) (List ℕ)
list_item x = map-Item _ _ _ _ _ _ _ _ _ _ _ _ _ _ _ _ _ _ law.in_kind law.in_item law.in_param law.in_part law.in_target law.listed_in law.in_arm law.in_rescue law.in_when x

abbrev number_item : Item-F NodeKind Item Param Part Target Node Arm Rescue When → Item-F (ℕ → NodeKind × ℕ) (ℕ → Item × ℕ) (ℕ → Param × ℕ) (ℕ → Part × ℕ) (ℕ → Target × ℕ) num.Begun num.Sides (ℕ → Rescue × ℕ) (ℕ → When × ℕ)
number_item x = map-Item _ _ _ _ _ _ _ _ _ _ _ _ _ _ _ _ _ _ num.kind_numbered num.item_numbered num.param_numbered num.part_numbered num.target_numbered num.begun_in num.sides_in num.rescue_numbered num.when_numbered x

abbrev of_param : Param-F NodeKindP ItemP ParamP PartP TargetP NodeP ArmP RescueP WhenP → Param-F NodeKind Item Param Part Target Node Arm Rescue When
of_param y = map-Param _ _ _ _ _ _ _ _ _ _ _ _ _ _ _ _ _ _ (λ e. e.0) (λ e. e.0) (λ e. e.0) (λ e. e.0) (λ e. e.0) (λ e. e.0) (λ e. e.0) (λ e. e.0) (λ e. e.0) y

abbrev list_param : Param-F NodeKind Item Param Part Target Node Arm Rescue When → Param-F (List ℕ) (List ℕ) (List ℕ) (List ℕ) (List ℕ) law.Listed law.ArmListed (List ℕ) (List ℕ)
list_param x = map-Param _ _ _ _ _ _ _ _ _ _ _ _ _ _ _ _ _ _ law.in_kind law.in_item law.in_param law.in_part law.in_target law.listed_in law.in_arm law.in_rescue law.in_when x

abbrev number_param : Param-F NodeKind Item Param Part Target Node Arm Rescue When → Param-F (ℕ → NodeKind × ℕ) (ℕ → Item × ℕ) (ℕ → Param × ℕ) (ℕ → Part × ℕ) (ℕ → Target × ℕ) num.Begun num.Sides (ℕ → Rescue × ℕ) (ℕ → When × ℕ)
number_param x = map-Param _ _ _ _ _ _ _ _ _ _ _ _ _ _ _ _ _ _ num.kind_numbered num.item_numbered num.param_numbered num.part_numbered num.target_numbered num.begun_in num.sides_in num.rescue_numbered num.when_numbered x

abbrev of_part : Part-F NodeKindP ItemP ParamP PartP TargetP NodeP ArmP RescueP WhenP → Part-F NodeKind Item Param Part Target Node Arm Rescue When
of_part y = map-Part _ _ _ _ _ _ _ _ _ _ _ _ _ _ _ _ _ _ (λ e. e.0) (λ e. e.0) (λ e. e.0) (λ e. e.0) (λ e. e.0) (λ e. e.0) (λ e. e.0) (λ e. e.0) (λ e. e.0) y

abbrev list_part : Part-F NodeKind Item Param Part Target Node Arm Rescue When → Part-F (List ℕ) (List ℕ) (List ℕ) (List ℕ) (List ℕ) law.Listed law.ArmListed (List ℕ) (List ℕ)
list_part x = map-Part _ _ _ _ _ _ _ _ _ _ _ _ _ _ _ _ _ _ law.in_kind law.in_item law.in_param law.in_part law.in_target law.listed_in law.in_arm law.in_rescue law.in_when x

abbrev number_part : Part-F NodeKind Item Param Part Target Node Arm Rescue When → Part-F (ℕ → NodeKind × ℕ) (ℕ → Item × ℕ) (ℕ → Param × ℕ) (ℕ → Part × ℕ) (ℕ → Target × ℕ) num.Begun num.Sides (ℕ → Rescue × ℕ) (ℕ → When × ℕ)
number_part x = map-Part _ _ _ _ _ _ _ _ _ _ _ _ _ _ _ _ _ _ num.kind_numbered num.item_numbered num.param_numbered num.part_numbered num.target_numbered num.begun_in num.sides_in num.rescue_numbered num.when_numbered x

abbrev of_target : Target-F NodeKindP ItemP ParamP PartP TargetP NodeP ArmP RescueP WhenP → Target-F NodeKind Item Param Part Target Node Arm Rescue When
of_target y = map-Target _ _ _ _ _ _ _ _ _ _ _ _ _ _ _ _ _ _ (λ e. e.0) (λ e. e.0) (λ e. e.0) (λ e. e.0) (λ e. e.0) (λ e. e.0) (λ e. e.0) (λ e. e.0) (λ e. e.0) y

abbrev list_target : Target-F NodeKind Item Param Part Target Node Arm Rescue When → Target-F (List ℕ) (List ℕ) (List ℕ) (List ℕ) (List ℕ) law.Listed law.ArmListed (List ℕ) (List ℕ)
list_target x = map-Target _ _ _ _ _ _ _ _ _ _ _ _ _ _ _ _ _ _ law.in_kind law.in_item law.in_param law.in_part law.in_target law.listed_in law.in_arm law.in_rescue law.in_when x

abbrev number_target : Target-F NodeKind Item Param Part Target Node Arm Rescue When → Target-F (ℕ → NodeKind × ℕ) (ℕ → Item × ℕ) (ℕ → Param × ℕ) (ℕ → Part × ℕ) (ℕ → Target × ℕ) num.Begun num.Sides (ℕ → Rescue × ℕ) (ℕ → When × ℕ)
number_target x = map-Target _ _ _ _ _ _ _ _ _ _ _ _ _ _ _ _ _ _ num.kind_numbered num.item_numbered num.param_numbered num.part_numbered num.target_numbered num.begun_in num.sides_in num.rescue_numbered num.when_numbered x

abbrev of_node : Node-F NodeKindP ItemP ParamP PartP TargetP NodeP ArmP RescueP WhenP → Node-F NodeKind Item Param Part Target Node Arm Rescue When
of_node y = map-Node _ _ _ _ _ _ _ _ _ _ _ _ _ _ _ _ _ _ (λ e. e.0) (λ e. e.0) (λ e. e.0) (λ e. e.0) (λ e. e.0) (λ e. e.0) (λ e. e.0) (λ e. e.0) (λ e. e.0) y

abbrev list_node : Node-F NodeKind Item Param Part Target Node Arm Rescue When → Node-F (List ℕ) (List ℕ) (List ℕ) (List ℕ) (List ℕ) law.Listed law.ArmListed (List ℕ) (List ℕ)
list_node x = map-Node _ _ _ _ _ _ _ _ _ _ _ _ _ _ _ _ _ _ law.in_kind law.in_item law.in_param law.in_part law.in_target law.listed_in law.in_arm law.in_rescue law.in_when x

abbrev number_node : Node-F NodeKind Item Param Part Target Node Arm Rescue When → Node-F (ℕ → NodeKind × ℕ) (ℕ → Item × ℕ) (ℕ → Param × ℕ) (ℕ → Part × ℕ) (ℕ → Target × ℕ) num.Begun num.Sides (ℕ → Rescue × ℕ) (ℕ → When × ℕ)
number_node x = map-Node _ _ _ _ _ _ _ _ _ _ _ _ _ _ _ _ _ _ num.kind_numbered num.item_numbered num.param_numbered num.part_numbered num.target_numbered num.begun_in num.sides_in num.rescue_numbered num.when_numbered x

abbrev of_arm : Arm-F NodeKindP ItemP ParamP PartP TargetP NodeP ArmP RescueP WhenP → Arm-F NodeKind Item Param Part Target Node Arm Rescue When
of_arm y = map-Arm _ _ _ _ _ _ _ _ _ _ _ _ _ _ _ _ _ _ (λ e. e.0) (λ e. e.0) (λ e. e.0) (λ e. e.0) (λ e. e.0) (λ e. e.0) (λ e. e.0) (λ e. e.0) (λ e. e.0) y

abbrev list_arm : Arm-F NodeKind Item Param Part Target Node Arm Rescue When → Arm-F (List ℕ) (List ℕ) (List ℕ) (List ℕ) (List ℕ) law.Listed law.ArmListed (List ℕ) (List ℕ)
list_arm x = map-Arm _ _ _ _ _ _ _ _ _ _ _ _ _ _ _ _ _ _ law.in_kind law.in_item law.in_param law.in_part law.in_target law.listed_in law.in_arm law.in_rescue law.in_when x

abbrev number_arm : Arm-F NodeKind Item Param Part Target Node Arm Rescue When → Arm-F (ℕ → NodeKind × ℕ) (ℕ → Item × ℕ) (ℕ → Param × ℕ) (ℕ → Part × ℕ) (ℕ → Target × ℕ) num.Begun num.Sides (ℕ → Rescue × ℕ) (ℕ → When × ℕ)
number_arm x = map-Arm _ _ _ _ _ _ _ _ _ _ _ _ _ _ _ _ _ _ num.kind_numbered num.item_numbered num.param_numbered num.part_numbered num.target_numbered num.begun_in num.sides_in num.rescue_numbered num.when_numbered x

abbrev of_rescue : Rescue-F NodeKindP ItemP ParamP PartP TargetP NodeP ArmP RescueP WhenP → Rescue-F NodeKind Item Param Part Target Node Arm Rescue When
of_rescue y = map-Rescue _ _ _ _ _ _ _ _ _ _ _ _ _ _ _ _ _ _ (λ e. e.0) (λ e. e.0) (λ e. e.0) (λ e. e.0) (λ e. e.0) (λ e. e.0) (λ e. e.0) (λ e. e.0) (λ e. e.0) y

abbrev list_rescue : Rescue-F NodeKind Item Param Part Target Node Arm Rescue When → Rescue-F (List ℕ) (List ℕ) (List ℕ) (List ℕ) (List ℕ) law.Listed law.ArmListed (List ℕ) (List ℕ)
list_rescue x = map-Rescue _ _ _ _ _ _ _ _ _ _ _ _ _ _ _ _ _ _ law.in_kind law.in_item law.in_param law.in_part law.in_target law.listed_in law.in_arm law.in_rescue law.in_when x

abbrev number_rescue : Rescue-F NodeKind Item Param Part Target Node Arm Rescue When → Rescue-F (ℕ → NodeKind × ℕ) (ℕ → Item × ℕ) (ℕ → Param × ℕ) (ℕ → Part × ℕ) (ℕ → Target × ℕ) num.Begun num.Sides (ℕ → Rescue × ℕ) (ℕ → When × ℕ)
number_rescue x = map-Rescue _ _ _ _ _ _ _ _ _ _ _ _ _ _ _ _ _ _ num.kind_numbered num.item_numbered num.param_numbered num.part_numbered num.target_numbered num.begun_in num.sides_in num.rescue_numbered num.when_numbered x

abbrev of_when : When-F NodeKindP ItemP ParamP PartP TargetP NodeP ArmP RescueP WhenP → When-F NodeKind Item Param Part Target Node Arm Rescue When
of_when y = map-When _ _ _ _ _ _ _ _ _ _ _ _ _ _ _ _ _ _ (λ e. e.0) (λ e. e.0) (λ e. e.0) (λ e. e.0) (λ e. e.0) (λ e. e.0) (λ e. e.0) (λ e. e.0) (λ e. e.0) y

abbrev list_when : When-F NodeKind Item Param Part Target Node Arm Rescue When → When-F (List ℕ) (List ℕ) (List ℕ) (List ℕ) (List ℕ) law.Listed law.ArmListed (List ℕ) (List ℕ)
list_when x = map-When _ _ _ _ _ _ _ _ _ _ _ _ _ _ _ _ _ _ law.in_kind law.in_item law.in_param law.in_part law.in_target law.listed_in law.in_arm law.in_rescue law.in_when x

abbrev number_when : When-F NodeKind Item Param Part Target Node Arm Rescue When → When-F (ℕ → NodeKind × ℕ) (ℕ → Item × ℕ) (ℕ → Param × ℕ) (ℕ → Part × ℕ) (ℕ → Target × ℕ) num.Begun num.Sides (ℕ → Rescue × ℕ) (ℕ → When × ℕ)
number_when x = map-When _ _ _ _ _ _ _ _ _ _ _ _ _ _ _ _ _ _ num.kind_numbered num.item_numbered num.param_numbered num.part_numbered num.target_numbered num.begun_in num.sides_in num.rescue_numbered num.when_numbered x

items_run : (ps : List ItemP) (n : ℕ) → Runs (flat_map (λ xs. xs) (map law.in_item (num.row_by (λ number. number) (map num.item_numbered (map (λ e. e.0) ps)) n).0)) n (num.row_by (λ number. number) (map num.item_numbered (map (λ e. e.0) ps)) n).1
items_run ps n = rows (λ x. Is law.in_item (num.item_numbered x)) (λ number. number) num.item_numbered law.in_item (λ xs. xs) (λ x p. p) ps [] n n refl

parts_run : (ps : List PartP) (n : ℕ) → Runs (flat_map (λ xs. xs) (map law.in_part (num.row_by (λ number. number) (map num.part_numbered (map (λ e. e.0) ps)) n).0)) n (num.row_by (λ number. number) (map num.part_numbered (map (λ e. e.0) ps)) n).1
parts_run ps n = rows (λ x. Is law.in_part (num.part_numbered x)) (λ number. number) num.part_numbered law.in_part (λ xs. xs) (λ x p. p) ps [] n n refl

params_run : (ps : List ParamP) (n : ℕ) → Runs (flat_map (λ xs. xs) (map law.in_param (num.row_by (λ number. number) (map num.param_numbered (map (λ e. e.0) ps)) n).0)) n (num.row_by (λ number. number) (map num.param_numbered (map (λ e. e.0) ps)) n).1
params_run ps n = rows (λ x. Is law.in_param (num.param_numbered x)) (λ number. number) num.param_numbered law.in_param (λ xs. xs) (λ x p. p) ps [] n n refl

whens_run : (ps : List WhenP) (n : ℕ) → Runs (flat_map (λ xs. xs) (map law.in_when (num.row_by (λ number. number) (map num.when_numbered (map (λ e. e.0) ps)) n).0)) n (num.row_by (λ number. number) (map num.when_numbered (map (λ e. e.0) ps)) n).1
whens_run ps n = rows (λ x. Is law.in_when (num.when_numbered x)) (λ number. number) num.when_numbered law.in_when (λ xs. xs) (λ x p. p) ps [] n n refl

rescues_run : (ps : List RescueP) (n : ℕ) → Runs (flat_map (λ xs. xs) (map law.in_rescue (num.row_by (λ number. number) (map num.rescue_numbered (map (λ e. e.0) ps)) n).0)) n (num.row_by (λ number. number) (map num.rescue_numbered (map (λ e. e.0) ps)) n).1
rescues_run ps n = rows (λ x. Is law.in_rescue (num.rescue_numbered x)) (λ number. number) num.rescue_numbered law.in_rescue (λ xs. xs) (λ x p. p) ps [] n n refl

nodes_run : (ps : List NodeP) (n : ℕ) → Runs (flat_map law.numbers_of (map law.listed_in (num.row_by num.node_by (map num.begun_in (map (λ e. e.0) ps)) n).0)) n (num.row_by num.node_by (map num.begun_in (map (λ e. e.0) ps)) n).1
nodes_run ps n = rows (λ x. IsNode (num.begun_in x)) num.node_by num.begun_in law.listed_in law.numbers_of (λ x p n. (p n).0) ps [] n n refl

by_kind : (x : NodeKind-F NodeKind Item Param Part Target Node Arm Rescue When) (k : NodeKind) → roll-NodeKind x ≡ k → (n m : ℕ) → Runs (law.kind_step (list_kind x)) n m → Runs (law.in_kind k) n m
by_kind x k is n m r = along (λ z. Runs (law.in_kind z) n m) is (along (λ z. Runs z n m) (sym (fold-roll-NodeKind (List ℕ) (List ℕ) (List ℕ) (List ℕ) (List ℕ) law.Listed law.ArmListed (List ℕ) (List ℕ) law.kind_step law.item_step law.param_step law.part_step law.target_step law.node_step law.arm_step law.rescue_step law.when_step x)) r)

by_item : (x : Item-F NodeKind Item Param Part Target Node Arm Rescue When) (k : Item) → roll-Item x ≡ k → (n m : ℕ) → Runs (law.item_step (list_item x)) n m → Runs (law.in_item k) n m
by_item x k is n m r = along (λ z. Runs (law.in_item z) n m) is (along (λ z. Runs z n m) (sym (fold-roll-Item (List ℕ) (List ℕ) (List ℕ) (List ℕ) (List ℕ) law.Listed law.ArmListed (List ℕ) (List ℕ) law.kind_step law.item_step law.param_step law.part_step law.target_step law.node_step law.arm_step law.rescue_step law.when_step x)) r)

by_part : (x : Part-F NodeKind Item Param Part Target Node Arm Rescue When) (k : Part) → roll-Part x ≡ k → (n m : ℕ) → Runs (law.part_step (list_part x)) n m → Runs (law.in_part k) n m
by_part x k is n m r = along (λ z. Runs (law.in_part z) n m) is (along (λ z. Runs z n m) (sym (fold-roll-Part (List ℕ) (List ℕ) (List ℕ) (List ℕ) (List ℕ) law.Listed law.ArmListed (List ℕ) (List ℕ) law.kind_step law.item_step law.param_step law.part_step law.target_step law.node_step law.arm_step law.rescue_step law.when_step x)) r)

by_param : (x : Param-F NodeKind Item Param Part Target Node Arm Rescue When) (k : Param) → roll-Param x ≡ k → (n m : ℕ) → Runs (law.param_step (list_param x)) n m → Runs (law.in_param k) n m
by_param x k is n m r = along (λ z. Runs (law.in_param z) n m) is (along (λ z. Runs z n m) (sym (fold-roll-Param (List ℕ) (List ℕ) (List ℕ) (List ℕ) (List ℕ) law.Listed law.ArmListed (List ℕ) (List ℕ) law.kind_step law.item_step law.param_step law.part_step law.target_step law.node_step law.arm_step law.rescue_step law.when_step x)) r)

by_target : (x : Target-F NodeKind Item Param Part Target Node Arm Rescue When) (k : Target) → roll-Target x ≡ k → (n m : ℕ) → Runs (law.target_step (list_target x)) n m → Runs (law.in_target k) n m
by_target x k is n m r = along (λ z. Runs (law.in_target z) n m) is (along (λ z. Runs z n m) (sym (fold-roll-Target (List ℕ) (List ℕ) (List ℕ) (List ℕ) (List ℕ) law.Listed law.ArmListed (List ℕ) (List ℕ) law.kind_step law.item_step law.param_step law.part_step law.target_step law.node_step law.arm_step law.rescue_step law.when_step x)) r)

by_when : (x : When-F NodeKind Item Param Part Target Node Arm Rescue When) (n m : ℕ) → Runs (law.when_step (list_when x)) n m → Runs (law.in_when (roll-When x)) n m
by_when x n m r = along (λ z. Runs z n m) (sym (fold-roll-When (List ℕ) (List ℕ) (List ℕ) (List ℕ) (List ℕ) law.Listed law.ArmListed (List ℕ) (List ℕ) law.kind_step law.item_step law.param_step law.part_step law.target_step law.node_step law.arm_step law.rescue_step law.when_step x)) r

by_rescue : (x : Rescue-F NodeKind Item Param Part Target Node Arm Rescue When) (n m : ℕ) → Runs (law.rescue_step (list_rescue x)) n m → Runs (law.in_rescue (roll-Rescue x)) n m
by_rescue x n m r = along (λ z. Runs z n m) (sym (fold-roll-Rescue (List ℕ) (List ℕ) (List ℕ) (List ℕ) (List ℕ) law.Listed law.ArmListed (List ℕ) (List ℕ) law.kind_step law.item_step law.param_step law.part_step law.target_step law.node_step law.arm_step law.rescue_step law.when_step x)) r

-- ---- arms

by_arm : (x : Arm-F NodeKind Item Param Part Target Node Arm Rescue When) (n m : ℕ) → Runs (law.arm_list (law.arm_step (list_arm x))) n m → Runs (law.arm_list (law.in_arm (roll-Arm x))) n m
by_arm x n m r = along (λ z. Runs (law.arm_list z) n m) (sym (fold-roll-Arm (List ℕ) (List ℕ) (List ℕ) (List ℕ) (List ℕ) law.Listed law.ArmListed (List ℕ) (List ℕ) law.kind_step law.item_step law.param_step law.part_step law.target_step law.node_step law.arm_step law.rescue_step law.when_step x)) r

arm_runs_by : (c : num.Begun) (body : Option num.Begun) → IsNode c → IsOption body → (n : ℕ)
    → Runs (law.arm_list (law.in_arm (num.arm_number (record { condition = c; body = body }) n).0)) n (num.arm_number (record { condition = c; body = body }) n).1
arm_runs_by c None p q n =
    let x = c.numbered n in
    by_arm (record { condition = x.0; body = None }) n x.1 (runs_on (law.numbers_in x.0) [] n x.1 x.1 (p n).0 refl)
arm_runs_by c (Some b) p q n =
    let x = c.numbered n in
    let y = b.numbered x.1 in
    by_arm (record { condition = x.0; body = Some y.0 }) n y.1 (runs_on (law.numbers_in x.0) (law.numbers_in y.0) n x.1 y.1 (p n).0 (q x.1).0)

arm_runs : (s : num.Sides) → IsArm s → (n : ℕ) → Runs (law.arm_list (law.in_arm (num.arm_number s n).0)) n (num.arm_number s n).1
arm_runs s p n = arm_runs_by s.condition s.body p.0 p.1 n

arms_run : (ps : List ArmP) (n : ℕ) → Runs (flat_map law.arm_list (map law.in_arm (num.row_by num.arm_number (map num.sides_in (map (λ e. e.0) ps)) n).0)) n (num.row_by num.arm_number (map num.sides_in (map (λ e. e.0) ps)) n).1
arms_run ps n = rows (λ x. IsArm (num.sides_in x)) num.arm_number num.sides_in law.in_arm law.arm_list (λ x p. arm_runs (num.sides_in x) p) ps [] n n refl

-- two or more
abbrev IsLong : {T : Type 0} → List T → Type 0
IsLong (x ∷ y ∷ more) = Unit {0}
IsLong other = ⊥

long_more : {T : Type 0} (xs : List T) (x : T) → IsLong xs → IsLong (xs ++ x ∷ [])
long_more [] x no-long = absurd no-long
long_more (y ∷ []) x no-long = absurd no-long
long_more (y ∷ z ∷ zs) x is = is

long_fold : {S T : Type 0} (step : S → ℕ → T × ℕ) (xs : List S) (done : List T) (n : ℕ) → IsLong done → IsLong (fold (num.one_more step) (done, n) xs).0
long_fold step [] done n is = is
long_fold step (x ∷ xs) done n is = long_fold step xs (done ++ (step x n).0 ∷ []) (step x n).1 (long_more done (step x n).0 is)

long_map : {S T : Type 0} (f : S → T) (xs : List S) → IsLong xs → IsLong (map f xs)
long_map f [] no-long = absurd no-long
long_map f (x ∷ []) no-long = absurd no-long
long_map f (x ∷ y ∷ more) is = is

long_if : (arms : List law.ArmListed) (otherwise : Option law.Listed) → IsLong arms → law.if_list arms otherwise ≡ flat_map law.arm_list arms ++ law.option_list otherwise
long_if [] otherwise no-long = absurd no-long
long_if (x ∷ []) otherwise no-long = absurd no-long
long_if (x ∷ y ∷ more) otherwise is = refl

-- ---- parts in the order in which they begin

abbrev choice_of : Bool → Bool → num.Begun → Option num.Begun → Option num.Begun → ℕ → (List Arm × Option Node) × ℕ
choice_of behind first c body otherwise n =
    let x = num.in_order behind c.numbered (num.in_order first (num.node_option body) (num.node_option otherwise)) n in
    ((roll-Arm (record { condition = x.0.0; body = x.0.1.0 }) ∷ [], x.0.1.1), x.1)

choice_runs : (behind first : Bool) (c : num.Begun) (body otherwise : Option num.Begun) → IsNode c → IsOption body → IsOption otherwise
    → behind ≡ num.sides_before c.start (num.start_in body) (num.start_in otherwise) → first ≡ num.begins_before (num.start_in otherwise) (num.start_in body) → (n : ℕ)
    → Runs (law.in_kind (kind.If (choice_of behind first c body otherwise n).0.0 (choice_of behind first c body otherwise n).0.1)) n (choice_of behind first c body otherwise n).1
choice_runs false false c None None p q r e f n =
    let xc = c.numbered n in
    by_kind (NodeKind-F.If (roll-Arm (record { condition = xc.0; body = None }) ∷ []) None) (kind.If (roll-Arm (record { condition = xc.0; body = None }) ∷ []) None) (kind.rolls-If (roll-Arm (record { condition = xc.0; body = None }) ∷ []) None) n xc.1 (
    along (λ z. Runs (law.choice_list z None) n xc.1) (sym (fold-roll-Arm (List ℕ) (List ℕ) (List ℕ) (List ℕ) (List ℕ) law.Listed law.ArmListed (List ℕ) (List ℕ) law.kind_step law.item_step law.param_step law.part_step law.target_step law.node_step law.arm_step law.rescue_step law.when_step (record { condition = xc.0; body = None }))) (
    along (λ z. Runs (law.in_order (num.sides_before (law.listed_in xc.0).start None None) (law.numbers_in xc.0) (law.in_order z ([]) ([]))) n xc.1) f (
    along (λ z. Runs (law.in_order z (law.numbers_in xc.0) (law.in_order false ([]) ([]))) n xc.1) (e ∙ sym (λ i. num.sides_before ((p n).1 i) None None)) (runs_on (law.numbers_in xc.0) (([]) ++ ([])) n xc.1 xc.1 ((p n).0) (runs_on ([]) ([]) xc.1 xc.1 xc.1 (refl) (refl))))))
choice_runs false false c None (Some d) p q r e f n =
    let xc = c.numbered n in
    let xo = d.numbered xc.1 in
    by_kind (NodeKind-F.If (roll-Arm (record { condition = xc.0; body = None }) ∷ []) (Some xo.0)) (kind.If (roll-Arm (record { condition = xc.0; body = None }) ∷ []) (Some xo.0)) (kind.rolls-If (roll-Arm (record { condition = xc.0; body = None }) ∷ []) (Some xo.0)) n xo.1 (
    along (λ z. Runs (law.choice_list z (Some (law.listed_in xo.0))) n xo.1) (sym (fold-roll-Arm (List ℕ) (List ℕ) (List ℕ) (List ℕ) (List ℕ) law.Listed law.ArmListed (List ℕ) (List ℕ) law.kind_step law.item_step law.param_step law.part_step law.target_step law.node_step law.arm_step law.rescue_step law.when_step (record { condition = xc.0; body = None }))) (
    along (λ z. Runs (law.in_order (num.sides_before (law.listed_in xc.0).start None (Some (law.listed_in xo.0).start)) (law.numbers_in xc.0) (law.in_order z ([]) (law.numbers_in xo.0))) n xo.1) f (
    along (λ z. Runs (law.in_order z (law.numbers_in xc.0) (law.in_order false ([]) (law.numbers_in xo.0))) n xo.1) (e ∙ sym (λ i. num.sides_before ((p n).1 i) None (Some ((r xc.1).1 i)))) (runs_on (law.numbers_in xc.0) (([]) ++ (law.numbers_in xo.0)) n xc.1 xo.1 ((p n).0) (runs_on ([]) (law.numbers_in xo.0) xc.1 xc.1 xo.1 (refl) ((r xc.1).0))))))
choice_runs false false c (Some b) None p q r e f n =
    let xc = c.numbered n in
    let xb = b.numbered xc.1 in
    by_kind (NodeKind-F.If (roll-Arm (record { condition = xc.0; body = (Some xb.0) }) ∷ []) None) (kind.If (roll-Arm (record { condition = xc.0; body = (Some xb.0) }) ∷ []) None) (kind.rolls-If (roll-Arm (record { condition = xc.0; body = (Some xb.0) }) ∷ []) None) n xb.1 (
    along (λ z. Runs (law.choice_list z None) n xb.1) (sym (fold-roll-Arm (List ℕ) (List ℕ) (List ℕ) (List ℕ) (List ℕ) law.Listed law.ArmListed (List ℕ) (List ℕ) law.kind_step law.item_step law.param_step law.part_step law.target_step law.node_step law.arm_step law.rescue_step law.when_step (record { condition = xc.0; body = (Some xb.0) }))) (
    along (λ z. Runs (law.in_order (num.sides_before (law.listed_in xc.0).start (Some (law.listed_in xb.0).start) None) (law.numbers_in xc.0) (law.in_order z (law.numbers_in xb.0) ([]))) n xb.1) f (
    along (λ z. Runs (law.in_order z (law.numbers_in xc.0) (law.in_order false (law.numbers_in xb.0) ([]))) n xb.1) (e ∙ sym (λ i. num.sides_before ((p n).1 i) (Some ((q xc.1).1 i)) None)) (runs_on (law.numbers_in xc.0) ((law.numbers_in xb.0) ++ ([])) n xc.1 xb.1 ((p n).0) (runs_on (law.numbers_in xb.0) ([]) xc.1 xb.1 xb.1 ((q xc.1).0) (refl))))))
choice_runs false false c (Some b) (Some d) p q r e f n =
    let xc = c.numbered n in
    let xb = b.numbered xc.1 in
    let xo = d.numbered xb.1 in
    by_kind (NodeKind-F.If (roll-Arm (record { condition = xc.0; body = (Some xb.0) }) ∷ []) (Some xo.0)) (kind.If (roll-Arm (record { condition = xc.0; body = (Some xb.0) }) ∷ []) (Some xo.0)) (kind.rolls-If (roll-Arm (record { condition = xc.0; body = (Some xb.0) }) ∷ []) (Some xo.0)) n xo.1 (
    along (λ z. Runs (law.choice_list z (Some (law.listed_in xo.0))) n xo.1) (sym (fold-roll-Arm (List ℕ) (List ℕ) (List ℕ) (List ℕ) (List ℕ) law.Listed law.ArmListed (List ℕ) (List ℕ) law.kind_step law.item_step law.param_step law.part_step law.target_step law.node_step law.arm_step law.rescue_step law.when_step (record { condition = xc.0; body = (Some xb.0) }))) (
    along (λ z. Runs (law.in_order (num.sides_before (law.listed_in xc.0).start (Some (law.listed_in xb.0).start) (Some (law.listed_in xo.0).start)) (law.numbers_in xc.0) (law.in_order z (law.numbers_in xb.0) (law.numbers_in xo.0))) n xo.1) (f ∙ sym (λ i. num.begins_before (Some ((r xb.1).1 i)) (Some ((q xc.1).1 i)))) (
    along (λ z. Runs (law.in_order z (law.numbers_in xc.0) (law.in_order false (law.numbers_in xb.0) (law.numbers_in xo.0))) n xo.1) (e ∙ sym (λ i. num.sides_before ((p n).1 i) (Some ((q xc.1).1 i)) (Some ((r xb.1).1 i)))) (runs_on (law.numbers_in xc.0) ((law.numbers_in xb.0) ++ (law.numbers_in xo.0)) n xc.1 xo.1 ((p n).0) (runs_on (law.numbers_in xb.0) (law.numbers_in xo.0) xc.1 xb.1 xo.1 ((q xc.1).0) ((r xb.1).0))))))
choice_runs false true c None None p q r e f n =
    let xc = c.numbered n in
    by_kind (NodeKind-F.If (roll-Arm (record { condition = xc.0; body = None }) ∷ []) None) (kind.If (roll-Arm (record { condition = xc.0; body = None }) ∷ []) None) (kind.rolls-If (roll-Arm (record { condition = xc.0; body = None }) ∷ []) None) n xc.1 (
    along (λ z. Runs (law.choice_list z None) n xc.1) (sym (fold-roll-Arm (List ℕ) (List ℕ) (List ℕ) (List ℕ) (List ℕ) law.Listed law.ArmListed (List ℕ) (List ℕ) law.kind_step law.item_step law.param_step law.part_step law.target_step law.node_step law.arm_step law.rescue_step law.when_step (record { condition = xc.0; body = None }))) (
    along (λ z. Runs (law.in_order (num.sides_before (law.listed_in xc.0).start None None) (law.numbers_in xc.0) (law.in_order z ([]) ([]))) n xc.1) f (
    along (λ z. Runs (law.in_order z (law.numbers_in xc.0) (law.in_order true ([]) ([]))) n xc.1) (e ∙ sym (λ i. num.sides_before ((p n).1 i) None None)) (runs_on (law.numbers_in xc.0) (([]) ++ ([])) n xc.1 xc.1 ((p n).0) (runs_on ([]) ([]) xc.1 xc.1 xc.1 (refl) (refl))))))
choice_runs false true c None (Some d) p q r e f n =
    let xc = c.numbered n in
    let xo = d.numbered xc.1 in
    by_kind (NodeKind-F.If (roll-Arm (record { condition = xc.0; body = None }) ∷ []) (Some xo.0)) (kind.If (roll-Arm (record { condition = xc.0; body = None }) ∷ []) (Some xo.0)) (kind.rolls-If (roll-Arm (record { condition = xc.0; body = None }) ∷ []) (Some xo.0)) n xo.1 (
    along (λ z. Runs (law.choice_list z (Some (law.listed_in xo.0))) n xo.1) (sym (fold-roll-Arm (List ℕ) (List ℕ) (List ℕ) (List ℕ) (List ℕ) law.Listed law.ArmListed (List ℕ) (List ℕ) law.kind_step law.item_step law.param_step law.part_step law.target_step law.node_step law.arm_step law.rescue_step law.when_step (record { condition = xc.0; body = None }))) (
    along (λ z. Runs (law.in_order (num.sides_before (law.listed_in xc.0).start None (Some (law.listed_in xo.0).start)) (law.numbers_in xc.0) (law.in_order z ([]) (law.numbers_in xo.0))) n xo.1) f (
    along (λ z. Runs (law.in_order z (law.numbers_in xc.0) (law.in_order true ([]) (law.numbers_in xo.0))) n xo.1) (e ∙ sym (λ i. num.sides_before ((p n).1 i) None (Some ((r xc.1).1 i)))) (runs_on (law.numbers_in xc.0) ((law.numbers_in xo.0) ++ ([])) n xc.1 xo.1 ((p n).0) (runs_on (law.numbers_in xo.0) ([]) xc.1 xo.1 xo.1 ((r xc.1).0) (refl))))))
choice_runs false true c (Some b) None p q r e f n =
    let xc = c.numbered n in
    let xb = b.numbered xc.1 in
    by_kind (NodeKind-F.If (roll-Arm (record { condition = xc.0; body = (Some xb.0) }) ∷ []) None) (kind.If (roll-Arm (record { condition = xc.0; body = (Some xb.0) }) ∷ []) None) (kind.rolls-If (roll-Arm (record { condition = xc.0; body = (Some xb.0) }) ∷ []) None) n xb.1 (
    along (λ z. Runs (law.choice_list z None) n xb.1) (sym (fold-roll-Arm (List ℕ) (List ℕ) (List ℕ) (List ℕ) (List ℕ) law.Listed law.ArmListed (List ℕ) (List ℕ) law.kind_step law.item_step law.param_step law.part_step law.target_step law.node_step law.arm_step law.rescue_step law.when_step (record { condition = xc.0; body = (Some xb.0) }))) (
    along (λ z. Runs (law.in_order (num.sides_before (law.listed_in xc.0).start (Some (law.listed_in xb.0).start) None) (law.numbers_in xc.0) (law.in_order z (law.numbers_in xb.0) ([]))) n xb.1) f (
    along (λ z. Runs (law.in_order z (law.numbers_in xc.0) (law.in_order true (law.numbers_in xb.0) ([]))) n xb.1) (e ∙ sym (λ i. num.sides_before ((p n).1 i) (Some ((q xc.1).1 i)) None)) (runs_on (law.numbers_in xc.0) (([]) ++ (law.numbers_in xb.0)) n xc.1 xb.1 ((p n).0) (runs_on ([]) (law.numbers_in xb.0) xc.1 xc.1 xb.1 (refl) ((q xc.1).0))))))
choice_runs false true c (Some b) (Some d) p q r e f n =
    let xc = c.numbered n in
    let xo = d.numbered xc.1 in
    let xb = b.numbered xo.1 in
    by_kind (NodeKind-F.If (roll-Arm (record { condition = xc.0; body = (Some xb.0) }) ∷ []) (Some xo.0)) (kind.If (roll-Arm (record { condition = xc.0; body = (Some xb.0) }) ∷ []) (Some xo.0)) (kind.rolls-If (roll-Arm (record { condition = xc.0; body = (Some xb.0) }) ∷ []) (Some xo.0)) n xb.1 (
    along (λ z. Runs (law.choice_list z (Some (law.listed_in xo.0))) n xb.1) (sym (fold-roll-Arm (List ℕ) (List ℕ) (List ℕ) (List ℕ) (List ℕ) law.Listed law.ArmListed (List ℕ) (List ℕ) law.kind_step law.item_step law.param_step law.part_step law.target_step law.node_step law.arm_step law.rescue_step law.when_step (record { condition = xc.0; body = (Some xb.0) }))) (
    along (λ z. Runs (law.in_order (num.sides_before (law.listed_in xc.0).start (Some (law.listed_in xb.0).start) (Some (law.listed_in xo.0).start)) (law.numbers_in xc.0) (law.in_order z (law.numbers_in xb.0) (law.numbers_in xo.0))) n xb.1) (f ∙ sym (λ i. num.begins_before (Some ((r xc.1).1 i)) (Some ((q xo.1).1 i)))) (
    along (λ z. Runs (law.in_order z (law.numbers_in xc.0) (law.in_order true (law.numbers_in xb.0) (law.numbers_in xo.0))) n xb.1) (e ∙ sym (λ i. num.sides_before ((p n).1 i) (Some ((q xo.1).1 i)) (Some ((r xc.1).1 i)))) (runs_on (law.numbers_in xc.0) ((law.numbers_in xo.0) ++ (law.numbers_in xb.0)) n xc.1 xb.1 ((p n).0) (runs_on (law.numbers_in xo.0) (law.numbers_in xb.0) xc.1 xo.1 xb.1 ((r xc.1).0) ((q xo.1).0))))))
choice_runs true false c None None p q r e f n =
    let xc = c.numbered n in
    by_kind (NodeKind-F.If (roll-Arm (record { condition = xc.0; body = None }) ∷ []) None) (kind.If (roll-Arm (record { condition = xc.0; body = None }) ∷ []) None) (kind.rolls-If (roll-Arm (record { condition = xc.0; body = None }) ∷ []) None) n xc.1 (
    along (λ z. Runs (law.choice_list z None) n xc.1) (sym (fold-roll-Arm (List ℕ) (List ℕ) (List ℕ) (List ℕ) (List ℕ) law.Listed law.ArmListed (List ℕ) (List ℕ) law.kind_step law.item_step law.param_step law.part_step law.target_step law.node_step law.arm_step law.rescue_step law.when_step (record { condition = xc.0; body = None }))) (
    along (λ z. Runs (law.in_order (num.sides_before (law.listed_in xc.0).start None None) (law.numbers_in xc.0) (law.in_order z ([]) ([]))) n xc.1) f (
    along (λ z. Runs (law.in_order z (law.numbers_in xc.0) (law.in_order false ([]) ([]))) n xc.1) (e ∙ sym (λ i. num.sides_before ((p n).1 i) None None)) (runs_on (([]) ++ ([])) (law.numbers_in xc.0) n n xc.1 (runs_on ([]) ([]) n n n (refl) (refl)) ((p n).0)))))
choice_runs true false c None (Some d) p q r e f n =
    let xo = d.numbered n in
    let xc = c.numbered xo.1 in
    by_kind (NodeKind-F.If (roll-Arm (record { condition = xc.0; body = None }) ∷ []) (Some xo.0)) (kind.If (roll-Arm (record { condition = xc.0; body = None }) ∷ []) (Some xo.0)) (kind.rolls-If (roll-Arm (record { condition = xc.0; body = None }) ∷ []) (Some xo.0)) n xc.1 (
    along (λ z. Runs (law.choice_list z (Some (law.listed_in xo.0))) n xc.1) (sym (fold-roll-Arm (List ℕ) (List ℕ) (List ℕ) (List ℕ) (List ℕ) law.Listed law.ArmListed (List ℕ) (List ℕ) law.kind_step law.item_step law.param_step law.part_step law.target_step law.node_step law.arm_step law.rescue_step law.when_step (record { condition = xc.0; body = None }))) (
    along (λ z. Runs (law.in_order (num.sides_before (law.listed_in xc.0).start None (Some (law.listed_in xo.0).start)) (law.numbers_in xc.0) (law.in_order z ([]) (law.numbers_in xo.0))) n xc.1) f (
    along (λ z. Runs (law.in_order z (law.numbers_in xc.0) (law.in_order false ([]) (law.numbers_in xo.0))) n xc.1) (e ∙ sym (λ i. num.sides_before ((p xo.1).1 i) None (Some ((r n).1 i)))) (runs_on (([]) ++ (law.numbers_in xo.0)) (law.numbers_in xc.0) n xo.1 xc.1 (runs_on ([]) (law.numbers_in xo.0) n n xo.1 (refl) ((r n).0)) ((p xo.1).0)))))
choice_runs true false c (Some b) None p q r e f n =
    let xb = b.numbered n in
    let xc = c.numbered xb.1 in
    by_kind (NodeKind-F.If (roll-Arm (record { condition = xc.0; body = (Some xb.0) }) ∷ []) None) (kind.If (roll-Arm (record { condition = xc.0; body = (Some xb.0) }) ∷ []) None) (kind.rolls-If (roll-Arm (record { condition = xc.0; body = (Some xb.0) }) ∷ []) None) n xc.1 (
    along (λ z. Runs (law.choice_list z None) n xc.1) (sym (fold-roll-Arm (List ℕ) (List ℕ) (List ℕ) (List ℕ) (List ℕ) law.Listed law.ArmListed (List ℕ) (List ℕ) law.kind_step law.item_step law.param_step law.part_step law.target_step law.node_step law.arm_step law.rescue_step law.when_step (record { condition = xc.0; body = (Some xb.0) }))) (
    along (λ z. Runs (law.in_order (num.sides_before (law.listed_in xc.0).start (Some (law.listed_in xb.0).start) None) (law.numbers_in xc.0) (law.in_order z (law.numbers_in xb.0) ([]))) n xc.1) f (
    along (λ z. Runs (law.in_order z (law.numbers_in xc.0) (law.in_order false (law.numbers_in xb.0) ([]))) n xc.1) (e ∙ sym (λ i. num.sides_before ((p xb.1).1 i) (Some ((q n).1 i)) None)) (runs_on ((law.numbers_in xb.0) ++ ([])) (law.numbers_in xc.0) n xb.1 xc.1 (runs_on (law.numbers_in xb.0) ([]) n xb.1 xb.1 ((q n).0) (refl)) ((p xb.1).0)))))
choice_runs true false c (Some b) (Some d) p q r e f n =
    let xb = b.numbered n in
    let xo = d.numbered xb.1 in
    let xc = c.numbered xo.1 in
    by_kind (NodeKind-F.If (roll-Arm (record { condition = xc.0; body = (Some xb.0) }) ∷ []) (Some xo.0)) (kind.If (roll-Arm (record { condition = xc.0; body = (Some xb.0) }) ∷ []) (Some xo.0)) (kind.rolls-If (roll-Arm (record { condition = xc.0; body = (Some xb.0) }) ∷ []) (Some xo.0)) n xc.1 (
    along (λ z. Runs (law.choice_list z (Some (law.listed_in xo.0))) n xc.1) (sym (fold-roll-Arm (List ℕ) (List ℕ) (List ℕ) (List ℕ) (List ℕ) law.Listed law.ArmListed (List ℕ) (List ℕ) law.kind_step law.item_step law.param_step law.part_step law.target_step law.node_step law.arm_step law.rescue_step law.when_step (record { condition = xc.0; body = (Some xb.0) }))) (
    along (λ z. Runs (law.in_order (num.sides_before (law.listed_in xc.0).start (Some (law.listed_in xb.0).start) (Some (law.listed_in xo.0).start)) (law.numbers_in xc.0) (law.in_order z (law.numbers_in xb.0) (law.numbers_in xo.0))) n xc.1) (f ∙ sym (λ i. num.begins_before (Some ((r xb.1).1 i)) (Some ((q n).1 i)))) (
    along (λ z. Runs (law.in_order z (law.numbers_in xc.0) (law.in_order false (law.numbers_in xb.0) (law.numbers_in xo.0))) n xc.1) (e ∙ sym (λ i. num.sides_before ((p xo.1).1 i) (Some ((q n).1 i)) (Some ((r xb.1).1 i)))) (runs_on ((law.numbers_in xb.0) ++ (law.numbers_in xo.0)) (law.numbers_in xc.0) n xo.1 xc.1 (runs_on (law.numbers_in xb.0) (law.numbers_in xo.0) n xb.1 xo.1 ((q n).0) ((r xb.1).0)) ((p xo.1).0)))))
choice_runs true true c None None p q r e f n =
    let xc = c.numbered n in
    by_kind (NodeKind-F.If (roll-Arm (record { condition = xc.0; body = None }) ∷ []) None) (kind.If (roll-Arm (record { condition = xc.0; body = None }) ∷ []) None) (kind.rolls-If (roll-Arm (record { condition = xc.0; body = None }) ∷ []) None) n xc.1 (
    along (λ z. Runs (law.choice_list z None) n xc.1) (sym (fold-roll-Arm (List ℕ) (List ℕ) (List ℕ) (List ℕ) (List ℕ) law.Listed law.ArmListed (List ℕ) (List ℕ) law.kind_step law.item_step law.param_step law.part_step law.target_step law.node_step law.arm_step law.rescue_step law.when_step (record { condition = xc.0; body = None }))) (
    along (λ z. Runs (law.in_order (num.sides_before (law.listed_in xc.0).start None None) (law.numbers_in xc.0) (law.in_order z ([]) ([]))) n xc.1) f (
    along (λ z. Runs (law.in_order z (law.numbers_in xc.0) (law.in_order true ([]) ([]))) n xc.1) (e ∙ sym (λ i. num.sides_before ((p n).1 i) None None)) (runs_on (([]) ++ ([])) (law.numbers_in xc.0) n n xc.1 (runs_on ([]) ([]) n n n (refl) (refl)) ((p n).0)))))
choice_runs true true c None (Some d) p q r e f n =
    let xo = d.numbered n in
    let xc = c.numbered xo.1 in
    by_kind (NodeKind-F.If (roll-Arm (record { condition = xc.0; body = None }) ∷ []) (Some xo.0)) (kind.If (roll-Arm (record { condition = xc.0; body = None }) ∷ []) (Some xo.0)) (kind.rolls-If (roll-Arm (record { condition = xc.0; body = None }) ∷ []) (Some xo.0)) n xc.1 (
    along (λ z. Runs (law.choice_list z (Some (law.listed_in xo.0))) n xc.1) (sym (fold-roll-Arm (List ℕ) (List ℕ) (List ℕ) (List ℕ) (List ℕ) law.Listed law.ArmListed (List ℕ) (List ℕ) law.kind_step law.item_step law.param_step law.part_step law.target_step law.node_step law.arm_step law.rescue_step law.when_step (record { condition = xc.0; body = None }))) (
    along (λ z. Runs (law.in_order (num.sides_before (law.listed_in xc.0).start None (Some (law.listed_in xo.0).start)) (law.numbers_in xc.0) (law.in_order z ([]) (law.numbers_in xo.0))) n xc.1) f (
    along (λ z. Runs (law.in_order z (law.numbers_in xc.0) (law.in_order true ([]) (law.numbers_in xo.0))) n xc.1) (e ∙ sym (λ i. num.sides_before ((p xo.1).1 i) None (Some ((r n).1 i)))) (runs_on ((law.numbers_in xo.0) ++ ([])) (law.numbers_in xc.0) n xo.1 xc.1 (runs_on (law.numbers_in xo.0) ([]) n xo.1 xo.1 ((r n).0) (refl)) ((p xo.1).0)))))
choice_runs true true c (Some b) None p q r e f n =
    let xb = b.numbered n in
    let xc = c.numbered xb.1 in
    by_kind (NodeKind-F.If (roll-Arm (record { condition = xc.0; body = (Some xb.0) }) ∷ []) None) (kind.If (roll-Arm (record { condition = xc.0; body = (Some xb.0) }) ∷ []) None) (kind.rolls-If (roll-Arm (record { condition = xc.0; body = (Some xb.0) }) ∷ []) None) n xc.1 (
    along (λ z. Runs (law.choice_list z None) n xc.1) (sym (fold-roll-Arm (List ℕ) (List ℕ) (List ℕ) (List ℕ) (List ℕ) law.Listed law.ArmListed (List ℕ) (List ℕ) law.kind_step law.item_step law.param_step law.part_step law.target_step law.node_step law.arm_step law.rescue_step law.when_step (record { condition = xc.0; body = (Some xb.0) }))) (
    along (λ z. Runs (law.in_order (num.sides_before (law.listed_in xc.0).start (Some (law.listed_in xb.0).start) None) (law.numbers_in xc.0) (law.in_order z (law.numbers_in xb.0) ([]))) n xc.1) f (
    along (λ z. Runs (law.in_order z (law.numbers_in xc.0) (law.in_order true (law.numbers_in xb.0) ([]))) n xc.1) (e ∙ sym (λ i. num.sides_before ((p xb.1).1 i) (Some ((q n).1 i)) None)) (runs_on (([]) ++ (law.numbers_in xb.0)) (law.numbers_in xc.0) n xb.1 xc.1 (runs_on ([]) (law.numbers_in xb.0) n n xb.1 (refl) ((q n).0)) ((p xb.1).0)))))
choice_runs true true c (Some b) (Some d) p q r e f n =
    let xo = d.numbered n in
    let xb = b.numbered xo.1 in
    let xc = c.numbered xb.1 in
    by_kind (NodeKind-F.If (roll-Arm (record { condition = xc.0; body = (Some xb.0) }) ∷ []) (Some xo.0)) (kind.If (roll-Arm (record { condition = xc.0; body = (Some xb.0) }) ∷ []) (Some xo.0)) (kind.rolls-If (roll-Arm (record { condition = xc.0; body = (Some xb.0) }) ∷ []) (Some xo.0)) n xc.1 (
    along (λ z. Runs (law.choice_list z (Some (law.listed_in xo.0))) n xc.1) (sym (fold-roll-Arm (List ℕ) (List ℕ) (List ℕ) (List ℕ) (List ℕ) law.Listed law.ArmListed (List ℕ) (List ℕ) law.kind_step law.item_step law.param_step law.part_step law.target_step law.node_step law.arm_step law.rescue_step law.when_step (record { condition = xc.0; body = (Some xb.0) }))) (
    along (λ z. Runs (law.in_order (num.sides_before (law.listed_in xc.0).start (Some (law.listed_in xb.0).start) (Some (law.listed_in xo.0).start)) (law.numbers_in xc.0) (law.in_order z (law.numbers_in xb.0) (law.numbers_in xo.0))) n xc.1) (f ∙ sym (λ i. num.begins_before (Some ((r n).1 i)) (Some ((q xo.1).1 i)))) (
    along (λ z. Runs (law.in_order z (law.numbers_in xc.0) (law.in_order true (law.numbers_in xb.0) (law.numbers_in xo.0))) n xc.1) (e ∙ sym (λ i. num.sides_before ((p xb.1).1 i) (Some ((q xo.1).1 i)) (Some ((r n).1 i)))) (runs_on ((law.numbers_in xo.0) ++ (law.numbers_in xb.0)) (law.numbers_in xc.0) n xb.1 xc.1 (runs_on (law.numbers_in xo.0) (law.numbers_in xb.0) n xo.1 xb.1 ((r n).0) ((q xo.1).0)) ((p xb.1).0)))))

while_of : (behind : Bool) (c d : num.Begun) (negated : Bool) → IsNode c → IsNode d → behind ≡ nat_lt d.start c.start → (n : ℕ)
    → Runs (law.in_kind (kind.While (num.in_order behind c.numbered d.numbered n).0.0 negated (num.in_order behind c.numbered d.numbered n).0.1)) n (num.in_order behind c.numbered d.numbered n).1
while_of false c d negated p q e n =
    let x = c.numbered n in
    let y = d.numbered x.1 in
    by_kind (NodeKind-F.While x.0 negated y.0) (kind.While x.0 negated y.0) (kind.rolls-While x.0 negated y.0) n y.1 (
    along (λ z. Runs (law.in_order z (law.numbers_in x.0) (law.numbers_in y.0)) n y.1) (e ∙ sym (λ i. nat_lt ((q x.1).1 i) ((p n).1 i)))
    (runs_on (law.numbers_in x.0) (law.numbers_in y.0) n x.1 y.1 (p n).0 (q x.1).0))
while_of true c d negated p q e n =
    let y = d.numbered n in
    let x = c.numbered y.1 in
    by_kind (NodeKind-F.While x.0 negated y.0) (kind.While x.0 negated y.0) (kind.rolls-While x.0 negated y.0) n x.1 (
    along (λ z. Runs (law.in_order z (law.numbers_in x.0) (law.numbers_in y.0)) n x.1) (e ∙ sym (λ i. nat_lt ((q n).1 i) ((p y.1).1 i)))
    (runs_on (law.numbers_in y.0) (law.numbers_in x.0) n y.1 x.1 (q n).0 (p y.1).0))

-- ---- one layer of a tree

kind_good : (y : NodeKind-F NodeKindP ItemP ParamP PartP TargetP NodeP ArmP RescueP WhenP) → Is law.in_kind (num.kind_number (number_kind (of_kind y)))
kind_good NodeKind-F.Nil n =
    by_kind NodeKind-F.Nil kind.Nil kind.rolls-Nil n n (refl)
kind_good NodeKind-F.True n =
    by_kind NodeKind-F.True kind.True kind.rolls-True n n (refl)
kind_good NodeKind-F.False n =
    by_kind NodeKind-F.False kind.False kind.rolls-False n n (refl)
kind_good (NodeKind-F.Int value) n =
    by_kind (NodeKind-F.Int value) (kind.Int value) (kind.rolls-Int value) n n (refl)
kind_good (NodeKind-F.Str text) n =
    by_kind (NodeKind-F.Str text) (kind.Str text) (kind.rolls-Str text) n n (refl)
kind_good (NodeKind-F.Sym text) n =
    by_kind (NodeKind-F.Sym text) (kind.Sym text) (kind.rolls-Sym text) n n (refl)
kind_good (NodeKind-F.StrParts parts) n =
    let x1 = num.row_by (λ number. number) (map num.part_numbered (map (λ (e : PartP). e.0) parts)) n in
    by_kind (NodeKind-F.StrParts x1.0) (kind.StrParts x1.0) (kind.rolls-StrParts x1.0) n x1.1 (parts_run parts n)
kind_good (NodeKind-F.SymParts parts) n =
    let x1 = num.row_by (λ number. number) (map num.part_numbered (map (λ (e : PartP). e.0) parts)) n in
    by_kind (NodeKind-F.SymParts x1.0) (kind.SymParts x1.0) (kind.rolls-SymParts x1.0) n x1.1 (parts_run parts n)
kind_good (NodeKind-F.Regexp parts flags) n =
    let x1 = num.row_by (λ number. number) (map num.part_numbered (map (λ (e : PartP). e.0) parts)) n in
    by_kind (NodeKind-F.Regexp x1.0 flags) (kind.Regexp x1.0 flags) (kind.rolls-Regexp x1.0 flags) n x1.1 (parts_run parts n)
kind_good NodeKind-F.File n =
    by_kind NodeKind-F.File kind.File kind.rolls-File n n (refl)
kind_good (NodeKind-F.Words whose words) n =
    by_kind (NodeKind-F.Words whose words) (kind.Words whose words) (kind.rolls-Words whose words) n n (refl)
kind_good NodeKind-F.SelfRef n =
    by_kind NodeKind-F.SelfRef kind.SelfRef kind.rolls-SelfRef n n (refl)
kind_good (NodeKind-F.Name name) n =
    by_kind (NodeKind-F.Name name) (kind.Name name) (kind.rolls-Name name) n n (refl)
kind_good (NodeKind-F.NodeKind::IVar name) n =
    by_kind (NodeKind-F.NodeKind::IVar name) (kind.IVar name) (kind.rolls-IVar name) n n (refl)
kind_good (NodeKind-F.NodeKind::CVar name) n =
    by_kind (NodeKind-F.NodeKind::CVar name) (kind.CVar name) (kind.rolls-CVar name) n n (refl)
kind_good (NodeKind-F.NodeKind::GVar name) n =
    by_kind (NodeKind-F.NodeKind::GVar name) (kind.GVar name) (kind.rolls-GVar name) n n (refl)
kind_good (NodeKind-F.NodeKind::Const None path) n =
    by_kind (NodeKind-F.NodeKind::Const None path) (kind.Const None path) (kind.rolls-Const None path) n n (refl)
kind_good (NodeKind-F.NodeKind::Const (Some scope) path) n =
    let x1 = (num.begun_in scope.0).numbered n in
    by_kind (NodeKind-F.NodeKind::Const (Some x1.0) path) (kind.Const (Some x1.0) path) (kind.rolls-Const (Some x1.0) path) n x1.1 ((scope.1 n).0)
kind_good (NodeKind-F.ArrayOf items) n =
    let x1 = num.row_by (λ number. number) (map num.item_numbered (map (λ (e : ItemP). e.0) items)) n in
    by_kind (NodeKind-F.ArrayOf x1.0) (kind.ArrayOf x1.0) (kind.rolls-ArrayOf x1.0) n x1.1 (items_run items n)
kind_good (NodeKind-F.HashOf items) n =
    let x1 = num.row_by (λ number. number) (map num.item_numbered (map (λ (e : ItemP). e.0) items)) n in
    by_kind (NodeKind-F.HashOf x1.0) (kind.HashOf x1.0) (kind.rolls-HashOf x1.0) n x1.1 (items_run items n)
kind_good (NodeKind-F.RangeOf None None without_last) n =
    by_kind (NodeKind-F.RangeOf None None without_last) (kind.RangeOf None None without_last) (kind.rolls-RangeOf None None without_last) n n (runs_on ([]) ([]) n n n (refl) (refl))
kind_good (NodeKind-F.RangeOf None (Some last) without_last) n =
    let x1 = (num.begun_in last.0).numbered n in
    by_kind (NodeKind-F.RangeOf None (Some x1.0) without_last) (kind.RangeOf None (Some x1.0) without_last) (kind.rolls-RangeOf None (Some x1.0) without_last) n x1.1 (runs_on ([]) (law.numbers_in x1.0) n n x1.1 (refl) ((last.1 n).0))
kind_good (NodeKind-F.RangeOf (Some first) None without_last) n =
    let x1 = (num.begun_in first.0).numbered n in
    by_kind (NodeKind-F.RangeOf (Some x1.0) None without_last) (kind.RangeOf (Some x1.0) None without_last) (kind.rolls-RangeOf (Some x1.0) None without_last) n x1.1 (runs_on (law.numbers_in x1.0) ([]) n x1.1 x1.1 ((first.1 n).0) (refl))
kind_good (NodeKind-F.RangeOf (Some first) (Some last) without_last) n =
    let x1 = (num.begun_in first.0).numbered n in
    let x2 = (num.begun_in last.0).numbered x1.1 in
    by_kind (NodeKind-F.RangeOf (Some x1.0) (Some x2.0) without_last) (kind.RangeOf (Some x1.0) (Some x2.0) without_last) (kind.rolls-RangeOf (Some x1.0) (Some x2.0) without_last) n x2.1 (runs_on (law.numbers_in x1.0) (law.numbers_in x2.0) n x1.1 x2.1 ((first.1 n).0) ((last.1 x1.1).0))
kind_good (NodeKind-F.Asgn place value) n =
    let x1 = num.target_numbered place.0 n in
    let x2 = (num.begun_in value.0).numbered x1.1 in
    by_kind (NodeKind-F.Asgn x1.0 x2.0) (kind.Asgn x1.0 x2.0) (kind.rolls-Asgn x1.0 x2.0) n x2.1 (runs_on (law.in_target x1.0) (law.numbers_in x2.0) n x1.1 x2.1 (place.1 n) ((value.1 x1.1).0))
kind_good (NodeKind-F.MultiAsgn targets values values_at) n =
    let x1 = num.row_by num.node_by (map num.begun_in (map (λ (e : NodeP). e.0) values)) n in
    by_kind (NodeKind-F.MultiAsgn targets x1.0 values_at) (kind.MultiAsgn targets x1.0 values_at) (kind.rolls-MultiAsgn targets x1.0 values_at) n x1.1 (nodes_run values n)
kind_good (NodeKind-F.Call None dot method args None) n =
    let x1 = num.row_by (λ number. number) (map num.item_numbered (map (λ (e : ItemP). e.0) args)) n in
    by_kind (NodeKind-F.Call None dot method x1.0 None) (kind.Call None dot method x1.0 None) (kind.rolls-Call None dot method x1.0 None) n x1.1 (runs_on (([]) ++ flat_map (λ xs. xs) (map law.in_item x1.0)) ([]) n x1.1 x1.1 (runs_on ([]) (flat_map (λ xs. xs) (map law.in_item x1.0)) n n x1.1 (refl) (items_run args n)) (refl))
kind_good (NodeKind-F.Call None dot method args (Some block)) n =
    let x1 = num.row_by (λ number. number) (map num.item_numbered (map (λ (e : ItemP). e.0) args)) n in
    let x2 = (num.begun_in block.0).numbered x1.1 in
    by_kind (NodeKind-F.Call None dot method x1.0 (Some x2.0)) (kind.Call None dot method x1.0 (Some x2.0)) (kind.rolls-Call None dot method x1.0 (Some x2.0)) n x2.1 (runs_on (([]) ++ flat_map (λ xs. xs) (map law.in_item x1.0)) (law.numbers_in x2.0) n x1.1 x2.1 (runs_on ([]) (flat_map (λ xs. xs) (map law.in_item x1.0)) n n x1.1 (refl) (items_run args n)) ((block.1 x1.1).0))
kind_good (NodeKind-F.Call (Some receiver) dot method args None) n =
    let x1 = (num.begun_in receiver.0).numbered n in
    let x2 = num.row_by (λ number. number) (map num.item_numbered (map (λ (e : ItemP). e.0) args)) x1.1 in
    by_kind (NodeKind-F.Call (Some x1.0) dot method x2.0 None) (kind.Call (Some x1.0) dot method x2.0 None) (kind.rolls-Call (Some x1.0) dot method x2.0 None) n x2.1 (runs_on ((law.numbers_in x1.0) ++ flat_map (λ xs. xs) (map law.in_item x2.0)) ([]) n x2.1 x2.1 (runs_on (law.numbers_in x1.0) (flat_map (λ xs. xs) (map law.in_item x2.0)) n x1.1 x2.1 ((receiver.1 n).0) (items_run args x1.1)) (refl))
kind_good (NodeKind-F.Call (Some receiver) dot method args (Some block)) n =
    let x1 = (num.begun_in receiver.0).numbered n in
    let x2 = num.row_by (λ number. number) (map num.item_numbered (map (λ (e : ItemP). e.0) args)) x1.1 in
    let x3 = (num.begun_in block.0).numbered x2.1 in
    by_kind (NodeKind-F.Call (Some x1.0) dot method x2.0 (Some x3.0)) (kind.Call (Some x1.0) dot method x2.0 (Some x3.0)) (kind.rolls-Call (Some x1.0) dot method x2.0 (Some x3.0)) n x3.1 (runs_on ((law.numbers_in x1.0) ++ flat_map (λ xs. xs) (map law.in_item x2.0)) (law.numbers_in x3.0) n x2.1 x3.1 (runs_on (law.numbers_in x1.0) (flat_map (λ xs. xs) (map law.in_item x2.0)) n x1.1 x2.1 ((receiver.1 n).0) (items_run args x1.1)) ((block.1 x2.1).0))
kind_good (NodeKind-F.AsgnCall receiver dot method args) n =
    let x1 = (num.begun_in receiver.0).numbered n in
    let x2 = num.row_by (λ number. number) (map num.item_numbered (map (λ (e : ItemP). e.0) args)) x1.1 in
    by_kind (NodeKind-F.AsgnCall x1.0 dot method x2.0) (kind.AsgnCall x1.0 dot method x2.0) (kind.rolls-AsgnCall x1.0 dot method x2.0) n x2.1 (runs_on (law.numbers_in x1.0) (flat_map (λ xs. xs) (map law.in_item x2.0)) n x1.1 x2.1 ((receiver.1 n).0) (items_run args x1.1))
kind_good (NodeKind-F.NodeKind::Block params body) n =
    let x1 = num.row_by (λ number. number) (map num.param_numbered (map (λ (e : ParamP). e.0) params)) n in
    let x2 = (num.begun_in body.0).numbered x1.1 in
    by_kind (NodeKind-F.NodeKind::Block x1.0 x2.0) (kind.Block x1.0 x2.0) (kind.rolls-Block x1.0 x2.0) n x2.1 (runs_on (flat_map (λ xs. xs) (map law.in_param x1.0)) (law.numbers_in x2.0) n x1.1 x2.1 (params_run params n) ((body.1 x1.1).0))
kind_good (NodeKind-F.BlockPass value) n =
    let x1 = (num.begun_in value.0).numbered n in
    by_kind (NodeKind-F.BlockPass x1.0) (kind.BlockPass x1.0) (kind.rolls-BlockPass x1.0) n x1.1 ((value.1 n).0)
kind_good (NodeKind-F.Super None None) n =
    by_kind (NodeKind-F.Super None None) (kind.Super None None) (kind.rolls-Super None None) n n (runs_on ([]) ([]) n n n (refl) (refl))
kind_good (NodeKind-F.Super None (Some block)) n =
    let x1 = (num.begun_in block.0).numbered n in
    by_kind (NodeKind-F.Super None (Some x1.0)) (kind.Super None (Some x1.0)) (kind.rolls-Super None (Some x1.0)) n x1.1 (runs_on ([]) (law.numbers_in x1.0) n n x1.1 (refl) ((block.1 n).0))
kind_good (NodeKind-F.Super (Some args) None) n =
    let x1 = num.row_by (λ number. number) (map num.item_numbered (map (λ (e : ItemP). e.0) args)) n in
    by_kind (NodeKind-F.Super (Some x1.0) None) (kind.Super (Some x1.0) None) (kind.rolls-Super (Some x1.0) None) n x1.1 (runs_on (flat_map (λ xs. xs) (map law.in_item x1.0)) ([]) n x1.1 x1.1 (items_run args n) (refl))
kind_good (NodeKind-F.Super (Some args) (Some block)) n =
    let x1 = num.row_by (λ number. number) (map num.item_numbered (map (λ (e : ItemP). e.0) args)) n in
    let x2 = (num.begun_in block.0).numbered x1.1 in
    by_kind (NodeKind-F.Super (Some x1.0) (Some x2.0)) (kind.Super (Some x1.0) (Some x2.0)) (kind.rolls-Super (Some x1.0) (Some x2.0)) n x2.1 (runs_on (flat_map (λ xs. xs) (map law.in_item x1.0)) (law.numbers_in x2.0) n x1.1 x2.1 (items_run args n) ((block.1 x1.1).0))
kind_good (NodeKind-F.Yield args None) n =
    let x1 = num.row_by (λ number. number) (map num.item_numbered (map (λ (e : ItemP). e.0) args)) n in
    by_kind (NodeKind-F.Yield x1.0 None) (kind.Yield x1.0 None) (kind.rolls-Yield x1.0 None) n x1.1 (runs_on (flat_map (λ xs. xs) (map law.in_item x1.0)) ([]) n x1.1 x1.1 (items_run args n) (refl))
kind_good (NodeKind-F.Yield args (Some block)) n =
    let x1 = num.row_by (λ number. number) (map num.item_numbered (map (λ (e : ItemP). e.0) args)) n in
    let x2 = (num.begun_in block.0).numbered x1.1 in
    by_kind (NodeKind-F.Yield x1.0 (Some x2.0)) (kind.Yield x1.0 (Some x2.0)) (kind.rolls-Yield x1.0 (Some x2.0)) n x2.1 (runs_on (flat_map (λ xs. xs) (map law.in_item x1.0)) (law.numbers_in x2.0) n x1.1 x2.1 (items_run args n) ((block.1 x1.1).0))
kind_good (NodeKind-F.And left right) n =
    let x1 = (num.begun_in left.0).numbered n in
    let x2 = (num.begun_in right.0).numbered x1.1 in
    by_kind (NodeKind-F.And x1.0 x2.0) (kind.And x1.0 x2.0) (kind.rolls-And x1.0 x2.0) n x2.1 (runs_on (law.numbers_in x1.0) (law.numbers_in x2.0) n x1.1 x2.1 ((left.1 n).0) ((right.1 x1.1).0))
kind_good (NodeKind-F.Or left right) n =
    let x1 = (num.begun_in left.0).numbered n in
    let x2 = (num.begun_in right.0).numbered x1.1 in
    by_kind (NodeKind-F.Or x1.0 x2.0) (kind.Or x1.0 x2.0) (kind.rolls-Or x1.0 x2.0) n x2.1 (runs_on (law.numbers_in x1.0) (law.numbers_in x2.0) n x1.1 x2.1 ((left.1 n).0) ((right.1 x1.1).0))
kind_good (NodeKind-F.Not value) n =
    let x1 = (num.begun_in value.0).numbered n in
    by_kind (NodeKind-F.Not x1.0) (kind.Not x1.0) (kind.rolls-Not x1.0) n x1.1 ((value.1 n).0)
kind_good (NodeKind-F.Defined value) n =
    let x1 = (num.begun_in value.0).numbered n in
    by_kind (NodeKind-F.Defined x1.0) (kind.Defined x1.0) (kind.rolls-Defined x1.0) n x1.1 ((value.1 n).0)
kind_good (NodeKind-F.If (a ∷ []) None) n =
    let s = num.sides_in a.0 in
    choice_runs (num.sides_before s.condition.start (num.start_in s.body) (num.start_in None)) (num.begins_before (num.start_in None) (num.start_in s.body)) s.condition s.body None a.1.0 a.1.1 (tt {0}) refl refl n
kind_good (NodeKind-F.If (a ∷ []) (Some otherwise)) n =
    let s = num.sides_in a.0 in
    choice_runs (num.sides_before s.condition.start (num.start_in s.body) (num.start_in (Some (num.begun_in otherwise.0)))) (num.begins_before (num.start_in (Some (num.begun_in otherwise.0))) (num.start_in s.body)) s.condition s.body (Some (num.begun_in otherwise.0)) a.1.0 a.1.1 (otherwise.1) refl refl n
kind_good (NodeKind-F.If [] None) n =
    let x1 = num.row_by num.arm_number (map num.sides_in (map (λ (e : ArmP). e.0) [])) n in
    by_kind (NodeKind-F.If x1.0 None) (kind.If x1.0 None) (kind.rolls-If x1.0 None) n x1.1 (runs_on (flat_map law.arm_list (map law.in_arm x1.0)) ([]) n x1.1 x1.1 (arms_run [] n) (refl))
kind_good (NodeKind-F.If [] (Some otherwise)) n =
    let x1 = num.row_by num.arm_number (map num.sides_in (map (λ (e : ArmP). e.0) [])) n in
    let x2 = (num.begun_in otherwise.0).numbered x1.1 in
    by_kind (NodeKind-F.If x1.0 (Some x2.0)) (kind.If x1.0 (Some x2.0)) (kind.rolls-If x1.0 (Some x2.0)) n x2.1 (runs_on (flat_map law.arm_list (map law.in_arm x1.0)) (law.numbers_in x2.0) n x1.1 x2.1 (arms_run [] n) ((otherwise.1 x1.1).0))
kind_good (NodeKind-F.If (a ∷ b ∷ more) None) n =
    let x1 = num.row_by num.arm_number (map num.sides_in (map (λ (e : ArmP). e.0) (a ∷ b ∷ more))) n in
    by_kind (NodeKind-F.If x1.0 None) (kind.If x1.0 None) (kind.rolls-If x1.0 None) n x1.1 (along (λ z. Runs z n x1.1) (sym (long_if (map law.in_arm x1.0) None (long_map law.in_arm x1.0 (long_fold num.arm_number (map num.sides_in (map (λ (e : ArmP). e.0) more)) ((num.arm_number (num.sides_in a.0) n).0 ∷ (num.arm_number (num.sides_in b.0) (num.arm_number (num.sides_in a.0) n).1).0 ∷ []) (num.arm_number (num.sides_in b.0) (num.arm_number (num.sides_in a.0) n).1).1 (tt {0}))))) (runs_on (flat_map law.arm_list (map law.in_arm x1.0)) ([]) n x1.1 x1.1 (arms_run (a ∷ b ∷ more) n) (refl)))
kind_good (NodeKind-F.If (a ∷ b ∷ more) (Some otherwise)) n =
    let x1 = num.row_by num.arm_number (map num.sides_in (map (λ (e : ArmP). e.0) (a ∷ b ∷ more))) n in
    let x2 = (num.begun_in otherwise.0).numbered x1.1 in
    by_kind (NodeKind-F.If x1.0 (Some x2.0)) (kind.If x1.0 (Some x2.0)) (kind.rolls-If x1.0 (Some x2.0)) n x2.1 (along (λ z. Runs z n x2.1) (sym (long_if (map law.in_arm x1.0) (Some (law.listed_in x2.0)) (long_map law.in_arm x1.0 (long_fold num.arm_number (map num.sides_in (map (λ (e : ArmP). e.0) more)) ((num.arm_number (num.sides_in a.0) n).0 ∷ (num.arm_number (num.sides_in b.0) (num.arm_number (num.sides_in a.0) n).1).0 ∷ []) (num.arm_number (num.sides_in b.0) (num.arm_number (num.sides_in a.0) n).1).1 (tt {0}))))) (runs_on (flat_map law.arm_list (map law.in_arm x1.0)) (law.numbers_in x2.0) n x1.1 x2.1 (arms_run (a ∷ b ∷ more) n) ((otherwise.1 x1.1).0)))
kind_good (NodeKind-F.Case None arms None) n =
    let x1 = num.row_by (λ number. number) (map num.when_numbered (map (λ (e : WhenP). e.0) arms)) n in
    by_kind (NodeKind-F.Case None x1.0 None) (kind.Case None x1.0 None) (kind.rolls-Case None x1.0 None) n x1.1 (runs_on (([]) ++ flat_map (λ xs. xs) (map law.in_when x1.0)) ([]) n x1.1 x1.1 (runs_on ([]) (flat_map (λ xs. xs) (map law.in_when x1.0)) n n x1.1 (refl) (whens_run arms n)) (refl))
kind_good (NodeKind-F.Case None arms (Some otherwise)) n =
    let x1 = num.row_by (λ number. number) (map num.when_numbered (map (λ (e : WhenP). e.0) arms)) n in
    let x2 = (num.begun_in otherwise.0).numbered x1.1 in
    by_kind (NodeKind-F.Case None x1.0 (Some x2.0)) (kind.Case None x1.0 (Some x2.0)) (kind.rolls-Case None x1.0 (Some x2.0)) n x2.1 (runs_on (([]) ++ flat_map (λ xs. xs) (map law.in_when x1.0)) (law.numbers_in x2.0) n x1.1 x2.1 (runs_on ([]) (flat_map (λ xs. xs) (map law.in_when x1.0)) n n x1.1 (refl) (whens_run arms n)) ((otherwise.1 x1.1).0))
kind_good (NodeKind-F.Case (Some subject) arms None) n =
    let x1 = (num.begun_in subject.0).numbered n in
    let x2 = num.row_by (λ number. number) (map num.when_numbered (map (λ (e : WhenP). e.0) arms)) x1.1 in
    by_kind (NodeKind-F.Case (Some x1.0) x2.0 None) (kind.Case (Some x1.0) x2.0 None) (kind.rolls-Case (Some x1.0) x2.0 None) n x2.1 (runs_on ((law.numbers_in x1.0) ++ flat_map (λ xs. xs) (map law.in_when x2.0)) ([]) n x2.1 x2.1 (runs_on (law.numbers_in x1.0) (flat_map (λ xs. xs) (map law.in_when x2.0)) n x1.1 x2.1 ((subject.1 n).0) (whens_run arms x1.1)) (refl))
kind_good (NodeKind-F.Case (Some subject) arms (Some otherwise)) n =
    let x1 = (num.begun_in subject.0).numbered n in
    let x2 = num.row_by (λ number. number) (map num.when_numbered (map (λ (e : WhenP). e.0) arms)) x1.1 in
    let x3 = (num.begun_in otherwise.0).numbered x2.1 in
    by_kind (NodeKind-F.Case (Some x1.0) x2.0 (Some x3.0)) (kind.Case (Some x1.0) x2.0 (Some x3.0)) (kind.rolls-Case (Some x1.0) x2.0 (Some x3.0)) n x3.1 (runs_on ((law.numbers_in x1.0) ++ flat_map (λ xs. xs) (map law.in_when x2.0)) (law.numbers_in x3.0) n x2.1 x3.1 (runs_on (law.numbers_in x1.0) (flat_map (λ xs. xs) (map law.in_when x2.0)) n x1.1 x2.1 ((subject.1 n).0) (whens_run arms x1.1)) ((otherwise.1 x2.1).0))
kind_good (NodeKind-F.While condition negated body) n = while_of (nat_lt (num.begun_in body.0).start (num.begun_in condition.0).start) (num.begun_in condition.0) (num.begun_in body.0) negated condition.1 body.1 refl n
kind_good (NodeKind-F.Return values) n =
    let x1 = num.row_by num.node_by (map num.begun_in (map (λ (e : NodeP). e.0) values)) n in
    by_kind (NodeKind-F.Return x1.0) (kind.Return x1.0) (kind.rolls-Return x1.0) n x1.1 (nodes_run values n)
kind_good (NodeKind-F.Break values) n =
    let x1 = num.row_by num.node_by (map num.begun_in (map (λ (e : NodeP). e.0) values)) n in
    by_kind (NodeKind-F.Break x1.0) (kind.Break x1.0) (kind.rolls-Break x1.0) n x1.1 (nodes_run values n)
kind_good (NodeKind-F.Next values) n =
    let x1 = num.row_by num.node_by (map num.begun_in (map (λ (e : NodeP). e.0) values)) n in
    by_kind (NodeKind-F.Next x1.0) (kind.Next x1.0) (kind.rolls-Next x1.0) n x1.1 (nodes_run values n)
kind_good (NodeKind-F.Begin body rescues None None) n =
    let x1 = (num.begun_in body.0).numbered n in
    let x2 = num.row_by (λ number. number) (map num.rescue_numbered (map (λ (e : RescueP). e.0) rescues)) x1.1 in
    by_kind (NodeKind-F.Begin x1.0 x2.0 None None) (kind.Begin x1.0 x2.0 None None) (kind.rolls-Begin x1.0 x2.0 None None) n x2.1 (runs_on (((law.numbers_in x1.0) ++ flat_map (λ xs. xs) (map law.in_rescue x2.0)) ++ []) ([]) n x2.1 x2.1 (runs_on ((law.numbers_in x1.0) ++ flat_map (λ xs. xs) (map law.in_rescue x2.0)) ([]) n x2.1 x2.1 (runs_on (law.numbers_in x1.0) (flat_map (λ xs. xs) (map law.in_rescue x2.0)) n x1.1 x2.1 ((body.1 n).0) (rescues_run rescues x1.1)) (refl)) (refl))
kind_good (NodeKind-F.Begin body rescues None (Some ensure)) n =
    let x1 = (num.begun_in body.0).numbered n in
    let x2 = num.row_by (λ number. number) (map num.rescue_numbered (map (λ (e : RescueP). e.0) rescues)) x1.1 in
    let x3 = (num.begun_in ensure.0).numbered x2.1 in
    by_kind (NodeKind-F.Begin x1.0 x2.0 None (Some x3.0)) (kind.Begin x1.0 x2.0 None (Some x3.0)) (kind.rolls-Begin x1.0 x2.0 None (Some x3.0)) n x3.1 (runs_on (((law.numbers_in x1.0) ++ flat_map (λ xs. xs) (map law.in_rescue x2.0)) ++ []) (law.numbers_in x3.0) n x2.1 x3.1 (runs_on ((law.numbers_in x1.0) ++ flat_map (λ xs. xs) (map law.in_rescue x2.0)) ([]) n x2.1 x2.1 (runs_on (law.numbers_in x1.0) (flat_map (λ xs. xs) (map law.in_rescue x2.0)) n x1.1 x2.1 ((body.1 n).0) (rescues_run rescues x1.1)) (refl)) ((ensure.1 x2.1).0))
kind_good (NodeKind-F.Begin body rescues (Some otherwise) None) n =
    let x1 = (num.begun_in body.0).numbered n in
    let x2 = num.row_by (λ number. number) (map num.rescue_numbered (map (λ (e : RescueP). e.0) rescues)) x1.1 in
    let x3 = (num.begun_in otherwise.0).numbered x2.1 in
    by_kind (NodeKind-F.Begin x1.0 x2.0 (Some x3.0) None) (kind.Begin x1.0 x2.0 (Some x3.0) None) (kind.rolls-Begin x1.0 x2.0 (Some x3.0) None) n x3.1 (runs_on (((law.numbers_in x1.0) ++ flat_map (λ xs. xs) (map law.in_rescue x2.0)) ++ law.numbers_in x3.0) ([]) n x3.1 x3.1 (runs_on ((law.numbers_in x1.0) ++ flat_map (λ xs. xs) (map law.in_rescue x2.0)) (law.numbers_in x3.0) n x2.1 x3.1 (runs_on (law.numbers_in x1.0) (flat_map (λ xs. xs) (map law.in_rescue x2.0)) n x1.1 x2.1 ((body.1 n).0) (rescues_run rescues x1.1)) ((otherwise.1 x2.1).0)) (refl))
kind_good (NodeKind-F.Begin body rescues (Some otherwise) (Some ensure)) n =
    let x1 = (num.begun_in body.0).numbered n in
    let x2 = num.row_by (λ number. number) (map num.rescue_numbered (map (λ (e : RescueP). e.0) rescues)) x1.1 in
    let x3 = (num.begun_in otherwise.0).numbered x2.1 in
    let x4 = (num.begun_in ensure.0).numbered x3.1 in
    by_kind (NodeKind-F.Begin x1.0 x2.0 (Some x3.0) (Some x4.0)) (kind.Begin x1.0 x2.0 (Some x3.0) (Some x4.0)) (kind.rolls-Begin x1.0 x2.0 (Some x3.0) (Some x4.0)) n x4.1 (runs_on (((law.numbers_in x1.0) ++ flat_map (λ xs. xs) (map law.in_rescue x2.0)) ++ law.numbers_in x3.0) (law.numbers_in x4.0) n x3.1 x4.1 (runs_on ((law.numbers_in x1.0) ++ flat_map (λ xs. xs) (map law.in_rescue x2.0)) (law.numbers_in x3.0) n x2.1 x3.1 (runs_on (law.numbers_in x1.0) (flat_map (λ xs. xs) (map law.in_rescue x2.0)) n x1.1 x2.1 ((body.1 n).0) (rescues_run rescues x1.1)) ((otherwise.1 x2.1).0)) ((ensure.1 x3.1).0))
kind_good (NodeKind-F.Seq nodes) n =
    let x1 = num.row_by num.node_by (map num.begun_in (map (λ (e : NodeP). e.0) nodes)) n in
    by_kind (NodeKind-F.Seq x1.0) (kind.Seq x1.0) (kind.rolls-Seq x1.0) n x1.1 (nodes_run nodes n)
kind_good (NodeKind-F.Lambda params body) n =
    let x1 = num.row_by (λ number. number) (map num.param_numbered (map (λ (e : ParamP). e.0) params)) n in
    let x2 = (num.begun_in body.0).numbered x1.1 in
    by_kind (NodeKind-F.Lambda x1.0 x2.0) (kind.Lambda x1.0 x2.0) (kind.rolls-Lambda x1.0 x2.0) n x2.1 (runs_on (flat_map (λ xs. xs) (map law.in_param x1.0)) (law.numbers_in x2.0) n x1.1 x2.1 (params_run params n) ((body.1 x1.1).0))
kind_good (NodeKind-F.Def singleton method params body) n =
    let x1 = num.row_by (λ number. number) (map num.param_numbered (map (λ (e : ParamP). e.0) params)) n in
    let x2 = (num.begun_in body.0).numbered x1.1 in
    by_kind (NodeKind-F.Def singleton method x1.0 x2.0) (kind.Def singleton method x1.0 x2.0) (kind.rolls-Def singleton method x1.0 x2.0) n x2.1 (runs_on (flat_map (λ xs. xs) (map law.in_param x1.0)) (law.numbers_in x2.0) n x1.1 x2.1 (params_run params n) ((body.1 x1.1).0))
kind_good (NodeKind-F.ClassBody path path_at None body) n =
    let x1 = (num.begun_in body.0).numbered n in
    by_kind (NodeKind-F.ClassBody path path_at None x1.0) (kind.ClassBody path path_at None x1.0) (kind.rolls-ClassBody path path_at None x1.0) n x1.1 (runs_on ([]) (law.numbers_in x1.0) n n x1.1 (refl) ((body.1 n).0))
kind_good (NodeKind-F.ClassBody path path_at (Some superclass) body) n =
    let x1 = (num.begun_in superclass.0).numbered n in
    let x2 = (num.begun_in body.0).numbered x1.1 in
    by_kind (NodeKind-F.ClassBody path path_at (Some x1.0) x2.0) (kind.ClassBody path path_at (Some x1.0) x2.0) (kind.rolls-ClassBody path path_at (Some x1.0) x2.0) n x2.1 (runs_on (law.numbers_in x1.0) (law.numbers_in x2.0) n x1.1 x2.1 ((superclass.1 n).0) ((body.1 x1.1).0))
kind_good (NodeKind-F.ModuleBody path path_at body) n =
    let x1 = (num.begun_in body.0).numbered n in
    by_kind (NodeKind-F.ModuleBody path path_at x1.0) (kind.ModuleBody path path_at x1.0) (kind.rolls-ModuleBody path path_at x1.0) n x1.1 ((body.1 n).0)
kind_good (NodeKind-F.SingletonBody body) n =
    let x1 = (num.begun_in body.0).numbered n in
    by_kind (NodeKind-F.SingletonBody x1.0) (kind.SingletonBody x1.0) (kind.rolls-SingletonBody x1.0) n x1.1 ((body.1 n).0)
kind_good (NodeKind-F.AliasOf new_name old_name) n =
    by_kind (NodeKind-F.AliasOf new_name old_name) (kind.AliasOf new_name old_name) (kind.rolls-AliasOf new_name old_name) n n (refl)

item_good : (y : Item-F NodeKindP ItemP ParamP PartP TargetP NodeP ArmP RescueP WhenP) → Is law.in_item (num.item_number (number_item (of_item y)))
item_good (Item-F.Value x) n =
    let x1 = (num.begun_in x.0).numbered n in
    by_item (Item-F.Value x1.0) (item.Value x1.0) (item.rolls-Value x1.0) n x1.1 ((x.1 n).0)
item_good (Item-F.Splat x) n =
    let x1 = (num.begun_in x.0).numbered n in
    by_item (Item-F.Splat x1.0) (item.Splat x1.0) (item.rolls-Splat x1.0) n x1.1 ((x.1 n).0)
item_good (Item-F.DoubleSplat x) n =
    let x1 = (num.begun_in x.0).numbered n in
    by_item (Item-F.DoubleSplat x1.0) (item.DoubleSplat x1.0) (item.rolls-DoubleSplat x1.0) n x1.1 ((x.1 n).0)
item_good (Item-F.Label key at value) n =
    let x1 = (num.begun_in value.0).numbered n in
    by_item (Item-F.Label key at x1.0) (item.Label key at x1.0) (item.rolls-Label key at x1.0) n x1.1 ((value.1 n).0)
item_good (Item-F.Pair key value) n =
    let x1 = (num.begun_in key.0).numbered n in
    let x2 = (num.begun_in value.0).numbered x1.1 in
    by_item (Item-F.Pair x1.0 x2.0) (item.Pair x1.0 x2.0) (item.rolls-Pair x1.0 x2.0) n x2.1 (runs_on (law.numbers_in x1.0) (law.numbers_in x2.0) n x1.1 x2.1 ((key.1 n).0) ((value.1 x1.1).0))

part_good : (y : Part-F NodeKindP ItemP ParamP PartP TargetP NodeP ArmP RescueP WhenP) → Is law.in_part (num.part_number (number_part (of_part y)))
part_good (Part-F.Text text) n =
    by_part (Part-F.Text text) (piece.Text text) (piece.rolls-Text text) n n (refl)
part_good (Part-F.Code x) n =
    let x1 = (num.begun_in x.0).numbered n in
    by_part (Part-F.Code x1.0) (piece.Code x1.0) (piece.rolls-Code x1.0) n x1.1 ((x.1 n).0)

target_good : (y : Target-F NodeKindP ItemP ParamP PartP TargetP NodeP ArmP RescueP WhenP) → Is law.in_target (num.target_number (number_target (of_target y)))
target_good (Target-F.Local name at) n =
    by_target (Target-F.Local name at) (target.Local name at) (target.rolls-Local name at) n n (refl)
target_good (Target-F.Target::IVar name at) n =
    by_target (Target-F.Target::IVar name at) (target.IVar name at) (target.rolls-IVar name at) n n (refl)
target_good (Target-F.Target::CVar name at) n =
    by_target (Target-F.Target::CVar name at) (target.CVar name at) (target.rolls-CVar name at) n n (refl)
target_good (Target-F.Target::GVar name at) n =
    by_target (Target-F.Target::GVar name at) (target.GVar name at) (target.rolls-GVar name at) n n (refl)
target_good (Target-F.Target::Const None path at) n =
    by_target (Target-F.Target::Const None path at) (target.Const None path at) (target.rolls-Const None path at) n n (refl)
target_good (Target-F.Target::Const (Some scope) path at) n =
    let x1 = (num.begun_in scope.0).numbered n in
    by_target (Target-F.Target::Const (Some x1.0) path at) (target.Const (Some x1.0) path at) (target.rolls-Const (Some x1.0) path at) n x1.1 ((scope.1 n).0)

param_good : (y : Param-F NodeKindP ItemP ParamP PartP TargetP NodeP ArmP RescueP WhenP) → Is law.in_param (num.param_number (number_param (of_param y)))
param_good (Param-F.Required local) n =
    by_param (Param-F.Required local) (param.Required local) (param.rolls-Required local) n n (refl)
param_good (Param-F.Optional local default) n =
    let x1 = (num.begun_in default.0).numbered n in
    by_param (Param-F.Optional local x1.0) (param.Optional local x1.0) (param.rolls-Optional local x1.0) n x1.1 ((default.1 n).0)
param_good (Param-F.Rest local) n =
    by_param (Param-F.Rest local) (param.Rest local) (param.rolls-Rest local) n n (refl)
param_good (Param-F.Trailing local) n =
    by_param (Param-F.Trailing local) (param.Trailing local) (param.rolls-Trailing local) n n (refl)
param_good (Param-F.Keyword local) n =
    by_param (Param-F.Keyword local) (param.Keyword local) (param.rolls-Keyword local) n n (refl)
param_good (Param-F.OptionalKeyword local default) n =
    let x1 = (num.begun_in default.0).numbered n in
    by_param (Param-F.OptionalKeyword local x1.0) (param.OptionalKeyword local x1.0) (param.rolls-OptionalKeyword local x1.0) n x1.1 ((default.1 n).0)
param_good (Param-F.RestKeywords local) n =
    by_param (Param-F.RestKeywords local) (param.RestKeywords local) (param.rolls-RestKeywords local) n n (refl)
param_good (Param-F.Param::Block local) n =
    by_param (Param-F.Param::Block local) (param.Block local) (param.rolls-Block local) n n (refl)
param_good (Param-F.Group locals) n =
    by_param (Param-F.Group locals) (param.Group locals) (param.rolls-Group locals) n n (refl)

when_good : (y : When-F NodeKindP ItemP ParamP PartP TargetP NodeP ArmP RescueP WhenP) → Is law.in_when (num.when_number (number_when (of_when y)))
when_good y n =
    let x1 = num.row_by (λ number. number) (map num.item_numbered (map (λ (e : ItemP). e.0) y.values)) n in
    let x2 = (num.begun_in y.body.0).numbered x1.1 in
    by_when (record { values = x1.0; body = x2.0 }) n x2.1 (runs_on (flat_map (λ xs. xs) (map law.in_item x1.0)) (law.numbers_in x2.0) n x1.1 x2.1 (items_run y.values n) ((y.body.1 x1.1).0))

rescue_good : (y : Rescue-F NodeKindP ItemP ParamP PartP TargetP NodeP ArmP RescueP WhenP) → Is law.in_rescue (num.rescue_number (number_rescue (of_rescue y)))
rescue_good y n =
    let x1 = num.row_by num.node_by (map num.begun_in (map (λ (e : NodeP). e.0) y.classes)) n in
    let x2 = (num.begun_in y.body.0).numbered x1.1 in
    by_rescue (record { classes = x1.0; variable = y.variable; body = x2.0 }) n x2.1 (runs_on (flat_map law.numbers_of (map law.listed_in x1.0)) (law.numbers_in x2.0) n x1.1 x2.1 (nodes_run y.classes n) ((y.body.1 x1.1).0))

node_good : (y : Node-F NodeKindP ItemP ParamP PartP TargetP NodeP ArmP RescueP WhenP) → IsNode (num.node_number (number_node (of_node y)))
node_good y n =
    let x = num.kind_numbered y.kind.0 (n + 1) in
    let is = fold-roll-Node (List ℕ) (List ℕ) (List ℕ) (List ℕ) (List ℕ) law.Listed law.ArmListed (List ℕ) (List ℕ) law.kind_step law.item_step law.param_step law.part_step law.target_step law.node_step law.arm_step law.rescue_step law.when_step (record { span = y.span; number = n; kind = x.0 }) in
    (along (λ z. Runs z n x.1) (sym (ap law.numbers_of is)) (refl, y.kind.1 (n + 1)), ap (λ (l : law.Listed). l.start) is)

option_good : (y : Arm-F NodeKindP ItemP ParamP PartP TargetP NodeP ArmP RescueP WhenP) (b : Option NodeP) → IsOption (num.arm_sides (number_arm (of_arm (record y { body = b })))).body
option_good y None = tt {0}
option_good y (Some b) = b.1

arm_good : (y : Arm-F NodeKindP ItemP ParamP PartP TargetP NodeP ArmP RescueP WhenP) → IsArm (num.arm_sides (number_arm (of_arm y)))
arm_good y = (y.condition.1, option_good y y.body)

-- ---- whole trees

kind_step : (x : NodeKind-F NodeKind Item Param Part Target Node Arm Rescue When) (y : NodeKind-F NodeKindP ItemP ParamP PartP TargetP NodeP ArmP RescueP WhenP) → of_kind y ≡ x → Is law.in_kind (num.kind_numbered (roll-NodeKind x))
kind_step x y is =
    along (λ z. Is law.in_kind (num.kind_numbered (roll-NodeKind z))) is (along (λ z. Is law.in_kind z) (sym (fold-roll-NodeKind (ℕ → NodeKind × ℕ) (ℕ → Item × ℕ) (ℕ → Param × ℕ) (ℕ → Part × ℕ) (ℕ → Target × ℕ) num.Begun num.Sides (ℕ → Rescue × ℕ) (ℕ → When × ℕ) num.kind_number num.item_number num.param_number num.part_number num.target_number num.node_number num.arm_sides num.rescue_number num.when_number (of_kind y))) (kind_good y))

item_step : (x : Item-F NodeKind Item Param Part Target Node Arm Rescue When) (y : Item-F NodeKindP ItemP ParamP PartP TargetP NodeP ArmP RescueP WhenP) → of_item y ≡ x → Is law.in_item (num.item_numbered (roll-Item x))
item_step x y is =
    along (λ z. Is law.in_item (num.item_numbered (roll-Item z))) is (along (λ z. Is law.in_item z) (sym (fold-roll-Item (ℕ → NodeKind × ℕ) (ℕ → Item × ℕ) (ℕ → Param × ℕ) (ℕ → Part × ℕ) (ℕ → Target × ℕ) num.Begun num.Sides (ℕ → Rescue × ℕ) (ℕ → When × ℕ) num.kind_number num.item_number num.param_number num.part_number num.target_number num.node_number num.arm_sides num.rescue_number num.when_number (of_item y))) (item_good y))

param_step : (x : Param-F NodeKind Item Param Part Target Node Arm Rescue When) (y : Param-F NodeKindP ItemP ParamP PartP TargetP NodeP ArmP RescueP WhenP) → of_param y ≡ x → Is law.in_param (num.param_numbered (roll-Param x))
param_step x y is =
    along (λ z. Is law.in_param (num.param_numbered (roll-Param z))) is (along (λ z. Is law.in_param z) (sym (fold-roll-Param (ℕ → NodeKind × ℕ) (ℕ → Item × ℕ) (ℕ → Param × ℕ) (ℕ → Part × ℕ) (ℕ → Target × ℕ) num.Begun num.Sides (ℕ → Rescue × ℕ) (ℕ → When × ℕ) num.kind_number num.item_number num.param_number num.part_number num.target_number num.node_number num.arm_sides num.rescue_number num.when_number (of_param y))) (param_good y))

part_step : (x : Part-F NodeKind Item Param Part Target Node Arm Rescue When) (y : Part-F NodeKindP ItemP ParamP PartP TargetP NodeP ArmP RescueP WhenP) → of_part y ≡ x → Is law.in_part (num.part_numbered (roll-Part x))
part_step x y is =
    along (λ z. Is law.in_part (num.part_numbered (roll-Part z))) is (along (λ z. Is law.in_part z) (sym (fold-roll-Part (ℕ → NodeKind × ℕ) (ℕ → Item × ℕ) (ℕ → Param × ℕ) (ℕ → Part × ℕ) (ℕ → Target × ℕ) num.Begun num.Sides (ℕ → Rescue × ℕ) (ℕ → When × ℕ) num.kind_number num.item_number num.param_number num.part_number num.target_number num.node_number num.arm_sides num.rescue_number num.when_number (of_part y))) (part_good y))

target_step : (x : Target-F NodeKind Item Param Part Target Node Arm Rescue When) (y : Target-F NodeKindP ItemP ParamP PartP TargetP NodeP ArmP RescueP WhenP) → of_target y ≡ x → Is law.in_target (num.target_numbered (roll-Target x))
target_step x y is =
    along (λ z. Is law.in_target (num.target_numbered (roll-Target z))) is (along (λ z. Is law.in_target z) (sym (fold-roll-Target (ℕ → NodeKind × ℕ) (ℕ → Item × ℕ) (ℕ → Param × ℕ) (ℕ → Part × ℕ) (ℕ → Target × ℕ) num.Begun num.Sides (ℕ → Rescue × ℕ) (ℕ → When × ℕ) num.kind_number num.item_number num.param_number num.part_number num.target_number num.node_number num.arm_sides num.rescue_number num.when_number (of_target y))) (target_good y))

node_step : (x : Node-F NodeKind Item Param Part Target Node Arm Rescue When) (y : Node-F NodeKindP ItemP ParamP PartP TargetP NodeP ArmP RescueP WhenP) → of_node y ≡ x → IsNode (num.begun_in (roll-Node x))
node_step x y is =
    along (λ z. IsNode (num.begun_in (roll-Node z))) is (along (λ z. IsNode z) (sym (fold-roll-Node (ℕ → NodeKind × ℕ) (ℕ → Item × ℕ) (ℕ → Param × ℕ) (ℕ → Part × ℕ) (ℕ → Target × ℕ) num.Begun num.Sides (ℕ → Rescue × ℕ) (ℕ → When × ℕ) num.kind_number num.item_number num.param_number num.part_number num.target_number num.node_number num.arm_sides num.rescue_number num.when_number (of_node y))) (node_good y))

arm_step : (x : Arm-F NodeKind Item Param Part Target Node Arm Rescue When) (y : Arm-F NodeKindP ItemP ParamP PartP TargetP NodeP ArmP RescueP WhenP) → of_arm y ≡ x → IsArm (num.sides_in (roll-Arm x))
arm_step x y is =
    along (λ z. IsArm (num.sides_in (roll-Arm z))) is (along (λ z. IsArm z) (sym (fold-roll-Arm (ℕ → NodeKind × ℕ) (ℕ → Item × ℕ) (ℕ → Param × ℕ) (ℕ → Part × ℕ) (ℕ → Target × ℕ) num.Begun num.Sides (ℕ → Rescue × ℕ) (ℕ → When × ℕ) num.kind_number num.item_number num.param_number num.part_number num.target_number num.node_number num.arm_sides num.rescue_number num.when_number (of_arm y))) (arm_good y))

rescue_step : (x : Rescue-F NodeKind Item Param Part Target Node Arm Rescue When) (y : Rescue-F NodeKindP ItemP ParamP PartP TargetP NodeP ArmP RescueP WhenP) → of_rescue y ≡ x → Is law.in_rescue (num.rescue_numbered (roll-Rescue x))
rescue_step x y is =
    along (λ z. Is law.in_rescue (num.rescue_numbered (roll-Rescue z))) is (along (λ z. Is law.in_rescue z) (sym (fold-roll-Rescue (ℕ → NodeKind × ℕ) (ℕ → Item × ℕ) (ℕ → Param × ℕ) (ℕ → Part × ℕ) (ℕ → Target × ℕ) num.Begun num.Sides (ℕ → Rescue × ℕ) (ℕ → When × ℕ) num.kind_number num.item_number num.param_number num.part_number num.target_number num.node_number num.arm_sides num.rescue_number num.when_number (of_rescue y))) (rescue_good y))

when_step : (x : When-F NodeKind Item Param Part Target Node Arm Rescue When) (y : When-F NodeKindP ItemP ParamP PartP TargetP NodeP ArmP RescueP WhenP) → of_when y ≡ x → Is law.in_when (num.when_numbered (roll-When x))
when_step x y is =
    along (λ z. Is law.in_when (num.when_numbered (roll-When z))) is (along (λ z. Is law.in_when z) (sym (fold-roll-When (ℕ → NodeKind × ℕ) (ℕ → Item × ℕ) (ℕ → Param × ℕ) (ℕ → Part × ℕ) (ℕ → Target × ℕ) num.Begun num.Sides (ℕ → Rescue × ℕ) (ℕ → When × ℕ) num.kind_number num.item_number num.param_number num.part_number num.target_number num.node_number num.arm_sides num.rescue_number num.when_number (of_when y))) (when_good y))

node_runs : (x : Node) → IsNode (num.begun_in x)
node_runs = ind-Node (λ x. Is law.in_kind (num.kind_numbered x)) (λ x. Is law.in_item (num.item_numbered x)) (λ x. Is law.in_param (num.param_numbered x)) (λ x. Is law.in_part (num.part_numbered x)) (λ x. Is law.in_target (num.target_numbered x)) (λ x. IsNode (num.begun_in x)) (λ x. IsArm (num.sides_in x)) (λ x. Is law.in_rescue (num.rescue_numbered x)) (λ x. Is law.in_when (num.when_numbered x)) kind_step item_step param_step part_step target_step node_step arm_step rescue_step when_step

-- from 0 on
pub is_numbered : (x : Node) → law.numbers_in (num.node_numbered x 0).0 ≡ law.counted 0 (length (law.numbers_in (num.node_numbered x 0).0))
is_numbered x = runs_counted (law.numbers_in (num.node_numbered x 0).0) 0 (num.node_numbered x 0).1 (node_runs x 0).0
