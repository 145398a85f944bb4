-- The values of a node's trees, by their sorts.
use Rattle.std.specs.Prelude.{ℕ, true, false, List, [], ◌∷◌, ◌++◌, Some, None}
use Rattle.std.specs.List.{fold}
use Rattle.ruby_lowering.specs.declared.parts.Parts.{Parts}
use Rattle.ruby_values.specs.declared.value.PlacedArm.{PlacedArm}
use Rattle.ruby_values.specs.declared.value.Value.{Value}
use Rattle.ruby_tree.specs.declared.parts.Arm.{Arm}
use Rattle.ruby_values.specs.declared.value.Value.TheVariants as value

abbrev pub no_parts : Parts
no_parts = record {
  leaves = [];
  nodes = [];
  maybe = None;
  list = None;
  items = None;
  param = None;
  params = None;
  names = [];
  path = None;
  targets = [];
  arms = [];
  arms_start = 0;
  whens = [];
  rescues = [];
  otherwise = None;
  ensure = None;
  modifiers = [];
  local = None;
  singleton = false;
}

abbrev pub start_kept : List Arm → ℕ → ℕ → ℕ
start_kept [] old start = start
start_kept (arm ∷ arms) old start = old

abbrev pub add_arm : Parts → PlacedArm → Parts
add_arm ps a = record ps { arms = ps.arms ++ a.arm ∷ []; arms_start = start_kept ps.arms ps.arms_start a.start }

-- a value behind the others of its sort; of sorts that a node has one of at most, the last counts
abbrev pub add : Parts → Value → Parts
add ps (value.Leaf place) = record ps { leaves = ps.leaves ++ place ∷ [] }
add ps (value.Node n) = record ps { nodes = ps.nodes ++ n ∷ [] }
add ps (value.Maybe n) = record ps { maybe = n }
add ps (value.Nodes ns) = record ps { list = Some ns }
add ps (value.Items is) = record ps { items = Some is }
add ps (value.Param p) = record ps { param = Some p }
add ps (value.Params qs) = record ps { params = Some qs }
add ps (value.Name n) = record ps { names = ps.names ++ n ∷ [] }
add ps (value.Path p) = record ps { path = Some p }
add ps (value.Target t) = record ps { targets = ps.targets ++ t ∷ [] }
add ps (value.Arm a) = add_arm ps a
add ps (value.When w) = record ps { whens = ps.whens ++ w ∷ [] }
add ps (value.Rescue r) = record ps { rescues = ps.rescues ++ r ∷ [] }
add ps (value.Otherwise n) = record ps { otherwise = Some n }
add ps (value.Ensure n) = record ps { ensure = Some n }
add ps (value.Modifier m) = record ps { modifiers = ps.modifiers ++ m ∷ [] }
add ps (value.Local l) = record ps { local = Some l }
add ps value.Singleton = record ps { singleton = true }
add ps other = ps

-- values by their sorts, each sort in their order
abbrev pub gathered : List Value → Parts
gathered = fold add no_parts
