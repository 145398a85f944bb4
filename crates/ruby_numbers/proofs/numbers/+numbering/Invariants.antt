use Rattle.std.proofs.Common.{◌≡◌, ◌+◌, ◌*◌, map, max}
use Rattle.ruby_numbers.specs.Numbers as spec
use Rattle.ruby_numbers.proofs.numbers.+numbering.Given as goal

-- ---- what is left: how deep a part of the tree is, and a call's place among those on one part

abbrev pub decreases-numbered : goal.decreases-numbered
decreases-numbered l = 5 * goal.size-numbered l

abbrev pub decreases-in_box : goal.decreases-in_box
decreases-in_box l = 5 * goal.size-in_box l + 1

abbrev pub decreases-in_option : goal.decreases-in_option
decreases-in_option l = 5 * goal.size-in_option l + 1

abbrev pub decreases-in_side : goal.decreases-in_side
decreases-in_side l = 5 * goal.size-in_side l + 1

abbrev pub decreases-in_nodes : goal.decreases-in_nodes
decreases-in_nodes l = 5 * goal.size-in_nodes l + 1

abbrev pub decreases-in_items : goal.decreases-in_items
decreases-in_items l = 5 * goal.size-in_items l + 1

abbrev pub decreases-in_parts : goal.decreases-in_parts
decreases-in_parts l = 5 * goal.size-in_parts l + 1

abbrev pub decreases-in_params : goal.decreases-in_params
decreases-in_params l = 5 * goal.size-in_params l + 1

abbrev pub decreases-in_arms : goal.decreases-in_arms
decreases-in_arms l = 5 * goal.size-in_arms l + 1

abbrev pub decreases-in_whens : goal.decreases-in_whens
decreases-in_whens l = 5 * goal.size-in_whens l + 1

abbrev pub decreases-in_rescues : goal.decreases-in_rescues
decreases-in_rescues l = 5 * goal.size-in_rescues l + 1

abbrev pub decreases-in_kind : goal.decreases-in_kind
decreases-in_kind l = 5 * goal.size-in_kind l

abbrev pub decreases-in_if : goal.decreases-in_if
decreases-in_if l = 5 * max (goal.size-in_if l) (goal.size-in_option (record { the-lifetimes = l.the-lifetimes; alloc = l.alloc; node = l.otherwise; next = l.next })) + 4

abbrev pub decreases-in_choice : goal.decreases-in_choice
decreases-in_choice l = 5 * max (goal.size-in_choice l) (goal.size-in_option (record { the-lifetimes = l.the-lifetimes; alloc = l.alloc; node = l.otherwise; next = l.next })) + 3

abbrev pub decreases-in_sides : goal.decreases-in_sides
decreases-in_sides l = 5 * max (goal.size-in_sides l) (goal.size-in_option (record { the-lifetimes = l.the-lifetimes; alloc = l.alloc; node = l.otherwise; next = l.next })) + 2

abbrev pub decreases-in_while : goal.decreases-in_while
decreases-in_while l = 5 * max (goal.size-in_while l) (goal.size-in_box (record { the-lifetimes = l.the-lifetimes; alloc = l.alloc; node = l.body; next = l.next })) + 2

abbrev pub decreases-in_item : goal.decreases-in_item
decreases-in_item l = 5 * goal.size-in_item l

abbrev pub decreases-in_part : goal.decreases-in_part
decreases-in_part l = 5 * goal.size-in_part l

abbrev pub decreases-in_target : goal.decreases-in_target
decreases-in_target l = 5 * goal.size-in_target l

abbrev pub decreases-in_param : goal.decreases-in_param
decreases-in_param l = 5 * goal.size-in_param l

abbrev pub decreases-in_arm : goal.decreases-in_arm
decreases-in_arm l = 5 * goal.size-in_arm l

abbrev pub decreases-in_when : goal.decreases-in_when
decreases-in_when l = 5 * goal.size-in_when l

abbrev pub decreases-in_rescue : goal.decreases-in_rescue
decreases-in_rescue l = 5 * goal.size-in_rescue l

-- ---- loops

abbrev pub invariant-in_nodes-loop-node : goal.invariant-in_nodes-loop-node
invariant-in_nodes-loop-node l = (l.done, l.next) ≡ spec.nodes_row (map spec.begun_in l.yielded) l.fn.next

abbrev pub invariant-in_items-loop-item : goal.invariant-in_items-loop-item
invariant-in_items-loop-item l = (l.done, l.next) ≡ spec.row (map spec.item_numbered l.yielded) l.fn.next

abbrev pub invariant-in_parts-loop-part : goal.invariant-in_parts-loop-part
invariant-in_parts-loop-part l = (l.done, l.next) ≡ spec.row (map spec.part_numbered l.yielded) l.fn.next

abbrev pub invariant-in_params-loop-param : goal.invariant-in_params-loop-param
invariant-in_params-loop-param l = (l.done, l.next) ≡ spec.row (map spec.param_numbered l.yielded) l.fn.next

abbrev pub invariant-in_arms-loop-arm : goal.invariant-in_arms-loop-arm
invariant-in_arms-loop-arm l = (l.done, l.next) ≡ spec.row_by spec.arm_number (map spec.sides_in l.yielded) l.fn.next

abbrev pub invariant-in_whens-loop-when : goal.invariant-in_whens-loop-when
invariant-in_whens-loop-when l = (l.done, l.next) ≡ spec.row (map spec.when_numbered l.yielded) l.fn.next

abbrev pub invariant-in_rescues-loop-rescue : goal.invariant-in_rescues-loop-rescue
invariant-in_rescues-loop-rescue l = (l.done, l.next) ≡ spec.row (map spec.rescue_numbered l.yielded) l.fn.next
