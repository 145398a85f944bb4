use Rattle.std.proofs.Common.{◌≡◌, map, take}
use Rattle.ruby_parser.specs.Refused as spec
use Rattle.ruby_parser.proofs.refused.+refused.Given as goal

abbrev pub invariant-in_nodes-loop-node : goal.invariant-in_nodes-loop-node
invariant-in_nodes-loop-node l = l.found ≡ spec.in_list (map spec.found_in (take l.node-index l.nodes))

abbrev pub invariant-in_items-loop-item : goal.invariant-in_items-loop-item
invariant-in_items-loop-item l = l.found ≡ spec.firsts (map spec.in_item (take l.item-index l.items))

abbrev pub invariant-in_parts-loop-part : goal.invariant-in_parts-loop-part
invariant-in_parts-loop-part l = l.found ≡ spec.firsts (map spec.in_part (take l.part-index l.parts))

abbrev pub invariant-in_params-loop-param : goal.invariant-in_params-loop-param
invariant-in_params-loop-param l = l.found ≡ spec.firsts (map spec.in_param (take l.param-index l.params))

abbrev pub invariant-in_arms-loop-arm : goal.invariant-in_arms-loop-arm
invariant-in_arms-loop-arm l = l.found ≡ spec.firsts (map spec.in_arm (take l.arm-index l.arms))

abbrev pub invariant-in_whens-loop-when : goal.invariant-in_whens-loop-when
invariant-in_whens-loop-when l = l.found ≡ spec.firsts (map spec.in_when (take l.when-index l.whens))

abbrev pub invariant-in_rescues-loop-rescue : goal.invariant-in_rescues-loop-rescue
invariant-in_rescues-loop-rescue l = l.found ≡ spec.firsts (map spec.in_rescue (take l.rescue-index l.rescues))
