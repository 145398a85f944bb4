use Rattle.ruby_numbers.specs.Numbers as spec
use Rattle.ruby_numbers.proofs.RowLemmas.{row_next}
use Rattle.ruby_numbers.proofs.numbers.+numbering.Goals as goal

pub in_nodes-loop-node-preserved : goal.in_nodes-loop-node-preserved
in_nodes-loop-node-preserved t c =
    rw c.in_ok-push.ensures.ok (row_next spec.node_by spec.begun_in c.loop-node.yielded c.in-Some.node _ c.loop-node.done c.loop-node.next _ _ c.loop-node.invariant c.in_ok-numbered.ensures.made c.in_ok-numbered.ensures.next)

pub in_items-loop-item-preserved : goal.in_items-loop-item-preserved
in_items-loop-item-preserved t c =
    rw c.in_ok-push.ensures.ok (row_next (λ number. number) spec.item_numbered c.loop-item.yielded c.in-Some.item _ c.loop-item.done c.loop-item.next _ _ c.loop-item.invariant c.in_ok-in_item.ensures.made c.in_ok-in_item.ensures.next)

pub in_parts-loop-part-preserved : goal.in_parts-loop-part-preserved
in_parts-loop-part-preserved t c =
    rw c.in_ok-push.ensures.ok (row_next (λ number. number) spec.part_numbered c.loop-part.yielded c.in-Some.part _ c.loop-part.done c.loop-part.next _ _ c.loop-part.invariant c.in_ok-in_part.ensures.made c.in_ok-in_part.ensures.next)

pub in_params-loop-param-preserved : goal.in_params-loop-param-preserved
in_params-loop-param-preserved t c =
    rw c.in_ok-push.ensures.ok (row_next (λ number. number) spec.param_numbered c.loop-param.yielded c.in-Some.param _ c.loop-param.done c.loop-param.next _ _ c.loop-param.invariant c.in_ok-in_param.ensures.made c.in_ok-in_param.ensures.next)

pub in_arms-loop-arm-preserved : goal.in_arms-loop-arm-preserved
in_arms-loop-arm-preserved t c =
    rw c.in_ok-push.ensures.ok (row_next spec.arm_number spec.sides_in c.loop-arm.yielded c.in-Some.arm _ c.loop-arm.done c.loop-arm.next _ _ c.loop-arm.invariant c.in_ok-in_arm.ensures.made c.in_ok-in_arm.ensures.next)

pub in_whens-loop-when-preserved : goal.in_whens-loop-when-preserved
in_whens-loop-when-preserved t c =
    rw c.in_ok-push.ensures.ok (row_next (λ number. number) spec.when_numbered c.loop-when.yielded c.in-Some.when _ c.loop-when.done c.loop-when.next _ _ c.loop-when.invariant c.in_ok-in_when.ensures.made c.in_ok-in_when.ensures.next)

pub in_rescues-loop-rescue-preserved : goal.in_rescues-loop-rescue-preserved
in_rescues-loop-rescue-preserved t c =
    rw c.in_ok-push.ensures.ok (row_next (λ number. number) spec.rescue_numbered c.loop-rescue.yielded c.in-Some.rescue _ c.loop-rescue.done c.loop-rescue.next _ _ c.loop-rescue.invariant c.in_ok-in_rescue.ensures.made c.in_ok-in_rescue.ensures.next)
