use Rattle.std.proofs.Common.{◌≡◌}
use Rattle.method_steps.specs.Slots.{rounds}
use Rattle.method_steps.proofs.rounds.living_after.Given as goal

abbrev pub invariant-loop-left : goal.invariant-loop-left
invariant-loop-left l = rounds l.left l.living.items ≡ rounds l.turns l.fn.slots.items

abbrev pub decreases-loop-left : goal.decreases-loop-left
decreases-loop-left l = l.left
