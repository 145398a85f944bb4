use Rattle.std.proofs.Common.{◌≡◌, length}
use Rattle.method_steps.specs.Slots.{all_live}
use Rattle.method_steps.proofs.living.all_live.Given as goal

abbrev pub invariant-loop-rest : goal.invariant-loop-rest
invariant-loop-rest l = all_live l.rest ≡ all_live l.slots

abbrev pub decreases-loop-rest : goal.decreases-loop-rest
decreases-loop-rest l = length l.rest
