use Rattle.std.proofs.Common.{◌≡◌, length}
use Rattle.method_steps.specs.Slots.{has_alias}
use Rattle.method_steps.proofs.living.has_alias.Given as goal

abbrev pub invariant-loop-rest : goal.invariant-loop-rest
invariant-loop-rest l = has_alias l.rest ≡ has_alias l.given

abbrev pub decreases-loop-rest : goal.decreases-loop-rest
decreases-loop-rest l = length l.rest
