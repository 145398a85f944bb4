use Rattle.std.proofs.Common.{◌≡◌, ◌++◌}
use Rattle.method_steps.specs.Slots.{chosen}
use Rattle.method_steps.proofs.living.chosen_of.Given as goal

abbrev pub invariant-loop-method : goal.invariant-loop-method
invariant-loop-method l = l.living ++ chosen l.method-iterator.rest.items l.rest ≡ chosen l.fn.given l.slots
