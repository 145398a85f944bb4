use Rattle.std.proofs.Common.{◌≡◌, ◌++◌, take}
use Rattle.ancestors.proofs.walk.put_steps.Given as goal

abbrev pub invariant-loop-step : goal.invariant-loop-step
invariant-loop-step l = l.line ≡ l.fn.line ++ take l.step-index l.steps
