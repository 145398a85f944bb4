use Rattle.method_steps.proofs.CircleLemmas.{AreFound}
use Rattle.method_steps.proofs.circles.circles_of.Given as goal

abbrev pub invariant-loop-start : goal.invariant-loop-start
invariant-loop-start l = AreFound l.leads l.start l.marks.items l.circles.items
