use Rattle.method_steps.proofs.CircleLemmas.{IsNoting, count_new}
use Rattle.method_steps.proofs.circles.note_circle.Given as goal

abbrev pub invariant-around : goal.invariant-around
invariant-around l = IsNoting l.leads l.fn.on l.fn.circles.items l.circles.items l.at

abbrev pub decreases-around : goal.decreases-around
decreases-around l = count_new l.circles.items
