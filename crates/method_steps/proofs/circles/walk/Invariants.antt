use Rattle.method_steps.specs.declared.leads.Lead.TheVariants.{Here}
use Rattle.method_steps.specs.Circles.{count_unseen}
use Rattle.method_steps.proofs.CircleLemmas.{IsWalking}
use Rattle.method_steps.proofs.circles.walk.Given as goal

abbrev pub invariant-walk : goal.invariant-walk
invariant-walk l = IsWalking l.leads l.start l.fn.marks.items l.marks.items (Here l.at)

abbrev pub decreases-walk : goal.decreases-walk
decreases-walk l = count_unseen l.marks.items
