use Rattle.ancestors.proofs.TrailLemmas.{without_last_is}
use Rattle.ancestors.proofs.walk.Walk.leave.Goals as goal

pub returns : goal.returns
returns c =
    let old = c.args.self.now in
    let trail = without_last_is old.trail c.pop.new.self c.pop.result c.pop.ensures.items c.pop.ensures.empty in
    λ i. record { tasks = old.tasks; trail = trail i; line = old.line }
