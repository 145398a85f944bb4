use Rattle.type_instances.proofs.PairLemmas.{without-names, without-types}
use Rattle.type_instances.proofs.instances.in_place.Goals as goal
use Rattle.type_instances.proofs.instances.in_place.Goals.{then-is_empty-via-then-is_empty, then-is_empty-via-else-is_empty+then-is_empty-2}

pub returns-then-is_empty : goal.returns-then-is_empty
returns-then-is_empty c =
    let vars = c.args.vars.now in
    let by = c.args.by.now in
    elim c.then-is_empty.branch [
      | then-is_empty-via-then-is_empty w ↦ without-names vars by c.args.tys (c.is_empty.ensures.0 w.if-is_empty.true)
      | then-is_empty-via-else-is_empty+then-is_empty-2 w ↦ without-types vars by c.args.tys (w.is_empty-else-is_empty.ensures.0 w.if-is_empty-2.true)
    ]
