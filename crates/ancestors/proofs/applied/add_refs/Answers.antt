use Rattle.ancestors.proofs.ReferenceLemmas.{refs_more}
use Rattle.ancestors.proofs.applied.add_refs.Goals as goal

pub loop-target-preserved : goal.loop-target-preserved
loop-target-preserved g c =
    refs_more (g.N.Names.all c.args.names.now) c.args.role c.args.scope.now c.args.refs.now _ _ _ _ _ c.loop-target-test.true c.target-item.is c.loop-target.invariant c.in_ok-add_ref.ensures
