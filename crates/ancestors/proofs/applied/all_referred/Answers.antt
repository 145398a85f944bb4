use Rattle.ancestors.proofs.ReferenceLemmas.{referred_whole}
use Rattle.ancestors.proofs.applied.all_referred.Goals as goal

pub returns : goal.returns
returns g c =
    referred_whole (g.N.Names.all c.args.names.now) c.args.role c.args.applied.now c.in_ok-first.first c.entries-declared-items.result.now _ _ c.in_ok-first.ensures c.entries-declared-items.ensures c.loop-declared-test.false c.loop-declared.invariant
