use Rattle.ancestors.proofs.ReferenceLemmas.{members_more}
use Rattle.ancestors.proofs.applied.add_members.Goals as goal

pub loop-member-preserved : goal.loop-member-preserved
loop-member-preserved g c =
    members_more (g.N.Names.all c.args.names.now) c.args.role c.args.scope.now c.args.members.now _ _ _ _ _ c.loop-member-test.true c.member-item.is c.loop-member.invariant (rw c.refs_in.ensures at c.in_ok-add_refs.ensures)
