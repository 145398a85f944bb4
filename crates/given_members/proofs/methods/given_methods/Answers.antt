use Rattle.std.proofs.Common.{arith}
use Rattle.given_members.proofs.GivenLemmas.{methods_of_entries}
use Rattle.given_members.proofs.methods.given_methods.Goals as goal

pub returns : goal.returns
returns g c =
    methods_of_entries (g.N.Names.all c.args.names.now) c.args.applied.now c.args.kind c.loop-declared.declared-index c.entries-declared-items.ensures
    (omega arith) c.loop-declared.invariant
