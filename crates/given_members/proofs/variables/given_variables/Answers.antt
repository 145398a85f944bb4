use Rattle.std.proofs.Common.{arith}
use Rattle.given_members.proofs.GivenLemmas.{variables_of_entries}
use Rattle.given_members.proofs.variables.given_variables.Goals as goal

pub returns : goal.returns
returns g c =
    variables_of_entries (g.N.Names.all c.args.names.now) c.args.applied.now c.args.kind c.loop-declared.declared-index c.entries-declared-items.ensures
    (omega arith) c.loop-declared.invariant
