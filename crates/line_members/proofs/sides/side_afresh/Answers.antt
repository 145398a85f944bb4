use Rattle.std.proofs.Common.{refl}
use Rattle.line_members.proofs.SideLemmas.{nothing_found}
use Rattle.line_members.proofs.sides.side_afresh.Goals as goal

pub side_along-requires-clause-behind : goal.side_along-requires-clause-behind
side_along-requires-clause-behind g c = nothing_found (g.N.Names.all c.args.names.now) c.args.kind c.args.steps.now _ c.nothing_found-nothing.result c.nothing_found-nothing.ensures refl
