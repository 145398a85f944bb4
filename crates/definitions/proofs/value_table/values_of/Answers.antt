use Rattle.std.proofs.Common.{arith}
use Rattle.definitions.proofs.ValueLemmas.{values_next}
use Rattle.definitions.proofs.value_table.values_of.Goals as goal

pub loop-name-preserved : goal.loop-name-preserved
loop-name-preserved g c = values_next (g.N.Names.all c.args.names.now) c.args.list.now c.loop-name.name-index c.name-item.result _ _ (omega arith) c.name-item.is c.loop-name.invariant c.in_ok-put_value.ensures
