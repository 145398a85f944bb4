use Rattle.std.proofs.Common.{arith}
use Rattle.definitions.specs.Tables.{IsAlias}
use Rattle.definitions.proofs.TableLemmas.{holds_next, holds_nothing}
use Rattle.definitions.proofs.alias_table.aliases_of.Goals as goal

pub loop-name-init : goal.loop-name-init
loop-name-init g c = rw c.new-table.ensures (holds_nothing (IsAlias (g.N.Names.all c.args.names.now)))

pub loop-name-preserved : goal.loop-name-preserved
loop-name-preserved g c = holds_next (IsAlias (g.N.Names.all c.args.names.now)) c.args.list.now c.loop-name.name-index c.name-item.result _ _ _ (omega arith) c.name-item.is c.loop-name.invariant c.in_ok-found.ensures c.in_ok-put_found.ensures
