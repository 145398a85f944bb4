use Rattle.std.proofs.Common.{ℕ, Bor, arith}
use Rattle.rbs_tree.specs.declared.names.TypeName.{TypeName}
use Rattle.definitions.specs.Tables.{AreDefinitions}
use Rattle.definitions.proofs.TableLemmas.{holds_next_of, sound}
use Rattle.definitions.proofs.definition_table.definitions_in.Goals as goal

pub definitions_at-requires : goal.definitions_at-requires
definitions_at-requires g c = sound (AreDefinitions (g.L.Names.all c.args.lines.now)) _ c.loop-name.table c.loop-name.invariant

pub loop-name-preserved : goal.loop-name-preserved
loop-name-preserved g c =
    holds_next_of (AreDefinitions (g.L.Names.all c.args.lines.now)) (λ (e : ℕ × Bor TypeName). e.1.now) c.args.order.now c.loop-name.name-index c.loop-name-item.result _ _ _ (omega arith)
    c.loop-name-item.is c.loop-name.invariant c.in_ok-found.ensures.are c.in_ok-put_found.ensures
