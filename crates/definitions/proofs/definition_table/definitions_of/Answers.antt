use Rattle.std.proofs.Common.{ℕ, List, Bor, map, sym, subst}
use Rattle.std.specs.List.Sorted.{IsPermutation}
use Rattle.std.proofs.lemmas.Result.{IfOk-weaker}
use Rattle.rbs_tree.specs.declared.names.TypeName.{TypeName}
use Rattle.definitions.specs.Tables.{AreDefinitions}
use Rattle.definitions.proofs.TableLemmas.{holds_permuted}
use Rattle.definitions.proofs.definition_table.definitions_of.Goals as goal

pub returns-clause-table : goal.returns-clause-table
returns-clause-table g c =
    let all = g.L.Names.all c.args.lines.now in
    let moved = subst (λ (es : List (ℕ × Bor TypeName)). IsPermutation c.args.list.now (map (λ (e : ℕ × Bor TypeName). e.1.now) es)) (sym c.as_slice.ensures.value) c.in_ok-order.ensures in
    IfOk-weaker c.definitions_in.result _ _ (λ table holds. holds_permuted (AreDefinitions all) c.args.list.now _ table moved holds) c.definitions_in.ensures.table
