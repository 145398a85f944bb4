use Rattle.std.proofs.Common.{ℕ, Bor}
use Rattle.rbs_tree.specs.declared.names.TypeName.{TypeName}
use Rattle.definitions.proofs.TableLemmas.{permuted_names}
use Rattle.definitions.proofs.order.short_lines_first.Goals as goal

pub returns : goal.returns
returns g c = permuted_names (λ (e : ℕ × Bor TypeName). e.1.now) c.args.list.now _ _ c.in_ok-order.ensures c.sort_unstable_by_key.ensures.permutation
