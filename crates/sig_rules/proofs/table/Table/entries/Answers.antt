use Rattle.std.proofs.Common.{◌∙◌}
use Rattle.sig_rules.proofs.TableLemmas.{group_found}
use Rattle.sig_rules.proofs.table.Table.entries.Goals as goal

-- the declarations beside the name
pub returns-in-Some : goal.returns-in-Some
returns-in-Some c =
    rw (← c.self.view_is) (c.as_slice-in-Some.ensures ∙ group_found _ _ _ _ _ c.index.result.now c.self.invariant (rw c.as_slice.ensures at c.in-Some.ensures.some) c.index.ensures)
