use Rattle.std.proofs.Common.{rules, ◌≡◌, ◌≢◌, ◌∙◌, [], sym}
use Rattle.sig_rules.proofs.TableLemmas.{full_at, full_empty, group_found}
use Rattle.sig_rules.proofs.table.Table.full.Goals as goal

-- no declaration of the name counts
pub returns-then-is_empty : goal.returns-then-is_empty
returns-then-is_empty c =
    let none : c.index.result.now ≡ [] = search rules in
    rw (← c.self.view_is) (full_empty _ _ (sym (group_found _ _ _ _ _ c.index.result.now c.self.invariant c.in_ok-at.ensures.some c.index.ensures) ∙ none))

-- some declaration of the name counts
pub returns-else-is_empty : goal.returns-else-is_empty
returns-else-is_empty c =
    let some : c.index.result.now ≢ [] = λ empty. search rules in
    rw (← c.self.view_is) (c.get.ensures.value ∙ full_at _ _ _ _ _ c.index.result.now c.self.invariant c.in_ok-at.ensures.some c.index.ensures some)
