use Rattle.std.proofs.Common.{rules, ◌≡◌, ◌∙◌, Some, slice_get}
use Rattle.sig_rules.proofs.TableLemmas.{placed_at}
use Rattle.sig_rules.proofs.table.Table.decl_at.Goals as goal

pub returns : goal.returns
returns c =
    let there : slice_get c.self.inside.sorted.places c.args.i ≡ Some c.in_ok-place.place.now = search rules in
    rw (← c.self.view_is) (c.at.ensures ∙ placed_at _ _ _ _ c.self.invariant.sorts there)
