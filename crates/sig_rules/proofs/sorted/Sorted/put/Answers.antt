use Rattle.std.proofs.Common.{◌∙◌, sym, ap}
use Rattle.std.proofs.lemmas.Result.{on_ok_weaker}
use Rattle.sig_rules.specs.Sorted.{counts_beside}
use Rattle.sig_rules.proofs.SortingLemmas.{sorts_in, sorts_clash, sorts_unnamed, counts_in}
use Rattle.sig_rules.proofs.sorted.Sorted.put.Goals as goal

-- its name is not among the names, so it has none
pub returns-in-None-clause-sorts : goal.returns-in-None-clause-sorts
returns-in-None-clause-sorts c = on_ok_weaker c.put_aside.result (λ puts all sorts among. sorts_unnamed _ _ _ all sorts puts among c.in-None.ensures.none) c.put_aside.ensures

-- it counts
pub returns-then-counts_beside-clause-sorts : goal.returns-then-counts_beside-clause-sorts
returns-then-counts_beside-clause-sorts c =
    let counts = counts_in c.args.self.now c.in-Some.group c.args.declared c.index.result.now c.in-Some.ensures.within c.requires.groups c.index.ensures in
    on_ok_weaker c.put_in.result
    (λ puts all sorts among. sorts_in _ _ _ _ all sorts puts c.in-Some.ensures.within c.in-Some.ensures.some (counts ∙ ap (λ g. counts_beside g c.args.declared) (sym c.as_slice.ensures) ∙ sym c.counts_beside.ensures ∙ c.if-counts_beside.true))
    c.put_in.ensures

-- it clashes with the first of its name
pub returns-else-counts_beside-clause-sorts : goal.returns-else-counts_beside-clause-sorts
returns-else-counts_beside-clause-sorts c =
    let counts = counts_in c.args.self.now c.in-Some.group c.args.declared c.index.result.now c.in-Some.ensures.within c.requires.groups c.index.ensures in
    on_ok_weaker c.put_aside-else-counts_beside.result
    (λ puts all sorts among. sorts_clash _ _ _ _ all sorts puts c.in-Some.ensures.within c.in-Some.ensures.some (counts ∙ ap (λ g. counts_beside g c.args.declared) (sym c.as_slice.ensures) ∙ sym c.counts_beside.ensures ∙ c.if-counts_beside.false))
    c.put_aside-else-counts_beside.ensures
