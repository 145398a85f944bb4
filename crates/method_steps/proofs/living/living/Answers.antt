use Rattle.std.proofs.Common.{◌≡◌, sym, ap, ◌∙◌, List, subst, IfOk}
use Rattle.sig_rules.specs.declared.given.GivenMethod.{GivenMethod}
use Rattle.method_steps.specs.declared.slots.Slot.{Slot}
use Rattle.method_steps.specs.Slots.{has_alias, chosen, all_live}
use Rattle.method_steps.proofs.SlotsLive.{no_alias, chosen_live, all_of_them_live, slots_after}
use Rattle.method_steps.proofs.living.living.Goals as goal

pub returns-then-not-has_alias : goal.returns-then-not-has_alias
returns-then-not-has_alias g c =
    no_alias (g.E.Elsewhere.knows c.args.elsewhere.now) c.args.given (ap (λ (gs : List GivenMethod). has_alias gs) (sym c.as_slice.ensures) ∙ sym c.has_alias.ensures ∙ c.if-not-has_alias.true)

pub returns-then-all_live : goal.returns-then-all_live
returns-then-all_live g c =
    let knows = g.E.Elsewhere.knows c.args.elsewhere.now in
    all_of_them_live knows c.args.given c.in_ok-slots-2.slots.items
    (slots_after knows c.args.given _ _ _ _ c.as_slice-2.ensures c.in_ok-slots.ensures c.len.ensures c.in_ok-slots-2.ensures)
    (ap (λ (ss : List Slot). all_live ss) (sym c.as_slice-3.ensures.value) ∙ sym c.all_live.ensures ∙ c.if-all_live.true)

pub returns : goal.returns
returns g c =
    let knows = g.E.Elsewhere.knows c.args.elsewhere.now in
    subst (λ (gs : List GivenMethod). IfOk c.chosen_of.result (λ alive. alive ≡ gs))
    (ap (λ (ss : List Slot). chosen c.args.given ss) (c.as_slice-4.ensures.value ∙ slots_after knows c.args.given _ _ _ _ c.as_slice-2.ensures c.in_ok-slots.ensures c.len.ensures c.in_ok-slots-2.ensures)
    ∙ chosen_live knows c.args.given) c.chosen_of.ensures
