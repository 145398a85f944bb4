use Rattle.std.proofs.Common.{sym, ap, ◌∙◌, List, ◌-◌}
use Rattle.std.proofs.lemmas.Option.{MatchOption-at_none, MatchOption-at_some}
use Rattle.method_steps.specs.declared.slots.Slot.{Slot}
use Rattle.method_steps.specs.Slots.{round, rounds}
use Rattle.method_steps.proofs.SlotLemmas.{rounds_same, one_round}
use Rattle.method_steps.proofs.rounds.living_after.Goals as goal

pub returns-in-None : goal.returns-in-None
returns-in-None c =
    let same = MatchOption-at_none _ _ c.in-None.is c.in_ok-next.ensures in
    let seen = c.as_slice.ensures.value in
    sym (rounds_same c.loop-left.left c.loop-left.living.items (ap (λ (ss : List Slot). round ss) (sym seen) ∙ same ∙ seen)) ∙ c.loop-left.invariant

pub loop-left-preserved : goal.loop-left-preserved
loop-left-preserved c =
    let made = MatchOption-at_some _ _ _ c.in-Some.is c.in_ok-next.ensures in
    ap (λ (ss : List Slot). rounds (c.loop-left.left - 1) ss) (made ∙ ap (λ (ss : List Slot). round ss) c.as_slice.ensures.value)
    ∙ sym (one_round c.loop-left.left c.loop-left.living.items c.loop-left-test.true)
    ∙ c.loop-left.invariant
