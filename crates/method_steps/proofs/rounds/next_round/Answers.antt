use Rattle.std.proofs.Common.{sym, ap, ◌∙◌, ℕ, Bool}
use Rattle.method_steps.specs.Slots.{without, some_dead}
use Rattle.method_steps.proofs.SlotLemmas.{same_dead, without_same}
use Rattle.method_steps.proofs.rounds.next_round.Goals as goal

pub returns-then-not-has_dead : goal.returns-then-not-has_dead
returns-then-not-has_dead c =
    let dead = same_dead c.args.slots.now c.in_ok-leads.leads.items _ _ c.in_ok-circles.circles.items _ c.in_ok-leads.ensures c.as_slice.ensures.value c.as_slice-2.ensures.value c.as_slice-3.ensures.value c.in_ok-circles.ensures in
    without_same _ 0 c.args.slots.now (ap (λ (d : ℕ → Bool). some_dead d 0 c.args.slots.now) (sym dead) ∙ sym c.has_dead.ensures ∙ c.if-not-has_dead.true)

pub returns : goal.returns
returns c =
    let dead = same_dead c.args.slots.now c.in_ok-leads.leads.items _ _ c.in_ok-circles.circles.items _ c.in_ok-leads.ensures c.as_slice.ensures.value c.as_slice-4.ensures.value c.as_slice-5.ensures.value c.in_ok-circles.ensures in
    c.in_ok-without_dead.ensures ∙ ap (λ (d : ℕ → Bool). without d 0 c.args.slots.now) dead
