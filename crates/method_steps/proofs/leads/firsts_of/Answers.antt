use Rattle.std.proofs.Common.{◌≡◌, sym, ap, ◌∙◌, ℕ, List, ◌∷◌, drop, ◌+◌, ◌<◌, length, subst, slice_index_or, false}
use Rattle.std.specs.Prelude.{Option, None}
use Rattle.std.specs.Option.{option_or}
use Rattle.std.proofs.lemmas.List.{drop_more}
use Rattle.method_steps.specs.declared.slots.Slot.{Slot}
use Rattle.method_steps.specs.declared.slots.Origin.TheVariants.{Own}
use Rattle.method_steps.specs.Slots.{first_from}
use Rattle.method_steps.proofs.SlotLemmas.{first_more, with_first_length}
use Rattle.method_steps.proofs.leads.firsts_of.Goals as goal

pub loop-place-preserved : goal.loop-place-preserved
loop-place-preserved c =
    let place = c.loop-place.place in
    let slots = c.args.slots.now in
    let firsts = c.loop-place.firsts.items in
    let s : Slot = slice_index_or slots place (record { key = 0; origin = Own; lives = false }) in
    let dropped : drop place slots ≡ s ∷ drop (place + 1) slots =
    drop_more slots place (record { key = 0; origin = Own; lives = false }) c.loop-place-test.true in (
      λ key within.
          ap (λ (fs : List (Option ℕ)). option_or (slice_index_or fs key None) (first_from (place + 1) key (drop (place + 1) slots))) c.note_first.ensures
          ∙ first_more firsts place s (drop (place + 1) slots) key (subst (λ n. key < n) (sym c.loop-place.invariant.1) within)
          ∙ ap (λ (ss : List Slot). option_or (slice_index_or firsts key None) (first_from place key ss)) (sym dropped)
          ∙ c.loop-place.invariant.0 key within,
      ap (λ (fs : List (Option ℕ)). length fs) c.note_first.ensures ∙ with_first_length firsts place s ∙ c.loop-place.invariant.1,
    )
