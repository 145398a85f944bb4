use Rattle.std.proofs.Common.{◌≡◌, ◌<◌, ℕ, None, length, slice_index_or, drop}
use Rattle.std.specs.Option.{option_or}
use Rattle.method_steps.specs.Slots.{first_from}
use Rattle.method_steps.proofs.leads.firsts_of.Given as goal

abbrev pub invariant-loop-place : goal.invariant-loop-place
invariant-loop-place l =
    ((key : ℕ) → key < length l.slots → option_or (slice_index_or l.firsts.items key None) (first_from l.place key (drop l.place l.slots)) ≡ first_from 0 key l.slots)
    × (length l.firsts.items ≡ length l.slots)
