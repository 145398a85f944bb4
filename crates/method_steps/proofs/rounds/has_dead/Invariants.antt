use Rattle.std.proofs.Common.{◌≡◌, ◌+◌, ℕ, false, length, slice_index_or}
use Rattle.method_steps.specs.Slots.{is_dead_at, some_dead}
use Rattle.method_steps.proofs.rounds.has_dead.Given as goal

abbrev pub invariant-loop-rest : goal.invariant-loop-rest
invariant-loop-rest l =
    (some_dead (is_dead_at (λ (at : ℕ). slice_index_or l.circles at false) l.leads) l.place l.rest
    ≡ some_dead (is_dead_at (λ (at : ℕ). slice_index_or l.circles at false) l.leads) 0 l.slots)
    × (l.place + length l.rest ≡ length l.slots)

abbrev pub decreases-loop-rest : goal.decreases-loop-rest
decreases-loop-rest l = length l.rest
