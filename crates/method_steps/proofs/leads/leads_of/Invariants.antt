use Rattle.std.proofs.Common.{◌≡◌, ◌++◌, ℕ, None, length, map, slice_index_or}
use Rattle.method_steps.specs.Slots.{lead}
use Rattle.method_steps.proofs.leads.leads_of.Given as goal

abbrev pub invariant-loop-rest : goal.invariant-loop-rest
invariant-loop-rest l =
    l.leads.items ++ map (lead (λ (key : ℕ). slice_index_or l.firsts.items key None)) l.rest ≡ map (lead (λ (key : ℕ). slice_index_or l.firsts.items key None)) l.slots

abbrev pub decreases-loop-rest : goal.decreases-loop-rest
decreases-loop-rest l = length l.rest
