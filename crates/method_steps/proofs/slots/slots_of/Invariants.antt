use Rattle.std.proofs.Common.{◌≡◌, ◌++◌, List, ℕ, length, map, unwrap_or}
use Rattle.sig_rules.specs.Worlds.{by_name}
use Rattle.method_steps.specs.Slots.{slot}
use Rattle.method_steps.proofs.slots.slots_of.Given as goal

abbrev pub invariant-loop-rest : goal.invariant-loop-rest
invariant-loop-rest g l =
    l.slots.items ++ map (slot (λ (name : List ℕ). unwrap_or (by_name l.keys-inside.by_name.entries name) (length l.given)) (g.E.Elsewhere.knows l.elsewhere)) l.rest
    ≡ map (slot (λ (name : List ℕ). unwrap_or (by_name l.keys-inside.by_name.entries name) (length l.given)) (g.E.Elsewhere.knows l.elsewhere)) l.given

abbrev pub decreases-loop-rest : goal.decreases-loop-rest
decreases-loop-rest g l = length l.rest
