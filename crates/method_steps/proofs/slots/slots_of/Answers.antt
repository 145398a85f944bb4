use Rattle.std.proofs.Common.{◌≡◌, ap, ◌∙◌, ℕ, List, length, map, unwrap_or}
use Rattle.sig_rules.specs.Worlds.{by_name}
use Rattle.method_steps.specs.Slots.{key, slot}
use Rattle.method_steps.proofs.SlotLemmas.{at_end}
use Rattle.method_steps.proofs.slots.slots_of.Goals as goal

pub returns : goal.returns
returns g c =
    let given = c.args.given.now in
    let knows = g.E.Elsewhere.knows c.args.elsewhere.now in
    let found : (name : List ℕ) → unwrap_or (by_name c.keys.inside.by_name.entries name) (length given) ≡ key given name =
    λ name. ap (λ (keys : List (List ℕ × ℕ)). unwrap_or (by_name keys name) (length given)) c.keys.view_is ∙ c.in_ok-keys.ensures name in
    at_end (slot (λ (name : List ℕ). unwrap_or (by_name c.keys.inside.by_name.entries name) (length given)) knows) c.loop-rest.slots.items c.loop-rest.rest.now given c.in_default.len_below c.loop-rest.invariant
    ∙ (λ i. map (slot (λ (name : List ℕ). found name i) knows) given)
