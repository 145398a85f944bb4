use Rattle.std.proofs.Common.{◌≡◌, sym, ap, ◌∙◌, ℕ, List, ◌∷◌, drop, ◌+◌, unwrap_or}
use Rattle.std.proofs.lemmas.List.{drop_more}
use Rattle.sig_rules.specs.declared.given.GivenMethod.{GivenMethod}
use Rattle.sig_rules.specs.Worlds.{by_name}
use Rattle.method_steps.specs.Slots.{key}
use Rattle.method_steps.proofs.SlotLemmas.{key_more}
use Rattle.method_steps.proofs.slots.keys_of.Goals as goal

pub loop-place-preserved : goal.loop-place-preserved
loop-place-preserved c =
    let place = c.loop-place.place in
    let given = c.args.given.now in
    let g = c.index-given-place.result in
    let dropped : drop place given ≡ g ∷ drop (place + 1) given =
    drop_more given place g c.loop-place-test.true ∙ ap (λ (x : GivenMethod). x ∷ drop (place + 1) given) (sym c.index-given-place.is) in
    λ name.
    ap (λ (keys : List (List ℕ × ℕ)). unwrap_or (by_name keys name) (place + 1 + key (drop (place + 1) given) name)) c.in_ok-note.ensures
    ∙ key_more c.loop-place.keys place g (drop (place + 1) given) name
    ∙ ap (λ (gs : List GivenMethod). unwrap_or (by_name c.loop-place.keys name) (place + key gs name)) (sym dropped)
    ∙ c.loop-place.invariant name
