use Rattle.std.proofs.Common.{◌≡◌, ◌∙◌, is_some, sym, ap}
use Rattle.std.specs.Map.{lookup}
use Rattle.std.proofs.lemmas.Result.{on_ok_weaker}
use Rattle.sig_rules.specs.Methods.{same_word}
use Rattle.sig_rules.specs.Worlds.{value_text}
use Rattle.definitions.proofs.ValueLemmas.{values_put, values_there}
use Rattle.definitions.proofs.value_table.put_value.Goals as goal

pub returns-then-has_text : goal.returns-then-has_text
returns-then-has_text g c =
    let path = c.args.name.now.path in
    let text : c.in_ok-text.text ≡ value_text path = c.in_ok-text.ensures ∙ ap value_text c.as_slice.ensures in
    values_there (g.N.Names.all c.args.names.now) path c.args.table.now (ap (λ t. is_some (lookup (same_word t) c.args.table.now)) (sym text) ∙ sym c.has_text.ensures ∙ c.if-has_text.true)

pub returns : goal.returns
returns g c =
    let path = c.args.name.now.path in
    let text : c.in_ok-text.text ≡ value_text path = c.in_ok-text.ensures ∙ ap value_text c.as_slice.ensures in
    on_ok_weaker c.put.result (values_put (g.N.Names.all c.args.names.now) path _ _ _ _ text c.in_ok-found.ensures (sym c.has_text.ensures ∙ c.if-has_text.false)) c.put.ensures
