use Rattle.std.proofs.Common.{sym, ap, ◌∙◌}
use Rattle.std.specs.List.{list_any}
use Rattle.std.proofs.lemmas.Result.{on_ok_weaker}
use Rattle.sig_rules.specs.Instances.{is_in, all_apart_from}
use Rattle.type_instances.specs.Variables.{outer, own}
use Rattle.type_instances.proofs.ApartLemmas.{all-same}
use Rattle.type_instances.proofs.renaming.set_apart.Goals as goal

pub returns-then-not-has_outer : goal.returns-then-not-has_outer
returns-then-not-has_outer c =
    let names = outer c.args.types.now c.args.names.now in
    all-same names (own c.args.method.now) c.args.method.now
    (ap (list_any (is_in names)) (sym c.as_slice.ensures) ∙ sym c.has_outer.ensures ∙ c.if-not-has_outer.true)

pub returns : goal.returns
returns c =
    let names = outer c.args.types.now c.args.names.now in
    let m = c.args.method.now in
    on_ok_weaker c.set_each_apart.result
    (λ same. same ∙ ap (λ vars. all_apart_from names vars m) (c.as_slice-3.ensures ∙ c.in_ok-vars.ensures ∙ c.as_slice-2.ensures))
    c.set_each_apart.ensures
