use Rattle.std.proofs.Common.{◌≡◌, [], map, IfOk, ◌∙◌, subst as along}
use Rattle.rbs_tree.specs.Substitution.{subst}
use Rattle.type_instances.specs.Variables.{shown_names, shown_types}
use Rattle.type_instances.proofs.PairLemmas.{subst-pairs}
use Rattle.type_instances.proofs.instances.paired_in_place.Goals as goal

pub returns : goal.returns
returns c =
    let vars = c.args.vars.now in
    let by = c.args.by.now in
    let names : c.in_ok-shown.shown.names ≡ shown_names [] vars by = c.in_ok-shown.ensures.names ∙ λ i. shown_names [] (c.as_slice.ensures i) (c.as_slice-2.ensures i) in
    let types : c.in_ok-shown.shown.types ≡ shown_types [] vars by = c.in_ok-shown.ensures.types ∙ λ i. shown_types [] (c.as_slice.ensures i) (c.as_slice-2.ensures i) in
    let same : subst c.in_ok-shown.shown.names c.in_ok-shown.shown.types ≡ subst vars by = (λ i. subst (names i) (types i)) ∙ subst-pairs vars by in
    along (λ f. IfOk c.each_in_place.result (λ all. all ≡ map f c.args.tys.now)) same c.each_in_place.ensures
