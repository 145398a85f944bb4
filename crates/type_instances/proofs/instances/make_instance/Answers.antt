use Rattle.std.proofs.Common.{◌≡◌, false, length, sym, ◌∙◌}
use Rattle.std.specs.List.{list_any}
use Rattle.std.proofs.lemmas.Result.{on_ok_weaker}
use Rattle.sig_rules.specs.Instances.{is_in}
use Rattle.type_instances.specs.Variables.{own, shown_names, shown_types}
use Rattle.type_instances.proofs.PairLemmas.{instance-is, shown-all}
use Rattle.type_instances.proofs.instances.make_instance.Goals as goal

-- each type parameter is shown
pub returns-then-are_shown : goal.returns-then-are_shown
returns-then-are_shown c =
    let m = c.args.method.now in
    let params = c.args.params.now in
    let args = c.args.args.now in
    let test = c.are_shown.ensures.0 c.if-are_shown.true in
    let paired : length params ≡ length args = sym (λ i. length (c.as_slice-2.ensures i)) ∙ test.0 ∙ λ i. length (c.as_slice-3.ensures i) in
    let shown : list_any (is_in (own m)) params ≡ false = sym (λ i. list_any (is_in (c.as_slice.ensures i)) (c.as_slice-2.ensures i)) ∙ test.1 in
    let all = shown-all (own m) params args paired shown in
    on_ok_weaker c.substitute.result (λ same. instance-is params args m c.substitute.new.method params args (sym all.0) (sym all.1) same) c.substitute.ensures

-- some may be hidden
pub returns : goal.returns
returns c =
    let m = c.args.method.now in
    let params = c.args.params.now in
    let args = c.args.args.now in
    let names : c.in_ok-shown.shown.names ≡ shown_names (own m) params args =
    c.in_ok-shown.ensures.names ∙ λ i. shown_names (c.as_slice-4.ensures i) (c.as_slice-5.ensures i) (c.as_slice-6.ensures i) in
    let types : c.in_ok-shown.shown.types ≡ shown_types (own m) params args =
    c.in_ok-shown.ensures.types ∙ λ i. shown_types (c.as_slice-4.ensures i) (c.as_slice-5.ensures i) (c.as_slice-6.ensures i) in
    on_ok_weaker c.substitute-2.result
    (λ same. instance-is params args m c.substitute-2.new.method c.in_ok-shown.shown.names c.in_ok-shown.shown.types names types same)
    c.substitute-2.ensures
