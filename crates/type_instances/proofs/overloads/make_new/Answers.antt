use Rattle.std.proofs.Common.{◌≡◌, [], ◌++◌, IfOk, ◌∙◌, ap, subst as along}
use Rattle.rbs_tree.specs.declared.types.Ty.TheViews.{out-MethodType}
use Rattle.sig_rules.specs.Instances.{all_apart_from}
use Rattle.type_instances.specs.Variables.{outer, own}
use Rattle.type_instances.proofs.OverloadLemmas.{new-is}
use Rattle.type_instances.proofs.overloads.make_new.Goals as goal

pub returns : goal.returns
returns c =
    let m = c.args.method.now in
    let apart = c.set_apart.new.method in
    let apart_is : apart ≡ all_apart_from c.args.params.now (own m) m = c.in_ok-set_apart.ensures ∙ ap (λ names. all_apart_from (outer [] names) (own m) m) c.as_slice.ensures in
    let joined = along (λ r. IfOk r (λ all. all ≡ c.as_slice-2.result.now ++ c.as_slice-3.result.now)) c.in_ok-vars.ensures.first c.joined-vars.ensures in
    let vars_is : c.in_ok-vars.vars ≡ c.args.params.now ++ (out-MethodType apart).vars = joined ∙ λ i. c.as_slice-2.ensures i ++ c.as_slice-3.ensures i in
    let copied = along (λ r. IfOk r (λ copy. copy ≡ c.args.made.now)) c.in_ok-vars.ensures.second c.copy_ty.ensures in
    new-is c.args.params.now c.in_ok-vars.vars c.args.made.now c.put.new.place m apart apart_is vars_is (c.put.ensures ∙ copied)
