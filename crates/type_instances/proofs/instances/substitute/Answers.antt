use Rattle.std.proofs.Common.{◌≡◌, [], map, ap, ◌∙◌}
use Rattle.std.proofs.lemmas.List.{append-nil}
use Rattle.rbs_tree.specs.Substitution.{subst_method}
use Rattle.sig_rules.specs.Instances.{all_apart_from, in_row, variables}
use Rattle.type_instances.specs.Variables.{outer, own}
use Rattle.type_instances.proofs.PairLemmas.{nothing-shown}
use Rattle.type_instances.proofs.instances.substitute.Goals as goal

pub returns-then-is_empty : goal.returns-then-is_empty
returns-then-is_empty c =
    nothing-shown c.args.names.now c.args.types.now c.args.method.now (c.is_empty.ensures.0 c.if-is_empty.true) c.requires

pub returns : goal.returns
returns c =
    let m = c.args.method.now in
    let around : outer c.as_slice.result.now [] ≡ in_row (map variables c.args.types.now) =
    ap (λ types. outer types []) c.as_slice.ensures ∙ append-nil (in_row (map variables c.args.types.now)) in
    c.put.ensures
    ∙ c.in_ok-other.ensures
    ∙ ap (subst_method c.args.names.now c.args.types.now) (c.in_ok-set_apart.ensures ∙ ap (λ names. all_apart_from names (own m) m) around)
