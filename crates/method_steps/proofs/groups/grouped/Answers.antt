use Rattle.std.proofs.Common.{◌≡◌, ◌∙◌, ◌∷◌, ◌++◌, [], List, rules, arith, ap, sym, append_assoc, length-append}
use Rattle.sig_rules.specs.declared.given.GivenMethod.{GivenMethod}
use Rattle.method_steps.proofs.GroupLemmas.{grouped_more}
use Rattle.method_steps.proofs.groups.grouped.Goals as goal

pub loop-method-preserved : goal.loop-method-preserved
loop-method-preserved c =
    let before = c.loop-method.yielded in
    let after = c.next.new.self.rest.items in
    let next : c.loop-method.method-iterator.rest.items ≡ c.in-Some.method ∷ after = search rules in
    let whole : before ++ c.in-Some.method ∷ after ≡ c.args.given = ap (λ (gs : List GivenMethod). before ++ gs) (sym next) ∙ c.loop-method.invariant.rest in
    record {
      groups = grouped_more c.loop-method.groups c.add.new.groups before c.in-Some.method c.loop-method.invariant.groups c.in_ok-add.ensures.groups;
      few = omega (arith, length-append before (c.in-Some.method ∷ []), c.in_ok-add.ensures.few, c.loop-method.invariant.few);
      rest = append_assoc before (c.in-Some.method ∷ []) after ∙ whole;
    }
