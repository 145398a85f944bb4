use Rattle.std.proofs.Common.{◌≡◌, ◌∙◌, ◌∷◌, ◌++◌, [], List, rules, ap, sym, append_assoc}
use Rattle.sig_rules.specs.declared.given.GivenVariable.{GivenVariable}
use Rattle.sig_rules.specs.Worlds.{by_name}
use Rattle.line_members.proofs.VariableLemmas.{one_more_variable}
use Rattle.line_members.proofs.variables.with_new.Goals as goal

pub loop-variable-preserved : goal.loop-variable-preserved
loop-variable-preserved c =
    let before = c.loop-variable.yielded in
    let after = c.next.new.self.rest.items in
    let next : c.loop-variable.variable-iterator.rest.items ≡ c.in-Some.variable ∷ after = search rules in
    let whole : before ++ c.in-Some.variable ∷ after ≡ c.args.given = ap (λ (vs : List GivenVariable). before ++ vs) (sym next) ∙ c.loop-variable.invariant.rest in
    record {
      found = one_more_variable (by_name c.args.variables) (by_name c.loop-variable.all) (by_name c.put_new.new.all) before c.in-Some.variable c.loop-variable.invariant.found c.in_ok-put_new.ensures;
      rest = append_assoc before (c.in-Some.variable ∷ []) after ∙ whole;
    }
