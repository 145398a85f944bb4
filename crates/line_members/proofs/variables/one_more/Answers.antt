use Rattle.std.proofs.Common.{◌≡◌, ◌∙◌, ap}
use Rattle.sig_rules.specs.declared.line.Step.{Step}
use Rattle.sig_rules.specs.Given.{given_variables}
use Rattle.sig_rules.specs.Methods.{applied_of}
use Rattle.line_members.proofs.AlongLemmas.{if_ok, is_first}
use Rattle.line_members.proofs.VariableLemmas.{one_more}
use Rattle.line_members.proofs.variables.one_more.Goals as goal

pub returns-in_ok-given-in-len1-up : goal.returns-in_ok-given-in-len1-up
returns-in_ok-given-in-len1-up g c step rest is listed =
    let first : c.step-item.result ≡ step = is_first _ _ _ _ is c.step-item.is in
    if_ok _ (λ variables from. one_more (g.N.Names.all c.args.names.now) step rest _ variables _
    (c.in_ok-given-in-len1-up.ensures ∙ ap (λ (s : Step). given_variables (g.N.Names.all c.args.names.now) (applied_of (g.N.Names.all c.args.names.now) s) s.kind) (c.get.ensures ∙ first))
    listed from) (c.with_given.ensures listed.once)
