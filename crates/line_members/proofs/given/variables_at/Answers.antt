use Rattle.std.proofs.Common.{rules, ◌≡◌, ◌∙◌, false, sym}
use Rattle.sig_rules.specs.Methods.{applied_of}
use Rattle.line_members.proofs.given.variables_at.Goals as goal

-- the step's declarations give none
pub returns-then-not-may_give_variables : goal.returns-then-not-may_give_variables
returns-then-not-may_give_variables g c =
    let none : c.may_give_variables.result ≡ false = search rules in
    c.new.ensures ∙ sym (c.may_give_variables.ensures none (applied_of (g.N.Names.all c.args.names.now) c.args.step.now).args)
