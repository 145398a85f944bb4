use Rattle.std.proofs.Common.{List, IfOk, refl, subst}
use Rattle.sig_rules.specs.declared.line.Step.{Step}
use Rattle.sig_rules.specs.Methods.{declared_along, nothing_made}
use Rattle.line_members.specs.Along.{IsListed}
use Rattle.line_members.proofs.AlongLemmas.{nothing_declared}
use Rattle.line_members.proofs.new_made.instance_methods.Goals as goal

pub returns : goal.returns
returns g c =
    subst (λ (ss : List Step). IfOk c.methods_along.result (IsListed (declared_along (g.L.Names.all c.args.lines.now) nothing_made ss))) c.steps_of-steps.ensures
    (c.methods_along.ensures (nothing_declared (g.L.Names.all c.args.lines.now) nothing_made c.steps_of-steps.result.now _ c.new.result refl c.new.ensures))
