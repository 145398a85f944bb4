use Rattle.std.proofs.Common.{List, arith, sym, subst, ◌<◌}
use Rattle.sig_rules.specs.declared.line.Step.{Step}
use Rattle.sig_rules.specs.Methods.{variable_along}
use Rattle.line_members.specs.Along.{IsListed}
use Rattle.line_members.proofs.AlongLemmas.{from_before}
use Rattle.line_members.proofs.variables.variables_along.Goals as goal

pub loop-at-preserved : goal.loop-at-preserved
loop-at-preserved g c =
    let within = c.loop-at.invariant.within in
    let some : 0 < c.loop-at.at = c.loop-at-test.true in record {
      within = omega arith;
      listed = λ behind. from_before (λ (steps : List Step). IsListed (variable_along (g.N.Names.all c.args.names.now) steps) c.in_ok-variables.variables)
          c.args.steps.now c.loop-at.at some within
          (λ step rest is same. c.in_ok-variables.ensures step rest is
          (subst (λ (steps : List Step). IsListed (variable_along (g.N.Names.all c.args.names.now) steps) c.loop-at.variables) (sym same) (c.loop-at.invariant.listed behind)));
    }
