use Rattle.std.proofs.Common.{List, arith, sym, subst, ◌<◌}
use Rattle.sig_rules.specs.declared.line.Step.{Step}
use Rattle.sig_rules.specs.Methods.{declared_along}
use Rattle.line_members.specs.Along.{IsListed}
use Rattle.line_members.proofs.AlongLemmas.{from_before}
use Rattle.line_members.proofs.methods.methods_along.Goals as goal

pub loop-at-preserved : goal.loop-at-preserved
loop-at-preserved g c =
    let within = c.loop-at.invariant.within in
    let some : 0 < c.loop-at.at = c.loop-at-test.true in record {
      within = omega arith;
      listed = λ behind. from_before (λ (steps : List Step). IsListed (declared_along (g.N.Names.all c.args.names.now) (g.M.Making.made c.args.making.now) steps) c.in_ok-methods.methods)
          c.args.steps.now c.loop-at.at some within
          (λ step rest is same. c.in_ok-methods.ensures step rest is
          (subst (λ (steps : List Step). IsListed (declared_along (g.N.Names.all c.args.names.now) (g.M.Making.made c.args.making.now) steps) c.loop-at.methods) (sym same) (c.loop-at.invariant.listed behind)));
    }
