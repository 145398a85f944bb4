use Rattle.std.proofs.Common.{◌≤◌, drop, length}
use Rattle.sig_rules.specs.Methods.{declared_along}
use Rattle.line_members.specs.Along.{IsListed}
use Rattle.line_members.proofs.methods.methods_along.Given as goal

abbrev pub invariant-loop-at : goal.invariant-loop-at
invariant-loop-at g l = record {
  within : l.at ≤ length l.steps;
  listed : IsListed (declared_along (g.N.Names.all l.names) (g.M.Making.made l.making) (drop l.start l.steps)) l.fn.behind → IsListed (declared_along (g.N.Names.all l.names) (g.M.Making.made l.making) (drop l.at l.steps)) l.methods;
}

abbrev pub decreases-loop-at : goal.decreases-loop-at
decreases-loop-at g l = l.at
