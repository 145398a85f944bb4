use Rattle.std.proofs.Common.{◌≤◌, drop, length}
use Rattle.sig_rules.specs.Methods.{variable_along}
use Rattle.line_members.specs.Along.{IsListed}
use Rattle.line_members.proofs.variables.variables_along.Given as goal

abbrev pub invariant-loop-at : goal.invariant-loop-at
invariant-loop-at g l = record {
  within : l.at ≤ length l.steps;
  listed : IsListed (variable_along (g.N.Names.all l.names) (drop l.start l.steps)) l.fn.behind → IsListed (variable_along (g.N.Names.all l.names) (drop l.at l.steps)) l.variables;
}

abbrev pub decreases-loop-at : goal.decreases-loop-at
decreases-loop-at g l = l.at
