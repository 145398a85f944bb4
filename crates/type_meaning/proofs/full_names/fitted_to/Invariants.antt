use Rattle.std.proofs.Common.{◌≡◌, ◌-◌, ◌≤◌, length}
use Rattle.sig_rules.specs.Types.{fitted}
use Rattle.type_meaning.proofs.full_names.fitted_to.Given as goal

abbrev pub invariant-loop-fit : goal.invariant-loop-fit
invariant-loop-fit l = record {
  few : length l.fit.items ≤ l.count;
  same : fitted l.count l.fit.items ≡ fitted l.count l.fn.args;
}

abbrev pub decreases-loop-fit : goal.decreases-loop-fit
decreases-loop-fit l = l.count - length l.fit.items
