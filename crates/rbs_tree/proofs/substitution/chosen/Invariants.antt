use Rattle.std.proofs.Common.{◌≡◌, length}
use Rattle.rbs_tree.specs.Substitution.{chosen}
use Rattle.rbs_tree.proofs.substitution.chosen.Given as goal

abbrev pub invariant-loop-names : goal.invariant-loop-names
invariant-loop-names l = record {
  paired : length l.names ≡ length l.types;
  left : chosen l.names l.types l.name ≡ chosen l.vars l.by l.name;
}

abbrev pub decreases-loop-names : goal.decreases-loop-names
decreases-loop-names l = length l.names
