use Rattle.std.proofs.Common.{◌≡◌, ◌++◌, length}
use Rattle.type_instances.specs.Variables.{shown_names, shown_types}
use Rattle.type_instances.proofs.parameters.shown_parameters.Given as goal

abbrev pub invariant-loop-names : goal.invariant-loop-names
invariant-loop-names l = record {
  names : l.shown.names ++ shown_names l.own l.names l.types ≡ shown_names l.own l.params l.args;
  types : l.shown.types ++ shown_types l.own l.names l.types ≡ shown_types l.own l.params l.args;
  paired : length l.shown.names ≡ length l.shown.types;
}

abbrev pub decreases-loop-names : goal.decreases-loop-names
decreases-loop-names l = length l.names
