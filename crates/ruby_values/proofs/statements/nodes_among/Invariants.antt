use Rattle.std.proofs.Common.{◌≡◌}
use Rattle.std.specs.List.{flat_map}
use Rattle.ruby_values.specs.Statements.{node_among}
use Rattle.ruby_values.proofs.statements.nodes_among.Given as goal

abbrev pub invariant-loop-value : goal.invariant-loop-value
invariant-loop-value l = l.nodes ≡ flat_map node_among l.yielded
