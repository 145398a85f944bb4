use Rattle.std.proofs.Common.{◌≡◌}
use Rattle.std.specs.List.{flat_map}
use Rattle.ruby_items.specs.Parameters.{param_among}
use Rattle.ruby_items.proofs.parameters.params_among.Given as goal

abbrev pub invariant-loop-value : goal.invariant-loop-value
invariant-loop-value l = l.params ≡ flat_map param_among l.yielded
