use Rattle.std.proofs.Common.{◌≡◌}
use Rattle.std.specs.List.{fold}
use Rattle.ruby_values.specs.Making.{first}
use Rattle.ruby_lowering.specs.Calls.{joined}
use Rattle.ruby_lowering.proofs.calls.linked.Given as goal

abbrev pub invariant-loop-link : goal.invariant-loop-link
invariant-loop-link l = l.receiver ≡ fold joined (first l.fn.nodes) l.yielded
