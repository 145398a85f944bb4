use Rattle.std.proofs.Common.{◌≡◌, length}
use Rattle.ruby_values.specs.Lists.{behind_front}
use Rattle.ruby_values.specs.Making.{first}
use Rattle.ruby_values.specs.Operators.{chained}
use Rattle.ruby_values.proofs.operators.operators.Given as goal

abbrev pub invariant-loop-rest : goal.invariant-loop-rest
invariant-loop-rest l = chained l.tokens l.left l.rest l.nodes ≡ chained l.tokens (first l.fn.nodes) l.leaves (behind_front l.fn.nodes)

abbrev pub decreases-loop-rest : goal.decreases-loop-rest
decreases-loop-rest l = length l.rest
