use Rattle.std.proofs.Common.{◌≡◌}
use Rattle.std.specs.List.{fold}
use Rattle.ruby_values.specs.Making.{first}
use Rattle.ruby_values.specs.Statements.{with_modifier}
use Rattle.ruby_values.proofs.statements.modified.Given as goal

abbrev pub invariant-loop-modifier : goal.invariant-loop-modifier
invariant-loop-modifier l = l.statement ≡ fold with_modifier (first l.fn.nodes) l.yielded
