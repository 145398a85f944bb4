use Rattle.std.proofs.Common.{◌≡◌, ◌++◌, length}
use Rattle.ruby_grammar.specs.Firsts as spec
use Rattle.ruby_grammar.proofs.firsts.union.Given as goal

abbrev pub invariant-kinds : goal.invariant-kinds
invariant-kinds l = spec.union l.first l.second ≡ l.table ++ spec.union l.ones l.others

abbrev pub decreases-kinds : goal.decreases-kinds
decreases-kinds l = length l.ones
