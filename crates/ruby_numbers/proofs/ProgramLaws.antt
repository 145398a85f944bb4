-- What holds of the numbers of every program.
use Rattle.ruby_tree.specs.declared.nodes.Node.{Node}
use Rattle.ruby_numbers.specs.Laws.{HasEachOnce, IsNumbered, numbers_in}
use Rattle.ruby_numbers.specs.Numbers.{node_numbered}
use Rattle.ruby_numbers.proofs.EachOnce.{distinct}
use Rattle.ruby_numbers.proofs.InOrder.{is_numbered}

pub programs_numbered : (root : Node) → IsNumbered (record { root = (node_numbered root 0).0 })
programs_numbered root = is_numbered root

pub programs_distinct : (root : Node) → HasEachOnce (record { root = (node_numbered root 0).0 })
programs_distinct root = distinct (numbers_in (node_numbered root 0).0) 0 (is_numbered root)
