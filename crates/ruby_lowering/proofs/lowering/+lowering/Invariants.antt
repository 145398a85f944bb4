use Rattle.std.proofs.Common.{◌≡◌, map, take}
use Rattle.ruby_lowering.specs.Lowering.{lowered}
use Rattle.ruby_lowering.proofs.lowering.+lowering.Given as goal

abbrev pub invariant-lowered_trees-loop-tree : goal.invariant-lowered_trees-loop-tree
invariant-lowered_trees-loop-tree l = l.values ≡ map (lowered l.tokens) (take l.tree-index l.trees)
