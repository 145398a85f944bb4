use Rattle.std.proofs.Common.{◌≡◌, length}
use Rattle.ports.specs.Tree.{is_file_map}
use Rattle.ports.proofs.memory_tree.is_file_map.Given as goal

abbrev pub invariant-loop-rest : goal.invariant-loop-rest
invariant-loop-rest l = is_file_map l.rest ≡ is_file_map l.files

abbrev pub decreases-loop-rest : goal.decreases-loop-rest
decreases-loop-rest l = length l.rest
