use Rattle.std.proofs.Common.{◌≡◌, length}
use Rattle.ports.specs.Tree.{bytes_at}
use Rattle.ports.proofs.memory_tree.content_among.Given as goal

abbrev pub invariant-loop-rest : goal.invariant-loop-rest
invariant-loop-rest l = bytes_at l.rest l.path ≡ bytes_at l.files l.path

abbrev pub decreases-loop-rest : goal.decreases-loop-rest
decreases-loop-rest l = length l.rest
