use Rattle.std.proofs.Common.{◌≡◌, ◌++◌, length}
use Rattle.line_members.proofs.entries.shared.Given as goal

abbrev pub invariant-loop-rest : goal.invariant-loop-rest
invariant-loop-rest g l = l.same.items ++ l.rest ≡ l.entries

abbrev pub decreases-loop-rest : goal.decreases-loop-rest
decreases-loop-rest g l = length l.rest
