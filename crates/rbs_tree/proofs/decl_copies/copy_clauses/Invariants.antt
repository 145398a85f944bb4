use Rattle.std.proofs.Common.{◌≡◌, take}
use Rattle.rbs_tree.proofs.decl_copies.copy_clauses.Given as goal

abbrev pub invariant-loop-clause : goal.invariant-loop-clause
invariant-loop-clause l = l.copy ≡ take l.clause-index l.clauses
