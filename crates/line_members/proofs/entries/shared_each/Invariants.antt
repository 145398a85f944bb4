use Rattle.std.proofs.Common.{◌≡◌, ◌++◌}
use Rattle.line_members.proofs.entries.shared_each.Given as goal

abbrev pub invariant-loop-entry : goal.invariant-loop-entry
invariant-loop-entry g l = l.shared ++ l.entry-iterator.rest.items ≡ l.fn.entries
