use Rattle.std.proofs.Common.{◌≡◌, ◌≤◌, ◌+◌, ◌*◌, ◌++◌, length, reverse}
use Rattle.ruby_grammar.specs.Cells.{last_of, list_at, lists_of}
use Rattle.ruby_grammar.proofs.forest.+put.Given as goal

abbrev pub decreases-made_of : goal.decreases-made_of
decreases-made_of l = 2 * length l.cells.now + 1

abbrev pub decreases-put : goal.decreases-put
decreases-put l = 2 * length l.cells.now

abbrev pub invariant-put-left : goal.invariant-put-left
invariant-put-left l = record {
  out : l.out.items ++ reverse (last_of l.left (list_at (lists_of l.known) l.number)) ≡ l.fn.out.items ++ reverse (last_of l.fn.count (list_at (lists_of l.fn.cells) l.fn.last));
  within : length l.known ≤ length l.fn.cells;
}

abbrev pub decreases-put-left : goal.decreases-put-left
decreases-put-left l = l.left
