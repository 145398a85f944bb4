use Rattle.std.proofs.Common.{◌≡◌}
use Rattle.std.specs.List.{fold}
use Rattle.ruby_items.specs.Items.{sort, unsorted}
use Rattle.ruby_items.proofs.items.sorted.Given as goal

abbrev pub invariant-loop-placed : goal.invariant-loop-placed
invariant-loop-placed l = l.sorted ≡ fold sort unsorted l.yielded
