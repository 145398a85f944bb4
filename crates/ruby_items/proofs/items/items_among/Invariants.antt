use Rattle.std.proofs.Common.{◌≡◌}
use Rattle.std.specs.List.{flat_map}
use Rattle.ruby_items.specs.Items.{item_among}
use Rattle.ruby_items.proofs.items.items_among.Given as goal

abbrev pub invariant-loop-value : goal.invariant-loop-value
invariant-loop-value l = l.items ≡ flat_map item_among l.yielded
