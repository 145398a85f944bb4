use Rattle.std.proofs.Common.{◌≡◌, map}
use Rattle.ruby_items.specs.Items.{plain_item}
use Rattle.ruby_items.proofs.items.plain_items.Given as goal

abbrev pub invariant-loop-placed : goal.invariant-loop-placed
invariant-loop-placed l = l.plain ≡ map plain_item l.yielded
