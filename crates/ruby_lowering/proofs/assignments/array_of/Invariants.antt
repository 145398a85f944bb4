use Rattle.std.proofs.Common.{◌≡◌, map}
use Rattle.ruby_tree.specs.declared.parts.Item.TheVariants as item
use Rattle.ruby_lowering.proofs.assignments.array_of.Given as goal

abbrev pub invariant-loop-value : goal.invariant-loop-value
invariant-loop-value l = l.items ≡ map item.Value l.yielded
