use Rattle.std.proofs.Common.{◌≡◌, ◌++◌, ◌∷◌, []}
use Rattle.ruby_tree.specs.declared.nodes.NodeKind.TheVariants as kind
use Rattle.ruby_tree.specs.declared.parts.Item.TheVariants as item
use Rattle.ruby_values.specs.Making.{node}
use Rattle.ruby_items.proofs.items.joined_elements.Given as goal

abbrev pub invariant-loop-item : goal.invariant-loop-item
invariant-loop-item l = l.before ≡ (l.fn.sorted.before ++ item.Value (node l.fn.sorted.at (kind.HashOf l.fn.sorted.keyed)) ∷ []) ++ l.yielded
