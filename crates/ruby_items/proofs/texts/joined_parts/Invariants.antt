use Rattle.std.proofs.Common.{◌≡◌, []}
use Rattle.std.specs.List.{fold}
use Rattle.ruby_items.specs.Texts.{join}
use Rattle.ruby_items.proofs.texts.joined_parts.Given as goal

abbrev pub invariant-loop-part : goal.invariant-loop-part
invariant-loop-part l = l.joining ≡ fold join (record { done = []; run = [] }) l.yielded
