use Rattle.std.proofs.Common.{◌≡◌, ◌++◌}
use Rattle.ruby_items.proofs.texts.add_parts.Given as goal

abbrev pub invariant-loop-part : goal.invariant-loop-part
invariant-loop-part l = l.parts ≡ l.fn.parts ++ l.yielded
