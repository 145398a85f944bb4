use Rattle.std.proofs.Common.{◌≡◌}
use Rattle.std.specs.List.{flat_map}
use Rattle.ruby_items.specs.Texts.{parts_of}
use Rattle.ruby_items.proofs.texts.parts_among.Given as goal

abbrev pub invariant-loop-value : goal.invariant-loop-value
invariant-loop-value l = l.parts ≡ flat_map (parts_of l.tokens) l.yielded
