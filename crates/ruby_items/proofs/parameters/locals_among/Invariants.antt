use Rattle.std.proofs.Common.{◌≡◌, take}
use Rattle.std.specs.List.{flat_map}
use Rattle.ruby_items.specs.Parameters.{local_among}
use Rattle.ruby_items.proofs.parameters.locals_among.Given as goal

abbrev pub invariant-loop-place : goal.invariant-loop-place
invariant-loop-place l = l.locals ≡ flat_map (local_among l.tokens) (take l.place-index l.leaves)
