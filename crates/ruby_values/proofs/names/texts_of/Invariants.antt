use Rattle.std.proofs.Common.{◌≡◌, take}
use Rattle.std.specs.List.{flat_map}
use Rattle.ruby_values.specs.Places.{text_at}
use Rattle.ruby_values.proofs.names.texts_of.Given as goal

abbrev pub invariant-loop-place : goal.invariant-loop-place
invariant-loop-place l = l.all ≡ flat_map (text_at l.tokens) (take l.place-index l.leaves)
