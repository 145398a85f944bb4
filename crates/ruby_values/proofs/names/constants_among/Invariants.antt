use Rattle.std.proofs.Common.{◌≡◌, take}
use Rattle.std.specs.List.{flat_map}
use Rattle.ruby_values.specs.Names.{constant_at}
use Rattle.ruby_values.proofs.names.constants_among.Given as goal

abbrev pub invariant-loop-place : goal.invariant-loop-place
invariant-loop-place l = l.words ≡ flat_map (constant_at l.tokens) (take l.place-index l.leaves)
