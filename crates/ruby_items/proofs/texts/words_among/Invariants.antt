use Rattle.std.proofs.Common.{◌≡◌, take}
use Rattle.std.specs.List.{flat_map}
use Rattle.ruby_items.specs.Texts.{word_at}
use Rattle.ruby_items.proofs.texts.words_among.Given as goal

abbrev pub invariant-loop-place : goal.invariant-loop-place
invariant-loop-place l = l.words ≡ flat_map (word_at l.tokens) (take l.place-index l.leaves)
