use Rattle.std.proofs.Common.{◌≡◌, take}
use Rattle.sig_rules.specs.Sorted.{paths_of}
use Rattle.sig_rules.proofs.places.Places.of.Given as goal

abbrev pub invariant-loop-name : goal.invariant-loop-name
invariant-loop-name l = l.by_words.keys ≡ paths_of (take l.name-index l.names)
