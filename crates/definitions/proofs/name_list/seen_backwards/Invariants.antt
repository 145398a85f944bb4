use Rattle.std.proofs.Common.{length}
use Rattle.definitions.proofs.NameLemmas.{Seen}
use Rattle.definitions.proofs.name_list.seen_backwards.Given as goal

abbrev pub invariant-loop-path : goal.invariant-loop-path
invariant-loop-path l = Seen l.fn.paths l.rest.items l.seen.keys

abbrev pub decreases-loop-path : goal.decreases-loop-path
decreases-loop-path l = length l.rest.items
