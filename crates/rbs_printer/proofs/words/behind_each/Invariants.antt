use Rattle.std.proofs.Common.{◌≡◌, ◌++◌, length}
use Rattle.rbs_printer.specs.Words.{behind_each}
use Rattle.rbs_printer.proofs.words.behind_each.Given as goal

abbrev pub invariant-loop-rest : goal.invariant-loop-rest
invariant-loop-rest l = l.out ++ behind_each l.sign l.rest ≡ l.fn.out ++ behind_each l.sign l.words

abbrev pub decreases-loop-rest : goal.decreases-loop-rest
decreases-loop-rest l = length l.rest
