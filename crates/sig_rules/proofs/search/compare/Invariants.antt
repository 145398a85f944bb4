use Rattle.std.proofs.Common.{◌≡◌, ◌++◌, length}
use Rattle.sig_rules.specs.Sorted.{path_cmp}
use Rattle.sig_rules.proofs.search.compare.Given as goal

abbrev pub invariant-loop-before : goal.invariant-loop-before
invariant-loop-before l = path_cmp l.words (l.before ++ l.back) ≡ path_cmp l.fn.path (l.fn.front ++ l.fn.back)

abbrev pub decreases-loop-before : goal.decreases-loop-before
decreases-loop-before l = length l.before
