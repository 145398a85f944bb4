use Rattle.std.proofs.Common.{◌≡◌, ◌++◌, length}
use Rattle.sig_rules.specs.Declarations.{same_path}
use Rattle.sig_rules.proofs.words.has_words.Given as goal

abbrev pub invariant-loop-before : goal.invariant-loop-before
invariant-loop-before l = same_path (l.before ++ l.back) l.words ≡ same_path (l.fn.front ++ l.fn.back) l.fn.path

abbrev pub decreases-loop-before : goal.decreases-loop-before
decreases-loop-before l = length l.before
