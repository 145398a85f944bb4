use Rattle.std.proofs.Common.{◌≡◌, ◌&&◌, length}
use Rattle.steep_run.specs.Small.{all_distinct, class_word, words_by}
use Rattle.steep_run.specs.Reading.{is_apart}
use Rattle.steep_run.proofs.distinct.has_distinct_classes.Given as goal

abbrev pub invariant-loop-rest : goal.invariant-loop-rest
invariant-loop-rest l = (is_apart l.names (words_by class_word l.rest) && all_distinct (words_by class_word l.rest)) ≡ all_distinct (words_by class_word l.tree)

abbrev pub decreases-loop-rest : goal.decreases-loop-rest
decreases-loop-rest l = length l.rest
