use Rattle.std.proofs.Common.{◌≡◌, ◌&&◌, length}
use Rattle.steep_run.specs.Small.{all_distinct, method_name, words_by}
use Rattle.steep_run.specs.Reading.{is_apart}
use Rattle.steep_run.proofs.distinct.has_distinct_methods.Given as goal

abbrev pub invariant-loop-rest : goal.invariant-loop-rest
invariant-loop-rest l = (is_apart l.names (words_by method_name l.rest) && all_distinct (words_by method_name l.rest)) ≡ all_distinct (words_by method_name l.members)

abbrev pub decreases-loop-rest : goal.decreases-loop-rest
decreases-loop-rest l = length l.rest
