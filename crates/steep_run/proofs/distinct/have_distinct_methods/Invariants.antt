use Rattle.std.proofs.Common.{◌≡◌, length}
use Rattle.std.specs.List.{list_all}
use Rattle.steep_run.specs.Small.{has_distinct_methods}
use Rattle.steep_run.proofs.distinct.have_distinct_methods.Given as goal

abbrev pub invariant-loop-rest : goal.invariant-loop-rest
invariant-loop-rest l = list_all has_distinct_methods l.rest ≡ list_all has_distinct_methods l.tree

abbrev pub decreases-loop-rest : goal.decreases-loop-rest
decreases-loop-rest l = length l.rest
