use Rattle.std.proofs.Common.{◌≡◌, [], length}
use Rattle.std.specs.List.{flat_map}
use Rattle.sig_rules.specs.Given.{given_variables_of}
use Rattle.given_members.proofs.giving.has_variable.Given as goal

abbrev pub invariant-loop-rest : goal.invariant-loop-rest
invariant-loop-rest l = flat_map (given_variables_of l.kind) l.rest ≡ [] → flat_map (given_variables_of l.kind) l.members ≡ []

abbrev pub decreases-loop-rest : goal.decreases-loop-rest
decreases-loop-rest l = length l.rest
