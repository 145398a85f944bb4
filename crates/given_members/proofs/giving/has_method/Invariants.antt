use Rattle.std.proofs.Common.{◌≡◌, [], length}
use Rattle.sig_rules.specs.declared.method.Visibility.{Visibility}
use Rattle.sig_rules.specs.Given.{given_methods_in}
use Rattle.given_members.proofs.giving.has_method.Given as goal

abbrev pub invariant-loop-rest : goal.invariant-loop-rest
invariant-loop-rest l = ((section : Visibility) → given_methods_in l.kind section l.rest ≡ []) → (section : Visibility) → given_methods_in l.kind section l.members ≡ []

abbrev pub decreases-loop-rest : goal.decreases-loop-rest
decreases-loop-rest l = length l.rest
