use Rattle.std.proofs.Common.{subst}
use Rattle.steep_run.specs.Signature.{SignatureGives}
use Rattle.steep_run.proofs.check.checked.Goals as goal

pub checked_over-requires-clause-gives : goal.checked_over-requires-clause-gives
checked_over-requires-clause-gives c = subst (λ text. SignatureGives text c.in_ok-found.found.tree c.in_ok-found.found.faults) c.as_str.ensures c.in_ok-found.ensures
