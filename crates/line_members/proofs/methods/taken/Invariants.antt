use Rattle.std.proofs.Common.{take}
use Rattle.std.specs.Option.{is_some}
use Rattle.sig_rules.specs.Worlds.{by_name}
use Rattle.line_members.specs.Along.{IsTaken}
use Rattle.line_members.proofs.methods.taken.Given as goal

abbrev pub invariant-loop-entry : goal.invariant-loop-entry
invariant-loop-entry l = IsTaken (by_name l.fn.found) (λ name. is_some (by_name (take l.entry-index l.names) name)) l.own l.found
