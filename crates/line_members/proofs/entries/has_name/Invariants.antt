use Rattle.std.proofs.Common.{◌≡◌, length}
use Rattle.std.specs.Option.{is_some}
use Rattle.sig_rules.specs.Worlds.{by_name}
use Rattle.line_members.proofs.entries.has_name.Given as goal

abbrev pub invariant-loop-rest : goal.invariant-loop-rest
invariant-loop-rest g l = is_some (by_name l.rest l.name) ≡ is_some (by_name l.names l.name)

abbrev pub decreases-loop-rest : goal.decreases-loop-rest
decreases-loop-rest g l = length l.rest
