use Rattle.std.proofs.Common.{◌≡◌, length}
use Rattle.sig_rules.specs.Worlds.{by_name}
use Rattle.line_members.proofs.entries.method_named.Given as goal

abbrev pub invariant-loop-rest : goal.invariant-loop-rest
invariant-loop-rest l = by_name l.rest l.name ≡ by_name l.methods l.name

abbrev pub decreases-loop-rest : goal.decreases-loop-rest
decreases-loop-rest l = length l.rest
