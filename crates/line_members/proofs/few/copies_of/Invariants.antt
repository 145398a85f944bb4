use Rattle.std.proofs.Common.{◌≡◌, ℕ, List, true, length}
use Rattle.std.specs.Option.{is_some}
use Rattle.sig_rules.specs.Worlds.{by_name}
use Rattle.line_members.specs.Along.{or_behind}
use Rattle.line_members.proofs.few.copies_of.Given as goal

abbrev pub invariant-loop-rest : goal.invariant-loop-rest
invariant-loop-rest l = (name : List ℕ) → is_some (by_name l.names name) ≡ true → or_behind (by_name l.copies name) (by_name l.rest name) ≡ by_name l.methods name

abbrev pub decreases-loop-rest : goal.decreases-loop-rest
decreases-loop-rest l = length l.rest
