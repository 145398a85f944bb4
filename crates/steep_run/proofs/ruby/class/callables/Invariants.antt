use Rattle.std.proofs.Common.{◌≡◌, ℕ, List, length}
use Rattle.std.specs.Option.{option_map, option_or}
use Rattle.sig_rules.specs.Worlds.{by_name}
use Rattle.steep_run.specs.Reading.{callable_of}
use Rattle.steep_run.proofs.ruby.class.callables.Given as goal

abbrev pub invariant-loop-rest : goal.invariant-loop-rest
invariant-loop-rest l = (name : List ℕ) → option_or (by_name l.table name) (option_map callable_of (by_name l.rest name)) ≡ option_map callable_of (by_name l.methods name)

abbrev pub decreases-loop-rest : goal.decreases-loop-rest
decreases-loop-rest l = length l.rest
