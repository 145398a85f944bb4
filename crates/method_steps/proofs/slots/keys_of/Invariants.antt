use Rattle.std.proofs.Common.{◌≡◌, ◌+◌, List, ℕ, unwrap_or, drop}
use Rattle.sig_rules.specs.Worlds.{by_name}
use Rattle.method_steps.specs.Slots.{key}
use Rattle.method_steps.proofs.slots.keys_of.Given as goal

abbrev pub invariant-loop-place : goal.invariant-loop-place
invariant-loop-place l = (name : List ℕ) → unwrap_or (by_name l.keys name) (l.place + key (drop l.place l.given) name) ≡ key l.given name
