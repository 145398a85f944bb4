use Rattle.std.proofs.Common.{◌≡◌, ℕ, ◌≤◌, ◌<◌, true}
use Rattle.sig_rules.specs.Instances.{is_in, numbered}
use Rattle.type_instances.specs.Variables.{outer, taken}
use Rattle.type_instances.proofs.free_names.free_name.Given as goal

abbrev pub invariant-loop-number : goal.invariant-loop-number
invariant-loop-number l = (k : ℕ) → 1 ≤ k → k < l.number → is_in (taken (outer l.types l.names) l.method) (numbered l.var k) ≡ true
