use Rattle.std.proofs.Common.{◌≡◌, take}
use Rattle.sig_rules.proofs.own.copy_refs.Given as goal

abbrev pub invariant-loop-target : goal.invariant-loop-target
invariant-loop-target l = l.copy ≡ take l.target-index l.refs
