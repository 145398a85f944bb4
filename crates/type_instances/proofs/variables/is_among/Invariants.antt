use Rattle.std.proofs.Common.{◌≡◌, false, take}
use Rattle.sig_rules.specs.Instances.{is_in}
use Rattle.type_instances.proofs.variables.is_among.Given as goal

abbrev pub invariant-loop-other : goal.invariant-loop-other
invariant-loop-other l = is_in (take l.other-index l.words) l.word ≡ false
