use Rattle.std.proofs.Common.{◌≡◌, false, take}
use Rattle.std.specs.List.{list_any}
use Rattle.sig_rules.specs.Instances.{is_in}
use Rattle.type_instances.specs.Variables.{outer}
use Rattle.type_instances.proofs.renaming.has_outer.Given as goal

abbrev pub invariant-loop-var : goal.invariant-loop-var
invariant-loop-var l = list_any (is_in (outer l.types l.names)) (take l.var-index l.vars) ≡ false
