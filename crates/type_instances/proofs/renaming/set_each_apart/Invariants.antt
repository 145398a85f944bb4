use Rattle.std.proofs.Common.{◌≡◌, take}
use Rattle.sig_rules.specs.Instances.{all_apart_from}
use Rattle.type_instances.specs.Variables.{outer}
use Rattle.type_instances.proofs.renaming.set_each_apart.Given as goal

abbrev pub invariant-loop-var : goal.invariant-loop-var
invariant-loop-var l = l.method ≡ all_apart_from (outer l.types l.names) (take l.var-index l.vars) l.fn.method
