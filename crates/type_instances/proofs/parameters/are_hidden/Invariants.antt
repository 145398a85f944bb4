use Rattle.std.proofs.Common.{◌≡◌, false, take}
use Rattle.std.specs.List.{list_any}
use Rattle.sig_rules.specs.Instances.{is_in}
use Rattle.type_instances.proofs.parameters.are_hidden.Given as goal

abbrev pub invariant-loop-name : goal.invariant-loop-name
invariant-loop-name l = list_any (is_in l.own) (take l.name-index l.params) ≡ false
