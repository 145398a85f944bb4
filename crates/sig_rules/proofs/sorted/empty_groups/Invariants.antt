use Rattle.std.proofs.Common.{◌≡◌, [], map, take}
use Rattle.rbs_tree.specs.declared.names.TypeName.{TypeName}
use Rattle.sig_rules.proofs.sorted.empty_groups.Given as goal

abbrev pub invariant-loop-name : goal.invariant-loop-name
invariant-loop-name l = l.groups.items ≡ map (λ (n : TypeName). []) (take l._name-index l.names)
