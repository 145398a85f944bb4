use Rattle.std.proofs.Common.{◌≡◌, map, take, nat_eq, if◌then◌else◌}
use Rattle.std.specs.Cmp.Lexicographic.{pointwise}
use Rattle.type_instances.proofs.renaming.renamed_vars.Given as goal

abbrev pub invariant-loop-other : goal.invariant-loop-other
invariant-loop-other l = l.all ≡ map (λ other. if pointwise nat_eq l.var other then l.name else other) (take l.other-index l.vars)
