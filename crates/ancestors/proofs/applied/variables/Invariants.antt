use Rattle.std.proofs.Common.{◌≡◌, map, take}
use Rattle.rbs_tree.specs.declared.types.Ty.TheVariants as t
use Rattle.ancestors.proofs.applied.variables.Given as goal

abbrev pub invariant-loop-name : goal.invariant-loop-name
invariant-loop-name l = l.tys ≡ map t.Var (take l.name-index l.names)
