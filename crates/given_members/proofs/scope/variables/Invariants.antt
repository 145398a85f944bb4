use Rattle.std.proofs.Common.{◌≡◌, map, take}
use Rattle.rbs_tree.specs.declared.types.Ty.TheVariants.{Var}
use Rattle.given_members.proofs.scope.variables.Given as goal

abbrev pub invariant-loop-name : goal.invariant-loop-name
invariant-loop-name l = l.types ≡ map Var (take l.name-index l.names)
