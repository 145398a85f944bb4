use Rattle.std.proofs.Common.{◌≡◌, map, take}
use Rattle.rbs_tree.specs.Substitution.{subst}
use Rattle.type_instances.proofs.instances.each_in_place.Given as goal

abbrev pub invariant-loop-ty : goal.invariant-loop-ty
invariant-loop-ty l = l.all ≡ map (subst l.vars l.by) (take l.ty-index l.tys)
