use Rattle.std.proofs.Common.{◌≡◌, ◌++◌, map, take}
use Rattle.rbs_tree.specs.declared.decls.TypeParam.{TypeParam}
use Rattle.rbs_tree.specs.declared.types.Ty.TheVariants as t
use Rattle.ancestors.proofs.known_part.are_variables.Given as goal

abbrev pub invariant-loop-ty : goal.invariant-loop-ty
invariant-loop-ty l = map t.Var (map (λ (p : TypeParam). p.name) l.fn.params) ≡ take l.ty-index l.tys ++ map t.Var (map (λ (p : TypeParam). p.name) l.rest)
