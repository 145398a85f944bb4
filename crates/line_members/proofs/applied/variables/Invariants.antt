use Rattle.std.proofs.Common.{◌≡◌, map, take}
use Rattle.rbs_tree.specs.declared.decls.TypeParam.{TypeParam}
use Rattle.rbs_tree.specs.declared.types.Ty.TheVariants as t
use Rattle.line_members.proofs.applied.variables.Given as goal

abbrev pub invariant-loop-param : goal.invariant-loop-param
invariant-loop-param l = l.args ≡ map (λ (p : TypeParam). t.Var p.name) (take l.param-index l.params)
