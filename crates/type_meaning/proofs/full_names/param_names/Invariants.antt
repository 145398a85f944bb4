use Rattle.std.proofs.Common.{◌≡◌, map, take}
use Rattle.rbs_tree.specs.declared.decls.TypeParam.{TypeParam}
use Rattle.type_meaning.proofs.full_names.param_names.Given as goal

abbrev pub invariant-loop-param : goal.invariant-loop-param
invariant-loop-param l = l.names ≡ map (λ (p : TypeParam). p.name) (take l.param-index l.params)
