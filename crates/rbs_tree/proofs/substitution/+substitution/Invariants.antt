use Rattle.std.proofs.Common.{◌≡◌, map, take}
use Rattle.rbs_tree.specs.Substitution.{subst, subst_field, subst_param, subst_keyword}
use Rattle.rbs_tree.proofs.substitution.+substitution.Given as goal

abbrev pub invariant-subst_tys-loop-ty : goal.invariant-subst_tys-loop-ty
invariant-subst_tys-loop-ty l = l.done ≡ map (subst l.vars l.by) (take l.ty-index l.tys)

abbrev pub invariant-subst_fields-loop-field : goal.invariant-subst_fields-loop-field
invariant-subst_fields-loop-field l = l.done ≡ map (subst_field l.vars l.by) (take l.field-index l.fields)

abbrev pub invariant-subst_params-loop-param : goal.invariant-subst_params-loop-param
invariant-subst_params-loop-param l = l.done ≡ map (subst_param l.vars l.by) (take l.param-index l.params)

abbrev pub invariant-subst_keywords-loop-keyword : goal.invariant-subst_keywords-loop-keyword
invariant-subst_keywords-loop-keyword l = l.done ≡ map (subst_keyword l.vars l.by) (take l.keyword-index l.keywords)
