use Rattle.std.proofs.Common.{◌≡◌, take}
use Rattle.rbs_tree.proofs.copies.+copies.Given as goal

abbrev pub invariant-copy_tys-loop-ty : goal.invariant-copy_tys-loop-ty
invariant-copy_tys-loop-ty l = l.copy ≡ take l.ty-index l.tys

abbrev pub invariant-copy_fields-loop-field : goal.invariant-copy_fields-loop-field
invariant-copy_fields-loop-field l = l.copy ≡ take l.field-index l.fields

abbrev pub invariant-copy_params-loop-param : goal.invariant-copy_params-loop-param
invariant-copy_params-loop-param l = l.copy ≡ take l.param-index l.params

abbrev pub invariant-copy_keywords-loop-keyword : goal.invariant-copy_keywords-loop-keyword
invariant-copy_keywords-loop-keyword l = l.copy ≡ take l.keyword-index l.keywords
