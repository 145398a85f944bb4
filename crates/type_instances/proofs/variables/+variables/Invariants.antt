use Rattle.std.proofs.Common.{◌≡◌, false, map, take}
use Rattle.sig_rules.specs.Instances.{is_in, in_row, variables}
use Rattle.type_instances.specs.Variables.{field_variables, param_variables, keyword_variables}
use Rattle.type_instances.proofs.variables.+variables.Given as goal

abbrev pub invariant-stands_in_some-loop-ty : goal.invariant-stands_in_some-loop-ty
invariant-stands_in_some-loop-ty l = is_in (in_row (map variables (take l.ty-index l.tys))) l.word ≡ false

abbrev pub invariant-stands_in_fields-loop-field : goal.invariant-stands_in_fields-loop-field
invariant-stands_in_fields-loop-field l = is_in (in_row (map field_variables (take l.field-index l.fields))) l.word ≡ false

abbrev pub invariant-stands_in_params-loop-param : goal.invariant-stands_in_params-loop-param
invariant-stands_in_params-loop-param l = is_in (in_row (map param_variables (take l.param-index l.params))) l.word ≡ false

abbrev pub invariant-stands_in_keywords-loop-keyword : goal.invariant-stands_in_keywords-loop-keyword
invariant-stands_in_keywords-loop-keyword l = is_in (in_row (map keyword_variables (take l.keyword-index l.keywords))) l.word ≡ false
