use Rattle.std.proofs.Common.{◌≡◌, refl}
use Rattle.rbs_tree.specs.declared.types.Ty.TheFolds.{fold_out-Field, fold_out-Param, fold_out-Keyword}
use Rattle.sig_rules.specs.Instances.{Words, variables, variables_step, in_block, in_field, in_keyword, in_function, in_param}
use Rattle.rbs_tree.specs.declared.types.Field.{Field}
use Rattle.rbs_tree.specs.declared.types.Param.{Param}
use Rattle.rbs_tree.specs.declared.types.Keyword.{Keyword}
use Rattle.type_instances.specs.Variables.{field_variables, param_variables, keyword_variables}
use Rattle.type_instances.proofs.WordLemmas.{row-more, row-at}
use Rattle.type_instances.proofs.variables.+variables.Goals as goal

field-part : (f : Field) → field_variables f ≡ variables f.ty
field-part f = fold_out-Field Words Words Words Words Words Words variables_step in_block in_field in_keyword in_function in_param f

param-part : (p : Param) → param_variables p ≡ variables p.ty
param-part p = fold_out-Param Words Words Words Words Words Words variables_step in_block in_field in_keyword in_function in_param p

keyword-part : (k : Keyword) → keyword_variables k ≡ variables k.ty
keyword-part k = fold_out-Keyword Words Words Words Words Words Words variables_step in_block in_field in_keyword in_function in_param k

pub stands_in_some-returns-then-stands_in : goal.stands_in_some-returns-then-stands_in
stands_in_some-returns-then-stands_in t c = row-at variables c.args.tys.now _ c.ty-item.result (variables c.ty-item.result) _ _ c.loop-ty-test.true c.ty-item.is refl c.stands_in.ensures c.if-stands_in.true

pub stands_in_some-loop-ty-preserved : goal.stands_in_some-loop-ty-preserved
stands_in_some-loop-ty-preserved t c = row-more variables c.args.tys.now _ c.ty-item.result (variables c.ty-item.result) _ _ c.loop-ty-test.true c.ty-item.is refl c.loop-ty.invariant c.stands_in.ensures c.if-stands_in.false

pub stands_in_fields-returns-then-stands_in : goal.stands_in_fields-returns-then-stands_in
stands_in_fields-returns-then-stands_in t c = row-at field_variables c.args.fields.now _ c.field-item.result (variables c.field-item.result.ty) _ _ c.loop-field-test.true c.field-item.is (field-part c.field-item.result) c.stands_in.ensures c.if-stands_in.true

pub stands_in_fields-loop-field-preserved : goal.stands_in_fields-loop-field-preserved
stands_in_fields-loop-field-preserved t c = row-more field_variables c.args.fields.now _ c.field-item.result (variables c.field-item.result.ty) _ _ c.loop-field-test.true c.field-item.is (field-part c.field-item.result) c.loop-field.invariant c.stands_in.ensures c.if-stands_in.false

pub stands_in_params-returns-then-stands_in : goal.stands_in_params-returns-then-stands_in
stands_in_params-returns-then-stands_in t c = row-at param_variables c.args.params.now _ c.param-item.result (variables c.param-item.result.ty) _ _ c.loop-param-test.true c.param-item.is (param-part c.param-item.result) c.stands_in.ensures c.if-stands_in.true

pub stands_in_params-loop-param-preserved : goal.stands_in_params-loop-param-preserved
stands_in_params-loop-param-preserved t c = row-more param_variables c.args.params.now _ c.param-item.result (variables c.param-item.result.ty) _ _ c.loop-param-test.true c.param-item.is (param-part c.param-item.result) c.loop-param.invariant c.stands_in.ensures c.if-stands_in.false

pub stands_in_keywords-returns-then-stands_in : goal.stands_in_keywords-returns-then-stands_in
stands_in_keywords-returns-then-stands_in t c = row-at keyword_variables c.args.keywords.now _ c.keyword-item.result (variables c.keyword-item.result.ty) _ _ c.loop-keyword-test.true c.keyword-item.is (keyword-part c.keyword-item.result) c.stands_in.ensures c.if-stands_in.true

pub stands_in_keywords-loop-keyword-preserved : goal.stands_in_keywords-loop-keyword-preserved
stands_in_keywords-loop-keyword-preserved t c = row-more keyword_variables c.args.keywords.now _ c.keyword-item.result (variables c.keyword-item.result.ty) _ _ c.loop-keyword-test.true c.keyword-item.is (keyword-part c.keyword-item.result) c.loop-keyword.invariant c.stands_in.ensures c.if-stands_in.false
