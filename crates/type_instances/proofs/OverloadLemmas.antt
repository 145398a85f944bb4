-- An overload of `new`, made of the parts of one of `initialize`.
use Rattle.std.proofs.Common.{◌≡◌, ◌++◌, ap, ap₂, ◌∙◌}
use Rattle.rbs_tree.specs.declared.types.Ty.{Ty}
use Rattle.rbs_tree.specs.declared.types.BlockType.{BlockType}
use Rattle.rbs_tree.specs.declared.types.Field.{Field}
use Rattle.rbs_tree.specs.declared.types.Keyword.{Keyword}
use Rattle.rbs_tree.specs.declared.types.MethodType.{MethodType}
use Rattle.rbs_tree.specs.declared.types.Param.{Param}
use Rattle.rbs_tree.specs.declared.types.Ty.TheOpen.{MethodType-F}
use Rattle.rbs_tree.specs.declared.types.Ty.TheViews.{roll-MethodType, out-MethodType, out-roll-MethodType}
use Rattle.sig_rules.specs.Instances.{Words, with_vars, all_apart_from}
use Rattle.sig_rules.specs.Methods.{new_overload}
use Rattle.type_instances.specs.Variables.{own}

abbrev Layer : Type 0
Layer = MethodType-F Ty BlockType Field Keyword MethodType Param

-- a method type of these parts, with another result
abbrev with_result : Ty → Layer → MethodType
with_result result d = roll-MethodType (record {
  vars = d.vars;
  required = d.required;
  optional = d.optional;
  rest = d.rest;
  trailing = d.trailing;
  keywords = d.keywords;
  rest_keywords = d.rest_keywords;
  block = d.block;
  result = result;
})

-- a method type with others before its own variables, and with another result
abbrev with_both : Words → Ty → MethodType → MethodType
with_both params result m = let d = out-MethodType m in roll-MethodType (record {
  vars = params ++ d.vars;
  required = d.required;
  optional = d.optional;
  rest = d.rest;
  trailing = d.trailing;
  keywords = d.keywords;
  rest_keywords = d.rest_keywords;
  block = d.block;
  result = result;
})

abbrev parts : Words → MethodType → Layer
parts vars m = let d = out-MethodType m in record {
  vars = vars;
  required = d.required;
  optional = d.optional;
  rest = d.rest;
  trailing = d.trailing;
  keywords = d.keywords;
  rest_keywords = d.rest_keywords;
  block = d.block;
  result = d.result;
}

pub new-is : (params vars : Words) (made result : Ty) (m apart : MethodType) → apart ≡ all_apart_from params (own m) m → vars ≡ params ++ (out-MethodType apart).vars → result ≡ made
    → with_result result (out-MethodType (with_vars vars apart)) ≡ new_overload params made m
new-is params vars made result m apart apart_is vars_is result_is =
    ap (with_result result) (out-roll-MethodType (parts vars apart))
    ∙ ap₂ (λ vs r. with_result r (parts vs apart)) vars_is result_is
    ∙ ap (with_both params made) apart_is
