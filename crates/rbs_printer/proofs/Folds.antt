-- Folds over trees, at a method type and its parts.
use Rattle.std.proofs.Common.{◌≡◌, ℕ, List, map, Option, Some, None, refl, ap, ◌∙◌}
use Rattle.std.specs.Prelude.{option_map}
use Rattle.rbs_tree.specs.declared.types.Ty.{Ty}
use Rattle.rbs_tree.specs.declared.types.BlockType.{BlockType}
use Rattle.rbs_tree.specs.declared.types.Field.{Field}
use Rattle.rbs_tree.specs.declared.types.Keyword.{Keyword}
use Rattle.rbs_tree.specs.declared.types.MethodType.{MethodType, map-MethodType}
use Rattle.rbs_tree.specs.declared.types.Param.{Param}
use Rattle.rbs_tree.specs.declared.types.Ty.TheOpen.{Ty-F, BlockType-F, Field-F, Keyword-F, MethodType-F, Param-F}
use Rattle.rbs_tree.specs.declared.types.Ty.TheViews.{out-MethodType, out-BlockType}
use Rattle.rbs_tree.specs.declared.types.Ty.TheFolds.{fold-Ty, fold-BlockType, fold-Field, fold-Keyword, fold-MethodType, fold-Param, fold_out-MethodType, fold_out-BlockType, fold_out-Param, fold_out-Keyword}

module _ (A A1 A2 A3 A4 A5 : Type 0)
    (s : Ty-F A A1 A2 A3 A4 A5 → A) (s1 : BlockType-F A A1 A2 A3 A4 A5 → A1) (s2 : Field-F A A1 A2 A3 A4 A5 → A2) (s3 : Keyword-F A A1 A2 A3 A4 A5 → A3)
    (s4 : MethodType-F A A1 A2 A3 A4 A5 → A4) (s5 : Param-F A A1 A2 A3 A4 A5 → A5) where
  abbrev pub of_param : Param → A5
  of_param = fold-Param A A1 A2 A3 A4 A5 s s1 s2 s3 s4 s5

  abbrev pub of_keyword : Keyword → A3
  of_keyword = fold-Keyword A A1 A2 A3 A4 A5 s s1 s2 s3 s4 s5

  abbrev pub of_block : BlockType → A1
  of_block = fold-BlockType A A1 A2 A3 A4 A5 s s1 s2 s3 s4 s5

  abbrev pub of_ty : Ty → A
  of_ty = fold-Ty A A1 A2 A3 A4 A5 s s1 s2 s3 s4 s5

  abbrev pub of_method : MethodType → A4
  of_method = fold-MethodType A A1 A2 A3 A4 A5 s s1 s2 s3 s4 s5

  pub keyword_is : (k : Keyword) → of_keyword k ≡ s3 (record { key = k.key; required = k.required; ty = of_ty k.ty })
  keyword_is k = fold_out-Keyword A A1 A2 A3 A4 A5 s s1 s2 s3 s4 s5 k

  pub param_is : (p : Param) → of_param p ≡ s5 (record { ty = of_ty p.ty; name = p.name })
  param_is p = fold_out-Param A A1 A2 A3 A4 A5 s s1 s2 s3 s4 s5 p

  pub block_is : (b : BlockType) → of_block b ≡ s1 (record { required = (out-BlockType b).required; fun = of_method (out-BlockType b).fun })
  block_is b = fold_out-BlockType A A1 A2 A3 A4 A5 s s1 s2 s3 s4 s5 b

  abbrev pub of_layer : MethodType-F Ty BlockType Field Keyword MethodType Param → MethodType-F A A1 A2 A3 A4 A5
  of_layer d = record {
    vars = d.vars;
    required = map of_param d.required;
    optional = map of_param d.optional;
    rest = option_map of_param d.rest;
    trailing = map of_param d.trailing;
    keywords = map of_keyword d.keywords;
    rest_keywords = option_map of_param d.rest_keywords;
    block = option_map of_block d.block;
    result = of_ty d.result;
  }

  abbrev pub mapped : MethodType-F Ty BlockType Field Keyword MethodType Param → MethodType-F A A1 A2 A3 A4 A5
  mapped d = map-MethodType Ty BlockType Field Keyword MethodType Param A A1 A2 A3 A4 A5 of_ty of_block (fold-Field A A1 A2 A3 A4 A5 s s1 s2 s3 s4 s5) of_keyword of_method of_param d

  layer_is : (vars : List (List ℕ)) (required optional : List Param) (rest : Option Param) (trailing : List Param) (keywords : List Keyword) (rest_keywords : Option Param) (block : Option BlockType) (result : Ty)
      → mapped (record { vars = vars; required = required; optional = optional; rest = rest; trailing = trailing; keywords = keywords; rest_keywords = rest_keywords; block = block; result = result })
      ≡ of_layer (record { vars = vars; required = required; optional = optional; rest = rest; trailing = trailing; keywords = keywords; rest_keywords = rest_keywords; block = block; result = result })
  layer_is vars required optional None trailing keywords None None result = refl
  layer_is vars required optional None trailing keywords None (Some b) result = refl
  layer_is vars required optional None trailing keywords (Some r) None result = refl
  layer_is vars required optional None trailing keywords (Some r) (Some b) result = refl
  layer_is vars required optional (Some p) trailing keywords None None result = refl
  layer_is vars required optional (Some p) trailing keywords None (Some b) result = refl
  layer_is vars required optional (Some p) trailing keywords (Some r) None result = refl
  layer_is vars required optional (Some p) trailing keywords (Some r) (Some b) result = refl

  pub method_is : (m : MethodType) → of_method m ≡ s4 (of_layer (out-MethodType m))
  method_is m = let d = out-MethodType m in
      fold_out-MethodType A A1 A2 A3 A4 A5 s s1 s2 s3 s4 s5 m ∙ ap s4 (layer_is d.vars d.required d.optional d.rest d.trailing d.keywords d.rest_keywords d.block d.result)
