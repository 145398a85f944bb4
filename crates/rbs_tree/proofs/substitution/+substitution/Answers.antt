use Rattle.std.proofs.Common.{rules, ◌≡◌, map, ◌∙◌, sym, ap, List, ℕ, Option, None, Some, refl}
use Rattle.std.specs.Option.{option_map}
use Rattle.rbs_tree.proofs.substitution.+substitution.Goals as goal
use Rattle.rbs_tree.specs.Substitution.{subst, subst_step, subst_field, subst_method, subst_param, subst_keyword, subst_block}
use Rattle.rbs_tree.specs.declared.types.Ty.{Ty}
use Rattle.rbs_tree.specs.declared.types.Field.{Field}
use Rattle.rbs_tree.specs.declared.types.MethodType.{MethodType}
use Rattle.rbs_tree.specs.declared.types.Param.{Param}
use Rattle.rbs_tree.specs.declared.types.Keyword.{Keyword}
use Rattle.rbs_tree.specs.declared.types.BlockType.{BlockType}
use Rattle.rbs_tree.specs.declared.types.Ty.TheOpen.{MethodType-F}
use Rattle.rbs_tree.specs.declared.types.Ty.TheViews.{out-MethodType, roll-Field, roll-MethodType, roll-Param, roll-Keyword, roll-BlockType}
use Rattle.rbs_tree.specs.declared.types.Ty.TheFolds.{fold_out-MethodType, map-MethodType}

-- the layer of a method type
abbrev Layer : Type 0
Layer = MethodType-F Ty BlockType Field Keyword MethodType Param

-- a layer whose inner types are done
abbrev done : List (List ℕ) → List Ty → Layer → Layer
done vars by = map-MethodType Ty BlockType Field Keyword MethodType Param Ty BlockType Field Keyword MethodType Param (subst vars by) (subst_block vars by) (subst_field vars by) (subst_keyword vars by) (subst_method vars by) (subst_param vars by)

done-rest : (vars : List (List ℕ)) (by : List Ty) (x : Layer) (rest : Option Param) → option_map (subst_param vars by) rest ≡ (done vars by (record { vars = x.vars; required = x.required; optional = x.optional; rest = rest; trailing = x.trailing; keywords = x.keywords; rest_keywords = x.rest_keywords; block = x.block; «result» = x.«result» })).rest
done-rest vars by x None = refl
done-rest vars by x (Some param) = refl

done-rest_keywords : (vars : List (List ℕ)) (by : List Ty) (x : Layer) (rest : Option Param) → option_map (subst_param vars by) rest ≡ (done vars by (record { vars = x.vars; required = x.required; optional = x.optional; rest = x.rest; trailing = x.trailing; keywords = x.keywords; rest_keywords = rest; block = x.block; «result» = x.«result» })).rest_keywords
done-rest_keywords vars by x None = refl
done-rest_keywords vars by x (Some param) = refl

done-block : (vars : List (List ℕ)) (by : List Ty) (x : Layer) (block : Option BlockType) → option_map (subst_block vars by) block ≡ (done vars by (record { vars = x.vars; required = x.required; optional = x.optional; rest = x.rest; trailing = x.trailing; keywords = x.keywords; rest_keywords = x.rest_keywords; block = block; «result» = x.«result» })).block
done-block vars by x None = refl
done-block vars by x (Some block) = refl

pub subst_method-returns : goal.subst_method-returns
subst_method-returns t c =
    let parts = c.in_ok-parts.parts in
    let names = c.args.vars.now in
    let by = c.args.by.now in
    let m = out-MethodType c.args.method.now in
    let vars : parts.0.0 ≡ m.vars = search rules in
    let required : parts.0.1.0 ≡ map (subst_param names by) m.required = search rules in
    let optional : parts.0.1.1 ≡ map (subst_param names by) m.optional = search rules in
    let rest : parts.1.0.0 ≡ option_map (subst_param names by) m.rest = search rules in
    let trailing : parts.1.0.1 ≡ map (subst_param names by) m.trailing = search rules in
    let keywords : parts.1.1.0.0 ≡ map (subst_keyword names by) m.keywords = search rules in
    let rest_keywords : parts.1.1.0.1 ≡ option_map (subst_param names by) m.rest_keywords = search rules in
    let block : parts.1.1.1.0 ≡ option_map (subst_block names by) m.block = search rules in
    let last : parts.1.1.1.1 ≡ subst names by m.«result» = search rules in
    let rest' = rest ∙ done-rest names by m m.rest in
    let rest_keywords' = rest_keywords ∙ done-rest_keywords names by m m.rest_keywords in
    let block' = block ∙ done-block names by m m.block in
    ap roll-MethodType {y = done names by m} (λ i. record { vars = vars i; required = required i; optional = optional i; rest = rest' i; trailing = trailing i; keywords = keywords i; rest_keywords = rest_keywords' i; block = block' i; «result» = last i })
    ∙ sym (fold_out-MethodType Ty BlockType Field Keyword MethodType Param (subst_step names by) roll-BlockType roll-Field roll-Keyword roll-MethodType roll-Param c.args.method.now)
