-- Normal types: each union is flat, has each of its members once, and is none where one member alone is left.
use Rattle.std.specs.Prelude.{Bool, not, ◌&&◌, ◌||◌, if◌then◌else◌, List, [], ◌∷◌, filter}
use Rattle.std.specs.List.{list_any, flat_map}
use Rattle.rbs_tree.specs.declared.types.Ty.{Ty, roll-Ty}
use Rattle.rbs_tree.specs.declared.types.Ty.TheVariants as t
use Rattle.rbs_tree.specs.declared.types.BlockType.{BlockType}
use Rattle.rbs_tree.specs.declared.types.Field.{Field}
use Rattle.rbs_tree.specs.declared.types.Keyword.{Keyword}
use Rattle.rbs_tree.specs.declared.types.MethodType.{MethodType}
use Rattle.rbs_tree.specs.declared.types.Param.{Param}
use Rattle.rbs_tree.specs.declared.types.Ty.TheOpen.{Ty-F}
use Rattle.rbs_tree.specs.declared.types.Ty.TheViews.{out-Ty, roll-BlockType, roll-Field, roll-Keyword, roll-MethodType, roll-Param}
use Rattle.rbs_tree.specs.declared.types.Ty.TheFolds.{fold-Ty, fold-MethodType}
use Rattle.sig_rules.specs.Equality.{same_ty}

-- the members of a union, and any other type alone
abbrev pub union_members : Ty → List Ty
union_members ty = layer (out-Ty ty)
  where
    layer : Ty-F Ty BlockType Field Keyword MethodType Param → List Ty
    layer (Ty-F.Union parts) = parts
    layer _ = ty ∷ []

-- types, each at its first place alone
abbrev pub each_once : List Ty → List Ty
each_once [] = []
each_once (ty ∷ tys) = ty ∷ filter (λ other. not (same_ty ty other)) (each_once tys)

abbrev pub has : Ty → List Ty → Bool
has ty = list_any (same_ty ty)

abbrev pub is_truth : Ty → Bool
is_truth ty = same_ty t.True ty || (same_ty t.False ty || same_ty t.Bool ty)

-- whether some members make the whole `bool`
abbrev pub have_bool : List Ty → Bool
have_bool tys = has t.Bool tys || (has t.True tys && has t.False tys)

-- `bool` at the place of the first of `true`, `false` and `bool`
abbrev pub with_bool : List Ty → List Ty
with_bool [] = []
with_bool (ty ∷ tys) = if is_truth ty then t.Bool ∷ filter (λ other. not (is_truth other)) tys else ty ∷ with_bool tys

abbrev pub of_members : List Ty → Ty
of_members [] = t.Bot
of_members (ty ∷ []) = ty
of_members tys = t.Union tys

-- by its members, which are different and none of them a union
abbrev pub joined : List Ty → Ty
joined tys =
    if has t.Untyped tys then t.Untyped else
    if has t.Top tys || has t.Void tys then t.Top else
    of_members (if have_bool tys then with_bool tys else tys)

-- the normal type that is the union of normal types
abbrev pub union : List Ty → Ty
union tys = joined (filter (λ ty. not (same_ty t.Bot ty)) (each_once (flat_map union_members tys)))

-- one layer, whose parts are normal
abbrev pub normal_step : Ty-F Ty BlockType Field Keyword MethodType Param → Ty
normal_step (Ty-F.Union parts) = union parts
normal_step (Ty-F.Optional part) = union (part ∷ t.Nil ∷ [])
normal_step layer = roll-Ty layer

-- the normal form of a type
abbrev pub normal : Ty → Ty
normal = fold-Ty Ty BlockType Field Keyword MethodType Param normal_step roll-BlockType roll-Field roll-Keyword roll-MethodType roll-Param

-- a method type, each of whose types is normal
abbrev pub normal_method : MethodType → MethodType
normal_method = fold-MethodType Ty BlockType Field Keyword MethodType Param normal_step roll-BlockType roll-Field roll-Keyword roll-MethodType roll-Param
