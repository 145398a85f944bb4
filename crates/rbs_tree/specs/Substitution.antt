-- Types in place of type variables, all at once.
use Rattle.std.specs.Prelude.{ℕ, ◌<◌, ◌≡◌, ◌≢◌, List, ◌∷◌, Some, if◌then◌else◌, nat_eq, slice_get}
use Rattle.std.specs.Cmp.Lexicographic.{pointwise}
use Rattle.rbs_tree.specs.declared.types.Ty.{Ty, Var, roll-Ty}
use Rattle.rbs_tree.specs.declared.types.Field.{Field}
use Rattle.rbs_tree.specs.declared.types.MethodType.{MethodType}
use Rattle.rbs_tree.specs.declared.types.Param.{Param}
use Rattle.rbs_tree.specs.declared.types.Keyword.{Keyword}
use Rattle.rbs_tree.specs.declared.types.BlockType.{BlockType}
use Rattle.rbs_tree.specs.declared.types.Ty.TheOpen.{Ty-F}
use Rattle.rbs_tree.specs.declared.types.Ty.TheViews.{roll-Field, roll-MethodType, roll-Param, roll-Keyword, roll-BlockType}
use Rattle.rbs_tree.specs.declared.types.Ty.TheFolds.{fold-Ty, fold-Field, fold-MethodType, fold-Param, fold-Keyword, fold-BlockType}

-- the type at the place of the first variable with a name, and the variable of that name where none has it
abbrev pub chosen : List (List ℕ) → List Ty → List ℕ → Ty
chosen (var ∷ vars) (ty ∷ tys) name = if pointwise nat_eq var name then ty else chosen vars tys name
chosen _ _ name = Var name

-- one type whose inner types are done: a variable gives the type at its place, anything else stays as it is
abbrev pub subst_step : List (List ℕ) → List Ty → Ty-F Ty BlockType Field Keyword MethodType Param → Ty
subst_step vars by (Ty-F.Var name) = chosen vars by name
subst_step vars by layer = roll-Ty layer

-- a type with the types of `by` in place of the variables `vars`
abbrev pub subst : List (List ℕ) → List Ty → Ty → Ty
subst vars by = fold-Ty Ty BlockType Field Keyword MethodType Param (subst_step vars by) roll-BlockType roll-Field roll-Keyword roll-MethodType roll-Param

-- the same of a field of a record type
abbrev pub subst_field : List (List ℕ) → List Ty → Field → Field
subst_field vars by = fold-Field Ty BlockType Field Keyword MethodType Param (subst_step vars by) roll-BlockType roll-Field roll-Keyword roll-MethodType roll-Param

-- the same of a method type, whose own variables stay
abbrev pub subst_method : List (List ℕ) → List Ty → MethodType → MethodType
subst_method vars by = fold-MethodType Ty BlockType Field Keyword MethodType Param (subst_step vars by) roll-BlockType roll-Field roll-Keyword roll-MethodType roll-Param

-- the same of a parameter
abbrev pub subst_param : List (List ℕ) → List Ty → Param → Param
subst_param vars by = fold-Param Ty BlockType Field Keyword MethodType Param (subst_step vars by) roll-BlockType roll-Field roll-Keyword roll-MethodType roll-Param

-- the same of a keyword
abbrev pub subst_keyword : List (List ℕ) → List Ty → Keyword → Keyword
subst_keyword vars by = fold-Keyword Ty BlockType Field Keyword MethodType Param (subst_step vars by) roll-BlockType roll-Field roll-Keyword roll-MethodType roll-Param

-- the same of a block
abbrev pub subst_block : List (List ℕ) → List Ty → BlockType → BlockType
subst_block vars by = fold-BlockType Ty BlockType Field Keyword MethodType Param (subst_step vars by) roll-BlockType roll-Field roll-Keyword roll-MethodType roll-Param

-- the first place of a name among others
pub record IsFirstAt (names : List (List ℕ)) (name : List ℕ) (place : ℕ) : Type 0 where
  pub here : slice_get names place ≡ Some name
  pub before : (k : ℕ) → k < place → slice_get names k ≢ Some name
