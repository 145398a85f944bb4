-- Types as they are meant: with full names, variables in place of the names of type parameters, and `untyped` for what is unknown.
use Rattle.std.specs.Prelude.{ℕ, zero, suc, Bool, false, not, ◌&&◌, if◌then◌else◌, nat_eq, List, [], ◌∷◌, ◌++◌, length, map, Option, Some, None}
use Rattle.std.specs.List.{list_any}
use Rattle.std.specs.Cmp.Lexicographic.{pointwise}
use Rattle.rbs_tree.specs.declared.names.TypeName.{TypeName}
use Rattle.rbs_tree.specs.declared.types.Ty.{Ty, roll-Ty}
use Rattle.rbs_tree.specs.declared.types.Ty.TheVariants as t
use Rattle.rbs_tree.specs.declared.types.BlockType.{BlockType}
use Rattle.rbs_tree.specs.declared.types.Field.{Field}
use Rattle.rbs_tree.specs.declared.types.Keyword.{Keyword}
use Rattle.rbs_tree.specs.declared.types.MethodType.{MethodType}
use Rattle.rbs_tree.specs.declared.types.Param.{Param}
use Rattle.rbs_tree.specs.declared.types.Ty.TheOpen.{Ty-F}
use Rattle.rbs_tree.specs.declared.types.Ty.TheViews.{out-MethodType, roll-BlockType, roll-Field, roll-Keyword, roll-MethodType, roll-Param}
use Rattle.rbs_tree.specs.declared.types.Ty.TheFolds.{fold-Ty, fold-MethodType}
use Rattle.rbs_tree.specs.declared.decls.TypeParam.{TypeParam}
use Rattle.rbs_tree.specs.declared.decls.Decl.{Decl}
use Rattle.rbs_tree.specs.declared.decls.Member.{Member}
use Rattle.rbs_tree.specs.declared.decls.Decl.TheOpen.{Decl-F}
use Rattle.rbs_tree.specs.declared.decls.Decl.TheViews.{out-Decl}
use Rattle.sig_rules.specs.declared.files.Declared.{Declared}
use Rattle.sig_rules.specs.declared.sort.Sort.{Sort}
use Rattle.sig_rules.specs.declared.sort.Sort.TheVariants as is
use Rattle.sig_rules.specs.Declarations.{Path, full_name, entries}
use Rattle.sig_rules.specs.Names.{resolve}

-- ---- what a full name is the name of

abbrev pub sort_of : Decl → Sort
sort_of decl = layer (out-Decl decl)
  where
    layer : Decl-F Decl Member → Sort
    layer (Decl-F.Class name params superclass members) = is.Class
    layer (Decl-F.Module name params self_types members) = is.Module
    layer (Decl-F.Interface name params members) = is.Interface
    layer (Decl-F.Alias name params ty) = is.Alias
    layer _ = is.Other

-- by the first declaration that counts
abbrev pub sort : List Declared → Path → Sort
sort all path = of_first (entries all path)
  where
    of_first : List Declared → Sort
    of_first [] = is.Other
    of_first (d ∷ ds) = sort_of d.decl

-- ---- type parameters and arguments

abbrev pub type_params : Decl → List TypeParam
type_params decl = layer (out-Decl decl)
  where
    layer : Decl-F Decl Member → List TypeParam
    layer (Decl-F.Class name params superclass members) = params
    layer (Decl-F.Module name params self_types members) = params
    layer (Decl-F.Interface name params members) = params
    layer (Decl-F.Alias name params ty) = params
    layer _ = []

abbrev pub param_names : Decl → List (List ℕ)
param_names decl = map (λ (p : TypeParam). p.name) (type_params decl)

-- the names of a name's type parameters, as its first declaration that counts has them
abbrev pub first_params : List Declared → Path → List (List ℕ)
first_params all path = of_first (entries all path)
  where
    of_first : List Declared → List (List ℕ)
    of_first [] = []
    of_first (d ∷ ds) = param_names d.decl

-- so many arguments: missing ones are `untyped`, and surplus ones are dropped
abbrev pub fitted : ℕ → List Ty → List Ty
fitted zero args = []
fitted (suc n) [] = t.Untyped ∷ fitted n []
fitted (suc n) (arg ∷ args) = arg ∷ fitted n args

abbrev pub fitted_to : List Declared → Path → List Ty → List Ty
fitted_to all path args = fitted (length (first_params all path)) args

-- ---- types

-- whether a name is one of these type parameters
abbrev pub is_variable : List (List ℕ) → TypeName → Bool
is_variable vars name = not name.absolute && is_one_of name.path
  where
    is_one_of : List (List ℕ) → Bool
    is_one_of (word ∷ []) = list_any (pointwise nat_eq word) vars
    is_one_of _ = false

abbrev pub last_word : List (List ℕ) → List ℕ
last_word [] = []
last_word (word ∷ []) = word
last_word (word ∷ words) = last_word words

-- the type of a full name; what is no type is unknown
abbrev pub by_sort : Sort → TypeName → List Ty → Ty
by_sort is.Class name args = t.Instance name args
by_sort is.Module name args = t.Instance name args
by_sort is.Interface name args = t.Interface name args
by_sort is.Alias name args = t.Alias name args
by_sort is.Other name args = t.Untyped

abbrev pub type_named : List Declared → Option Path → List Ty → Ty
type_named all None args = t.Untyped
type_named all (Some path) args = by_sort (sort all path) (full_name path) (fitted_to all path args)

-- the class or the module of a full name itself
abbrev pub singleton_by_sort : Sort → TypeName → Ty
singleton_by_sort is.Class name = t.Singleton name
singleton_by_sort is.Module name = t.Singleton name
singleton_by_sort _ name = t.Untyped

abbrev pub singleton_named : List Declared → Option Path → Ty
singleton_named all None = t.Untyped
singleton_named all (Some path) = singleton_by_sort (sort all path) (full_name path)

-- one layer, whose parts are as they are meant
abbrev pub meant_step : List Declared → List TypeName → List (List ℕ) → Ty-F Ty BlockType Field Keyword MethodType Param → Ty
meant_step all context vars (Ty-F.Instance name args) = if is_variable vars name then t.Var (last_word name.path) else type_named all (resolve all context name) args
meant_step all context vars (Ty-F.Interface name args) = type_named all (resolve all context name) args
meant_step all context vars (Ty-F.Alias name args) = type_named all (resolve all context name) args
meant_step all context vars (Ty-F.Singleton name) = singleton_named all (resolve all context name)
meant_step all context vars layer = roll-Ty layer

-- what a type means among enclosing names and type parameters
abbrev pub meant : List Declared → List TypeName → List (List ℕ) → Ty → Ty
meant all context vars = fold-Ty Ty BlockType Field Keyword MethodType Param (meant_step all context vars) roll-BlockType roll-Field roll-Keyword roll-MethodType roll-Param

-- what a method type means; its own variables stand before those around it
abbrev pub meant_method : List Declared → List TypeName → List (List ℕ) → MethodType → MethodType
meant_method all context vars m =
    fold-MethodType Ty BlockType Field Keyword MethodType Param (meant_step all context ((out-MethodType m).vars ++ vars)) roll-BlockType roll-Field roll-Keyword roll-MethodType roll-Param m

-- ---- aliases, constants and globals

-- what a type alias stands for: its type parameters and its type, in which it is no enclosing name
abbrev pub alias : List Declared → Path → Option (List (List ℕ) × Ty)
alias all path = of_first (entries all path)
  where
    layer : Declared → Decl-F Decl Member → Option (List (List ℕ) × Ty)
    layer d (Decl-F.Alias name params ty) = Some (param_names d.decl, meant all d.context (param_names d.decl) ty)
    layer d _ = None

    of_first : List Declared → Option (List (List ℕ) × Ty)
    of_first [] = None
    of_first (d ∷ ds) = layer d (out-Decl d.decl)

-- the type of a constant or a global
abbrev pub value : List Declared → Path → Option Ty
value all path = of_first (entries all path)
  where
    layer : Declared → Decl-F Decl Member → Option Ty
    layer d (Decl-F.Constant name ty) = Some (meant all d.context [] ty)
    layer d (Decl-F.Global name at ty) = Some (meant all d.context [] ty)
    layer d _ = None

    of_first : List Declared → Option Ty
    of_first [] = None
    of_first (d ∷ ds) = layer d (out-Decl d.decl)
