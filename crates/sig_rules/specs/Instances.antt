-- Method types with types in place of the type parameters around them. No variable of a method type is taken for another.
use Rattle.std.specs.Prelude.{ℕ, zero, suc, Bool, if◌then◌else◌, nat_eq, List, [], ◌∷◌, ◌++◌, length, map, Option, Some, None}
use Rattle.std.specs.List.{list_any}
use Rattle.std.specs.Fmt.{decimal}
use Rattle.std.specs.Cmp.Lexicographic.{pointwise}
use Rattle.rbs_tree.specs.declared.types.Ty.{Ty}
use Rattle.rbs_tree.specs.declared.types.Ty.TheVariants as t
use Rattle.rbs_tree.specs.declared.types.MethodType.{MethodType}
use Rattle.rbs_tree.specs.declared.types.Ty.TheOpen.{Ty-F, BlockType-F, Field-F, Keyword-F, MethodType-F, Param-F}
use Rattle.rbs_tree.specs.declared.types.Ty.TheViews.{out-MethodType, roll-MethodType}
use Rattle.rbs_tree.specs.declared.types.Ty.TheFolds.{fold-Ty, fold-MethodType}
use Rattle.rbs_tree.specs.Substitution.{subst_method}

abbrev pub Words : Type 0
Words = List (List ℕ)

abbrev pub is_in : Words → List ℕ → Bool
is_in words word = list_any (pointwise nat_eq word) words

-- ---- the variables that stand in a type

abbrev pub in_row : List Words → Words
in_row [] = []
in_row (names ∷ more) = names ++ in_row more

abbrev pub if_there : Option Words → Words
if_there None = []
if_there (Some names) = names

abbrev pub variables_step : Ty-F Words Words Words Words Words Words → Words
variables_step (Ty-F.Instance name args) = in_row args
variables_step (Ty-F.Interface name args) = in_row args
variables_step (Ty-F.Alias name args) = in_row args
variables_step (Ty-F.Var name) = name ∷ []
variables_step (Ty-F.Union parts) = in_row parts
variables_step (Ty-F.Inter parts) = in_row parts
variables_step (Ty-F.Optional part) = part
variables_step (Ty-F.TupleOf parts) = in_row parts
variables_step (Ty-F.RecordOf fields) = in_row fields
variables_step (Ty-F.ProcOf fun) = fun
variables_step _ = []

abbrev pub in_block : BlockType-F Words Words Words Words Words Words → Words
in_block b = b.fun

abbrev pub in_field : Field-F Words Words Words Words Words Words → Words
in_field f = f.ty

abbrev pub in_keyword : Keyword-F Words Words Words Words Words Words → Words
in_keyword k = k.ty

abbrev pub in_function : MethodType-F Words Words Words Words Words Words → Words
in_function m = in_row m.required ++ (in_row m.optional ++ (if_there m.rest ++ (in_row m.trailing ++ (in_row m.keywords ++ (if_there m.rest_keywords ++ (if_there m.block ++ m.result))))))

abbrev pub in_param : Param-F Words Words Words Words Words Words → Words
in_param p = p.ty

-- the variables that stand in a type
abbrev pub variables : Ty → Words
variables = fold-Ty Words Words Words Words Words Words variables_step in_block in_field in_keyword in_function in_param

-- those that stand in a method type, be they its own or not
abbrev pub method_variables : MethodType → Words
method_variables = fold-MethodType Words Words Words Words Words Words variables_step in_block in_field in_keyword in_function in_param

-- ---- other names for a method type's own variables

-- a name and a number
abbrev pub numbered : List ℕ → ℕ → List ℕ
numbered name n = name ++ decimal n

-- The name with the least number from n on that isn't among these. As many turns as there are names, and one more, find it.
abbrev pub free_from : Words → List ℕ → ℕ → ℕ → List ℕ
free_from taken name n zero = numbered name n
free_from taken name n (suc turns) = if is_in taken (numbered name n) then free_from taken name (suc n) turns else numbered name n

abbrev pub free_name : Words → List ℕ → List ℕ
free_name taken name = free_from taken name 1 (length taken)

abbrev pub with_vars : Words → MethodType → MethodType
with_vars vars m = let f = out-MethodType m in roll-MethodType (record {
  vars = vars;
  required = f.required;
  optional = f.optional;
  rest = f.rest;
  trailing = f.trailing;
  keywords = f.keywords;
  rest_keywords = f.rest_keywords;
  block = f.block;
  result = f.result;
})

-- a method type with another name for one of its variables
abbrev pub renamed : List ℕ → List ℕ → MethodType → MethodType
renamed var name m = with_vars (map put (out-MethodType m).vars) (subst_method (var ∷ []) (t.Var name ∷ []) m)
  where
    put : List ℕ → List ℕ
    put other = if pointwise nat_eq var other then name else other

-- a variable that stands among outer ones gets a name that is none of them and doesn't stand in the method type
abbrev pub apart_from : Words → List ℕ → MethodType → MethodType
apart_from outer var m = if is_in outer var then renamed var (free_name (outer ++ ((out-MethodType m).vars ++ method_variables m)) var) m else m

-- each of these variables, one after the other
abbrev pub all_apart_from : Words → Words → MethodType → MethodType
all_apart_from outer [] m = m
all_apart_from outer (var ∷ vars) m = all_apart_from outer vars (apart_from outer var m)

-- ---- types in place of type parameters

-- the parameters that no variable of the method type hides, with their types
abbrev pub unhidden : Words → Words → List Ty → List (List ℕ × Ty)
unhidden own (var ∷ vars) (ty ∷ tys) = if is_in own var then unhidden own vars tys else (var, ty) ∷ unhidden own vars tys
unhidden own _ _ = []

-- a method type with types in place of the type parameters around it
abbrev pub instance : Words → List Ty → MethodType → MethodType
instance params args m =
    let shown = unhidden (out-MethodType m).vars params args in
    let apart = all_apart_from (in_row (map (λ (p : List ℕ × Ty). variables p.1) shown)) (out-MethodType m).vars m in
    subst_method (map (λ (p : List ℕ × Ty). p.0) shown) (map (λ (p : List ℕ × Ty). p.1) shown) apart
