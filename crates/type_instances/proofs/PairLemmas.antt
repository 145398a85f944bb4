-- Type parameters that are shown, with their types.
use Rattle.std.proofs.Common.{◌≡◌, ℕ, Bool, true, false, ◌||◌, if◌then◌else◌, List, [], ◌∷◌, map, length, nat_eq, Result, Ok, Err, IfOk, OnOk, refl, sym, ap, ap₂, ◌∙◌, arith, subst as along}
use Rattle.std.specs.Cmp.Lexicographic.{pointwise}
use Rattle.std.specs.List.{list_any}
use Rattle.rbs_tree.specs.declared.types.Ty.{Ty}
use Rattle.rbs_tree.specs.declared.types.BlockType.{BlockType}
use Rattle.rbs_tree.specs.declared.types.Field.{Field}
use Rattle.rbs_tree.specs.declared.types.Keyword.{Keyword}
use Rattle.rbs_tree.specs.declared.types.MethodType.{MethodType}
use Rattle.rbs_tree.specs.declared.types.Param.{Param}
use Rattle.rbs_tree.specs.declared.types.Ty.TheOpen.{Ty-F}
use Rattle.rbs_tree.specs.declared.types.Ty.TheViews.{roll-BlockType, roll-Field, roll-Keyword, roll-MethodType, roll-Param}
use Rattle.rbs_tree.specs.declared.types.Ty.TheFolds.{fold-Ty}
use Rattle.rbs_tree.specs.Substitution.{chosen, subst, subst_step, subst_method}
use Rattle.sig_rules.specs.Instances.{Words, is_in, in_row, variables, unhidden, all_apart_from, instance}
use Rattle.type_instances.proofs.ApartLemmas.{all-same}
use Rattle.type_instances.proofs.UnchangedLemmas.{no-names-ty, no-types-ty, no-names-method}
use Rattle.type_instances.specs.Variables.{own, shown_names, shown_types}

-- ---- where none is hidden

all-shown : (b : Bool) (own vars : Words) (tys : List Ty) (var : List ℕ) (ty : Ty)
    → (list_any (is_in own) vars ≡ false → (shown_names own vars tys ≡ vars) × (shown_types own vars tys ≡ tys))
    → (b || list_any (is_in own) vars) ≡ false
    → (map (λ (p : List ℕ × Ty). p.0) (if b then unhidden own vars tys else (var, ty) ∷ unhidden own vars tys) ≡ var ∷ vars)
    × (map (λ (p : List ℕ × Ty). p.1) (if b then unhidden own vars tys else (var, ty) ∷ unhidden own vars tys) ≡ ty ∷ tys)
all-shown true own vars tys var ty later none = cc
all-shown false own vars tys var ty later none = (ap (λ vs. var ∷ vs) (later none).0, ap (λ ts. ty ∷ ts) (later none).1)

pub shown-all : (own vars : Words) (tys : List Ty) → length vars ≡ length tys → list_any (is_in own) vars ≡ false
    → (shown_names own vars tys ≡ vars) × (shown_types own vars tys ≡ tys)
shown-all own [] [] paired none = (refl, refl)
shown-all own [] (ty ∷ tys) paired none = absurd (omega arith)
shown-all own (var ∷ vars) [] paired none = absurd (omega arith)
shown-all own (var ∷ vars) (ty ∷ tys) paired none = all-shown (is_in own var) own vars tys var ty (shown-all own vars tys (omega arith)) none

-- ---- the pairs of two lists, where nothing is hidden

chosen-pairs : (vars : Words) (tys : List Ty) (name : List ℕ) → chosen (shown_names [] vars tys) (shown_types [] vars tys) name ≡ chosen vars tys name
chosen-pairs [] tys name = refl
chosen-pairs (var ∷ vars) [] name = refl
chosen-pairs (var ∷ vars) (ty ∷ tys) name = ap (λ other. if pointwise nat_eq var name then ty else other) (chosen-pairs vars tys name)

step-pairs : (vars : Words) (tys : List Ty) (x : Ty-F Ty BlockType Field Keyword MethodType Param)
    → subst_step (shown_names [] vars tys) (shown_types [] vars tys) x ≡ subst_step vars tys x
step-pairs vars tys (Ty-F.Var name) = chosen-pairs vars tys name
step-pairs vars tys _ = refl

pub subst-pairs : (vars : Words) (tys : List Ty) → subst (shown_names [] vars tys) (shown_types [] vars tys) ≡ subst vars tys
subst-pairs vars tys = λ i. fold-Ty Ty BlockType Field Keyword MethodType Param (λ x. step-pairs vars tys x i) roll-BlockType roll-Field roll-Keyword roll-MethodType roll-Param

-- ---- instances

mapped : {A B C : Type 0} (f : A → B) (g : B → C) (xs : List A) → map g (map f xs) ≡ map (λ x. g (f x)) xs
mapped f g [] = refl
mapped f g (x ∷ xs) = ap (λ ys. g (f x) ∷ ys) (mapped f g xs)

-- an instance by what is shown
pub instance-is : (params : Words) (args : List Ty) (m made : MethodType) (names : Words) (types : List Ty)
    → names ≡ shown_names (own m) params args → types ≡ shown_types (own m) params args
    → made ≡ subst_method names types (all_apart_from (in_row (map variables types)) (own m) m) → made ≡ instance params args m
instance-is params args m made names types names_is types_is is =
    is
    ∙ ap₂ (λ ns ts. subst_method ns ts (all_apart_from (in_row (map variables ts)) (own m) m)) names_is types_is
    ∙ ap (λ vs. subst_method (shown_names (own m) params args) (shown_types (own m) params args) (all_apart_from (in_row vs) (own m) m))
    (mapped (λ (p : List ℕ × Ty). p.1) variables (unhidden (own m) params args))

-- ---- where nothing is put in place

none-among : (vars : Words) → list_any (is_in []) vars ≡ false
none-among [] = refl
none-among (var ∷ vars) = none-among vars

pub nothing-shown : (names : Words) (types : List Ty) (m : MethodType) → names ≡ [] → length names ≡ length types
    → m ≡ subst_method names types (all_apart_from (in_row (map variables types)) (own m) m)
nothing-shown [] [] m empty paired = all-same [] (own m) m (none-among (own m)) ∙ sym (no-names-method [] (all_apart_from [] (own m) m))
nothing-shown [] (ty ∷ types) m empty paired = absurd (omega arith)
nothing-shown (name ∷ names) types m empty paired = cc

each-stays : (f : Ty → Ty) → ((ty : Ty) → f ty ≡ ty) → (tys : List Ty) → tys ≡ map f tys
each-stays f stays [] = refl
each-stays f stays (ty ∷ tys) = ap₂ ◌∷◌ (sym (stays ty)) (each-stays f stays tys)

pub without-names : (names : Words) (by tys : List Ty) → names ≡ [] → tys ≡ map (subst names by) tys
without-names [] by tys empty = each-stays (subst [] by) (no-names-ty by) tys
without-names (name ∷ names) by tys empty = cc

pub without-types : (names : Words) (by tys : List Ty) → by ≡ [] → tys ≡ map (subst names by) tys
without-types names [] tys empty = each-stays (subst names []) (no-types-ty names) tys
without-types names (ty ∷ by) tys empty = cc

-- ---- a tree that was changed in its place

pub once-is : {T E : Type 0} (r : Result T E) (d : Result (Unit {0}) E) (made wanted : T) → IfOk r (λ v. v ≡ made) → IfOk r (λ v. d ≡ Ok tt) → OnOk d (made ≡ wanted) → IfOk r (λ v. v ≡ wanted)
once-is (Ok v) d made wanted is done given = is ∙ along (λ d. OnOk d (made ≡ wanted)) done given
once-is (Err e) d made wanted is done given = tt
