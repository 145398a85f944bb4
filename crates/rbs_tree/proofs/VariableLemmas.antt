-- The type chosen for a name, by the first place of the name.
use Rattle.std.proofs.Common.{◌≡◌, ◌≢◌, ℕ, zero, suc, ◌<◌, List, [], ◌∷◌, Bool, true, false, Some, if◌then◌else◌, nat_eq, length, slice_get, refl, ap, sym, ◌∙◌, arith}
use Rattle.std.specs.Cmp.Lexicographic.{pointwise, same_text, other_text}
use Rattle.rbs_tree.specs.declared.types.Ty.{Ty, Var}
use Rattle.rbs_tree.specs.declared.types.BlockType.{BlockType}
use Rattle.rbs_tree.specs.declared.types.Field.{Field}
use Rattle.rbs_tree.specs.declared.types.Keyword.{Keyword}
use Rattle.rbs_tree.specs.declared.types.MethodType.{MethodType}
use Rattle.rbs_tree.specs.declared.types.Param.{Param}
use Rattle.rbs_tree.specs.declared.types.Ty.TheOpen.{Ty-F}
use Rattle.rbs_tree.specs.declared.types.Ty.TheVariants.{rolls-Var}
use Rattle.rbs_tree.specs.declared.types.Ty.TheViews.{roll-BlockType, roll-Field, roll-Keyword, roll-MethodType, roll-Param}
use Rattle.rbs_tree.specs.declared.types.Ty.TheFolds.{fold-roll-Ty}
use Rattle.rbs_tree.specs.Substitution.{chosen, subst, subst_step}

taken : (b : Bool) (var name : List ℕ) (x y : Ty) → b ≡ pointwise nat_eq var name → var ≡ name → (if b then x else y) ≡ x
taken true var name x y e same = refl
taken false var name x y e same = absurd (other_text var name e same)

passed : (b : Bool) (var name : List ℕ) (x y : Ty) → b ≡ pointwise nat_eq var name → Some var ≢ Some name → (if b then x else y) ≡ y
passed true var name x y e other = absurd (other (ap Some (same_text var name e)))
passed false var name x y e other = refl

pub chosen-first : (vars : List (List ℕ)) (by : List Ty) (name : List ℕ) (place : ℕ) → length vars ≡ length by → slice_get vars place ≡ Some name → ((k : ℕ) → k < place → slice_get vars k ≢ Some name) → slice_get by place ≡ Some (chosen vars by name)
chosen-first [] by name place paired here before = cc
chosen-first (var ∷ vars) [] name place paired here before = absurd (omega arith)
chosen-first (var ∷ vars) (ty ∷ by) name zero paired here before =
    let same : var ≡ name = cc in
    ap Some (sym (taken (pointwise nat_eq var name) var name ty (chosen vars by name) refl same))
chosen-first (var ∷ vars) (ty ∷ by) name (suc place) paired here before =
    chosen-first vars by name place (omega arith) here (λ k below. before (suc k) (omega arith))
    ∙ ap Some (sym (passed (pointwise nat_eq var name) var name ty (chosen vars by name) refl (before 0 (omega arith))))

pub chosen-none : (vars : List (List ℕ)) (by : List Ty) (name : List ℕ) → ((k : ℕ) → slice_get vars k ≢ Some name) → chosen vars by name ≡ Var name
chosen-none [] by name other = refl
chosen-none (var ∷ vars) [] name other = refl
chosen-none (var ∷ vars) (ty ∷ by) name other =
    passed (pointwise nat_eq var name) var name ty (chosen vars by name) refl (other 0) ∙ chosen-none vars by name (λ k. other (suc k))

pub subst-var : (vars : List (List ℕ)) (by : List Ty) (name : List ℕ) → subst vars by (Var name) ≡ chosen vars by name
subst-var vars by name =
    ap (subst vars by) (sym (rolls-Var name))
    ∙ fold-roll-Ty Ty BlockType Field Keyword MethodType Param (subst_step vars by) roll-BlockType roll-Field roll-Keyword roll-MethodType roll-Param (Ty-F.Var name)
