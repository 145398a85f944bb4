-- What the method types of attributes mean.
use Rattle.std.proofs.Common.{◌≡◌, ◌∙◌, ap, sym, subst, [], ◌∷◌, ◌++◌, ℕ, List, Some, None, IfOk, Result}
use Rattle.rbs_tree.specs.declared.names.TypeName.{TypeName}
use Rattle.rbs_tree.specs.declared.types.Ty.{Ty}
use Rattle.rbs_tree.specs.declared.types.BlockType.{BlockType}
use Rattle.rbs_tree.specs.declared.types.Field.{Field}
use Rattle.rbs_tree.specs.declared.types.Keyword.{Keyword}
use Rattle.rbs_tree.specs.declared.types.MethodType.{MethodType}
use Rattle.rbs_tree.specs.declared.types.Param.{Param}
use Rattle.rbs_tree.specs.declared.types.Ty.TheOpen.{MethodType-F}
use Rattle.rbs_tree.specs.declared.types.Ty.TheViews.{out-roll-MethodType, roll-BlockType, roll-Field, roll-Keyword, roll-MethodType, roll-Param}
use Rattle.rbs_tree.specs.declared.types.Ty.TheFolds.{fold-MethodType, fold-roll-MethodType, fold-roll-Param}
use Rattle.sig_rules.specs.declared.files.Declared.{Declared}
use Rattle.sig_rules.specs.Given.{simple}
use Rattle.sig_rules.specs.Types.{meant, meant_method, meant_step}
use Rattle.given_members.specs.Meanings.{Scope, instance_in, meant_in, method_in, simple_of}

abbrev Layer : Type 0
Layer = MethodType-F Ty BlockType Field Keyword MethodType Param

-- the layer of a method type of these required parameters alone
abbrev simple_layer : List Param → Ty → Layer
simple_layer required ty = record { vars = []; required = required; optional = []; rest = None; trailing = []; keywords = []; rest_keywords = None; block = None; «result» = ty }

-- a layer's own variables are those before the ones around it
meant_layer : (all : List Declared) (context : List TypeName) (vars : List (List ℕ)) (x : Layer)
    → meant_method all context vars (roll-MethodType x) ≡ fold-MethodType Ty BlockType Field Keyword MethodType Param (meant_step all context (x.vars ++ vars)) roll-BlockType roll-Field roll-Keyword roll-MethodType roll-Param (roll-MethodType x)
meant_layer all context vars x =
    ap (λ (l : Layer). fold-MethodType Ty BlockType Field Keyword MethodType Param (meant_step all context (l.vars ++ vars)) roll-BlockType roll-Field roll-Keyword roll-MethodType roll-Param (roll-MethodType x)) (out-roll-MethodType x)

meant_reader : (all : List Declared) (context : List TypeName) (vars : List (List ℕ)) (ty : Ty) → meant_method all context vars (simple [] ty) ≡ simple [] (meant all context vars ty)
meant_reader all context vars ty =
    meant_layer all context vars (simple_layer [] ty)
    ∙ fold-roll-MethodType Ty BlockType Field Keyword MethodType Param (meant_step all context vars) roll-BlockType roll-Field roll-Keyword roll-MethodType roll-Param (simple_layer [] ty)

meant_writer : (all : List Declared) (context : List TypeName) (vars : List (List ℕ)) (name : List ℕ) (ty : Ty) → meant_method all context vars (simple ((Some name, ty) ∷ []) ty) ≡ simple ((Some name, meant all context vars ty) ∷ []) (meant all context vars ty)
meant_writer all context vars name ty =
    meant_layer all context vars (simple_layer (record { ty = ty; name = Some name } ∷ []) ty)
    ∙ fold-roll-MethodType Ty BlockType Field Keyword MethodType Param (meant_step all context vars) roll-BlockType roll-Field roll-Keyword roll-MethodType roll-Param (simple_layer (record { ty = ty; name = Some name } ∷ []) ty)
    ∙ ap (λ (p : Param). roll-MethodType (simple_layer (p ∷ []) (meant all context vars ty)))
    (fold-roll-Param Ty BlockType Field Keyword MethodType Param (meant_step all context vars) roll-BlockType roll-Field roll-Keyword roll-MethodType roll-Param (record { ty = ty; name = Some name }))

-- a reader's method type gives what the attribute's type means
pub reader_means : (s : Scope) (ty : Ty) → method_in s (simple [] ty) ≡ instance_in s (simple [] (meant_in s ty))
unfolding method_in instance_in meant_in
reader_means s ty = ap (instance_in s) (meant_reader s.all s.context s.own ty)

-- a writer's takes and gives it
pub writer_means : (s : Scope) (name : List ℕ) (ty : Ty) → method_in s (simple ((Some name, ty) ∷ []) ty) ≡ instance_in s (simple ((Some name, meant_in s ty) ∷ []) (meant_in s ty))
unfolding method_in instance_in meant_in
writer_means s name ty = ap (instance_in s) (meant_writer s.all s.context s.own name ty)

-- what is made for a reader, one step after the other
pub reader_of_steps : {E : Type 0} (s : Scope) (ty : Ty) (r : Result MethodType E) {params : List Param} {meant : Ty} {m : MethodType}
    → params ≡ [] → meant ≡ meant_in s ty → m ≡ simple_of params meant → IfOk r (λ i. i ≡ instance_in s m) → IfOk r (λ i. i ≡ method_in s (simple [] ty))
reader_of_steps s ty r no_params is_meant is_simple last =
    subst (λ z. IfOk r (λ i. i ≡ z)) (ap (instance_in s) (is_simple ∙ (λ i. simple_of (no_params i) (is_meant i))) ∙ sym (reader_means s ty)) last

-- what is made for a writer
pub writer_of_steps : {E : Type 0} (s : Scope) (name : List ℕ) (ty : Ty) (r : Result MethodType E) {params : List Param} {meant : Ty} {m : MethodType}
    → params ≡ record { ty = meant_in s ty; name = Some name } ∷ [] → meant ≡ meant_in s ty → m ≡ simple_of params meant → IfOk r (λ i. i ≡ instance_in s m)
    → IfOk r (λ i. i ≡ method_in s (simple ((Some name, ty) ∷ []) ty))
writer_of_steps s name ty r its_params is_meant is_simple last =
    subst (λ z. IfOk r (λ i. i ≡ z)) (ap (instance_in s) (is_simple ∙ (λ i. simple_of (its_params i) (is_meant i))) ∙ sym (writer_means s name ty)) last
