-- Where no variable gets another type, a type stays as it is.
use Rattle.std.proofs.Common.{◌≡◌, ℕ, List, [], ◌∷◌, map, Option, Some, None, refl, sym, ap, ap₂, ◌∙◌, subst as along}
use Rattle.rbs_tree.specs.declared.types.Ty.{Ty, roll-Ty}
use Rattle.rbs_tree.specs.declared.types.Ty.TheVariants as t
use Rattle.rbs_tree.specs.declared.types.BlockType.{BlockType}
use Rattle.rbs_tree.specs.declared.types.Field.{Field}
use Rattle.rbs_tree.specs.declared.types.Keyword.{Keyword}
use Rattle.rbs_tree.specs.declared.types.MethodType.{MethodType}
use Rattle.rbs_tree.specs.declared.types.Param.{Param}
use Rattle.rbs_tree.specs.declared.types.Ty.TheOpen.{Ty-F, BlockType-F, Field-F, Keyword-F, MethodType-F, Param-F}
use Rattle.rbs_tree.specs.declared.types.Ty.TheViews.{roll-BlockType, roll-Field, roll-Keyword, roll-MethodType, roll-Param}
use Rattle.rbs_tree.specs.declared.types.Ty.TheFolds.{fold-roll-Ty, fold-roll-BlockType, fold-roll-Field, fold-roll-Keyword, fold-roll-MethodType, fold-roll-Param, map-Ty, map-BlockType, map-Field, map-Keyword, map-MethodType, map-Param, ind-Ty, ind-MethodType}
use Rattle.rbs_tree.specs.Substitution.{chosen, subst, subst_step, subst_block, subst_field, subst_keyword, subst_method, subst_param}

-- a function on each of a list that it leaves as they are
each_same : {A : Type 0} (f : A → A) (xs : List ((a : A) × (f a ≡ a))) → map f (map (λ e. e.0) xs) ≡ map (λ e. e.0) xs
each_same f [] = refl
each_same f (x ∷ xs) = ap₂ ◌∷◌ x.1 (each_same f xs)

module _ (vars : List (List ℕ)) (by : List Ty) (stays : (name : List ℕ) → chosen vars by name ≡ t.Var name) where
  abbrev SameTy : Ty → Type 0
  SameTy x = subst vars by x ≡ x

  abbrev SameBlockType : BlockType → Type 0
  SameBlockType x = subst_block vars by x ≡ x

  abbrev SameField : Field → Type 0
  SameField x = subst_field vars by x ≡ x

  abbrev SameKeyword : Keyword → Type 0
  SameKeyword x = subst_keyword vars by x ≡ x

  abbrev SameMethodType : MethodType → Type 0
  SameMethodType x = subst_method vars by x ≡ x

  abbrev SameParam : Param → Type 0
  SameParam x = subst_param vars by x ≡ x

  abbrev done_ty : Ty-F Ty BlockType Field Keyword MethodType Param → Ty-F Ty BlockType Field Keyword MethodType Param
  done_ty x = map-Ty _ _ _ _ _ _ _ _ _ _ _ _ (subst vars by) (subst_block vars by) (subst_field vars by) (subst_keyword vars by) (subst_method vars by) (subst_param vars by) x

  abbrev of_ty : Ty-F ((x : Ty) × SameTy x) ((x : BlockType) × SameBlockType x) ((x : Field) × SameField x) ((x : Keyword) × SameKeyword x) ((x : MethodType) × SameMethodType x) ((x : Param) × SameParam x) → Ty-F Ty BlockType Field Keyword MethodType Param
  of_ty y = map-Ty _ _ _ _ _ _ _ _ _ _ _ _ (λ e. e.0) (λ e. e.0) (λ e. e.0) (λ e. e.0) (λ e. e.0) (λ e. e.0) y

  abbrev done_block : BlockType-F Ty BlockType Field Keyword MethodType Param → BlockType-F Ty BlockType Field Keyword MethodType Param
  done_block x = map-BlockType _ _ _ _ _ _ _ _ _ _ _ _ (subst vars by) (subst_block vars by) (subst_field vars by) (subst_keyword vars by) (subst_method vars by) (subst_param vars by) x

  abbrev of_block : BlockType-F ((x : Ty) × SameTy x) ((x : BlockType) × SameBlockType x) ((x : Field) × SameField x) ((x : Keyword) × SameKeyword x) ((x : MethodType) × SameMethodType x) ((x : Param) × SameParam x) → BlockType-F Ty BlockType Field Keyword MethodType Param
  of_block y = map-BlockType _ _ _ _ _ _ _ _ _ _ _ _ (λ e. e.0) (λ e. e.0) (λ e. e.0) (λ e. e.0) (λ e. e.0) (λ e. e.0) y

  abbrev done_field : Field-F Ty BlockType Field Keyword MethodType Param → Field-F Ty BlockType Field Keyword MethodType Param
  done_field x = map-Field _ _ _ _ _ _ _ _ _ _ _ _ (subst vars by) (subst_block vars by) (subst_field vars by) (subst_keyword vars by) (subst_method vars by) (subst_param vars by) x

  abbrev of_field : Field-F ((x : Ty) × SameTy x) ((x : BlockType) × SameBlockType x) ((x : Field) × SameField x) ((x : Keyword) × SameKeyword x) ((x : MethodType) × SameMethodType x) ((x : Param) × SameParam x) → Field-F Ty BlockType Field Keyword MethodType Param
  of_field y = map-Field _ _ _ _ _ _ _ _ _ _ _ _ (λ e. e.0) (λ e. e.0) (λ e. e.0) (λ e. e.0) (λ e. e.0) (λ e. e.0) y

  abbrev done_keyword : Keyword-F Ty BlockType Field Keyword MethodType Param → Keyword-F Ty BlockType Field Keyword MethodType Param
  done_keyword x = map-Keyword _ _ _ _ _ _ _ _ _ _ _ _ (subst vars by) (subst_block vars by) (subst_field vars by) (subst_keyword vars by) (subst_method vars by) (subst_param vars by) x

  abbrev of_keyword : Keyword-F ((x : Ty) × SameTy x) ((x : BlockType) × SameBlockType x) ((x : Field) × SameField x) ((x : Keyword) × SameKeyword x) ((x : MethodType) × SameMethodType x) ((x : Param) × SameParam x) → Keyword-F Ty BlockType Field Keyword MethodType Param
  of_keyword y = map-Keyword _ _ _ _ _ _ _ _ _ _ _ _ (λ e. e.0) (λ e. e.0) (λ e. e.0) (λ e. e.0) (λ e. e.0) (λ e. e.0) y

  abbrev done_method : MethodType-F Ty BlockType Field Keyword MethodType Param → MethodType-F Ty BlockType Field Keyword MethodType Param
  done_method x = map-MethodType _ _ _ _ _ _ _ _ _ _ _ _ (subst vars by) (subst_block vars by) (subst_field vars by) (subst_keyword vars by) (subst_method vars by) (subst_param vars by) x

  abbrev of_method : MethodType-F ((x : Ty) × SameTy x) ((x : BlockType) × SameBlockType x) ((x : Field) × SameField x) ((x : Keyword) × SameKeyword x) ((x : MethodType) × SameMethodType x) ((x : Param) × SameParam x) → MethodType-F Ty BlockType Field Keyword MethodType Param
  of_method y = map-MethodType _ _ _ _ _ _ _ _ _ _ _ _ (λ e. e.0) (λ e. e.0) (λ e. e.0) (λ e. e.0) (λ e. e.0) (λ e. e.0) y

  abbrev done_param : Param-F Ty BlockType Field Keyword MethodType Param → Param-F Ty BlockType Field Keyword MethodType Param
  done_param x = map-Param _ _ _ _ _ _ _ _ _ _ _ _ (subst vars by) (subst_block vars by) (subst_field vars by) (subst_keyword vars by) (subst_method vars by) (subst_param vars by) x

  abbrev of_param : Param-F ((x : Ty) × SameTy x) ((x : BlockType) × SameBlockType x) ((x : Field) × SameField x) ((x : Keyword) × SameKeyword x) ((x : MethodType) × SameMethodType x) ((x : Param) × SameParam x) → Param-F Ty BlockType Field Keyword MethodType Param
  of_param y = map-Param _ _ _ _ _ _ _ _ _ _ _ _ (λ e. e.0) (λ e. e.0) (λ e. e.0) (λ e. e.0) (λ e. e.0) (λ e. e.0) y

  rolled : (x : Ty-F Ty BlockType Field Keyword MethodType Param) → subst_step vars by x ≡ roll-Ty x
  rolled (Ty-F.Instance name args) = refl
  rolled (Ty-F.Interface name args) = refl
  rolled (Ty-F.Alias name args) = refl
  rolled (Ty-F.Singleton name) = refl
  rolled (Ty-F.IntLit value) = refl
  rolled (Ty-F.StrLit value) = refl
  rolled (Ty-F.SymLit name) = refl
  rolled Ty-F.True = refl
  rolled Ty-F.False = refl
  rolled Ty-F.Bool = refl
  rolled Ty-F.Nil = refl
  rolled Ty-F.Top = refl
  rolled Ty-F.Bot = refl
  rolled Ty-F.Void = refl
  rolled Ty-F.Untyped = refl
  rolled Ty-F.SelfTy = refl
  rolled Ty-F.InstanceTy = refl
  rolled Ty-F.ClassTy = refl
  rolled (Ty-F.Var name) = stays name ∙ sym (t.rolls-Var name)
  rolled (Ty-F.Union ps) = refl
  rolled (Ty-F.Inter ps) = refl
  rolled (Ty-F.Optional p) = refl
  rolled (Ty-F.TupleOf ps) = refl
  rolled (Ty-F.RecordOf fields) = refl
  rolled (Ty-F.ProcOf fun) = refl

  ty_same : (y : Ty-F ((x : Ty) × SameTy x) ((x : BlockType) × SameBlockType x) ((x : Field) × SameField x) ((x : Keyword) × SameKeyword x) ((x : MethodType) × SameMethodType x) ((x : Param) × SameParam x)) → done_ty (of_ty y) ≡ of_ty y
  ty_same (Ty-F.Instance name args) = ap (Ty-F.Instance name) (each_same (subst vars by) args)
  ty_same (Ty-F.Interface name args) = ap (Ty-F.Interface name) (each_same (subst vars by) args)
  ty_same (Ty-F.Alias name args) = ap (Ty-F.Alias name) (each_same (subst vars by) args)
  ty_same (Ty-F.Singleton name) = refl
  ty_same (Ty-F.IntLit value) = refl
  ty_same (Ty-F.StrLit value) = refl
  ty_same (Ty-F.SymLit name) = refl
  ty_same Ty-F.True = refl
  ty_same Ty-F.False = refl
  ty_same Ty-F.Bool = refl
  ty_same Ty-F.Nil = refl
  ty_same Ty-F.Top = refl
  ty_same Ty-F.Bot = refl
  ty_same Ty-F.Void = refl
  ty_same Ty-F.Untyped = refl
  ty_same Ty-F.SelfTy = refl
  ty_same Ty-F.InstanceTy = refl
  ty_same Ty-F.ClassTy = refl
  ty_same (Ty-F.Var name) = refl
  ty_same (Ty-F.Union ps) = ap Ty-F.Union (each_same (subst vars by) ps)
  ty_same (Ty-F.Inter ps) = ap Ty-F.Inter (each_same (subst vars by) ps)
  ty_same (Ty-F.Optional p) = ap Ty-F.Optional p.1
  ty_same (Ty-F.TupleOf ps) = ap Ty-F.TupleOf (each_same (subst vars by) ps)
  ty_same (Ty-F.RecordOf fields) = ap Ty-F.RecordOf (each_same (subst_field vars by) fields)
  ty_same (Ty-F.ProcOf fun) = ap Ty-F.ProcOf fun.1

  rest_same : (y : MethodType-F ((x : Ty) × SameTy x) ((x : BlockType) × SameBlockType x) ((x : Field) × SameField x) ((x : Keyword) × SameKeyword x) ((x : MethodType) × SameMethodType x) ((x : Param) × SameParam x)) (x : Option ((p : Param) × SameParam p)) → (done_method (of_method (record y { rest = x }))).rest ≡ (of_method (record y { rest = x })).rest
  rest_same y None = refl
  rest_same y (Some x) = ap Some x.1

  rest_keywords_same : (y : MethodType-F ((x : Ty) × SameTy x) ((x : BlockType) × SameBlockType x) ((x : Field) × SameField x) ((x : Keyword) × SameKeyword x) ((x : MethodType) × SameMethodType x) ((x : Param) × SameParam x)) (x : Option ((p : Param) × SameParam p)) → (done_method (of_method (record y { rest_keywords = x }))).rest_keywords ≡ (of_method (record y { rest_keywords = x })).rest_keywords
  rest_keywords_same y None = refl
  rest_keywords_same y (Some x) = ap Some x.1

  block_same : (y : MethodType-F ((x : Ty) × SameTy x) ((x : BlockType) × SameBlockType x) ((x : Field) × SameField x) ((x : Keyword) × SameKeyword x) ((x : MethodType) × SameMethodType x) ((x : Param) × SameParam x)) (x : Option ((b : BlockType) × SameBlockType b)) → (done_method (of_method (record y { block = x }))).block ≡ (of_method (record y { block = x })).block
  block_same y None = refl
  block_same y (Some x) = ap Some x.1

  method_same : (y : MethodType-F ((x : Ty) × SameTy x) ((x : BlockType) × SameBlockType x) ((x : Field) × SameField x) ((x : Keyword) × SameKeyword x) ((x : MethodType) × SameMethodType x) ((x : Param) × SameParam x)) → done_method (of_method y) ≡ of_method y
  method_same y = λ i. record {
    vars = y.vars;
    required = each_same (subst_param vars by) y.required i;
    optional = each_same (subst_param vars by) y.optional i;
    rest = rest_same y y.rest i;
    trailing = each_same (subst_param vars by) y.trailing i;
    keywords = each_same (subst_keyword vars by) y.keywords i;
    rest_keywords = rest_keywords_same y y.rest_keywords i;
    block = block_same y y.block i;
    result = y.result.1 i;
  }

  ty_step : (x : Ty-F Ty BlockType Field Keyword MethodType Param) (y : Ty-F ((x : Ty) × SameTy x) ((x : BlockType) × SameBlockType x) ((x : Field) × SameField x) ((x : Keyword) × SameKeyword x) ((x : MethodType) × SameMethodType x) ((x : Param) × SameParam x)) → of_ty y ≡ x → SameTy (roll-Ty x)
  ty_step x y is =
      fold-roll-Ty Ty BlockType Field Keyword MethodType Param (subst_step vars by) roll-BlockType roll-Field roll-Keyword roll-MethodType roll-Param x
      ∙ rolled (done_ty x) ∙ ap roll-Ty (along (λ z. done_ty z ≡ z) is (ty_same y))

  block_step : (x : BlockType-F Ty BlockType Field Keyword MethodType Param) (y : BlockType-F ((x : Ty) × SameTy x) ((x : BlockType) × SameBlockType x) ((x : Field) × SameField x) ((x : Keyword) × SameKeyword x) ((x : MethodType) × SameMethodType x) ((x : Param) × SameParam x)) → of_block y ≡ x → SameBlockType (roll-BlockType x)
  block_step x y is =
      fold-roll-BlockType Ty BlockType Field Keyword MethodType Param (subst_step vars by) roll-BlockType roll-Field roll-Keyword roll-MethodType roll-Param x
      ∙ ap roll-BlockType (along (λ z. done_block z ≡ z) is (λ i. record { required = y.required; fun = y.fun.1 i }))

  field_step : (x : Field-F Ty BlockType Field Keyword MethodType Param) (y : Field-F ((x : Ty) × SameTy x) ((x : BlockType) × SameBlockType x) ((x : Field) × SameField x) ((x : Keyword) × SameKeyword x) ((x : MethodType) × SameMethodType x) ((x : Param) × SameParam x)) → of_field y ≡ x → SameField (roll-Field x)
  field_step x y is =
      fold-roll-Field Ty BlockType Field Keyword MethodType Param (subst_step vars by) roll-BlockType roll-Field roll-Keyword roll-MethodType roll-Param x
      ∙ ap roll-Field (along (λ z. done_field z ≡ z) is (λ i. record { key = y.key; ty = y.ty.1 i }))

  keyword_step : (x : Keyword-F Ty BlockType Field Keyword MethodType Param) (y : Keyword-F ((x : Ty) × SameTy x) ((x : BlockType) × SameBlockType x) ((x : Field) × SameField x) ((x : Keyword) × SameKeyword x) ((x : MethodType) × SameMethodType x) ((x : Param) × SameParam x)) → of_keyword y ≡ x → SameKeyword (roll-Keyword x)
  keyword_step x y is =
      fold-roll-Keyword Ty BlockType Field Keyword MethodType Param (subst_step vars by) roll-BlockType roll-Field roll-Keyword roll-MethodType roll-Param x
      ∙ ap roll-Keyword (along (λ z. done_keyword z ≡ z) is (λ i. record { key = y.key; required = y.required; ty = y.ty.1 i }))

  method_step : (x : MethodType-F Ty BlockType Field Keyword MethodType Param) (y : MethodType-F ((x : Ty) × SameTy x) ((x : BlockType) × SameBlockType x) ((x : Field) × SameField x) ((x : Keyword) × SameKeyword x) ((x : MethodType) × SameMethodType x) ((x : Param) × SameParam x)) → of_method y ≡ x → SameMethodType (roll-MethodType x)
  method_step x y is =
      fold-roll-MethodType Ty BlockType Field Keyword MethodType Param (subst_step vars by) roll-BlockType roll-Field roll-Keyword roll-MethodType roll-Param x
      ∙ ap roll-MethodType (along (λ z. done_method z ≡ z) is (method_same y))

  param_step : (x : Param-F Ty BlockType Field Keyword MethodType Param) (y : Param-F ((x : Ty) × SameTy x) ((x : BlockType) × SameBlockType x) ((x : Field) × SameField x) ((x : Keyword) × SameKeyword x) ((x : MethodType) × SameMethodType x) ((x : Param) × SameParam x)) → of_param y ≡ x → SameParam (roll-Param x)
  param_step x y is =
      fold-roll-Param Ty BlockType Field Keyword MethodType Param (subst_step vars by) roll-BlockType roll-Field roll-Keyword roll-MethodType roll-Param x
      ∙ ap roll-Param (along (λ z. done_param z ≡ z) is (λ i. record { ty = y.ty.1 i; name = y.name }))

  pub subst_same : (ty : Ty) → subst vars by ty ≡ ty
  subst_same = ind-Ty SameTy SameBlockType SameField SameKeyword SameMethodType SameParam ty_step block_step field_step keyword_step method_step param_step

  pub subst_method_same : (m : MethodType) → subst_method vars by m ≡ m
  subst_method_same = ind-MethodType SameTy SameBlockType SameField SameKeyword SameMethodType SameParam ty_step block_step field_step keyword_step method_step param_step

no-names : (by : List Ty) (name : List ℕ) → chosen [] by name ≡ t.Var name
no-names by name = refl

no-types : (vars : List (List ℕ)) (name : List ℕ) → chosen vars [] name ≡ t.Var name
no-types [] name = refl
no-types (var ∷ vars) name = refl

-- without names
pub no-names-ty : (by : List Ty) (ty : Ty) → subst [] by ty ≡ ty
no-names-ty by = subst_same [] by (no-names by)

pub no-names-method : (by : List Ty) (m : MethodType) → subst_method [] by m ≡ m
no-names-method by = subst_method_same [] by (no-names by)

-- without types
pub no-types-ty : (vars : List (List ℕ)) (ty : Ty) → subst vars [] ty ≡ ty
no-types-ty vars = subst_same vars [] (no-types vars)
