-- Whether two types are the same, the places of names among all else.
use Rattle.std.specs.Prelude.{ℕ, Bool, true, false, ◌&&◌, ◌==◌, nat_eq, List, [], ◌∷◌, Option, Some, None}
use Rattle.std.specs.Ordering.{int_eq}
use Rattle.std.specs.Cmp.Lexicographic.{pointwise}
use Rattle.src_text.specs.declared.span.Span.{Span}
use Rattle.rbs_tree.specs.declared.names.TypeName.{TypeName}
use Rattle.rbs_tree.specs.declared.types.Ty.{Ty}
use Rattle.rbs_tree.specs.declared.types.BlockType.{BlockType}
use Rattle.rbs_tree.specs.declared.types.Field.{Field}
use Rattle.rbs_tree.specs.declared.types.Keyword.{Keyword}
use Rattle.rbs_tree.specs.declared.types.MethodType.{MethodType}
use Rattle.rbs_tree.specs.declared.types.Param.{Param}
use Rattle.rbs_tree.specs.declared.types.Ty.TheOpen.{Ty-F, BlockType-F, Field-F, Keyword-F, MethodType-F, Param-F}
use Rattle.rbs_tree.specs.declared.types.Ty.TheViews.{out-Ty, out-BlockType, out-Field, out-Keyword, out-MethodType, out-Param}
use Rattle.rbs_tree.specs.declared.types.Ty.TheFolds.{fold-Ty}
use Rattle.sig_rules.specs.Declarations.{same_bool, same_path}

-- whether something is the same as what a test was made of
abbrev pub Test : Type 0 → Type 0
Test A = A → Bool

abbrev pub each : {A : Type 0} → List (Test A) → List A → Bool
each [] [] = true
each (test ∷ tests) (x ∷ xs) = test x && each tests xs
each _ _ = false

abbrev pub if_there : {A : Type 0} → Option (Test A) → Option A → Bool
if_there None None = true
if_there (Some test) (Some x) = test x
if_there _ _ = false

abbrev pub same_span : Span → Span → Bool
same_span a b = a.start == b.start && a.end == b.end

abbrev pub same_name : TypeName → TypeName → Bool
same_name a b = same_bool a.absolute b.absolute && (same_path a.path b.path && same_span a.at b.at)

abbrev pub same_text : List ℕ → List ℕ → Bool
same_text = pointwise nat_eq

-- whether a layer is the same as the one whose parts are tested
abbrev pub same_layer : Ty-F (Test Ty) (Test BlockType) (Test Field) (Test Keyword) (Test MethodType) (Test Param) → Ty-F Ty BlockType Field Keyword MethodType Param → Bool
same_layer (Ty-F.Instance a xs) (Ty-F.Instance b ys) = same_name a b && each xs ys
same_layer (Ty-F.Interface a xs) (Ty-F.Interface b ys) = same_name a b && each xs ys
same_layer (Ty-F.Alias a xs) (Ty-F.Alias b ys) = same_name a b && each xs ys
same_layer (Ty-F.Singleton a) (Ty-F.Singleton b) = same_name a b
same_layer (Ty-F.IntLit a) (Ty-F.IntLit b) = int_eq a b
same_layer (Ty-F.StrLit a) (Ty-F.StrLit b) = same_text a b
same_layer (Ty-F.SymLit a) (Ty-F.SymLit b) = same_text a b
same_layer Ty-F.True Ty-F.True = true
same_layer Ty-F.False Ty-F.False = true
same_layer Ty-F.Bool Ty-F.Bool = true
same_layer Ty-F.Nil Ty-F.Nil = true
same_layer Ty-F.Top Ty-F.Top = true
same_layer Ty-F.Bot Ty-F.Bot = true
same_layer Ty-F.Void Ty-F.Void = true
same_layer Ty-F.Untyped Ty-F.Untyped = true
same_layer Ty-F.SelfTy Ty-F.SelfTy = true
same_layer Ty-F.InstanceTy Ty-F.InstanceTy = true
same_layer Ty-F.ClassTy Ty-F.ClassTy = true
same_layer (Ty-F.Var a) (Ty-F.Var b) = same_text a b
same_layer (Ty-F.Union xs) (Ty-F.Union ys) = each xs ys
same_layer (Ty-F.Inter xs) (Ty-F.Inter ys) = each xs ys
same_layer (Ty-F.Optional x) (Ty-F.Optional y) = x y
same_layer (Ty-F.TupleOf xs) (Ty-F.TupleOf ys) = each xs ys
same_layer (Ty-F.RecordOf xs) (Ty-F.RecordOf ys) = each xs ys
same_layer (Ty-F.ProcOf x) (Ty-F.ProcOf y) = x y
same_layer _ _ = false

abbrev pub as_type : Ty-F (Test Ty) (Test BlockType) (Test Field) (Test Keyword) (Test MethodType) (Test Param) → Test Ty
as_type layer other = same_layer layer (out-Ty other)

abbrev pub as_block : BlockType-F (Test Ty) (Test BlockType) (Test Field) (Test Keyword) (Test MethodType) (Test Param) → Test BlockType
as_block layer other = let b = out-BlockType other in same_bool layer.required b.required && layer.fun b.fun

abbrev pub as_field : Field-F (Test Ty) (Test BlockType) (Test Field) (Test Keyword) (Test MethodType) (Test Param) → Test Field
as_field layer other = let f = out-Field other in same_text layer.key f.key && layer.ty f.ty

abbrev pub as_keyword : Keyword-F (Test Ty) (Test BlockType) (Test Field) (Test Keyword) (Test MethodType) (Test Param) → Test Keyword
as_keyword layer other = let k = out-Keyword other in same_text layer.key k.key && (same_bool layer.required k.required && layer.ty k.ty)

abbrev pub as_function : MethodType-F (Test Ty) (Test BlockType) (Test Field) (Test Keyword) (Test MethodType) (Test Param) → Test MethodType
as_function layer other = let m = out-MethodType other in
    same_path layer.vars m.vars && (each layer.required m.required && (each layer.optional m.optional && (if_there layer.rest m.rest && (each layer.trailing m.trailing && (each layer.keywords m.keywords
    && (if_there layer.rest_keywords m.rest_keywords && (if_there layer.block m.block && layer.result m.result)))))))

abbrev pub as_param : Param-F (Test Ty) (Test BlockType) (Test Field) (Test Keyword) (Test MethodType) (Test Param) → Test Param
as_param layer other = let p = out-Param other in layer.ty p.ty && same_word layer.name p.name
  where
    same_word : Option (List ℕ) → Option (List ℕ) → Bool
    same_word None None = true
    same_word (Some a) (Some b) = same_text a b
    same_word _ _ = false

-- whether two types are the same
abbrev pub same_ty : Ty → Ty → Bool
same_ty = fold-Ty (Test Ty) (Test BlockType) (Test Field) (Test Keyword) (Test MethodType) (Test Param) as_type as_block as_field as_keyword as_function as_param
