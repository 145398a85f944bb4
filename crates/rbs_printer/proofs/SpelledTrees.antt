-- The tokens of a printed type spell it, by induction over the type.
use Rattle.std.proofs.Common.{◌≡◌, suc, true, false, nat_le, ◌&&◌, List, [], ◌∷◌, length, map, Option, Some, None, refl, sym, ◌∙◌, ap, subst}
use Rattle.std.specs.List.{list_all}
use Rattle.rbs_tree.specs.declared.types.Ty.{Ty, roll-Ty}
use Rattle.rbs_tree.specs.declared.types.BlockType.{BlockType}
use Rattle.rbs_tree.specs.declared.types.Field.{Field}
use Rattle.rbs_tree.specs.declared.types.Keyword.{Keyword}
use Rattle.rbs_tree.specs.declared.types.MethodType.{MethodType}
use Rattle.rbs_tree.specs.declared.types.Param.{Param}
use Rattle.rbs_tree.specs.declared.types.Ty.TheOpen.{Ty-F, BlockType-F, MethodType-F}
use Rattle.rbs_tree.specs.declared.types.Ty.TheViews.{roll-BlockType, roll-Field, roll-Keyword, roll-MethodType, roll-Param, out-BlockType, out-MethodType, out-roll-BlockType, out-roll-MethodType}
use Rattle.rbs_tree.specs.declared.types.Ty.TheFolds.{map-Ty, map-BlockType, map-MethodType, fold-roll-Ty, fold_out-Field, ind-Ty}
use Rattle.rbs_lexer.specs.declared.kind.Kind.TheVariants as k
use Rattle.rbs_grammar.specs.Rules.{is, is_word}
use Rattle.rbs_printer.proofs.Fit.{fit, fit_field_tree, is_true, is_word_of, ends_name, fits_alias, two_or_more}
use Rattle.rbs_printer.proofs.Claims.{SpelledIfFit, AllOf, IfThere, PlainParts, Parts}
use Rattle.rbs_printer.proofs.Literals.{string_read, symbol_read, integer_read}
use Rattle.rbs_printer.proofs.SpelledNames.{left_true, right_true}
use Rattle.rbs_printer.proofs.SpelledTypes.{Well}
use Rattle.rbs_printer.proofs.SpelledLayers as layers
use Rattle.rbs_printer.proofs.SpelledParts.{union_spelled, inter_spelled}
use Rattle.rbs_printer.proofs.SpelledFields.{WellField, record_spelled}
use Rattle.rbs_printer.proofs.SpelledFunctions.{function_spelled}

-- ---- trees with their proofs

abbrev TyProved : Type 0
TyProved = (ty : Ty) × SpelledIfFit ty

abbrev FieldProved : Type 0
FieldProved = (f : Field) × SpelledIfFit f.ty

abbrev KeywordProved : Type 0
KeywordProved = (keyword : Keyword) × SpelledIfFit keyword.ty

abbrev ParamProved : Type 0
ParamProved = (p : Param) × SpelledIfFit p.ty

abbrev BlockProved : Type 0
BlockProved = (b : BlockType) × PlainParts SpelledIfFit (out-BlockType b).fun

abbrev MethodProved : Type 0
MethodProved = (m : MethodType) × Parts SpelledIfFit m

abbrev bare_layer : Ty-F TyProved BlockProved FieldProved KeywordProved MethodProved ParamProved → Ty-F Ty BlockType Field Keyword MethodType Param
bare_layer = map-Ty TyProved BlockProved FieldProved KeywordProved MethodProved ParamProved Ty BlockType Field Keyword MethodType Param (λ e. e.0) (λ e. e.0) (λ e. e.0) (λ e. e.0) (λ e. e.0) (λ e. e.0)

abbrev types_of : List TyProved → List Ty
types_of es = map (λ e. e.0) es

abbrev fields_of : List FieldProved → List Field
fields_of es = map (λ e. e.0) es

length_map : {A B : Type 0} (f : A → B) (xs : List A) → length (map f xs) ≡ length xs
length_map f [] = refl
length_map f (x ∷ xs) = ap (λ n. suc n) (length_map f xs)

all_well : (es : List TyProved) → list_all is_true (map fit (types_of es)) ≡ true → AllOf Well (types_of es)
all_well [] fits = tt
all_well (e ∷ es) fits = let rest = list_all is_true (map fit (types_of es)) in (e.1 (left_true (fit e.0) rest fits), all_well es (right_true (fit e.0) rest fits))

all_fields_well : (es : List FieldProved) → list_all is_true (map fit_field_tree (fields_of es)) ≡ true → AllOf WellField (fields_of es)
all_fields_well [] fits = tt
all_fields_well (e ∷ es) fits =
    let rest = list_all is_true (map fit_field_tree (fields_of es)) in
    let this : (is_word_of is_word e.0.key && fit e.0.ty) ≡ true = sym (fold_out-Field _ _ _ _ _ _ _ _ _ _ _ _ e.0) ∙ left_true (fit_field_tree e.0) rest fits in
    ((left_true (is_word_of is_word e.0.key) (fit e.0.ty) this, e.1 (right_true (is_word_of is_word e.0.key) (fit e.0.ty) this)), all_fields_well es (right_true (fit_field_tree e.0) rest fits))

many_all : (tys : List Ty) → two_or_more (map fit tys) ≡ true → nat_le 2 (length tys) ≡ true
many_all tys fits = subst (λ n. nat_le 2 n ≡ true) (length_map fit tys) (left_true (nat_le 2 (length (map fit tys))) (list_all is_true (map fit tys)) fits)

-- ---- a layer

layer_spelled : (y : Ty-F TyProved BlockProved FieldProved KeywordProved MethodProved ParamProved) → SpelledIfFit (roll-Ty (bare_layer y))
layer_spelled (Ty-F.Instance name es) fits =
    let e : (ends_name (is k.Constant) name.path && list_all is_true (map fit (types_of es))) ≡ true = sym (fold-roll-Ty _ _ _ _ _ _ _ _ _ _ _ _ (Ty-F.Instance name (types_of es))) ∙ fits in
    layers.instance_spelled name (types_of es) (all_well es (right_true (ends_name (is k.Constant) name.path) (list_all is_true (map fit (types_of es))) e)) (left_true (ends_name (is k.Constant) name.path) (list_all is_true (map fit (types_of es))) e)
layer_spelled (Ty-F.Interface name es) fits =
    let e : (ends_name (is k.InterfaceName) name.path && list_all is_true (map fit (types_of es))) ≡ true = sym (fold-roll-Ty _ _ _ _ _ _ _ _ _ _ _ _ (Ty-F.Interface name (types_of es))) ∙ fits in
    layers.interface_spelled name (types_of es) (all_well es (right_true (ends_name (is k.InterfaceName) name.path) (list_all is_true (map fit (types_of es))) e)) (left_true (ends_name (is k.InterfaceName) name.path) (list_all is_true (map fit (types_of es))) e)
layer_spelled (Ty-F.Alias name es) fits =
    let e : (fits_alias name && list_all is_true (map fit (types_of es))) ≡ true = sym (fold-roll-Ty _ _ _ _ _ _ _ _ _ _ _ _ (Ty-F.Alias name (types_of es))) ∙ fits in
    layers.alias_spelled name (types_of es) (all_well es (right_true (fits_alias name) (list_all is_true (map fit (types_of es))) e)) (left_true (fits_alias name) (list_all is_true (map fit (types_of es))) e)
layer_spelled (Ty-F.Singleton name) fits = layers.singleton_spelled name (sym (fold-roll-Ty _ _ _ _ _ _ _ _ _ _ _ _ (Ty-F.Singleton name)) ∙ fits)
layer_spelled (Ty-F.IntLit z) fits = layers.integer_spelled z (integer_read z (sym (fold-roll-Ty _ _ _ _ _ _ _ _ _ _ _ _ (Ty-F.IntLit z)) ∙ fits))
layer_spelled (Ty-F.StrLit v) fits = layers.string_spelled v (string_read v)
layer_spelled (Ty-F.SymLit v) fits = layers.symbol_spelled v (symbol_read v (sym (fold-roll-Ty _ _ _ _ _ _ _ _ _ _ _ _ (Ty-F.SymLit v)) ∙ fits))
layer_spelled Ty-F.True fits = layers.true_spelled
layer_spelled Ty-F.False fits = layers.false_spelled
layer_spelled Ty-F.Bool fits = layers.bool_spelled
layer_spelled Ty-F.Nil fits = layers.nil_spelled
layer_spelled Ty-F.Top fits = layers.top_spelled
layer_spelled Ty-F.Bot fits = layers.bot_spelled
layer_spelled Ty-F.Void fits = layers.void_spelled
layer_spelled Ty-F.Untyped fits = layers.untyped_spelled
layer_spelled Ty-F.SelfTy fits = layers.self_spelled
layer_spelled Ty-F.InstanceTy fits = layers.instance_word_spelled
layer_spelled Ty-F.ClassTy fits = layers.class_word_spelled
layer_spelled (Ty-F.Var name) fits = let e : false ≡ true = sym (fold-roll-Ty _ _ _ _ _ _ _ _ _ _ _ _ (Ty-F.Var name)) ∙ fits in cc
layer_spelled (Ty-F.Union es) fits =
    let e : two_or_more (map fit (types_of es)) ≡ true = sym (fold-roll-Ty _ _ _ _ _ _ _ _ _ _ _ _ (Ty-F.Union (types_of es))) ∙ fits in
    union_spelled (types_of es) (all_well es (right_true (nat_le 2 (length (map fit (types_of es)))) (list_all is_true (map fit (types_of es))) e)) (many_all (types_of es) e)
layer_spelled (Ty-F.Inter es) fits =
    let e : two_or_more (map fit (types_of es)) ≡ true = sym (fold-roll-Ty _ _ _ _ _ _ _ _ _ _ _ _ (Ty-F.Inter (types_of es))) ∙ fits in
    inter_spelled (types_of es) (all_well es (right_true (nat_le 2 (length (map fit (types_of es)))) (list_all is_true (map fit (types_of es))) e)) (many_all (types_of es) e)
layer_spelled (Ty-F.Optional e) fits = layers.optional_spelled e.0 (e.1 (sym (fold-roll-Ty _ _ _ _ _ _ _ _ _ _ _ _ (Ty-F.Optional e.0)) ∙ fits))
layer_spelled (Ty-F.TupleOf es) fits = layers.tuple_spelled (types_of es) (all_well es (sym (fold-roll-Ty _ _ _ _ _ _ _ _ _ _ _ _ (Ty-F.TupleOf (types_of es))) ∙ fits))
layer_spelled (Ty-F.RecordOf es) fits = record_spelled (fields_of es) (all_fields_well es (sym (fold-roll-Ty _ _ _ _ _ _ _ _ _ _ _ _ (Ty-F.RecordOf (fields_of es))) ∙ fits))
layer_spelled (Ty-F.ProcOf m) fits = layers.proc_spelled m.0 (function_spelled m.0 m.1 (sym (fold-roll-Ty _ _ _ _ _ _ _ _ _ _ _ _ (Ty-F.ProcOf m.0)) ∙ fits))

-- ---- the parts of a function

abbrev bare_method_layer : MethodType-F TyProved BlockProved FieldProved KeywordProved MethodProved ParamProved → MethodType-F Ty BlockType Field Keyword MethodType Param
bare_method_layer = map-MethodType TyProved BlockProved FieldProved KeywordProved MethodProved ParamProved Ty BlockType Field Keyword MethodType Param (λ e. e.0) (λ e. e.0) (λ e. e.0) (λ e. e.0) (λ e. e.0) (λ e. e.0)

abbrev bare_block_layer : BlockType-F TyProved BlockProved FieldProved KeywordProved MethodProved ParamProved → BlockType-F Ty BlockType Field Keyword MethodType Param
bare_block_layer = map-BlockType TyProved BlockProved FieldProved KeywordProved MethodProved ParamProved Ty BlockType Field Keyword MethodType Param (λ e. e.0) (λ e. e.0) (λ e. e.0) (λ e. e.0) (λ e. e.0) (λ e. e.0)

abbrev block_parts : BlockType → Type 0
block_parts b = PlainParts SpelledIfFit (out-BlockType b).fun

params_proved : (es : List ParamProved) → AllOf (λ (p : Param). SpelledIfFit p.ty) (map (λ e. e.0) es)
params_proved [] = tt
params_proved (e ∷ es) = (e.1, params_proved es)

keywords_proved : (es : List KeywordProved) → AllOf (λ (p : Keyword). SpelledIfFit p.ty) (map (λ e. e.0) es)
keywords_proved [] = tt
keywords_proved (e ∷ es) = (e.1, keywords_proved es)

abbrev MethodLayer : Type 0
MethodLayer = MethodType-F TyProved BlockProved FieldProved KeywordProved MethodProved ParamProved

rest_proved : (y : MethodLayer) (e : Option ParamProved) → IfThere (λ (p : Param). SpelledIfFit p.ty) (bare_method_layer (record y { rest = e })).rest
rest_proved y None = tt
rest_proved y (Some e) = e.1

rest_keywords_proved : (y : MethodLayer) (e : Option ParamProved) → IfThere (λ (p : Param). SpelledIfFit p.ty) (bare_method_layer (record y { rest_keywords = e })).rest_keywords
rest_keywords_proved y None = tt
rest_keywords_proved y (Some e) = e.1

block_proved : (y : MethodLayer) (e : Option BlockProved) → IfThere block_parts (bare_method_layer (record y { block = e })).block
block_proved y None = tt
block_proved y (Some e) = e.1

parts_proved : (y : MethodLayer) → Parts SpelledIfFit (roll-MethodType (bare_method_layer y))
parts_proved y = let same = sym (out-roll-MethodType (bare_method_layer y)) in record {
  plain = record {
    required = subst (λ l. AllOf (λ (p : Param). SpelledIfFit p.ty) l.required) same (params_proved y.required);
    optional = subst (λ l. AllOf (λ (p : Param). SpelledIfFit p.ty) l.optional) same (params_proved y.optional);
    rest = subst (λ l. IfThere (λ (p : Param). SpelledIfFit p.ty) l.rest) same (rest_proved y y.rest);
    trailing = subst (λ l. AllOf (λ (p : Param). SpelledIfFit p.ty) l.trailing) same (params_proved y.trailing);
    keywords = subst (λ l. AllOf (λ (p : Keyword). SpelledIfFit p.ty) l.keywords) same (keywords_proved y.keywords);
    rest_keywords = subst (λ l. IfThere (λ (p : Param). SpelledIfFit p.ty) l.rest_keywords) same (rest_keywords_proved y y.rest_keywords);
    result = subst (λ l. SpelledIfFit l.result) same y.result.1;
  };
  block = subst (λ l. IfThere block_parts l.block) same (block_proved y y.block);
}

block_parts_proved : (y : BlockType-F TyProved BlockProved FieldProved KeywordProved MethodProved ParamProved) → block_parts (roll-BlockType (bare_block_layer y))
block_parts_proved y = subst (λ l. PlainParts SpelledIfFit l.fun) (sym (out-roll-BlockType (bare_block_layer y))) y.fun.1.plain

-- ---- trees

-- A type that fits is spelled.
pub type_spelled : (ty : Ty) → SpelledIfFit ty
type_spelled = ind-Ty SpelledIfFit block_parts (λ (f : Field). SpelledIfFit f.ty) (λ (p : Keyword). SpelledIfFit p.ty) (Parts SpelledIfFit) (λ (p : Param). SpelledIfFit p.ty)
    (λ x y is. subst (λ z. SpelledIfFit (roll-Ty z)) is (layer_spelled y))
    (λ x y is. subst (λ z. block_parts (roll-BlockType z)) is (block_parts_proved y))
    (λ x y is. subst (λ z. SpelledIfFit (roll-Field z).ty) is y.ty.1)
    (λ x y is. subst (λ z. SpelledIfFit (roll-Keyword z).ty) is y.ty.1)
    (λ x y is. subst (λ z. Parts SpelledIfFit (roll-MethodType z)) is (parts_proved y))
    (λ x y is. subst (λ z. SpelledIfFit (roll-Param z).ty) is y.ty.1)

-- ---- what holds of all types holds of the parts of a function

module _ (P : Ty → Type 0) (all : (ty : Ty) → P ty) where
  all_of_params : (ps : List Param) → AllOf (λ (p : Param). P p.ty) ps
  all_of_params [] = tt
  all_of_params (p ∷ ps) = (all p.ty, all_of_params ps)

  all_of_keywords : (ps : List Keyword) → AllOf (λ (p : Keyword). P p.ty) ps
  all_of_keywords [] = tt
  all_of_keywords (p ∷ ps) = (all p.ty, all_of_keywords ps)

  if_param : (p : Option Param) → IfThere (λ (p : Param). P p.ty) p
  if_param None = tt
  if_param (Some p) = all p.ty

  all_plain : (m : MethodType) → PlainParts P m
  all_plain m = let l = out-MethodType m in record {
    required = all_of_params l.required;
    optional = all_of_params l.optional;
    rest = if_param l.rest;
    trailing = all_of_params l.trailing;
    keywords = all_of_keywords l.keywords;
    rest_keywords = if_param l.rest_keywords;
    result = all l.result;
  }

  if_block : (b : Option BlockType) → IfThere (λ (b : BlockType). PlainParts P (out-BlockType b).fun) b
  if_block None = tt
  if_block (Some b) = all_plain (out-BlockType b).fun

  pub all_parts : (m : MethodType) → Parts P m
  all_parts m = record { plain = all_plain m; block = if_block (out-MethodType m).block }

-- the parts of any function
pub parts_spelled : (m : MethodType) → Parts SpelledIfFit m
parts_spelled = all_parts SpelledIfFit type_spelled
