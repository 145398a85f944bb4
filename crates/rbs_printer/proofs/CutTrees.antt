-- The text of a printed type or method type is cut into its pieces, by induction over the type.
use Rattle.std.proofs.Common.{◌≡◌, ℕ, Bool, true, false, suc, nat_le, ◌&&◌, List, [], ◌∷◌, ◌++◌, length, map, refl, sym, ap, subst, ◌∙◌}
use Rattle.std.specs.Prelude.{not, if◌then◌else◌, Option, Some, None, option_map}
use Rattle.std.specs.List.{list_all}
use Rattle.std.specs.Str.{IsUtf8}
use Rattle.std.proofs.lemmas.Str.{IsUtf8-nil}
use Rattle.std.proofs.lemmas.List.{append-nil}
use Rattle.rbs_tree.specs.declared.types.Ty.{Ty, roll-Ty}
use Rattle.rbs_tree.specs.declared.types.BlockType.{BlockType}
use Rattle.rbs_tree.specs.declared.types.Field.{Field}
use Rattle.rbs_tree.specs.declared.types.Keyword.{Keyword}
use Rattle.rbs_tree.specs.declared.types.MethodType.{MethodType}
use Rattle.rbs_tree.specs.declared.types.Param.{Param}
use Rattle.rbs_tree.specs.declared.types.Ty.TheOpen.{Ty-F, BlockType-F, MethodType-F}
use Rattle.rbs_tree.specs.declared.types.Ty.TheViews.{roll-BlockType, roll-Field, roll-Keyword, roll-MethodType, roll-Param, out-BlockType, out-MethodType, out-roll-BlockType, out-roll-MethodType}
use Rattle.rbs_tree.specs.declared.types.Ty.TheFolds.{map-Ty, map-BlockType, map-MethodType, fold-BlockType, fold-Field, fold-Keyword, fold-Param, fold-roll-Ty, fold_out-Field, ind-Ty}
use Rattle.rbs_lexer.specs.declared.kind.Kind.TheVariants as k
use Rattle.rbs_lexer.specs.declared.place.Place.TheVariants as place
use Rattle.rbs_lexer.specs.declared.walk.Walk.{Walk}
use Rattle.rbs_lexer.specs.Lexing.{Piece, start, past_all, IsCut}
use Rattle.rbs_lexer.proofs.Skipping.{both}
use Rattle.rbs_grammar.specs.Rules.{is, is_small, is_word as is_any_word}
use Rattle.rbs_grammar.specs.Functions.{with_variables}
use Rattle.rbs_printer.specs.declared.level.Level.TheVariants as at
use Rattle.rbs_printer.specs.Printed.{is_lone}
use Rattle.rbs_printer.proofs.Pieces.{flat, Pieced, PiecedFunction, pieced, pieced_method, pieced_ty, pieced_block, pieced_field, pieced_keyword, pieced_param, pieced_function, key_pieces, type_pieces, method_pieces}
use Rattle.rbs_printer.proofs.Fit.{FitFunction, fit, fit_fun, fit_method, fit_ty, fit_block, fit_field, fit_keyword, fit_param, fit_function, fit_field_tree, fit_keyword_tree, fit_param_tree, fit_block_tree, is_true, if_some, is_some, is_cons, fits_name, fits_trailing, is_word_of, is_constant, ends_name, fits_alias, two_or_more, is_lone_small}
use Rattle.rbs_printer.proofs.Claims.{follows, Ends, Cut, AllOf, IfThere, PlainParts, Parts}
use Rattle.rbs_printer.proofs.Folds.{of_layer, method_is, param_is, keyword_is, block_is}
use Rattle.rbs_printer.proofs.CutLists.{end_of, Fronts, Cuttable, walk_cut, walk_place, pieces_utf8, Item}
use Rattle.rbs_printer.proofs.CutTypes.{Cuts, named_cuts, alias_cuts, true_cuts, false_cuts, bool_cuts, nil_cuts, top_cuts, bot_cuts, void_cuts, untyped_cuts, self_cuts, instance_cuts, class_cuts, singleton_cuts, string_cuts, symbol_cuts, integer_cuts, optional_cuts, tuple_cuts, record_cuts, union_cuts, inter_cuts, key_item, any_item}
use Rattle.rbs_printer.proofs.CutFunctions.{FunctionCuts, BlockCuts, ParamItem, function_cuts, proc_cuts, param_item, keyword_item, block_cuts}

-- ---- trees with their proofs

abbrev pub CutsIfFit : Ty → Type 0
CutsIfFit ty = fit ty ≡ true → Cuts (pieced ty)

abbrev ProvedTy : Type 0
ProvedTy = (ty : Ty) × CutsIfFit ty

abbrev ProvedField : Type 0
ProvedField = (f : Field) × CutsIfFit f.ty

abbrev ProvedKeyword : Type 0
ProvedKeyword = (keyword : Keyword) × CutsIfFit keyword.ty

abbrev ProvedParam : Type 0
ProvedParam = (p : Param) × CutsIfFit p.ty

abbrev ProvedBlock : Type 0
ProvedBlock = (b : BlockType) × PlainParts CutsIfFit (out-BlockType b).fun

abbrev ProvedMethod : Type 0
ProvedMethod = (m : MethodType) × Parts CutsIfFit m

abbrev ProvedLayer : Type 0
ProvedLayer = Ty-F ProvedTy ProvedBlock ProvedField ProvedKeyword ProvedMethod ProvedParam

-- the layer alone
abbrev bare_layer : ProvedLayer → Ty-F Ty BlockType Field Keyword MethodType Param
bare_layer = map-Ty ProvedTy ProvedBlock ProvedField ProvedKeyword ProvedMethod ProvedParam Ty BlockType Field Keyword MethodType Param (λ e. e.0) (λ e. e.0) (λ e. e.0) (λ e. e.0) (λ e. e.0) (λ e. e.0)

abbrev types_of : List ProvedTy → List Ty
types_of es = map (λ e. e.0) es

abbrev fields_of : List ProvedField → List Field
fields_of es = map (λ e. e.0) es

-- the pieces of the parts of a type

abbrev of_block : BlockType → List Piece
of_block = fold-BlockType Pieced (List Piece) (List Piece) (List Piece) PiecedFunction (List Piece) pieced_ty pieced_block pieced_field pieced_keyword pieced_function pieced_param

abbrev of_field : Field → List Piece
of_field = fold-Field Pieced (List Piece) (List Piece) (List Piece) PiecedFunction (List Piece) pieced_ty pieced_block pieced_field pieced_keyword pieced_function pieced_param

abbrev of_keyword : Keyword → List Piece
of_keyword = fold-Keyword Pieced (List Piece) (List Piece) (List Piece) PiecedFunction (List Piece) pieced_ty pieced_block pieced_field pieced_keyword pieced_function pieced_param

abbrev of_param : Param → List Piece
of_param = fold-Param Pieced (List Piece) (List Piece) (List Piece) PiecedFunction (List Piece) pieced_ty pieced_block pieced_field pieced_keyword pieced_function pieced_param

-- ---- lists

length_map : {A B : Type 0} (f : A → B) (xs : List A) → length (map f xs) ≡ length xs
length_map f [] = refl
length_map f (x ∷ xs) = ap suc (length_map f xs)

all_cuts : (es : List ProvedTy) → list_all is_true (map fit (types_of es)) ≡ true → AllOf Cuts (map pieced (types_of es))
all_cuts [] h = tt
all_cuts (e ∷ es) h = let t = both (fit e.0) (list_all is_true (map fit (types_of es))) h in (e.1 t.0, all_cuts es t.1)

-- at least two
many : (es : List ProvedTy) → two_or_more (map fit (types_of es)) ≡ true → (nat_le 2 (length (map pieced (types_of es))) ≡ true) × AllOf Cuts (map pieced (types_of es))
many es h =
    let t = both (nat_le 2 (length (map fit (types_of es)))) (list_all is_true (map fit (types_of es))) h in
    (subst (λ n. nat_le 2 n ≡ true) (length_map fit (types_of es) ∙ sym (length_map pieced (types_of es))) t.0, all_cuts es t.1)

field_is : (f : Field) → of_field f ≡ key_pieces f.key (pieced f.ty)
field_is f = fold_out-Field Pieced (List Piece) (List Piece) (List Piece) PiecedFunction (List Piece) pieced_ty pieced_block pieced_field pieced_keyword pieced_function pieced_param f

field_items : (es : List ProvedField) → list_all is_true (map fit_field_tree (fields_of es)) ≡ true → AllOf Item (map of_field (fields_of es))
field_items [] h = tt
field_items (e ∷ es) h =
    let t = both (fit_field_tree e.0) (list_all is_true (map fit_field_tree (fields_of es))) h in
    let this : (is_word_of is_any_word e.0.key && fit e.0.ty) ≡ true = sym (fold_out-Field _ _ _ _ _ _ _ _ _ _ _ _ e.0) ∙ t.0 in
    let u = both (is_word_of is_any_word e.0.key) (fit e.0.ty) this in
    (subst Item (sym (field_is e.0)) (key_item e.0.key (pieced e.0.ty) u.0 (e.1 u.1)), field_items es t.1)

-- ---- functions

-- a method type's parts, as it fits and as it is printed
abbrev fits_method : MethodType → MethodType-F Bool Bool Bool Bool FitFunction Bool
fits_method m = of_layer Bool Bool Bool Bool FitFunction Bool fit_ty fit_block fit_field fit_keyword fit_function fit_param (out-MethodType m)

abbrev pieced_parts : MethodType → MethodType-F Pieced (List Piece) (List Piece) (List Piece) PiecedFunction (List Piece)
pieced_parts m = of_layer Pieced (List Piece) (List Piece) (List Piece) PiecedFunction (List Piece) pieced_ty pieced_block pieced_field pieced_keyword pieced_function pieced_param (out-MethodType m)

fit_fun_is : (m : MethodType) → fit_fun m ≡ fit_function (fits_method m)
fit_fun_is m = method_is Bool Bool Bool Bool FitFunction Bool fit_ty fit_block fit_field fit_keyword fit_function fit_param m

pieced_method_is : (m : MethodType) → pieced_method m ≡ pieced_function (pieced_parts m)
pieced_method_is m = method_is Pieced (List Piece) (List Piece) (List Piece) PiecedFunction (List Piece) pieced_ty pieced_block pieced_field pieced_keyword pieced_function pieced_param m

fit_param_is : (p : Param) → fit_param_tree p ≡ true → (fit p.ty ≡ true) × (fits_name p.name ≡ true)
fit_param_is p h = both (fit p.ty) (fits_name p.name) (sym (param_is Bool Bool Bool Bool FitFunction Bool fit_ty fit_block fit_field fit_keyword fit_function fit_param p) ∙ h)

fit_keyword_is : (e : Keyword) → fit_keyword_tree e ≡ true → (is_word_of is_any_word e.key ≡ true) × (fit e.ty ≡ true)
fit_keyword_is e h = both (is_word_of is_any_word e.key) (fit e.ty) (sym (keyword_is Bool Bool Bool Bool FitFunction Bool fit_ty fit_block fit_field fit_keyword fit_function fit_param e) ∙ h)

not_is : (b : Bool) → not b ≡ true → b ≡ false
not_is true h = cc
not_is false h = refl

fit_block_is : (b : BlockType) → fit_block_tree b ≡ true → ((fit_fun (out-BlockType b).fun).fits ≡ true) × ((fit_fun (out-BlockType b).fun).has_block ≡ false)
fit_block_is b h =
    let fun = fit_fun (out-BlockType b).fun in
    let t = both fun.fits (not fun.has_block) (sym (block_is Bool Bool Bool Bool FitFunction Bool fit_ty fit_block fit_field fit_keyword fit_function fit_param b) ∙ h) in
    (t.0, not_is fun.has_block t.1)

-- parameters

param_cut : (p : Param) → CutsIfFit p.ty → fit_param_tree p ≡ true → ParamItem (of_param p)
param_cut p c h =
    let t = fit_param_is p h in
    subst ParamItem (sym (param_is Pieced (List Piece) (List Piece) (List Piece) PiecedFunction (List Piece) pieced_ty pieced_block pieced_field pieced_keyword pieced_function pieced_param p)) (param_item (pieced p.ty) p.name (c t.0) t.1)

params_cut : (ps : List Param) → AllOf (λ (p : Param). CutsIfFit p.ty) ps → list_all is_true (map fit_param_tree ps) ≡ true → AllOf ParamItem (map of_param ps)
params_cut [] all h = tt
params_cut (p ∷ ps) all h = let t = both (fit_param_tree p) (list_all is_true (map fit_param_tree ps)) h in (param_cut p all.0 t.0, params_cut ps all.1 t.1)

maybe_param_cut : (p : Option Param) → IfThere (λ (p : Param). CutsIfFit p.ty) p → if_some (option_map fit_param_tree p) ≡ true → IfThere ParamItem (option_map of_param p)
maybe_param_cut None c h = tt
maybe_param_cut (Some p) c h = param_cut p c h

keywords_cut : (es : List Keyword) → AllOf (λ (e : Keyword). CutsIfFit e.ty) es → list_all is_true (map fit_keyword_tree es) ≡ true → AllOf Item (map of_keyword es)
keywords_cut [] all h = tt
keywords_cut (e ∷ es) all h =
    let t = both (fit_keyword_tree e) (list_all is_true (map fit_keyword_tree es)) h in
    let u = fit_keyword_is e t.0 in
    let item = keyword_item e.required e.key (pieced e.ty) u.0 (all.0 u.1) in
    (subst Item (sym (keyword_is Pieced (List Piece) (List Piece) (List Piece) PiecedFunction (List Piece) pieced_ty pieced_block pieced_field pieced_keyword pieced_function pieced_param e)) item, keywords_cut es all.1 t.1)

-- what is told of each part of a function that fits
record PartsFit (m : MethodType-F Bool Bool Bool Bool FitFunction Bool) : Type 0 where
  vars : not (is_cons m.vars) ≡ true
  required : list_all is_true m.required ≡ true
  optional : list_all is_true m.optional ≡ true
  rest : if_some m.rest ≡ true
  trailing : list_all is_true m.trailing ≡ true
  keywords : list_all is_true m.keywords ≡ true
  rest_keywords : if_some m.rest_keywords ≡ true
  block : if_some m.block ≡ true
  result : m.result ≡ true

parts_fit : (m : MethodType-F Bool Bool Bool Bool FitFunction Bool) → (fit_function m).fits ≡ true → PartsFit m
parts_fit m h =
    let block = if_some m.block && (m.result && fits_trailing m) in
    let keywords = list_all is_true m.keywords && (if_some m.rest_keywords && block) in
    let trailing = list_all is_true m.trailing && keywords in
    let optional = list_all is_true m.optional && (if_some m.rest && trailing) in
    let a = both (not (is_cons m.vars)) (list_all is_true m.required && optional) h in
    let b = both (list_all is_true m.required) optional a.1 in
    let c = both (list_all is_true m.optional) (if_some m.rest && trailing) b.1 in
    let d = both (if_some m.rest) trailing c.1 in
    let e = both (list_all is_true m.trailing) keywords d.1 in
    let f = both (list_all is_true m.keywords) (if_some m.rest_keywords && block) e.1 in
    let g = both (if_some m.rest_keywords) block f.1 in
    let h = both (if_some m.block) (m.result && fits_trailing m) g.1 in
    let i = both m.result (fits_trailing m) h.1 in
    record { vars = a.0; required = b.0; optional = c.0; rest = d.0; trailing = e.0; keywords = f.0; rest_keywords = g.0; block = h.0; result = i.0 }

no_constants : (vars : List (List ℕ)) → not (is_cons vars) ≡ true → list_all is_constant vars ≡ true
no_constants [] h = refl
no_constants (v ∷ vs) h = cc

-- a method type whose block is cut
method_cuts : (m : MethodType) → PlainParts CutsIfFit m → IfThere BlockCuts (option_map of_block (out-MethodType m).block) → list_all is_constant (out-MethodType m).vars ≡ true
    → list_all is_true (fits_method m).required ≡ true → list_all is_true (fits_method m).optional ≡ true → if_some (fits_method m).rest ≡ true → list_all is_true (fits_method m).trailing ≡ true
    → list_all is_true (fits_method m).keywords ≡ true → if_some (fits_method m).rest_keywords ≡ true → (fits_method m).result ≡ true → FunctionCuts (pieced_method m)
method_cuts m all block vars required optional rest trailing keywords rest_keywords result =
    let l = out-MethodType m in
    subst FunctionCuts (sym (pieced_method_is m)) (function_cuts (pieced_parts m) (record {
      vars = vars;
      required = params_cut l.required all.required required;
      optional = params_cut l.optional all.optional optional;
      rest = maybe_param_cut l.rest all.rest rest;
      trailing = params_cut l.trailing all.trailing trailing;
      keywords = keywords_cut l.keywords all.keywords keywords;
      rest_keywords = maybe_param_cut l.rest_keywords all.rest_keywords rest_keywords;
      block = block;
      result = all.result result;
    }))

-- blocks

no_block : (b : Option BlockType) → is_some (option_map fit_block_tree b) ≡ false → IfThere BlockCuts (option_map of_block b)
no_block None h = tt
no_block (Some b) h = cc

-- a function without a block
plain_cut : (m : MethodType) → PlainParts CutsIfFit m → (fit_fun m).fits ≡ true → (fit_fun m).has_block ≡ false → FunctionCuts (pieced_method m)
plain_cut m all h n =
    let e = fit_fun_is m in
    let t = parts_fit (fits_method m) (sym (ap (λ (f : FitFunction). f.fits) e) ∙ h) in
    let none = no_block (out-MethodType m).block (sym (ap (λ (f : FitFunction). f.has_block) e) ∙ n) in
    method_cuts m all none (no_constants (out-MethodType m).vars t.vars) t.required t.optional t.rest t.trailing t.keywords t.rest_keywords t.result

maybe_block_cut : (b : Option BlockType) → IfThere (λ (b : BlockType). PlainParts CutsIfFit (out-BlockType b).fun) b → if_some (option_map fit_block_tree b) ≡ true → IfThere BlockCuts (option_map of_block b)
maybe_block_cut None all h = tt
maybe_block_cut (Some b) all h =
    let t = fit_block_is b h in
    let fun = (out-BlockType b).fun in
    subst BlockCuts (sym (block_is Pieced (List Piece) (List Piece) (List Piece) PiecedFunction (List Piece) pieced_ty pieced_block pieced_field pieced_keyword pieced_function pieced_param b))
    (block_cuts (out-BlockType b).required (pieced_method fun) (plain_cut fun all t.0 t.1))

-- a function with its block
pub function_cut : (m : MethodType) → Parts CutsIfFit m → (fit_fun m).fits ≡ true → FunctionCuts (pieced_method m)
function_cut m all h =
    let t = parts_fit (fits_method m) (sym (ap (λ (f : FitFunction). f.fits) (fit_fun_is m)) ∙ h) in
    let block = maybe_block_cut (out-MethodType m).block all.block t.block in
    method_cuts m all.plain block (no_constants (out-MethodType m).vars t.vars) t.required t.optional t.rest t.trailing t.keywords t.rest_keywords t.result

-- ---- a layer

abbrev fits_layer : Ty-F Ty BlockType Field Keyword MethodType Param → Bool
fits_layer x = fit_ty (map-Ty Ty BlockType Field Keyword MethodType Param Bool Bool Bool Bool FitFunction Bool fit fit_block_tree fit_field_tree fit_keyword_tree fit_fun fit_param_tree x)

abbrev pieced_layer : Ty-F Ty BlockType Field Keyword MethodType Param → Pieced
pieced_layer x = pieced_ty (map-Ty Ty BlockType Field Keyword MethodType Param Pieced (List Piece) (List Piece) (List Piece) PiecedFunction (List Piece)
    pieced of_block of_field of_keyword pieced_method of_param x)

fits_is : (x : Ty-F Ty BlockType Field Keyword MethodType Param) → fit (roll-Ty x) ≡ true → fits_layer x ≡ true
fits_is x h = sym (fold-roll-Ty Bool Bool Bool Bool FitFunction Bool fit_ty fit_block fit_field fit_keyword fit_function fit_param x) ∙ h

cuts_as : (x : Ty-F Ty BlockType Field Keyword MethodType Param) → Cuts (pieced_layer x) → Cuts (pieced (roll-Ty x))
cuts_as x c = subst Cuts (sym (fold-roll-Ty Pieced (List Piece) (List Piece) (List Piece) PiecedFunction (List Piece) pieced_ty pieced_block pieced_field pieced_keyword pieced_function pieced_param x)) c

layer_cuts : (y : ProvedLayer) → CutsIfFit (roll-Ty (bare_layer y))
layer_cuts (Ty-F.Instance name es) h =
    let x = Ty-F.Instance name (types_of es) in
    let t = both (ends_name (is k.Constant) name.path) (list_all is_true (map fit (types_of es))) (fits_is x h) in
    cuts_as x (named_cuts (is k.Constant) refl name (map pieced (types_of es)) t.0 (all_cuts es t.1))
layer_cuts (Ty-F.Interface name es) h =
    let x = Ty-F.Interface name (types_of es) in
    let t = both (ends_name (is k.InterfaceName) name.path) (list_all is_true (map fit (types_of es))) (fits_is x h) in
    cuts_as x (named_cuts (is k.InterfaceName) refl name (map pieced (types_of es)) t.0 (all_cuts es t.1))
layer_cuts (Ty-F.Alias name es) h =
    let x = Ty-F.Alias name (types_of es) in
    let t = both (fits_alias name) (list_all is_true (map fit (types_of es))) (fits_is x h) in
    cuts_as x (alias_cuts (if is_lone name then is_lone_small else is_small) name (map pieced (types_of es)) t.0 (all_cuts es t.1))
layer_cuts (Ty-F.Singleton name) h = cuts_as (Ty-F.Singleton name) (singleton_cuts (is k.Constant) name (fits_is (Ty-F.Singleton name) h))
layer_cuts (Ty-F.IntLit value) h = cuts_as (Ty-F.IntLit value) (integer_cuts value (fits_is (Ty-F.IntLit value) h))
layer_cuts (Ty-F.StrLit value) h = cuts_as (Ty-F.StrLit value) (string_cuts value (fits_is (Ty-F.StrLit value) h))
layer_cuts (Ty-F.SymLit name) h = cuts_as (Ty-F.SymLit name) (symbol_cuts name (fits_is (Ty-F.SymLit name) h))
layer_cuts Ty-F.True h = cuts_as Ty-F.True true_cuts
layer_cuts Ty-F.False h = cuts_as Ty-F.False false_cuts
layer_cuts Ty-F.Bool h = cuts_as Ty-F.Bool bool_cuts
layer_cuts Ty-F.Nil h = cuts_as Ty-F.Nil nil_cuts
layer_cuts Ty-F.Top h = cuts_as Ty-F.Top top_cuts
layer_cuts Ty-F.Bot h = cuts_as Ty-F.Bot bot_cuts
layer_cuts Ty-F.Void h = cuts_as Ty-F.Void void_cuts
layer_cuts Ty-F.Untyped h = cuts_as Ty-F.Untyped untyped_cuts
layer_cuts Ty-F.SelfTy h = cuts_as Ty-F.SelfTy self_cuts
layer_cuts Ty-F.InstanceTy h = cuts_as Ty-F.InstanceTy instance_cuts
layer_cuts Ty-F.ClassTy h = cuts_as Ty-F.ClassTy class_cuts
layer_cuts (Ty-F.Var name) h = let e : false ≡ true = fits_is (Ty-F.Var name) h in absurd (cc e)
layer_cuts (Ty-F.Union es) h =
    let t = many es (fits_is (Ty-F.Union (types_of es)) h) in
    cuts_as (Ty-F.Union (types_of es)) (union_cuts (map pieced (types_of es)) t.0 t.1)
layer_cuts (Ty-F.Inter es) h =
    let t = many es (fits_is (Ty-F.Inter (types_of es)) h) in
    cuts_as (Ty-F.Inter (types_of es)) (inter_cuts (map pieced (types_of es)) t.0 t.1)
layer_cuts (Ty-F.Optional e) h = cuts_as (Ty-F.Optional e.0) (optional_cuts (pieced e.0) (e.1 (fits_is (Ty-F.Optional e.0) h)))
layer_cuts (Ty-F.TupleOf es) h = cuts_as (Ty-F.TupleOf (types_of es)) (tuple_cuts (map pieced (types_of es)) (all_cuts es (fits_is (Ty-F.TupleOf (types_of es)) h)))
layer_cuts (Ty-F.RecordOf es) h =
    cuts_as (Ty-F.RecordOf (fields_of es)) (record_cuts (map of_field (fields_of es)) (field_items es (fits_is (Ty-F.RecordOf (fields_of es)) h)))
layer_cuts (Ty-F.ProcOf m) h = cuts_as (Ty-F.ProcOf m.0) (proc_cuts (pieced_method m.0) (function_cut m.0 m.1 (fits_is (Ty-F.ProcOf m.0) h)))

-- ---- the parts of a function

abbrev bare_method_layer : MethodType-F ProvedTy ProvedBlock ProvedField ProvedKeyword ProvedMethod ProvedParam → MethodType-F Ty BlockType Field Keyword MethodType Param
bare_method_layer = map-MethodType ProvedTy ProvedBlock ProvedField ProvedKeyword ProvedMethod ProvedParam Ty BlockType Field Keyword MethodType Param (λ e. e.0) (λ e. e.0) (λ e. e.0) (λ e. e.0) (λ e. e.0) (λ e. e.0)

abbrev bare_block_layer : BlockType-F ProvedTy ProvedBlock ProvedField ProvedKeyword ProvedMethod ProvedParam → BlockType-F Ty BlockType Field Keyword MethodType Param
bare_block_layer = map-BlockType ProvedTy ProvedBlock ProvedField ProvedKeyword ProvedMethod ProvedParam Ty BlockType Field Keyword MethodType Param (λ e. e.0) (λ e. e.0) (λ e. e.0) (λ e. e.0) (λ e. e.0) (λ e. e.0)

abbrev MethodLayer : Type 0
MethodLayer = MethodType-F ProvedTy ProvedBlock ProvedField ProvedKeyword ProvedMethod ProvedParam

abbrev BlockParts : BlockType → Type 0
BlockParts b = PlainParts CutsIfFit (out-BlockType b).fun

abbrev ParamPart : Param → Type 0
ParamPart p = CutsIfFit p.ty

abbrev KeywordPart : Keyword → Type 0
KeywordPart e = CutsIfFit e.ty

params_proved : (es : List ProvedParam) → AllOf ParamPart (map (λ e. e.0) es)
params_proved [] = tt
params_proved (e ∷ es) = (e.1, params_proved es)

keywords_proved : (es : List ProvedKeyword) → AllOf KeywordPart (map (λ e. e.0) es)
keywords_proved [] = tt
keywords_proved (e ∷ es) = (e.1, keywords_proved es)

rest_proved : (y : MethodLayer) (e : Option ProvedParam) → IfThere ParamPart (bare_method_layer (record y { rest = e })).rest
rest_proved y None = tt
rest_proved y (Some e) = e.1

rest_keywords_proved : (y : MethodLayer) (e : Option ProvedParam) → IfThere ParamPart (bare_method_layer (record y { rest_keywords = e })).rest_keywords
rest_keywords_proved y None = tt
rest_keywords_proved y (Some e) = e.1

block_proved : (y : MethodLayer) (e : Option ProvedBlock) → IfThere BlockParts (bare_method_layer (record y { block = e })).block
block_proved y None = tt
block_proved y (Some e) = e.1

parts_proved : (y : MethodLayer) → Parts CutsIfFit (roll-MethodType (bare_method_layer y))
parts_proved y = let same = sym (out-roll-MethodType (bare_method_layer y)) in record {
  plain = record {
    required = subst (λ l. AllOf ParamPart l.required) same (params_proved y.required);
    optional = subst (λ l. AllOf ParamPart l.optional) same (params_proved y.optional);
    rest = subst (λ l. IfThere ParamPart l.rest) same (rest_proved y y.rest);
    trailing = subst (λ l. AllOf ParamPart l.trailing) same (params_proved y.trailing);
    keywords = subst (λ l. AllOf KeywordPart l.keywords) same (keywords_proved y.keywords);
    rest_keywords = subst (λ l. IfThere ParamPart l.rest_keywords) same (rest_keywords_proved y y.rest_keywords);
    result = subst (λ l. CutsIfFit l.result) same y.result.1;
  };
  block = subst (λ l. IfThere BlockParts l.block) same (block_proved y y.block);
}

block_parts_proved : (y : BlockType-F ProvedTy ProvedBlock ProvedField ProvedKeyword ProvedMethod ProvedParam) → BlockParts (roll-BlockType (bare_block_layer y))
block_parts_proved y = subst (λ l. PlainParts CutsIfFit l.fun) (sym (out-roll-BlockType (bare_block_layer y))) y.fun.1.plain

-- ---- trees

pub type_cuts : (ty : Ty) → CutsIfFit ty
type_cuts = ind-Ty CutsIfFit BlockParts (λ (f : Field). CutsIfFit f.ty) KeywordPart (Parts CutsIfFit) ParamPart
    (λ x y is. subst (λ z. CutsIfFit (roll-Ty z)) is (layer_cuts y))
    (λ x y is. subst (λ z. BlockParts (roll-BlockType z)) is (block_parts_proved y))
    (λ x y is. subst (λ z. CutsIfFit (roll-Field z).ty) is y.ty.1)
    (λ x y is. subst (λ z. CutsIfFit (roll-Keyword z).ty) is y.ty.1)
    (λ x y is. subst (λ z. Parts CutsIfFit (roll-MethodType z)) is (parts_proved y))
    (λ x y is. subst (λ z. CutsIfFit (roll-Param z).ty) is y.ty.1)

-- what holds of all types holds of the parts of a function

all_params : (ps : List Param) → AllOf ParamPart ps
all_params [] = tt
all_params (p ∷ ps) = (type_cuts p.ty, all_params ps)

all_keywords : (es : List Keyword) → AllOf KeywordPart es
all_keywords [] = tt
all_keywords (e ∷ es) = (type_cuts e.ty, all_keywords es)

if_param : (p : Option Param) → IfThere ParamPart p
if_param None = tt
if_param (Some p) = type_cuts p.ty

plain_parts : (m : MethodType) → PlainParts CutsIfFit m
plain_parts m = let l = out-MethodType m in record {
  required = all_params l.required;
  optional = all_params l.optional;
  rest = if_param l.rest;
  trailing = all_params l.trailing;
  keywords = all_keywords l.keywords;
  rest_keywords = if_param l.rest_keywords;
  result = type_cuts l.result;
}

if_block : (b : Option BlockType) → IfThere BlockParts b
if_block None = tt
if_block (Some b) = plain_parts (out-BlockType b).fun

all_parts : (m : MethodType) → Parts CutsIfFit m
all_parts m = record { plain = plain_parts m; block = if_block (out-MethodType m).block }

-- ---- method types with variables

-- the parts of a method type, but for its variables
abbrev without_variables : MethodType-F Ty BlockType Field Keyword MethodType Param → MethodType-F Ty BlockType Field Keyword MethodType Param
without_variables l = record l { vars = [] }

abbrev fits_parts : MethodType-F Ty BlockType Field Keyword MethodType Param → MethodType-F Bool Bool Bool Bool FitFunction Bool
fits_parts l = of_layer Bool Bool Bool Bool FitFunction Bool fit_ty fit_block fit_field fit_keyword fit_function fit_param l

method_with_cuts : (m : MethodType) → fit_method m ≡ true → FunctionCuts (pieced_method m)
method_with_cuts m h =
    let l = out-MethodType m in
    let plain = with_variables [] m in
    let a = both (list_all is_constant l.vars) (fit_fun plain).fits h in
    let fits : PartsFit (fits_method plain) = parts_fit (fits_method plain) (sym (ap (λ (f : FitFunction). f.fits) (fit_fun_is plain)) ∙ a.1) in
    let t : PartsFit (fits_parts (without_variables l)) = subst (λ d. PartsFit (fits_parts d)) (out-roll-MethodType (without_variables l)) fits in
    method_cuts m (plain_parts m) (maybe_block_cut l.block (if_block l.block) t.block) a.0 t.required t.optional t.rest t.trailing t.keywords t.rest_keywords t.result

-- ---- walks

cut_of : (p : Pieced) → Cuts p → Cut p
cut_of p c = record {
  utf8 = c.utf8;
  cut = λ behind walk at rest n u e. walk_cut walk (p.pieces behind) rest (subst (λ q. Fronts q (p.pieces behind) rest) (sym at) (c.cut behind rest u e n).fronts);
  ends = λ behind n walk at. subst (Ends (p.leads behind)) (sym (walk_place walk (p.pieces behind) ∙ ap (λ q. end_of q (p.pieces behind)) at)) (c.ends behind n);
}

-- A function is cut by a walk from where no name stands, before what may follow a type that can stand in a `?`.
pub record CutFunction (p : PiecedFunction) : Type 0 where
  pub utf8 : IsUtf8 (flat p.pieces)
  pub cut : (walk : Walk) → walk.place ≡ place.Plain → (rest : List ℕ) → IsUtf8 rest → follows at.Optional rest ≡ true → IsCut walk (flat p.pieces ++ rest) p.pieces rest
  pub ends : (walk : Walk) → walk.place ≡ place.Plain → Ends p.leads (past_all walk p.pieces).place

cut_function_of : (p : PiecedFunction) → FunctionCuts p → CutFunction p
cut_function_of p c = record {
  utf8 = pieces_utf8 place.Plain p.pieces (c.cut [] IsUtf8-nil refl);
  cut = λ walk at rest u e. walk_cut walk p.pieces rest (subst (λ q. Fronts q p.pieces rest) (sym at) (c.cut rest u e).fronts);
  ends = λ walk at. subst (Ends p.leads) (sym (walk_place walk p.pieces ∙ ap (λ q. end_of q p.pieces) at)) c.ends;
}

pub type_cut : (ty : Ty) → fit ty ≡ true → Cut (pieced ty)
type_cut ty h = cut_of (pieced ty) (type_cuts ty h)

pub function_is_cut : (m : MethodType) → (fit_fun m).fits ≡ true → CutFunction (pieced_method m)
function_is_cut m h = cut_function_of (pieced_method m) (function_cut m (all_parts m) h)

pub method_cut : (m : MethodType) → fit_method m ≡ true → CutFunction (pieced_method m)
method_cut m h = cut_function_of (pieced_method m) (method_with_cuts m h)

-- ---- texts

text_cut : (ps : List Piece) → Cuttable place.Plain ps [] → IsCut start (flat ps) ps []
text_cut ps c = subst (λ t. IsCut start t ps []) (append-nil (flat ps)) (walk_cut start ps [] c.fronts)

type_alone : (ty : Ty) → fit ty ≡ true → Cuttable place.Plain (type_pieces ty) []
type_alone ty h = (any_item (pieced ty) (type_cuts ty h)).cut [] IsUtf8-nil refl

pub type_text_cut : (ty : Ty) → fit ty ≡ true → IsCut start (flat (type_pieces ty)) (type_pieces ty) []
type_text_cut ty h = text_cut (type_pieces ty) (type_alone ty h)

pub method_text_cut : (m : MethodType) → fit_method m ≡ true → IsCut start (flat (method_pieces m)) (method_pieces m) []
method_text_cut m h = text_cut (method_pieces m) ((method_with_cuts m h).cut [] IsUtf8-nil refl)

pub type_text_utf8 : (ty : Ty) → fit ty ≡ true → IsUtf8 (flat (type_pieces ty))
type_text_utf8 ty h = pieces_utf8 place.Plain (type_pieces ty) (type_alone ty h)

pub method_text_utf8 : (m : MethodType) → fit_method m ≡ true → IsUtf8 (flat (method_pieces m))
method_text_utf8 m h = (method_cut m h).utf8
