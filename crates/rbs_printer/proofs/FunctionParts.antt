-- What is printed, fits and is left without spans of a function, by its parts.
use Rattle.std.proofs.Common.{◌≡◌, ℕ, Bool, true, false, not, ◌&&◌, ◌||◌, List, [], ◌∷◌, ◌++◌, map, Option, Some, None, refl, sym, ◌∙◌, ap}
use Rattle.std.specs.Prelude.{option_map}
use Rattle.std.specs.List.{list_all}
use Rattle.rbs_tree.specs.declared.types.Ty.{Ty}
use Rattle.rbs_tree.specs.declared.types.BlockType.{BlockType}
use Rattle.rbs_tree.specs.declared.types.Field.{Field}
use Rattle.rbs_tree.specs.declared.types.Keyword.{Keyword}
use Rattle.rbs_tree.specs.declared.types.MethodType.{MethodType}
use Rattle.rbs_tree.specs.declared.types.Param.{Param}
use Rattle.rbs_tree.specs.declared.types.Ty.TheOpen.{BlockType-F, MethodType-F}
use Rattle.rbs_tree.specs.declared.types.Ty.TheViews.{roll-BlockType, roll-Field, roll-Keyword, roll-MethodType, roll-Param, out-BlockType, out-MethodType, out-roll-BlockType, out-roll-MethodType}
use Rattle.rbs_tree.specs.declared.types.Ty.TheFolds.{fold-BlockType, fold-Keyword, fold-Param}
use Rattle.rbs_lexer.specs.Lexing.{Piece}
use Rattle.rbs_grammar.specs.declared.parts.Parameters.{Parameters}
use Rattle.rbs_printer.specs.Again.{bare, bare_step, bare_method}
use Rattle.rbs_printer.proofs.Pieces.{Pieced, PiecedFunction, pieced, pieced_ty, pieced_block, pieced_field, pieced_keyword, pieced_function, pieced_param, pieced_method, blank, question, left_brace, right_brace, listed, in_parens, mark, signed, signed_one, params_pieces, block_pieces, result_pieces, vars_pieces}
use Rattle.rbs_grammar.specs.Rules.{is_word}
use Rattle.rbs_printer.proofs.Fit.{FitFunction, is_word_of, fit, fit_ty, fit_block, fit_field, fit_keyword, fit_param, fit_function, fit_fun, fit_param_tree, fit_keyword_tree, fit_block_tree, fits_name, is_true, if_some, is_some, is_cons}
use Rattle.rbs_printer.proofs.Folds.{keyword_is, param_is, block_is, of_layer, method_is}
use Rattle.rbs_printer.proofs.Parameters.{bare_param, bare_keyword, bare_parameters, param_pieces, keyword_pieces, star, two_stars, signed_optionals, one_of, all_pieces}

abbrev pub Layer : Type 0
Layer = MethodType-F Ty BlockType Field Keyword MethodType Param

same_map : {A B : Type 0} (f g : A → B) → ((x : A) → f x ≡ g x) → (xs : List A) → map f xs ≡ map g xs
same_map f g e [] = refl
same_map f g e (x ∷ xs) = ap (λ y. y ∷ map f xs) (e x) ∙ ap (λ ys. g x ∷ ys) (same_map f g e xs)

same_option : {A B : Type 0} (f g : A → B) → ((x : A) → f x ≡ g x) → (x : Option A) → option_map f x ≡ option_map g x
same_option f g e None = refl
same_option f g e (Some x) = ap Some (e x)

-- ---- pieces

abbrev pub pieced_param_tree : Param → List Piece
pieced_param_tree = fold-Param Pieced (List Piece) (List Piece) (List Piece) PiecedFunction (List Piece) pieced_ty pieced_block pieced_field pieced_keyword pieced_function pieced_param

abbrev pub pieced_keyword_tree : Keyword → List Piece
pieced_keyword_tree = fold-Keyword Pieced (List Piece) (List Piece) (List Piece) PiecedFunction (List Piece) pieced_ty pieced_block pieced_field pieced_keyword pieced_function pieced_param

abbrev pub pieced_block_tree : BlockType → List Piece
pieced_block_tree = fold-BlockType Pieced (List Piece) (List Piece) (List Piece) PiecedFunction (List Piece) pieced_ty pieced_block pieced_field pieced_keyword pieced_function pieced_param

abbrev pieced_layer : Layer → MethodType-F Pieced (List Piece) (List Piece) (List Piece) PiecedFunction (List Piece)
pieced_layer d = of_layer Pieced (List Piece) (List Piece) (List Piece) PiecedFunction (List Piece) pieced_ty pieced_block pieced_field pieced_keyword pieced_function pieced_param d

pieced_param_is : (p : Param) → pieced_param_tree p ≡ param_pieces p
pieced_param_is p = param_is Pieced (List Piece) (List Piece) (List Piece) PiecedFunction (List Piece) pieced_ty pieced_block pieced_field pieced_keyword pieced_function pieced_param p

pieced_keyword_is : (p : Keyword) → pieced_keyword_tree p ≡ keyword_pieces p
pieced_keyword_is p = keyword_is Pieced (List Piece) (List Piece) (List Piece) PiecedFunction (List Piece) pieced_ty pieced_block pieced_field pieced_keyword pieced_function pieced_param p

pub pieced_block_is : (b : BlockType) → pieced_block_tree b ≡ mark (out-BlockType b).required ++ (left_brace ∷ blank ∷ ((pieced_method (out-BlockType b).fun).pieces ++ blank ∷ right_brace ∷ []))
pieced_block_is b = block_is Pieced (List Piece) (List Piece) (List Piece) PiecedFunction (List Piece) pieced_ty pieced_block pieced_field pieced_keyword pieced_function pieced_param b

signed_are : (ps : List Param) → signed question (map pieced_param_tree ps) ≡ signed_optionals ps
signed_are [] = refl
signed_are (p ∷ ps) = ap (λ x. (question ∷ x) ∷ signed question (map pieced_param_tree ps)) (pieced_param_is p) ∙ ap (λ xs. (question ∷ param_pieces p) ∷ xs) (signed_are ps)

signed_one_is : (sign : Piece) (p : Option Param) → signed_one sign (option_map pieced_param_tree p) ≡ one_of (λ (p : Param). sign ∷ param_pieces p) p
signed_one_is sign None = refl
signed_one_is sign (Some p) = ap (λ x. (sign ∷ x) ∷ []) (pieced_param_is p)

abbrev pub layer_params : Layer → List (List Piece)
layer_params d = all_pieces d.required d.optional d.rest d.trailing d.keywords d.rest_keywords

six : {A : Type 0} (a a' b b' c c' d d' e e' f f' : List A) → a ≡ a' → b ≡ b' → c ≡ c' → d ≡ d' → e ≡ e' → f ≡ f'
    → a ++ (b ++ (c ++ (d ++ (e ++ f)))) ≡ a' ++ (b' ++ (c' ++ (d' ++ (e' ++ f'))))
six a a' b b' c c' d d' e e' f f' p q r s t u =
    ap (λ x. x ++ (b ++ (c ++ (d ++ (e ++ f))))) p ∙ ap (λ x. a' ++ (x ++ (c ++ (d ++ (e ++ f))))) q ∙ ap (λ x. a' ++ (b' ++ (x ++ (d ++ (e ++ f))))) r
    ∙ ap (λ x. a' ++ (b' ++ (c' ++ (x ++ (e ++ f))))) s ∙ ap (λ x. a' ++ (b' ++ (c' ++ (d' ++ (x ++ f))))) t ∙ ap (λ x. a' ++ (b' ++ (c' ++ (d' ++ (e' ++ x))))) u

params_are : (d : Layer) → params_pieces (pieced_layer d) ≡ layer_params d
params_are d = six _ _ _ _ _ _ _ _ _ _ _ _ (same_map pieced_param_tree param_pieces pieced_param_is d.required) (signed_are d.optional) (signed_one_is star d.rest)
    (same_map pieced_param_tree param_pieces pieced_param_is d.trailing) (same_map pieced_keyword_tree keyword_pieces pieced_keyword_is d.keywords) (signed_one_is two_stars d.rest_keywords)

-- what is printed of a function behind its variables, where its block is printed so
abbrev pub layer_pieces : Layer → Option (List Piece) → List Piece
layer_pieces d block = in_parens (listed (layer_params d)) ++ (block_pieces block ++ result_pieces (pieced d.result))

pub method_pieces_are : (m : MethodType) → (pieced_method m).pieces ≡ vars_pieces (out-MethodType m).vars ++ layer_pieces (out-MethodType m) (option_map pieced_block_tree (out-MethodType m).block)
method_pieces_are m = let d = out-MethodType m in
    ap (λ (f : PiecedFunction). f.pieces) (method_is Pieced (List Piece) (List Piece) (List Piece) PiecedFunction (List Piece) pieced_ty pieced_block pieced_field pieced_keyword pieced_function pieced_param m)
    ∙ ap (λ ps. vars_pieces d.vars ++ (in_parens (listed ps) ++ (block_pieces (option_map pieced_block_tree d.block) ++ result_pieces (pieced d.result)))) (params_are d)

-- ---- without spans

abbrev pub bare_block : BlockType → BlockType
bare_block = fold-BlockType Ty BlockType Field Keyword MethodType Param bare_step roll-BlockType roll-Field roll-Keyword roll-MethodType roll-Param

abbrev pub layer_of : List (List ℕ) → Parameters → Option BlockType → Ty → Layer
layer_of vars ps block result = record {
  vars = vars;
  required = ps.required;
  optional = ps.optional;
  rest = ps.rest;
  trailing = ps.trailing;
  keywords = ps.keywords;
  rest_keywords = ps.rest_keywords;
  block = block;
  result = result;
}

abbrev pub parameters : Layer → Parameters
parameters d = record { required = d.required; optional = d.optional; rest = d.rest; trailing = d.trailing; keywords = d.keywords; rest_keywords = d.rest_keywords }

abbrev bare_param_tree : Param → Param
bare_param_tree = fold-Param Ty BlockType Field Keyword MethodType Param bare_step roll-BlockType roll-Field roll-Keyword roll-MethodType roll-Param

abbrev bare_keyword_tree : Keyword → Keyword
bare_keyword_tree = fold-Keyword Ty BlockType Field Keyword MethodType Param bare_step roll-BlockType roll-Field roll-Keyword roll-MethodType roll-Param

bare_param_is : (p : Param) → bare_param_tree p ≡ bare_param p
bare_param_is p = param_is Ty BlockType Field Keyword MethodType Param bare_step roll-BlockType roll-Field roll-Keyword roll-MethodType roll-Param p

bare_keyword_is : (p : Keyword) → bare_keyword_tree p ≡ bare_keyword p
bare_keyword_is p = keyword_is Ty BlockType Field Keyword MethodType Param bare_step roll-BlockType roll-Field roll-Keyword roll-MethodType roll-Param p

pub bare_block_is : (b : BlockType) → bare_block b ≡ roll-BlockType (record { required = (out-BlockType b).required; fun = bare_method (out-BlockType b).fun })
bare_block_is b = block_is Ty BlockType Field Keyword MethodType Param bare_step roll-BlockType roll-Field roll-Keyword roll-MethodType roll-Param b

-- a function's layer without spans
abbrev pub bare_layer : Layer → Layer
bare_layer d = layer_of d.vars (bare_parameters (parameters d)) (option_map bare_block d.block) (bare d.result)

abbrev mapped_layer : Layer → Layer
mapped_layer d = of_layer Ty BlockType Field Keyword MethodType Param bare_step roll-BlockType roll-Field roll-Keyword roll-MethodType roll-Param d

-- parameters whose parts are these
abbrev make : List Param → List Param → Option Param → List Param → List Keyword → Option Param → Parameters
make rs os r ts ks p = record { required = rs; optional = os; rest = r; trailing = ts; keywords = ks; rest_keywords = p }

made : (a a' b b' : List Param) (c c' : Option Param) (d d' : List Param) (e e' : List Keyword) (f f' : Option Param) → a ≡ a' → b ≡ b' → c ≡ c' → d ≡ d' → e ≡ e' → f ≡ f'
    → make a b c d e f ≡ make a' b' c' d' e' f'
made a a' b b' c c' d d' e e' f f' p q r s t u =
    ap (λ x. make x b c d e f) p ∙ ap (λ x. make a' x c d e f) q ∙ ap (λ x. make a' b' x d e f) r ∙ ap (λ x. make a' b' c' x e f) s ∙ ap (λ x. make a' b' c' d' x f) t ∙ ap (λ x. make a' b' c' d' e' x) u

bare_layer_is : (d : Layer) → mapped_layer d ≡ bare_layer d
bare_layer_is d = ap (λ ps. layer_of d.vars ps (option_map bare_block d.block) (bare d.result))
    (made _ _ _ _ _ _ _ _ _ _ _ _ (same_map bare_param_tree bare_param bare_param_is d.required) (same_map bare_param_tree bare_param bare_param_is d.optional) (same_option bare_param_tree bare_param bare_param_is d.rest)
    (same_map bare_param_tree bare_param bare_param_is d.trailing) (same_map bare_keyword_tree bare_keyword bare_keyword_is d.keywords) (same_option bare_param_tree bare_param bare_param_is d.rest_keywords))

pub bare_method_is : (m : MethodType) → bare_method m ≡ roll-MethodType (bare_layer (out-MethodType m))
bare_method_is m = method_is Ty BlockType Field Keyword MethodType Param bare_step roll-BlockType roll-Field roll-Keyword roll-MethodType roll-Param m ∙ ap roll-MethodType (bare_layer_is (out-MethodType m))

pub bare_roll : (d : Layer) → bare_method (roll-MethodType d) ≡ roll-MethodType (bare_layer d)
bare_roll d = bare_method_is (roll-MethodType d) ∙ ap (λ e. roll-MethodType (bare_layer e)) (out-roll-MethodType d)

pub bare_roll_block : (b : BlockType-F Ty BlockType Field Keyword MethodType Param) → bare_block (roll-BlockType b) ≡ roll-BlockType (record { required = b.required; fun = bare_method b.fun })
bare_roll_block b = bare_block_is (roll-BlockType b)
    ∙ ap (λ (c : BlockType-F Ty BlockType Field Keyword MethodType Param). roll-BlockType (record { required = c.required; fun = bare_method c.fun })) (out-roll-BlockType b)

-- ---- what fits

fit_param_is : (p : Param) → fit_param_tree p ≡ (fit p.ty && fits_name p.name)
fit_param_is p = param_is Bool Bool Bool Bool FitFunction Bool fit_ty fit_block fit_field fit_keyword fit_function fit_param p

fit_keyword_is : (p : Keyword) → fit_keyword_tree p ≡ fit_keyword (record { key = p.key; required = p.required; ty = fit p.ty })
fit_keyword_is p = keyword_is Bool Bool Bool Bool FitFunction Bool fit_ty fit_block fit_field fit_keyword fit_function fit_param p

fit_block_is : (b : BlockType) → fit_block_tree b ≡ ((fit_fun (out-BlockType b).fun).fits && not (fit_fun (out-BlockType b).fun).has_block)
fit_block_is b = block_is Bool Bool Bool Bool FitFunction Bool fit_ty fit_block fit_field fit_keyword fit_function fit_param b

abbrev fit_layer : Layer → MethodType-F Bool Bool Bool Bool FitFunction Bool
fit_layer d = of_layer Bool Bool Bool Bool FitFunction Bool fit_ty fit_block fit_field fit_keyword fit_function fit_param d

fit_fun_is : (m : MethodType) → fit_fun m ≡ fit_function (fit_layer (out-MethodType m))
fit_fun_is m = method_is Bool Bool Bool Bool FitFunction Bool fit_ty fit_block fit_field fit_keyword fit_function fit_param m

-- What is known of a function that fits.
pub record FitLayer (d : Layer) : Type 0 where
  pub vars : d.vars ≡ []
  pub required : list_all is_true (map fit_param_tree d.required) ≡ true
  pub optional : list_all is_true (map fit_param_tree d.optional) ≡ true
  pub rest : if_some (option_map fit_param_tree d.rest) ≡ true
  pub trailing : list_all is_true (map fit_param_tree d.trailing) ≡ true
  pub keywords : list_all is_true (map fit_keyword_tree d.keywords) ≡ true
  pub rest_keywords : if_some (option_map fit_param_tree d.rest_keywords) ≡ true
  pub block : if_some (option_map fit_block_tree d.block) ≡ true
  pub result : fit d.result ≡ true
  pub order : (not (is_cons d.trailing) || (is_cons d.optional || is_some d.rest)) ≡ true

left : (a b : Bool) → (a && b) ≡ true → a ≡ true
left true b h = refl
left false b h = cc

right : (a b : Bool) → (a && b) ≡ true → b ≡ true
right true b h = h
right false b h = cc

no_cons : {A : Type 0} (xs : List A) → not (is_cons xs) ≡ true → xs ≡ []
no_cons [] h = refl
no_cons (x ∷ xs) h = cc

cons_map : {A B : Type 0} (f : A → B) (xs : List A) → is_cons (map f xs) ≡ is_cons xs
cons_map f [] = refl
cons_map f (x ∷ xs) = refl

some_map : {A B : Type 0} (f : A → B) (x : Option A) → is_some (option_map f x) ≡ is_some x
some_map f None = refl
some_map f (Some x) = refl

order_is : (d : Layer) → (not (is_cons d.trailing) || (is_cons d.optional || is_some d.rest)) ≡ (not (is_cons (map fit_param_tree d.trailing)) || (is_cons (map fit_param_tree d.optional) || is_some (option_map fit_param_tree d.rest)))
order_is d = sym (ap (λ b. not b || (is_cons (map fit_param_tree d.optional) || is_some (option_map fit_param_tree d.rest))) (cons_map fit_param_tree d.trailing)
    ∙ ap (λ b. not (is_cons d.trailing) || (b || is_some (option_map fit_param_tree d.rest))) (cons_map fit_param_tree d.optional)
    ∙ ap (λ b. not (is_cons d.trailing) || (is_cons d.optional || b)) (some_map fit_param_tree d.rest))

layer_fits : (d : Layer) → (fit_function (fit_layer d)).fits ≡ true → FitLayer d
layer_fits d h =
    let a = right _ _ h in
    let b = right _ _ a in
    let c = right _ _ b in
    let e = right _ _ c in
    let f = right _ _ e in
    let g = right _ _ f in
    let i = right _ _ g in
    let j = right _ _ i in
    record {
      vars = no_cons d.vars (left _ _ h);
      required = left _ _ a;
      optional = left _ _ b;
      rest = left _ _ c;
      trailing = left _ _ e;
      keywords = left _ _ f;
      rest_keywords = left _ _ g;
      block = left _ _ i;
      result = left _ _ j;
      order = order_is d ∙ right _ _ j;
    }

pub fun_fits : (m : MethodType) → (fit_fun m).fits ≡ true → FitLayer (out-MethodType m)
fun_fits m h = layer_fits (out-MethodType m) (ap (λ (f : FitFunction). f.fits) (sym (fit_fun_is m)) ∙ h)

pub param_fits : (p : Param) → fit_param_tree p ≡ true → (fit p.ty ≡ true) × (fits_name p.name ≡ true)
param_fits p h = let e = sym (fit_param_is p) ∙ h in (left _ _ e, right _ _ e)

pub keyword_fits : (p : Keyword) → fit_keyword_tree p ≡ true → (is_word_of is_word p.key ≡ true) × (fit p.ty ≡ true)
keyword_fits p h = let e = sym (fit_keyword_is p) ∙ h in (left _ _ e, right _ _ e)

not_some : {A : Type 0} (x : Option A) → not (is_some x) ≡ true → x ≡ None
not_some None h = refl
not_some (Some x) h = cc

-- a block that fits has a function that fits, without a block
pub block_fits : (b : BlockType) → fit_block_tree b ≡ true → ((fit_fun (out-BlockType b).fun).fits ≡ true) × ((out-MethodType (out-BlockType b).fun).block ≡ None)
block_fits b h =
    let m = (out-BlockType b).fun in
    let e = sym (fit_block_is b) ∙ h in
    let same : (fit_fun m).has_block ≡ is_some (out-MethodType m).block = ap (λ (f : FitFunction). f.has_block) (fit_fun_is m) ∙ some_map fit_block_tree (out-MethodType m).block in
    (left _ _ e, not_some (out-MethodType m).block (ap not (sym same) ∙ right (fit_fun m).fits _ e))
