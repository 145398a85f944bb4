-- Functions and method types that real tokens spell fit, rule by rule, where the rules inside them are so.
use Rattle.std.proofs.Common.{◌≡◌, ℕ, Bool, true, false, not, ◌&&◌, ◌||◌, List, [], ◌∷◌, map, refl, ap, sym, ◌∙◌}
use Rattle.std.specs.Prelude.{Option, Some, None}
use Rattle.std.specs.List.{list_all}
use Rattle.rbs_tree.specs.declared.types.Ty.{Ty}
use Rattle.rbs_tree.specs.declared.types.BlockType.{BlockType}
use Rattle.rbs_tree.specs.declared.types.Field.{Field}
use Rattle.rbs_tree.specs.declared.types.Keyword.{Keyword}
use Rattle.rbs_tree.specs.declared.types.MethodType.{MethodType}
use Rattle.rbs_tree.specs.declared.types.Param.{Param}
use Rattle.rbs_tree.specs.declared.types.Ty.TheOpen.{MethodType-F}
use Rattle.rbs_tree.specs.declared.types.Ty.TheViews.{roll-MethodType, out-MethodType, out-roll-MethodType}
use Rattle.rbs_tree.specs.declared.types.Ty.TheFolds.{fold-roll-BlockType, fold-roll-MethodType, fold_out-MethodType, map-MethodType}
use Rattle.rbs_lexer.specs.declared.kind.Kind.TheVariants as k
use Rattle.rbs_lexer.specs.Tokens.{Token}
use Rattle.rbs_grammar.specs.declared.parts.Parameters.{Parameters}
use Rattle.rbs_grammar.specs.declared.stage.Stage.{Stage}
use Rattle.rbs_grammar.specs.declared.stage.Stage.TheVariants as at
use Rattle.rbs_grammar.specs.Rules.{is, is_small, is_word}
use Rattle.rbs_grammar.specs.Grammar.{Grammar, spells, alt, tok, eps}
use Rattle.rbs_grammar.specs.Parts.{same, token, both, behind, before, map_value, optional, given, any_of, separated}
use Rattle.rbs_grammar.specs.Names.{text_of}
use Rattle.rbs_grammar.specs.Types.{a_type, a_function, opt}
use Rattle.rbs_grammar.specs.Functions.{Parameter, required, optional_one, rest, trailing, keyword, rest_keywords, param_of, param, placed, keyword_of, key_param, key_or, rest_keywords_param, rest_param, optional_param, positional_param, optional_keyword, first_params, optional_params, trailing_params, keyword_params, params_at, params_lead, next_param, required_of, optional_of, rest_of, trailing_of, keywords_of, rest_keywords_of, parameters_of, params, no_params, param_list, function_of, result, block_of, block, function, variables, with_variables, method_type}
use Rattle.rbs_grammar.proofs.Heads.{and_both}
use Rattle.rbs_printer.proofs.Claims.{AllOf, IfThere}
use Rattle.rbs_printer.proofs.Fit.{FitFunction, if_some, is_some, is_cons, is_constant, is_word_of, fits_name, fit, fit_ty, fit_block, fit_field, fit_keyword, fit_param, fit_function, fits_trailing, fit_fun, fit_method, fit_param_tree, fit_field_tree, fit_keyword_tree, fit_block_tree}
use Rattle.rbs_printer.proofs.Keeping.{Keeps, Any, Chained, eps_keeps, tok_keeps, seq_keeps, alt_keeps, ahead_keeps, chain_keeps}
use Rattle.rbs_printer.proofs.KeepingParts.{Ways, token_keeps, both_keeps, behind_keeps, before_keeps, value_keeps, optional_keeps, given_keeps, any_of_keeps, separated_keeps}
use Rattle.rbs_printer.proofs.FitNames.{real_word_of}
use Rattle.rbs_printer.proofs.FitNodes.{Fits, FitsParam, FitsKeyword, FitsBlock, FitsFunction, all_pass, param_fits, param_type, keyword_fits}
use Rattle.rbs_printer.proofs.FitTypes.{FitWays, HasWord, a_type_fits, a_function_fits, opt_keeps}

-- ---- parameters

abbrev FitsParameter : Parameter → Type 0
FitsParameter (required p) = FitsParam p
FitsParameter (optional_one p) = FitsParam p
FitsParameter (rest p) = FitsParam p
FitsParameter (trailing p) = FitsParam p
FitsParameter (keyword p) = FitsKeyword p
FitsParameter (rest_keywords p) = FitsParam p

-- to which stage a parameter leads, where that matters for the trailing ones
abbrev Leads : Stage → Parameter → Stage → Type 0
Leads at.Optional x next = Unit {0}
Leads at.Trailing x next = Unit {0}
Leads at.Open (required p) at.Open = Unit {0}
Leads at.Open (optional_one p) next = Unit {0}
Leads at.Open (rest p) next = Unit {0}
Leads at.Open (keyword p) at.Keyword = Unit {0}
Leads at.Open (rest_keywords p) at.Done = Unit {0}
Leads at.Keyword (keyword p) at.Keyword = Unit {0}
Leads at.Keyword (rest_keywords p) at.Done = Unit {0}
Leads at.Done (keyword p) at.Keyword = Unit {0}
Leads at.Done (rest_keywords p) at.Done = Unit {0}
Leads stage x next = ⊥

abbrev Placed : Stage → Parameter × Stage → Type 0
Placed stage p = FitsParameter p.0 × Leads stage p.0 p.1

-- whether the trailing ones of some parameters stand behind an optional one or a rest
abbrev stands_behind : List Parameter → Bool
stands_behind ps = not (is_cons (trailing_of ps)) || (is_cons (optional_of ps) || is_some (rest_of ps))

-- what is known of trailing ones behind a stage: none before an optional one or a rest, or none at all
abbrev Trailing : Stage → List Parameter → Type 0
Trailing at.Open ps = stands_behind ps ≡ true
Trailing at.Optional ps = Unit {0}
Trailing at.Trailing ps = Unit {0}
Trailing at.Keyword ps = is_cons (trailing_of ps) ≡ false
Trailing at.Done ps = is_cons (trailing_of ps) ≡ false

none_trails : (ps : List Parameter) → is_cons (trailing_of ps) ≡ false → stands_behind ps ≡ true
none_trails ps h = go (is_cons (trailing_of ps)) h
  where
    go : (b : Bool) → b ≡ false → (not b || (is_cons (optional_of ps) || is_some (rest_of ps))) ≡ true
    go true h = cc
    go false h = refl

one_stands : (a b : Bool) → (not a || (true || b)) ≡ true
one_stands true b = refl
one_stands false b = refl

other_stands : (a b : Bool) → (not a || (b || true)) ≡ true
other_stands true true = refl
other_stands true false = refl
other_stands false b = refl

open_on : (next : Stage) (x : Parameter) (xs : List Parameter) → Leads at.Open x next → Trailing next xs → stands_behind (x ∷ xs) ≡ true
open_on at.Open (required p) xs h all = all
open_on next (optional_one p) xs h all = one_stands (is_cons (trailing_of xs)) (is_some (rest_of xs))
open_on next (rest p) xs h all = other_stands (is_cons (trailing_of xs)) (is_cons (optional_of xs))
open_on at.Keyword (keyword p) xs h all = none_trails xs all
open_on at.Done (rest_keywords p) xs h all = none_trails xs all
open_on next x xs h all = absurd h

keyword_on : (x : Parameter) (next : Stage) (xs : List Parameter) → Leads at.Keyword x next → Trailing next xs → is_cons (trailing_of (x ∷ xs)) ≡ false
keyword_on (keyword p) at.Keyword xs h all = all
keyword_on (rest_keywords p) at.Done xs h all = all
keyword_on x next xs h all = absurd h

done_on : (x : Parameter) (next : Stage) (xs : List Parameter) → Leads at.Done x next → Trailing next xs → is_cons (trailing_of (x ∷ xs)) ≡ false
done_on (keyword p) at.Keyword xs h all = all
done_on (rest_keywords p) at.Done xs h all = all
done_on x next xs h all = absurd h

trailing_on : (s next : Stage) (x : Parameter) (xs : List Parameter) → Leads s x next → Trailing next xs → Trailing s (x ∷ xs)
trailing_on at.Open next x xs h all = open_on next x xs h all
trailing_on at.Optional next x xs h all = tt
trailing_on at.Trailing next x xs h all = tt
trailing_on at.Keyword next x xs h all = keyword_on x next xs h all
trailing_on at.Done next x xs h all = done_on x next xs h all

none_left : (s : Stage) → Trailing s []
none_left at.Open = refl
none_left at.Optional = tt
none_left at.Trailing = tt
none_left at.Keyword = refl
none_left at.Done = refl

abbrev Items : Stage → List Parameter → Type 0
Items s ps = AllOf FitsParameter ps × Trailing s ps

chained : Chained params_lead (λ s x next. FitsParameter x × Leads s x next) Items
chained = record { ends = λ s. (tt, none_left s); goes_on = λ s next x xs t leads item all. ((item.0, all.0), trailing_on s next x xs item.1 all.1) }

-- ---- what the parameters of a list make

required_fit : (ps : List Parameter) → AllOf FitsParameter ps → AllOf FitsParam (required_of ps)
required_fit [] all = tt
required_fit (required p ∷ ps) all = (all.0, required_fit ps all.1)
required_fit (optional_one p ∷ ps) all = required_fit ps all.1
required_fit (rest p ∷ ps) all = required_fit ps all.1
required_fit (trailing p ∷ ps) all = required_fit ps all.1
required_fit (keyword p ∷ ps) all = required_fit ps all.1
required_fit (rest_keywords p ∷ ps) all = required_fit ps all.1

optional_fit : (ps : List Parameter) → AllOf FitsParameter ps → AllOf FitsParam (optional_of ps)
optional_fit [] all = tt
optional_fit (optional_one p ∷ ps) all = (all.0, optional_fit ps all.1)
optional_fit (required p ∷ ps) all = optional_fit ps all.1
optional_fit (rest p ∷ ps) all = optional_fit ps all.1
optional_fit (trailing p ∷ ps) all = optional_fit ps all.1
optional_fit (keyword p ∷ ps) all = optional_fit ps all.1
optional_fit (rest_keywords p ∷ ps) all = optional_fit ps all.1

rest_fits : (ps : List Parameter) → AllOf FitsParameter ps → IfThere FitsParam (rest_of ps)
rest_fits [] all = tt
rest_fits (rest p ∷ ps) all = all.0
rest_fits (required p ∷ ps) all = rest_fits ps all.1
rest_fits (optional_one p ∷ ps) all = rest_fits ps all.1
rest_fits (trailing p ∷ ps) all = rest_fits ps all.1
rest_fits (keyword p ∷ ps) all = rest_fits ps all.1
rest_fits (rest_keywords p ∷ ps) all = rest_fits ps all.1

trailing_fit : (ps : List Parameter) → AllOf FitsParameter ps → AllOf FitsParam (trailing_of ps)
trailing_fit [] all = tt
trailing_fit (trailing p ∷ ps) all = (all.0, trailing_fit ps all.1)
trailing_fit (required p ∷ ps) all = trailing_fit ps all.1
trailing_fit (optional_one p ∷ ps) all = trailing_fit ps all.1
trailing_fit (rest p ∷ ps) all = trailing_fit ps all.1
trailing_fit (keyword p ∷ ps) all = trailing_fit ps all.1
trailing_fit (rest_keywords p ∷ ps) all = trailing_fit ps all.1

keywords_fit : (ps : List Parameter) → AllOf FitsParameter ps → AllOf FitsKeyword (keywords_of ps)
keywords_fit [] all = tt
keywords_fit (keyword p ∷ ps) all = (all.0, keywords_fit ps all.1)
keywords_fit (required p ∷ ps) all = keywords_fit ps all.1
keywords_fit (optional_one p ∷ ps) all = keywords_fit ps all.1
keywords_fit (rest p ∷ ps) all = keywords_fit ps all.1
keywords_fit (trailing p ∷ ps) all = keywords_fit ps all.1
keywords_fit (rest_keywords p ∷ ps) all = keywords_fit ps all.1

rest_keywords_fit : (ps : List Parameter) → AllOf FitsParameter ps → IfThere FitsParam (rest_keywords_of ps)
rest_keywords_fit [] all = tt
rest_keywords_fit (rest_keywords p ∷ ps) all = all.0
rest_keywords_fit (required p ∷ ps) all = rest_keywords_fit ps all.1
rest_keywords_fit (optional_one p ∷ ps) all = rest_keywords_fit ps all.1
rest_keywords_fit (rest p ∷ ps) all = rest_keywords_fit ps all.1
rest_keywords_fit (trailing p ∷ ps) all = rest_keywords_fit ps all.1
rest_keywords_fit (keyword p ∷ ps) all = rest_keywords_fit ps all.1

-- all parameters of a list fit
pub record FitParameters (ps : Parameters) : Type 0 where
  pub required : AllOf FitsParam ps.required
  pub optional : AllOf FitsParam ps.optional
  pub rest : IfThere FitsParam ps.rest
  pub trailing : AllOf FitsParam ps.trailing
  pub keywords : AllOf FitsKeyword ps.keywords
  pub rest_keywords : IfThere FitsParam ps.rest_keywords
  pub behind : (not (is_cons ps.trailing) || (is_cons ps.optional || is_some ps.rest)) ≡ true

parameters_fit : (ps : List Parameter) → Items at.Open ps → FitParameters (parameters_of ps)
parameters_fit ps h = record {
  required = required_fit ps h.0;
  optional = optional_fit ps h.0;
  rest = rest_fits ps h.0;
  trailing = trailing_fit ps h.0;
  keywords = keywords_fit ps h.0;
  rest_keywords = rest_keywords_fit ps h.0;
  behind = h.1;
}

-- ---- the parameters' grammar

keyword_leads : (s : Stage) (p : Keyword) → Leads s (keyword p) at.Keyword
keyword_leads at.Open p = tt
keyword_leads at.Optional p = tt
keyword_leads at.Trailing p = tt
keyword_leads at.Keyword p = tt
keyword_leads at.Done p = tt

rest_keywords_lead : (s : Stage) (p : Param) → Leads s (rest_keywords p) at.Done
rest_keywords_lead at.Open p = tt
rest_keywords_lead at.Optional p = tt
rest_keywords_lead at.Trailing p = tt
rest_keywords_lead at.Keyword p = tt
rest_keywords_lead at.Done p = tt

name_fits : (name : Option (List ℕ)) → IfThere (λ w. is_word_of is_small w ≡ true) name → fits_name name ≡ true
name_fits None h = refl
name_fits (Some w) h = h

module _ (d : Ways) (known : FitWays d) where
  param_keeps : Keeps FitsParam (spells d param)
  unfolding param
  param_keeps = seq_keeps Fits (IfThere (λ w. is_word_of is_small w ≡ true)) FitsParam param_of (spells d a_type) (spells d (optional (tok is_small k.Word text_of))) (a_type_fits d known)
      (optional_keeps d (λ w. is_word_of is_small w ≡ true) (tok is_small k.Word text_of) (tok_keeps (λ w. is_word_of is_small w ≡ true) is_small text_of (λ t real passes. real_word_of is_small refl refl t real passes)))
      (λ ty name h w. param_fits ty name h (name_fits name w))

  key_fits : (s : Stage) (needed : Bool) (t : Token) (p : Param) → HasWord t → FitsParam p → Placed s (keyword_of needed t p)
  key_fits s needed t p word h = (keyword_fits t.text needed p.ty word (param_type p h), keyword_leads s (record { key = t.text; required = needed; ty = p.ty }))

  key_keeps : (s : Stage) (needed : Bool) → Keeps (Placed s) (spells d (key_param needed))
  key_keeps s needed = seq_keeps HasWord FitsParam (Placed s) (keyword_of needed) (spells d (tok is_word k.Word same)) (spells d (behind k.Colon param))
      (tok_keeps HasWord is_word same (λ t real passes. real_word_of is_word refl refl t real passes)) (behind_keeps d FitsParam k.Colon param param_keeps) (λ t p word h. key_fits s needed t p word h)

  key_or_keeps : (s : Stage) (needed : Bool) (positional : Grammar (Parameter × Stage)) → Keeps (Placed s) (spells d positional) → Keeps (Placed s) (spells d (key_or needed positional))
  key_or_keeps s needed positional h = ahead_keeps FitsParam (Placed s) (keyword_of needed) is_word (is k.Colon) (spells d param) (spells d positional) param_keeps h
      (λ t p real passes fits. key_fits s needed t p (real_word_of is_word refl refl t real passes) fits)

  -- a parameter in its place
  place_keeps : (s : Stage) (place : Param → Parameter) (next : Stage) → ((p : Param) → FitsParam p → Placed s (placed place next p)) → Keeps (Placed s) (spells d (map_value (placed place next) param))
  place_keeps s place next h = value_keeps d FitsParam (Placed s) (placed place next) param param_keeps h

  rest_keywords_keeps : (s : Stage) → Keeps (Placed s) (spells d rest_keywords_param)
  rest_keywords_keeps s = behind_keeps d (Placed s) k.StarStar (map_value (placed rest_keywords at.Done) param) (place_keeps s rest_keywords at.Done (λ p h. (h, rest_keywords_lead s p)))

  rest_keeps : (s : Stage) → ((p : Param) → Leads s (rest p) at.Trailing) → Keeps (Placed s) (spells d rest_param)
  rest_keeps s leads = behind_keeps d (Placed s) k.Star (map_value (placed rest at.Trailing) param) (place_keeps s rest at.Trailing (λ p h. (h, leads p)))

  optional_one_keeps : (s : Stage) → ((p : Param) → Leads s (optional_one p) at.Optional) → Keeps (Placed s) (spells d optional_param)
  optional_one_keeps s leads = behind_keeps d (Placed s) k.Question (key_or false (map_value (placed optional_one at.Optional) param))
      (key_or_keeps s false (map_value (placed optional_one at.Optional) param) (place_keeps s optional_one at.Optional (λ p h. (h, leads p))))

  positional_keeps : (s : Stage) (place : Param → Parameter) (next : Stage) → ((p : Param) → FitsParam p → Placed s (placed place next p)) → Keeps (Placed s) (spells d (positional_param place next))
  positional_keeps s place next h = key_or_keeps s true (map_value (placed place next) param) (place_keeps s place next h)

  optional_keyword_keeps : (s : Stage) → Keeps (Placed s) (spells d optional_keyword)
  optional_keyword_keeps s = behind_keeps d (Placed s) k.Question (key_param false) (key_keeps s false)

  first_keeps : Keeps (Placed at.Open) (spells d first_params)
  unfolding first_params
  first_keeps = alt_keeps (Placed at.Open) (spells d rest_keywords_param) (spells d (alt rest_param (alt optional_param (positional_param required at.Open)))) (rest_keywords_keeps at.Open)
      (alt_keeps (Placed at.Open) (spells d rest_param) (spells d (alt optional_param (positional_param required at.Open))) (rest_keeps at.Open (λ p. tt))
      (alt_keeps (Placed at.Open) (spells d optional_param) (spells d (positional_param required at.Open)) (optional_one_keeps at.Open (λ p. tt)) (positional_keeps at.Open required at.Open (λ p h. (h, tt)))))

  optional_params_keep : Keeps (Placed at.Optional) (spells d optional_params)
  unfolding optional_params
  optional_params_keep = alt_keeps (Placed at.Optional) (spells d rest_keywords_param) (spells d (alt rest_param (alt optional_param (positional_param trailing at.Trailing)))) (rest_keywords_keeps at.Optional)
      (alt_keeps (Placed at.Optional) (spells d rest_param) (spells d (alt optional_param (positional_param trailing at.Trailing))) (rest_keeps at.Optional (λ p. tt))
      (alt_keeps (Placed at.Optional) (spells d optional_param) (spells d (positional_param trailing at.Trailing)) (optional_one_keeps at.Optional (λ p. tt)) (positional_keeps at.Optional trailing at.Trailing (λ p h. (h, tt)))))

  trailing_params_keep : Keeps (Placed at.Trailing) (spells d trailing_params)
  unfolding trailing_params
  trailing_params_keep = alt_keeps (Placed at.Trailing) (spells d rest_keywords_param) (spells d (alt optional_keyword (positional_param trailing at.Trailing))) (rest_keywords_keeps at.Trailing)
      (alt_keeps (Placed at.Trailing) (spells d optional_keyword) (spells d (positional_param trailing at.Trailing)) (optional_keyword_keeps at.Trailing) (positional_keeps at.Trailing trailing at.Trailing (λ p h. (h, tt))))

  keyword_params_keep : (s : Stage) → Keeps (Placed s) (spells d keyword_params)
  unfolding keyword_params
  keyword_params_keep s = alt_keeps (Placed s) (spells d rest_keywords_param) (spells d (alt optional_keyword (key_param true))) (rest_keywords_keeps s)
      (alt_keeps (Placed s) (spells d optional_keyword) (spells d (key_param true)) (optional_keyword_keeps s) (key_keeps s true))

  params_at_keep : (s : Stage) → Keeps (Placed s) (spells d (params_at s))
  params_at_keep at.Open = first_keeps
  params_at_keep at.Optional = optional_params_keep
  params_at_keep at.Trailing = trailing_params_keep
  params_at_keep at.Keyword = keyword_params_keep at.Keyword
  params_at_keep at.Done = keyword_params_keep at.Done

  params_keep : Keeps FitParameters (spells d params)
  unfolding params
  params_keep = chain_keeps params_lead (λ x s. Placed at.Open (x, s)) (λ s x next. FitsParameter x × Leads s x next) Items FitParameters parameters_of (spells d first_params) (λ s. spells d (next_param s))
      chained first_keeps (λ s. behind_keeps d (Placed s) k.Comma (params_at s) (params_at_keep s))
      (λ x s xs first all. parameters_fit (x ∷ xs) ((first.0, all.0), trailing_on at.Open s x xs first.1 all.1))

  pub param_list_keeps : Keeps FitParameters (spells d param_list)
  unfolding param_list
  param_list_keeps = alt_keeps FitParameters (spells d (behind k.LeftParen (before (alt params (eps no_params)) k.RightParen))) (spells d (eps no_params))
      (behind_keeps d FitParameters k.LeftParen (before (alt params (eps no_params)) k.RightParen)
      (before_keeps d FitParameters (alt params (eps no_params)) k.RightParen (alt_keeps FitParameters (spells d params) (spells d (eps no_params)) params_keep none_fit)))
      none_fit
    where
      none_fit : Keeps FitParameters (spells d (eps no_params))
      none_fit = eps_keeps FitParameters no_params (parameters_fit [] (tt, refl))

-- ---- functions

-- what is told of a function's parts
abbrev fit_parts : MethodType-F Ty BlockType Field Keyword MethodType Param → MethodType-F Bool Bool Bool Bool FitFunction Bool
fit_parts x = map-MethodType _ _ _ _ _ _ _ _ _ _ _ _ fit fit_block_tree fit_field_tree fit_keyword_tree fit_fun fit_param_tree x

cons_kept : {A B : Type 0} (f : A → B) (xs : List A) → is_cons (map f xs) ≡ is_cons xs
cons_kept f [] = refl
cons_kept f (x ∷ xs) = refl

rest_kept : (x : MethodType-F Ty BlockType Field Keyword MethodType Param) (r : Option Param) → is_some (fit_parts (record x { rest = r })).rest ≡ is_some r
rest_kept x None = refl
rest_kept x (Some p) = refl

if_rest : (x : MethodType-F Ty BlockType Field Keyword MethodType Param) (r : Option Param) → IfThere FitsParam r → if_some (fit_parts (record x { rest = r })).rest ≡ true
if_rest x None h = refl
if_rest x (Some p) h = h

if_rest_keywords : (x : MethodType-F Ty BlockType Field Keyword MethodType Param) (r : Option Param) → IfThere FitsParam r → if_some (fit_parts (record x { rest_keywords = r })).rest_keywords ≡ true
if_rest_keywords x None h = refl
if_rest_keywords x (Some p) h = h

if_block : (x : MethodType-F Ty BlockType Field Keyword MethodType Param) (b : Option BlockType) → IfThere FitsBlock b → if_some (fit_parts (record x { block = b })).block ≡ true
if_block x None h = refl
if_block x (Some b) h = h

no_block : (x : MethodType-F Ty BlockType Field Keyword MethodType Param) → (fit_function (fit_parts (record x { block = None }))).has_block ≡ false
no_block x = refl

fun_layer : (x : MethodType-F Ty BlockType Field Keyword MethodType Param) → fit_fun (roll-MethodType x) ≡ fit_function (fit_parts x)
fun_layer x = fold-roll-MethodType Bool Bool Bool Bool FitFunction Bool fit_ty fit_block fit_field fit_keyword fit_function fit_param x

-- the layer of a function
abbrev layer_of : Parameters → Option BlockType → Ty → MethodType-F Ty BlockType Field Keyword MethodType Param
layer_of ps block result = record {
  vars = [];
  required = ps.required;
  optional = ps.optional;
  rest = ps.rest;
  trailing = ps.trailing;
  keywords = ps.keywords;
  rest_keywords = ps.rest_keywords;
  block = block;
  result = result;
}

function_of_fits : (ps : Parameters) (block : Option BlockType) (result : Ty) → FitParameters ps → IfThere FitsBlock block → Fits result → FitsFunction (function_of ps (block, result))
function_of_fits ps block result h b r =
    ap (λ f. f.fits) (fun_layer x)
    ∙ and_both _ _ (all_pass fit_param_tree ps.required h.required) (and_both _ _ (all_pass fit_param_tree ps.optional h.optional) (and_both _ _ (if_rest x ps.rest h.rest)
    (and_both _ _ (all_pass fit_param_tree ps.trailing h.trailing) (and_both _ _ (all_pass fit_keyword_tree ps.keywords h.keywords)
    (and_both _ _ (if_rest_keywords x ps.rest_keywords h.rest_keywords) (and_both _ _ (if_block x block b) (and_both _ _ r behind)))))))
  where
    x : MethodType-F Ty BlockType Field Keyword MethodType Param
    x = layer_of ps block result

    behind : fits_trailing (fit_parts x) ≡ true
    behind = ap (λ t. not t || (is_cons (fit_parts x).optional || is_some (fit_parts x).rest)) (cons_kept fit_param_tree ps.trailing)
        ∙ ap (λ t. not (is_cons ps.trailing) || (t || is_some (fit_parts x).rest)) (cons_kept fit_param_tree ps.optional)
        ∙ ap (λ t. not (is_cons ps.trailing) || (is_cons ps.optional || t)) (rest_kept x ps.rest)
        ∙ h.behind

block_of_fits : (marked : Bool) (ps : Parameters) (result : Ty) → FitParameters ps → Fits result → FitsBlock (block_of marked (ps, result))
block_of_fits marked ps result h r =
    fold-roll-BlockType Bool Bool Bool Bool FitFunction Bool fit_ty fit_block fit_field fit_keyword fit_function fit_param (record { required = not marked; fun = function_of ps (None, result) })
    ∙ and_both (fit_fun (function_of ps (None, result))).fits (not (fit_fun (function_of ps (None, result))).has_block) (function_of_fits ps None result h tt r) (ap (λ f. not f.has_block) (fun_layer (layer_of ps None result)))

-- ---- method types

abbrev pub FitsMethod : MethodType → Type 0
FitsMethod m = fit_method m ≡ true

abbrev Constants : List (List ℕ) → Type 0
Constants vars = list_all is_constant vars ≡ true

constants : (vars : List (List ℕ)) → AllOf (λ w. is_constant w ≡ true) vars → Constants vars
constants [] all = refl
constants (w ∷ ws) all = and_both (is_constant w) (list_all is_constant ws) all.0 (constants ws all.1)

without : (a b : Bool) → (not a && b) ≡ true → (not false && b) ≡ true
without true b h = cc
without false b h = h

with_variables_fits : (vars : List (List ℕ)) (fun : MethodType) → AllOf (λ w. is_constant w ≡ true) vars → FitsFunction fun → FitsMethod (with_variables vars fun)
with_variables_fits vars fun all h =
    ap (λ o. list_all is_constant o.vars && (fit_fun (roll-MethodType (record o { vars = [] }))).fits) (out-roll-MethodType (record (out-MethodType fun) { vars = vars }))
    ∙ and_both (list_all is_constant vars) (fit_fun (with_variables [] fun)).fits (constants vars all)
    (ap (λ f. f.fits) (fun_layer (record (out-MethodType fun) { vars = [] }))
    ∙ without (is_cons (out-MethodType fun).vars) _ (sym (ap (λ f. f.fits) (fold_out-MethodType Bool Bool Bool Bool FitFunction Bool fit_ty fit_block fit_field fit_keyword fit_function fit_param fun)) ∙ h))

module _ (d : Ways) (known : FitWays d) where
  result_keeps : Keeps Fits (spells d result)
  unfolding result
  result_keeps = behind_keeps d Fits k.Arrow opt (opt_keeps d known)

  abbrev Ends : Parameters × Ty → Type 0
  Ends p = FitParameters p.0 × Fits p.1

  block_keeps : Keeps FitsBlock (spells d block)
  unfolding block
  block_keeps = seq_keeps Any Ends FitsBlock block_of (spells d (given (token k.Question))) (spells d (behind k.LeftBrace (before (both param_list result) k.RightBrace)))
      (given_keeps d (token k.Question) (token_keeps d k.Question))
      (behind_keeps d Ends k.LeftBrace (before (both param_list result) k.RightBrace)
      (before_keeps d Ends (both param_list result) k.RightBrace (both_keeps d FitParameters Fits param_list result (param_list_keeps d known) result_keeps)))
      (λ marked p any h. block_of_fits marked p.0 p.1 h.0 h.1)

  pub function_keeps : Keeps FitsFunction (spells d function)
  unfolding function
  function_keeps = seq_keeps FitParameters (λ p. IfThere FitsBlock p.0 × Fits p.1) FitsFunction function_of (spells d param_list) (spells d (both (optional block) result)) (param_list_keeps d known)
      (both_keeps d (IfThere FitsBlock) Fits (optional block) result (optional_keeps d FitsBlock block block_keeps) result_keeps)
      (λ ps end h e. function_of_fits ps end.0 end.1 h e.0 e.1)

  variables_keep : Keeps (AllOf (λ w. is_constant w ≡ true)) (spells d variables)
  unfolding variables
  variables_keep = behind_keeps d (AllOf (λ w. is_constant w ≡ true)) k.LeftBracket (before (separated k.Comma (tok (is k.Constant) k.Constant text_of)) k.RightBracket)
      (before_keeps d (AllOf (λ w. is_constant w ≡ true)) (separated k.Comma (tok (is k.Constant) k.Constant text_of)) k.RightBracket
      (separated_keeps d (λ w. is_constant w ≡ true) k.Comma (tok (is k.Constant) k.Constant text_of)
      (tok_keeps (λ w. is_constant w ≡ true) (is k.Constant) text_of (λ t real passes. real_word_of (is k.Constant) refl refl t real passes))))

  pub method_keeps : Keeps FitsMethod (spells d method_type)
  unfolding method_type
  method_keeps = seq_keeps (AllOf (λ w. is_constant w ≡ true)) FitsFunction FitsMethod with_variables (spells d (any_of variables)) (spells d a_function)
      (any_of_keeps d (λ w. is_constant w ≡ true) variables variables_keep) (a_function_fits d known) (λ vars fun all h. with_variables_fits vars fun all h)
