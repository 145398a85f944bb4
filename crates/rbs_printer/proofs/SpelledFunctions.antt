-- The tokens of a printed function spell it, where those of its types do.
use Rattle.std.proofs.Common.{◌≡◌, ℕ, zero, suc, ◌+◌, ◌≤◌, Bool, true, false, not, List, [], ◌∷◌, ◌++◌, map, Option, Some, None, refl, sym, ◌∙◌, ap, subst, arith}
use Rattle.std.specs.Prelude.{option_map, codes}
use Rattle.std.specs.List.{list_all}
use mathlib.Core.Logic.{inl, inr}
use Rattle.rbs_tree.specs.declared.types.Ty.{Ty}
use Rattle.rbs_tree.specs.declared.types.BlockType.{BlockType}
use Rattle.rbs_tree.specs.declared.types.Keyword.{Keyword}
use Rattle.rbs_tree.specs.declared.types.MethodType.{MethodType}
use Rattle.rbs_tree.specs.declared.types.Param.{Param}
use Rattle.rbs_tree.specs.declared.types.Ty.TheViews.{roll-BlockType, roll-MethodType, out-BlockType, out-MethodType}
use Rattle.rbs_lexer.specs.declared.kind.Kind.TheVariants as k
use Rattle.rbs_lexer.specs.Tokens.{Token}
use Rattle.rbs_lexer.specs.declared.walk.Walk.{Walk}
use Rattle.rbs_lexer.specs.Lexing.{Piece, token, past, past_all, tokens_of}
use Rattle.rbs_grammar.specs.declared.parts.Parameters.{Parameters}
use Rattle.rbs_grammar.specs.Grammar.{spells}
use Rattle.rbs_grammar.specs.Parts.{both, behind, before, optional, yes}
use Rattle.rbs_grammar.specs.Parts as parts
use Rattle.rbs_grammar.specs.Levels.{spell_in}
use Rattle.rbs_grammar.specs.Types.{opt}
use Rattle.rbs_grammar.specs.Functions.{param_list, result, block, block_of, function, function_of}
use Rattle.rbs_printer.specs.declared.level.Level.TheVariants as at
use Rattle.rbs_printer.specs.Again.{bare, bare_method}
use Rattle.rbs_printer.proofs.Pieces.{pieced, pieced_method, blank, question, left_brace, right_brace, listed, in_parens, mark, vars_pieces, block_pieces, result_pieces, pieces_at}
use Rattle.rbs_printer.proofs.Fit.{fit_fun, fit_param_tree, fit_keyword_tree, fit_block_tree, is_true, if_some}
use Rattle.rbs_printer.proofs.Claims.{deep, Clear, Spelled, SpelledFunction, AllOf, IfThere, PlainParts, Parts, SpelledIfFit}
use Rattle.rbs_printer.proofs.SpelledTypes.{placed_reads, placed-no_key}
use Rattle.rbs_printer.proofs.TokensOf.{tokens_before}
use Rattle.rbs_printer.proofs.Ways.{Ways, behind_spelled, before_spelled, both_spelled, map_spelled, some_spelled, none_spelled, type_opens}
use Rattle.rbs_printer.proofs.Parameters.{ReadyType, ReadyParam, ReadyKeyword, token_at, bare_parameters, list_given, from_required, all_are, all_values}
use Rattle.rbs_printer.proofs.FunctionParts.{Layer, pieced_block_tree, pieced_block_is, layer_params, layer_pieces, method_pieces_are, bare_block, bare_block_is, layer_of, parameters, bare_layer, bare_method_is, bare_roll, bare_roll_block, FitLayer, fun_fits, param_fits, keyword_fits, block_fits}

-- ---- where its types are spelled

-- The pieces of a result spell it.
pub record ReadyResult (d : Ways) (ty : Ty) : Type 0 where
  pub spelled : (walk : Walk) (after : List Token) → Clear after → (read : Ty) × (spells d opt (tokens_of walk (pieces_at at.Optional (pieced ty)) ++ after) after read) × (bare read ≡ bare ty)

-- So do the pieces of all types in a function, but for its block.
pub record ReadyLayer (d : Ways) (f : Layer) : Type 0 where
  pub required : AllOf (ReadyParam d) f.required
  pub optional : AllOf (ReadyParam d) f.optional
  pub rest : IfThere (ReadyParam d) f.rest
  pub trailing : AllOf (ReadyParam d) f.trailing
  pub keywords : AllOf (ReadyKeyword d) f.keywords
  pub rest_keywords : IfThere (ReadyParam d) f.rest_keywords
  pub result : ReadyResult d f.result

-- the parameters between their parentheses
params_given : (d : Ways) (f : Layer) → FitLayer f → ReadyLayer d f → (walk : Walk) (after : List Token)
    → (z : Parameters) × (spells d param_list (tokens_of walk (in_parens (listed (layer_params f))) ++ after) after z) × (bare_parameters z ≡ bare_parameters (parameters f))
params_given d f fits r walk after =
    let s = list_given d (layer_params f) (all_values f.required f.optional f.rest f.trailing f.keywords f.rest_keywords)
    (from_required d f.required f.optional f.rest f.trailing f.keywords f.rest_keywords fits.order r.required r.optional r.rest r.trailing r.keywords r.rest_keywords) walk after in
    (s.0, s.1, s.2 ∙ ap bare_parameters (all_are f.required f.optional f.rest f.trailing f.keywords f.rest_keywords))

-- `->` and the result
result_given : (d : Ways) (ty : Ty) → ReadyResult d ty → (walk : Walk) (after : List Token) → Clear after
    → (read : Ty) × (spells d result (tokens_of walk (result_pieces (pieced ty)) ++ after) after read) × (bare read ≡ bare ty)
unfolding result
result_given d ty r walk after c =
    let at_arrow = past walk blank in
    let t : Token = token_at at_arrow k.Arrow (codes "->") in
    let at_type = past (past at_arrow (token k.Arrow (codes "->"))) blank in
    let s = r.spelled at_type after c in
    (s.0, behind_spelled d k.Arrow opt t (tokens_of at_type (pieces_at at.Optional (pieced ty)) ++ after) after s.0 refl s.1, s.2)

-- ---- blocks

-- the parameters and the result of a block
ends_given : (d : Ways) (f : Layer) → FitLayer f → ReadyLayer d f → (walk : Walk) (after : List Token) → Clear after
    → (z : Parameters × Ty) × (spells d (both param_list result) (tokens_of walk (layer_pieces f None) ++ after) after z) × (bare_parameters z.0 ≡ bare_parameters (parameters f)) × (bare z.1 ≡ bare f.result)
ends_given d f fits r walk after c =
    let list = in_parens (listed (layer_params f)) in
    let behind_list = past_all walk list in
    let mid : List Token = tokens_of behind_list (result_pieces (pieced f.result)) ++ after in
    let ps = params_given d f fits r walk mid in
    let end = result_given d f.result r.result behind_list after c in (
      (ps.0, end.0),
      subst (λ ts. spells d (both param_list result) ts after (ps.0, end.0)) (sym (tokens_before walk list (result_pieces (pieced f.result)) after))
          (both_spelled d param_list result (tokens_of walk list ++ mid) mid after ps.0 end.0 ps.1 end.1),
      ps.2,
      end.2,
    )

-- what is left of a function without variables and a block
bare_plain : (f : Layer) (z : Parameters × Ty) → bare_parameters z.0 ≡ bare_parameters (parameters f) → bare z.1 ≡ bare f.result → f.vars ≡ [] → f.block ≡ None
    → bare_method (function_of z.0 (None, z.1)) ≡ roll-MethodType (bare_layer f)
bare_plain f z p q v b =
    bare_roll (layer_of [] z.0 None z.1)
    ∙ ap (λ ps. roll-MethodType (layer_of [] ps None (bare z.1))) p
    ∙ ap (λ t. roll-MethodType (layer_of [] (bare_parameters (parameters f)) None t)) q
    ∙ ap (λ vars. roll-MethodType (layer_of vars (bare_parameters (parameters f)) None (bare f.result))) (sym v)
    ∙ ap (λ x. roll-MethodType (layer_of f.vars (bare_parameters (parameters f)) (option_map bare_block x) (bare f.result))) (sym b)

abbrev braced : Layer → List Piece
braced f = left_brace ∷ blank ∷ (layer_pieces f None ++ blank ∷ right_brace ∷ [])

braced_given : (d : Ways) (f : Layer) → FitLayer f → ReadyLayer d f → (walk : Walk) (after : List Token)
    → (z : Parameters × Ty) × (spells d (behind k.LeftBrace (before (both param_list result) k.RightBrace)) (tokens_of walk (braced f) ++ after) after z)
    × (bare_parameters z.0 ≡ bare_parameters (parameters f)) × (bare z.1 ≡ bare f.result)
braced_given d f fits r walk after =
    let t : Token = token_at walk k.LeftBrace (codes "{") in
    let inside = past (past walk left_brace) blank in
    let end = past_all inside (layer_pieces f None) in
    let u : Token = token_at (past end blank) k.RightBrace (codes "}") in
    let s = ends_given d f fits r inside (u ∷ after) refl in
    let ts : List Token = tokens_of inside (layer_pieces f None) ++ (u ∷ after) in
    let whole = behind_spelled d k.LeftBrace (before (both param_list result) k.RightBrace) t ts after s.0 refl
    (before_spelled d k.RightBrace (both param_list result) u ts after s.0 refl s.1) in (
      s.0,
      subst (λ us. spells d (behind k.LeftBrace (before (both param_list result) k.RightBrace)) (t ∷ us) after s.0) (sym (tokens_before inside (layer_pieces f None) (blank ∷ right_brace ∷ []) after)) whole,
      s.2,
      s.3,
    )

marked_given : (d : Ways) (f : Layer) (required : Bool) → FitLayer f → ReadyLayer d f → (walk : Walk) (after : List Token)
    → (z : Parameters × Ty) × (spells d block (tokens_of walk (mark required ++ braced f) ++ after) after (block_of (not required) z))
    × (bare_parameters z.0 ≡ bare_parameters (parameters f)) × (bare z.1 ≡ bare f.result)
unfolding block
marked_given d f true fits r walk after =
    let s = braced_given d f fits r walk after in
    (s.0, (false, s.0, tokens_of walk (braced f) ++ after, inr (refl, refl), s.1, refl), s.2, s.3)
marked_given d f false fits r walk after =
    let t : Token = token_at walk k.Question (codes "?") in
    let inside = past walk question in
    let s = braced_given d f fits r inside after in
    let ts : List Token = tokens_of inside (braced f) ++ after in
    (s.0, (true, s.0, ts, inl (map_spelled d yes (parts.token k.Question) (t ∷ ts) ts t (t, refl, refl, refl)), s.1, refl), s.2, s.3)

not_not : (b : Bool) → not (not b) ≡ b
not_not true = refl
not_not false = refl

-- A block that may be there is spelled.
abbrev BlockGiven : Ways → Option BlockType → Type 0
BlockGiven d b = (walk : Walk) (after : List Token)
    → (x : Option BlockType) × (spells d (optional block) (tokens_of walk (block_pieces (option_map pieced_block_tree b)) ++ after) after x) × (option_map bare_block x ≡ option_map bare_block b)

no_block_given : (d : Ways) → BlockGiven d None
no_block_given d walk after = (None, none_spelled d block after, refl)

block_given : (d : Ways) (b : BlockType) → FitLayer (out-MethodType (out-BlockType b).fun) → (out-MethodType (out-BlockType b).fun).block ≡ None → ReadyLayer d (out-MethodType (out-BlockType b).fun)
    → BlockGiven d (Some b)
block_given d b fits none r walk after =
    let m = (out-BlockType b).fun in
    let f = out-MethodType m in
    let needed = (out-BlockType b).required in
    let inside = past walk blank in
    let s = marked_given d f needed fits r inside after in
    let read : BlockType = block_of (not needed) s.0 in
    let same_fun : (pieced_method m).pieces ≡ layer_pieces f None = method_pieces_are m
    ∙ ap (λ vars. vars_pieces vars ++ layer_pieces f (option_map pieced_block_tree f.block)) fits.vars
    ∙ ap (λ x. layer_pieces f (option_map pieced_block_tree x)) none in
    let same_pieces : pieced_block_tree b ≡ mark needed ++ braced f = pieced_block_is b ∙ ap (λ ps. mark needed ++ (left_brace ∷ blank ∷ (ps ++ blank ∷ right_brace ∷ []))) same_fun in (
      Some read,
      subst (λ ps. spells d (optional block) (tokens_of inside ps ++ after) after (Some read)) (sym same_pieces)
          (some_spelled d block (tokens_of inside (mark needed ++ braced f) ++ after) after read s.1),
      ap Some (bare_roll_block (record { required = not (not needed); fun = function_of s.0.0 (None, s.0.1) })
          ∙ ap (λ n. roll-BlockType (record { required = n; fun = bare_method (function_of s.0.0 (None, s.0.1)) })) (not_not needed)
          ∙ ap (λ g. roll-BlockType (record { required = needed; fun = g })) (bare_plain f s.0 s.2 s.3 fits.vars none ∙ sym (bare_method_is m))
          ∙ sym (bare_block_is b)),
    )

-- ---- functions

-- what is left of a function without variables
bare_whole : (f : Layer) (z : Parameters) (x : Option BlockType) (ty : Ty) → bare_parameters z ≡ bare_parameters (parameters f) → option_map bare_block x ≡ option_map bare_block f.block
    → bare ty ≡ bare f.result → f.vars ≡ [] → bare_method (function_of z (x, ty)) ≡ roll-MethodType (bare_layer f)
bare_whole f z x ty p b q v =
    bare_roll (layer_of [] z x ty)
    ∙ ap (λ ps. roll-MethodType (layer_of [] ps (option_map bare_block x) (bare ty))) p
    ∙ ap (λ y. roll-MethodType (layer_of [] (bare_parameters (parameters f)) y (bare ty))) b
    ∙ ap (λ t. roll-MethodType (layer_of [] (bare_parameters (parameters f)) (option_map bare_block f.block) t)) q
    ∙ ap (λ vars. roll-MethodType (layer_of vars (bare_parameters (parameters f)) (option_map bare_block f.block) (bare f.result))) (sym v)

layer_given : (d : Ways) (f : Layer) → FitLayer f → ReadyLayer d f → BlockGiven d f.block → (walk : Walk) (after : List Token) → Clear after
    → (read : MethodType) × (spells d function (tokens_of walk (layer_pieces f (option_map pieced_block_tree f.block)) ++ after) after read) × (bare_method read ≡ roll-MethodType (bare_layer f))
unfolding function
layer_given d f fits r b walk after c =
    let list = in_parens (listed (layer_params f)) in
    let of_block = block_pieces (option_map pieced_block_tree f.block) in
    let of_result = result_pieces (pieced f.result) in
    let behind_list = past_all walk list in
    let behind_block = past_all behind_list of_block in
    let last : List Token = tokens_of behind_block of_result ++ after in
    let mid : List Token = tokens_of behind_list of_block ++ last in
    let ps = params_given d f fits r walk mid in
    let x = b behind_list last in
    let end = result_given d f.result r.result behind_block after c in
    let read : MethodType = function_of ps.0 (x.0, end.0) in
    let split : tokens_of walk (list ++ (of_block ++ of_result)) ++ after ≡ tokens_of walk list ++ mid =
    tokens_before walk list (of_block ++ of_result) after ∙ ap (λ ts. tokens_of walk list ++ ts) (tokens_before behind_list of_block of_result after) in (
      read,
      subst (λ ts. spells d function ts after read) (sym split)
          (ps.0, (x.0, end.0), mid, ps.1, both_spelled d (optional block) result mid last after x.0 end.0 x.1 end.1, refl),
      bare_whole f ps.0 x.0 end.0 ps.2 x.2 end.2 fits.vars,
    )

function_given : (d : Ways) (m : MethodType) → FitLayer (out-MethodType m) → ReadyLayer d (out-MethodType m) → BlockGiven d (out-MethodType m).block → (walk : Walk) (after : List Token) → Clear after
    → (read : MethodType) × (spells d function (tokens_of walk (pieced_method m).pieces ++ after) after read) × (bare_method read ≡ bare_method m)
function_given d m fits r b walk after c =
    let f = out-MethodType m in
    let s = layer_given d f fits r b walk after c in
    let same_pieces : (pieced_method m).pieces ≡ layer_pieces f (option_map pieced_block_tree f.block) = method_pieces_are m
    ∙ ap (λ vars. vars_pieces vars ++ layer_pieces f (option_map pieced_block_tree f.block)) fits.vars in
    (s.0, subst (λ ps. spells d function (tokens_of walk ps ++ after) after s.0) (sym same_pieces) s.1, s.2 ∙ sym (bare_method_is m))

-- ---- from the claims of the types

list_left : (x : Bool) (xs : List Bool) → list_all is_true (x ∷ xs) ≡ true → x ≡ true
list_left true xs h = refl
list_left false xs h = cc

list_right : (x : Bool) (xs : List Bool) → list_all is_true (x ∷ xs) ≡ true → list_all is_true xs ≡ true
list_right true xs h = h
list_right false xs h = cc

-- so from some number on, where so many rules may still be opened
abbrev FromOn : (Ways → Type 0) → Type 0
FromOn P = (least : ℕ) × ((n : ℕ) → least ≤ n → P (spell_in (deep n)))

ready_type : (ty : Ty) (s : Spelled (pieced ty) ty) (n : ℕ) → 3 + s.least ≤ n → ReadyType (spell_in (deep n)) ty
ready_type ty s zero h = absurd (omega arith)
ready_type ty s (suc zero) h = absurd (omega arith)
ready_type ty s (suc (suc n)) h = record {
  spelled = λ walk after c.
      let r = placed_reads (pieced ty) ty s at.Union false (suc n) (omega arith) walk after c in
      (r.0, type_opens n (tokens_of walk (pieces_at at.Union (pieced ty)) ++ after) after r.0 r.1, r.2);
  no_key = placed-no_key (pieced ty) ty s at.Union false;
}

ready_result : (ty : Ty) → Spelled (pieced ty) ty → FromOn (λ d. ReadyResult d ty)
ready_result ty s = (2 + s.least, λ n h. record { spelled = placed_reads (pieced ty) ty s at.Optional false n (omega arith) })

ready_param : (p : Param) → SpelledIfFit p.ty → fit_param_tree p ≡ true → FromOn (λ d. ReadyParam d p)
ready_param p h e =
    let fits = param_fits p e in
    let s = h fits.0 in
    (3 + s.least, λ n l. record { type = ready_type p.ty s n l; name = fits.1 })

ready_keyword : (p : Keyword) → SpelledIfFit p.ty → fit_keyword_tree p ≡ true → FromOn (λ d. ReadyKeyword d p)
ready_keyword p h e =
    let fits = keyword_fits p e in
    let s = h fits.1 in
    (3 + s.least, λ n l. record { type = ready_type p.ty s n l; key = fits.0 })

ready_params : (ps : List Param) → AllOf (λ (p : Param). SpelledIfFit p.ty) ps → list_all is_true (map fit_param_tree ps) ≡ true → FromOn (λ d. AllOf (ReadyParam d) ps)
ready_params [] h e = (0, λ n l. tt)
ready_params (p ∷ ps) h e =
    let one = ready_param p h.0 (list_left (fit_param_tree p) (map fit_param_tree ps) e) in
    let more = ready_params ps h.1 (list_right (fit_param_tree p) (map fit_param_tree ps) e) in
    (one.0 + more.0, λ n l. (one.1 n (omega arith), more.1 n (omega arith)))

ready_keywords : (ps : List Keyword) → AllOf (λ (p : Keyword). SpelledIfFit p.ty) ps → list_all is_true (map fit_keyword_tree ps) ≡ true → FromOn (λ d. AllOf (ReadyKeyword d) ps)
ready_keywords [] h e = (0, λ n l. tt)
ready_keywords (p ∷ ps) h e =
    let one = ready_keyword p h.0 (list_left (fit_keyword_tree p) (map fit_keyword_tree ps) e) in
    let more = ready_keywords ps h.1 (list_right (fit_keyword_tree p) (map fit_keyword_tree ps) e) in
    (one.0 + more.0, λ n l. (one.1 n (omega arith), more.1 n (omega arith)))

ready_option : (p : Option Param) → IfThere (λ (p : Param). SpelledIfFit p.ty) p → if_some (option_map fit_param_tree p) ≡ true → FromOn (λ d. IfThere (ReadyParam d) p)
ready_option None h e = (0, λ n l. tt)
ready_option (Some p) h e = ready_param p h e

ready_layer : (m : MethodType) → PlainParts SpelledIfFit m → FitLayer (out-MethodType m) → FromOn (λ d. ReadyLayer d (out-MethodType m))
ready_layer m h fits =
    let f = out-MethodType m in
    let a = ready_params f.required h.required fits.required in
    let b = ready_params f.optional h.optional fits.optional in
    let c = ready_option f.rest h.rest fits.rest in
    let e = ready_params f.trailing h.trailing fits.trailing in
    let g = ready_keywords f.keywords h.keywords fits.keywords in
    let i = ready_option f.rest_keywords h.rest_keywords fits.rest_keywords in
    let j = ready_result f.result (h.result fits.result) in (
      a.0 + (b.0 + (c.0 + (e.0 + (g.0 + (i.0 + j.0))))),
      λ n l. record {
        required = a.1 n (omega arith);
        optional = b.1 n (omega arith);
        rest = c.1 n (omega arith);
        trailing = e.1 n (omega arith);
        keywords = g.1 n (omega arith);
        rest_keywords = i.1 n (omega arith);
        result = j.1 n (omega arith);
      },
    )

ready_block : (b : Option BlockType) → IfThere (λ (b : BlockType). PlainParts SpelledIfFit (out-BlockType b).fun) b → if_some (option_map fit_block_tree b) ≡ true → FromOn (λ d. BlockGiven d b)
ready_block None h e = (0, λ n l. no_block_given (spell_in (deep n)))
ready_block (Some b) h e =
    let m = (out-BlockType b).fun in
    let two = block_fits b e in
    let fits = fun_fits m two.0 in
    let r = ready_layer m h fits in
    (r.0, λ n l. block_given (spell_in (deep n)) b fits two.1 (r.1 n l))

-- A function that fits is spelled, where its types are.
pub function_spelled : (m : MethodType) → Parts SpelledIfFit m → (fit_fun m).fits ≡ true → SpelledFunction (pieced_method m).pieces m
function_spelled m h e =
    let f = out-MethodType m in
    let fits = fun_fits m e in
    let r = ready_layer m h.plain fits in
    let b = ready_block f.block h.block fits.block in
    record {
      least = r.0 + b.0;
      spells = λ n l walk after c. function_given (spell_in (deep n)) m fits (r.1 n (omega arith)) (b.1 n (omega arith)) walk after c;
    }
