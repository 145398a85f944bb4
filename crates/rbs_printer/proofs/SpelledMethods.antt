-- The tokens of a printed method type spell it, where those of its types do.
use Rattle.std.proofs.Common.{◌≡◌, ℕ, zero, suc, ◌+◌, ◌≤◌, Bool, true, false, ◌&&◌, List, [], ◌∷◌, ◌++◌, map, refl, sym, ◌∙◌, ap, subst, arith}
use Rattle.std.specs.Prelude.{option_map, codes}
use Rattle.std.specs.List.{list_all}
use mathlib.Core.Logic.{inl, inr}
use Rattle.rbs_tree.specs.declared.types.Ty.{Ty}
use Rattle.rbs_tree.specs.declared.types.BlockType.{BlockType}
use Rattle.rbs_tree.specs.declared.types.MethodType.{MethodType}
use Rattle.rbs_tree.specs.declared.types.Param.{Param}
use Rattle.rbs_tree.specs.declared.types.Keyword.{Keyword}
use Rattle.rbs_tree.specs.declared.types.Ty.TheViews.{roll-MethodType, out-BlockType, out-MethodType, out-roll-MethodType}
use Rattle.rbs_lexer.specs.declared.kind.Kind.TheVariants as k
use Rattle.rbs_lexer.specs.Tokens.{Token}
use Rattle.rbs_lexer.specs.declared.walk.Walk.{Walk}
use Rattle.rbs_lexer.specs.Words.{word_kind}
use Rattle.rbs_lexer.specs.Lexing.{Piece, token, past, past_all, tokens_of}
use Rattle.rbs_grammar.specs.Rules.{is}
use Rattle.rbs_grammar.specs.Grammar.{Grammar, tok, spells, Row}
use Rattle.rbs_grammar.specs.Parts.{behind, before, separated, any_of}
use Rattle.rbs_grammar.specs.Names.{text_of}
use Rattle.rbs_grammar.specs.Levels.{spell_in}
use Rattle.rbs_grammar.specs.Functions.{variables, with_variables, method_type}
use Rattle.rbs_printer.specs.Again.{bare_method}
use Rattle.rbs_printer.proofs.Pieces.{pieced_method, blank, comma, word, behind_each, listed, in_brackets, vars_pieces}
use Rattle.rbs_printer.proofs.Fit.{is_constant, fit_method}
use Rattle.rbs_printer.proofs.Claims.{deep, Clear, SpelledFunction, AllOf, IfThere, PlainParts, Parts, SpelledIfFit}
use Rattle.rbs_printer.proofs.TokensOf.{tokens_before}
use Rattle.rbs_printer.proofs.Ways.{Ways, behind_spelled, before_spelled, function_opens, constant_anywhere}
use Rattle.rbs_printer.proofs.Parameters.{token_at, separator}
use Rattle.rbs_printer.proofs.FunctionParts.{Layer, pieced_block_tree, layer_pieces, method_pieces_are, bare_layer, bare_method_is, bare_roll}
use Rattle.rbs_printer.proofs.SpelledFunctions.{function_spelled}

-- The tokens of the pieces spell a method type that is this one, spans aside.
pub record SpelledMethod (pieces : List Piece) (m : MethodType) : Type 0 where
  pub least : ℕ
  pub spells : (n : ℕ) → least ≤ n → (walk : Walk) (rest : List Token) → Clear rest
      → (read : MethodType) × (spells (spell_in (deep n)) method_type (tokens_of walk pieces ++ rest) rest read) × (bare_method read ≡ bare_method m)

-- ---- variables

abbrev variable : Grammar (List ℕ)
variable = tok (is k.Constant) k.Constant text_of

abbrev next_variable : Grammar (List ℕ)
next_variable = behind k.Comma variable

abbrev alone : List ℕ → List Piece
alone w = word w ∷ []

and_right : (a b : Bool) → (a && b) ≡ true → b ≡ true
and_right true b h = h
and_right false b h = cc

and_left : (a b : Bool) → (a && b) ≡ true → a ≡ true
and_left true b h = refl
and_left false b h = cc

constant_kind : (a b c : Bool) → (a && (b && c)) ≡ true → c ≡ true
constant_kind a b c h = and_right b c (and_right a (b && c) h)

variable_given : (d : Ways) (w : List ℕ) → is_constant w ≡ true → (walk : Walk) (after : List Token) → spells d variable (token_at walk (word_kind w) w ∷ after) after w
variable_given d w h walk after = (token_at walk (word_kind w) w, refl, constant_anywhere (word_kind w) walk.line_ended (constant_kind _ _ _ h), refl)

more_given : (d : Ways) (ws : List (List ℕ)) → list_all is_constant ws ≡ true → (walk : Walk) (after : List Token)
    → Row (spells d next_variable) (tokens_of walk (behind_each separator (map alone ws)) ++ after) after ws
more_given d [] h walk after = refl
more_given d (w ∷ ws) h walk after =
    let at_word = past (past walk comma) blank in
    let at_more = past at_word (word w) in
    let mid : List Token = tokens_of at_more (behind_each separator (map alone ws)) ++ after in
    let t : Token = token_at walk k.Comma (codes ",") in
    let u : Token = token_at at_word (word_kind w) w in
    (mid, behind_spelled d k.Comma variable t (u ∷ mid) mid w refl (variable_given d w (and_left _ _ h) at_word mid), more_given d ws (and_right _ _ h) at_more after)

list_given : (d : Ways) (w : List ℕ) (ws : List (List ℕ)) → list_all is_constant (w ∷ ws) ≡ true → (walk : Walk) (after : List Token)
    → spells d (separated k.Comma variable) (tokens_of walk (listed (map alone (w ∷ ws))) ++ after) after (w ∷ ws)
list_given d w ws h walk after =
    let at_more = past walk (word w) in
    let mid : List Token = tokens_of at_more (behind_each separator (map alone ws)) ++ after in
    (w, ws, mid, variable_given d w (and_left _ _ h) walk mid, (ws, more_given d ws (and_right _ _ h) at_more after, refl), refl)

variables_given : (d : Ways) (ws : List (List ℕ)) → list_all is_constant ws ≡ true → (walk : Walk) (after : List Token)
    → spells d (any_of variables) (tokens_of walk (vars_pieces ws) ++ after) after ws
unfolding variables
variables_given d [] h walk after = inr (refl, refl)
variables_given d (w ∷ ws) h walk after =
    let list = listed (map alone (w ∷ ws)) in
    let inside = past walk (token k.LeftBracket (codes "[")) in
    let end = past_all inside list in
    let t : Token = token_at walk k.LeftBracket (codes "[") in
    let u : Token = token_at end k.RightBracket (codes "]") in
    let ts : List Token = tokens_of inside list ++ (u ∷ after) in
    let whole = behind_spelled d k.LeftBracket (before (separated k.Comma variable) k.RightBracket) t ts after (w ∷ ws) refl
    (before_spelled d k.RightBracket (separated k.Comma variable) u ts after (w ∷ ws) refl (list_given d w ws h inside (u ∷ after))) in
    let back = tokens_before walk (in_brackets list) (blank ∷ []) after
    ∙ ap (λ us. t ∷ us) (tokens_before inside list (token k.RightBracket (codes "]") ∷ []) after) in
    inl (subst (λ us. spells d variables us after (w ∷ ws)) (sym back) whole)

-- ---- the function behind them

abbrev set_vars : List (List ℕ) → Layer → Layer
set_vars vars f = record {
  vars = vars;
  required = f.required;
  optional = f.optional;
  rest = f.rest;
  trailing = f.trailing;
  keywords = f.keywords;
  rest_keywords = f.rest_keywords;
  block = f.block;
  result = f.result;
}

-- what is left of a method type, from what is left of its function
bare_with : (m read : MethodType) → bare_method read ≡ bare_method (with_variables [] m) → bare_method (with_variables (out-MethodType m).vars read) ≡ bare_method m
bare_with m read e =
    let vars = (out-MethodType m).vars in
    let same : bare_layer (out-MethodType read) ≡ bare_layer (set_vars [] (out-MethodType m)) =
    sym (out-roll-MethodType (bare_layer (out-MethodType read)))
    ∙ ap out-MethodType (sym (bare_method_is read) ∙ e ∙ bare_roll (set_vars [] (out-MethodType m)))
    ∙ out-roll-MethodType (bare_layer (set_vars [] (out-MethodType m))) in
    bare_roll (set_vars vars (out-MethodType read)) ∙ ap (λ f. roll-MethodType (set_vars vars f)) same ∙ sym (bare_method_is m)

-- what is printed of a method type, by its function
pieces_with : (m : MethodType) → (pieced_method m).pieces ≡ vars_pieces (out-MethodType m).vars ++ (pieced_method (with_variables [] m)).pieces
pieces_with m =
    let f = out-MethodType m in
    method_pieces_are m ∙ ap (λ ps. vars_pieces f.vars ++ ps) (sym (method_pieces_are (with_variables [] m)
    ∙ ap (λ (g : Layer). vars_pieces g.vars ++ layer_pieces g (option_map pieced_block_tree g.block)) (out-roll-MethodType (set_vars [] f))))

-- the claims of its types
parts_with : (P : Ty → Type 0) (m : MethodType) → Parts P m → Parts P (with_variables [] m)
parts_with P m h = let e = sym (out-roll-MethodType (set_vars [] (out-MethodType m))) in record {
  plain = record {
    required = subst (λ (f : Layer). AllOf (λ (p : Param). P p.ty) f.required) e h.plain.required;
    optional = subst (λ (f : Layer). AllOf (λ (p : Param). P p.ty) f.optional) e h.plain.optional;
    rest = subst (λ (f : Layer). IfThere (λ (p : Param). P p.ty) f.rest) e h.plain.rest;
    trailing = subst (λ (f : Layer). AllOf (λ (p : Param). P p.ty) f.trailing) e h.plain.trailing;
    keywords = subst (λ (f : Layer). AllOf (λ (p : Keyword). P p.ty) f.keywords) e h.plain.keywords;
    rest_keywords = subst (λ (f : Layer). IfThere (λ (p : Param). P p.ty) f.rest_keywords) e h.plain.rest_keywords;
    result = subst (λ (f : Layer). P f.result) e h.plain.result;
  };
  block = subst (λ (f : Layer). IfThere (λ (b : BlockType). PlainParts P (out-BlockType b).fun) f.block) e h.block;
}

-- ---- method types

-- behind its variables a method type's function is spelled inside it
method_given : (m : MethodType) (n : ℕ) → list_all is_constant (out-MethodType m).vars ≡ true → (s : SpelledFunction (pieced_method (with_variables [] m)).pieces (with_variables [] m)) → 2 + s.least ≤ n
    → (walk : Walk) (after : List Token) → Clear after
    → (read : MethodType) × (spells (spell_in (deep n)) method_type (tokens_of walk (pieced_method m).pieces ++ after) after read) × (bare_method read ≡ bare_method m)
unfolding method_type
method_given m zero h s l walk after c = absurd (omega arith)
method_given m (suc zero) h s l walk after c = absurd (omega arith)
method_given m (suc (suc n)) h s l walk after c =
    let vars = (out-MethodType m).vars in
    let fun = (pieced_method (with_variables [] m)).pieces in
    let behind_vars = past_all walk (vars_pieces vars) in
    let mid : List Token = tokens_of behind_vars fun ++ after in
    let read = s.spells (suc n) (omega arith) behind_vars after c in
    let back = ap (λ ps. tokens_of walk ps ++ after) (pieces_with m) ∙ tokens_before walk (vars_pieces vars) fun after in (
      with_variables vars read.0,
      subst (λ ts. spells (spell_in (deep (suc (suc n)))) method_type ts after (with_variables vars read.0)) (sym back)
          (vars, read.0, mid, variables_given (spell_in (deep (suc (suc n)))) vars h walk mid, function_opens n mid after read.0 read.1, refl),
      bare_with m read.0 read.2,
    )

-- A method type that fits is spelled, where its types are.
pub method_spelled : (m : MethodType) → Parts SpelledIfFit m → fit_method m ≡ true → SpelledMethod (pieced_method m).pieces m
method_spelled m h e =
    let s = function_spelled (with_variables [] m) (parts_with SpelledIfFit m h) (and_right _ _ e) in
    record { least = 2 + s.least; spells = λ n l walk after c. method_given m n (and_left _ _ e) s l walk after c }
