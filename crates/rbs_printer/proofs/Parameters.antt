-- The tokens of printed parameters spell them.
use Rattle.std.proofs.Common.{◌≡◌, ℕ, Bool, true, false, not, ◌&&◌, ◌||◌, List, [], ◌∷◌, ◌++◌, map, length, ◌+◌, Option, Some, None, refl, sym, ◌∙◌, ap, subst}
use Rattle.std.specs.Prelude.{option_map, codes}
use mathlib.Core.Logic.{inl, inr}
use Rattle.rbs_tree.specs.declared.types.Ty.{Ty}
use Rattle.rbs_tree.specs.declared.types.Param.{Param}
use Rattle.rbs_tree.specs.declared.types.Keyword.{Keyword}
use Rattle.rbs_lexer.specs.declared.kind.Kind.{Kind}
use Rattle.rbs_lexer.specs.declared.kind.Kind.TheVariants as k
use Rattle.rbs_lexer.specs.Tokens.{Token}
use Rattle.rbs_lexer.specs.declared.walk.Walk.{Walk}
use Rattle.rbs_lexer.specs.Words.{word_kind}
use Rattle.rbs_lexer.specs.Lexing.{Piece, token, past, past_all, tokens_of}
use Rattle.rbs_grammar.specs.declared.parts.Parameters.{Parameters}
use Rattle.rbs_grammar.specs.declared.stage.Stage.{Stage}
use Rattle.rbs_grammar.specs.declared.stage.Stage.TheVariants as at
use Rattle.rbs_grammar.specs.Rules.{is, is_small, is_word}
use Rattle.rbs_grammar.specs.Grammar.{Grammar, eps, tok, alt, spells, begins, begins_two, Chain}
use Rattle.rbs_grammar.specs.Parts.{behind, before, map_value, optional}
use Rattle.rbs_grammar.specs.Names.{text_of}
use Rattle.rbs_grammar.specs.Types.{a_type}
use Rattle.rbs_grammar.specs.Functions.{Parameter, required, optional_one, rest, trailing, keyword, rest_keywords, param_of, param, placed, keyword_of, key_param, key_or, rest_keywords_param, rest_param, optional_param, optional_keyword, first_params, optional_params, trailing_params, keyword_params, params_at, params_lead, next_param, parameters_of, params, no_params, param_list}
use Rattle.rbs_printer.specs.Again.{bare}
use Rattle.rbs_printer.proofs.Pieces.{blank, word, comma, colon, question, behind_each, listed, in_parens, mark, param_name, type_pieces}
use Rattle.rbs_printer.proofs.Fit.{is_word_of, is_cons, is_some, fits_name}
use Rattle.rbs_printer.proofs.Claims.{Clear, NoKey, AllOf, IfThere}
use Rattle.rbs_printer.proofs.TokensOf.{tokens_before}
use Rattle.rbs_printer.proofs.Ways.{Ways, behind_spelled, before_spelled, map_spelled, some_spelled, none_spelled, small_anywhere, word_anywhere, small_clear, small_no_colon}

-- ---- parameters without spans

abbrev pub bare_param : Param → Param
bare_param p = record { ty = bare p.ty; name = p.name }

abbrev pub bare_keyword : Keyword → Keyword
bare_keyword p = record { key = p.key; required = p.required; ty = bare p.ty }

abbrev pub bare_parameter : Parameter → Parameter
bare_parameter (required p) = required (bare_param p)
bare_parameter (optional_one p) = optional_one (bare_param p)
bare_parameter (rest p) = rest (bare_param p)
bare_parameter (trailing p) = trailing (bare_param p)
bare_parameter (keyword p) = keyword (bare_keyword p)
bare_parameter (rest_keywords p) = rest_keywords (bare_param p)

abbrev pub bare_parameters : Parameters → Parameters
bare_parameters ps = record {
  required = map bare_param ps.required;
  optional = map bare_param ps.optional;
  rest = option_map bare_param ps.rest;
  trailing = map bare_param ps.trailing;
  keywords = map bare_keyword ps.keywords;
  rest_keywords = option_map bare_param ps.rest_keywords;
}

-- ---- printed parameters

abbrev pub param_pieces : Param → List Piece
param_pieces p = type_pieces p.ty ++ param_name p.name

abbrev pub key_pieces : List ℕ → Ty → List Piece
key_pieces key ty = word key ∷ colon ∷ blank ∷ type_pieces ty

abbrev pub keyword_pieces : Keyword → List Piece
keyword_pieces p = mark p.required ++ key_pieces p.key p.ty

-- ---- what is known of their types

-- The pieces of the type spell it inside another, and aren't those of a keyword.
pub record ReadyType (d : Ways) (ty : Ty) : Type 0 where
  pub spelled : (walk : Walk) (after : List Token) → Clear after → (read : Ty) × (spells d a_type (tokens_of walk (type_pieces ty) ++ after) after read) × (bare read ≡ bare ty)
  pub no_key : NoKey (type_pieces ty)

pub record ReadyParam (d : Ways) (p : Param) : Type 0 where
  pub type : ReadyType d p.ty
  pub name : fits_name p.name ≡ true

pub record ReadyKeyword (d : Ways) (p : Keyword) : Type 0 where
  pub type : ReadyType d p.ty
  pub key : is_word_of is_word p.key ≡ true

-- ---- one parameter

-- what may follow a parameter
abbrev pub Ends : List Token → Type 0
Ends after = (begins (is k.ColonColon) after ≡ false) × (begins (is k.Colon) after ≡ false)

-- The tokens of the pieces spell the parameter by the grammar, which then leads to a stage.
abbrev pub Gives : Ways → Grammar (Parameter × Stage) → Stage → List Piece → Parameter → Type 0
Gives d g next pieces v = (walk : Walk) (after : List Token) → Ends after
    → (x : Parameter) × (spells d g (tokens_of walk pieces ++ after) after (x, next)) × (bare_parameter x ≡ bare_parameter v)

-- At a stage the tokens of the pieces spell the parameter.
abbrev pub Item : Ways → Stage → Stage → List Piece → Parameter → Type 0
Item d s next pieces v = Gives d (params_at s) next pieces v

and_right : (a b : Bool) → (a && b) ≡ true → b ≡ true
and_right true b h = h
and_right false b h = cc

-- the kind of a word that fits
word_fits : (a b c : Bool) → (a && (b && c)) ≡ true → c ≡ true
word_fits a b c h = and_right b c (and_right a (b && c) h)

-- the kind of a parameter's name
small_name : (name : List ℕ) → is_word_of is_small name ≡ true → is_small (word_kind name) false ≡ true
small_name name h = word_fits _ _ _ h

-- a token where the walk stands
abbrev pub token_at : Walk → Kind → List ℕ → Token
token_at walk kind bytes = record { kind = kind; text = bytes; at = record { start = walk.at; end = walk.at + length bytes }; begins_line = walk.line_ended }

-- a parameter's name
abbrev a_name : Grammar (List ℕ)
a_name = tok is_small k.Word text_of

-- the tokens of a type and of a name that may be there
abbrev ParamGiven : Ways → Param → Walk → List Token → Type 0
ParamGiven d p walk after = (x : Param) × (spells d param (tokens_of walk (param_pieces p) ++ after) after x) × (bare_param x ≡ bare_param p)

type_given : (d : Ways) (ty : Ty) → ReadyType d ty → (walk : Walk) (after : List Token) → Ends after
    → (x : Param) × (spells d param (tokens_of walk (type_pieces ty) ++ after) after x) × (bare_param x ≡ record { ty = bare ty; name = None })
unfolding param
type_given d ty r walk after e =
    let s = r.spelled walk after e.0 in
    (param_of s.0 None, (s.0, None, after, s.1, none_spelled d a_name after, refl), ap (λ t. param_of t None) s.2)

named_given : (d : Ways) (ty : Ty) (name : List ℕ) → ReadyType d ty → is_small (word_kind name) false ≡ true → (walk : Walk) (after : List Token)
    → ParamGiven d (record { ty = ty; name = Some name }) walk after
unfolding param
named_given d ty name r small walk after =
    let end = past_all walk (type_pieces ty) in
    let t : Token = token_at (past end blank) (word_kind name) name in
    let mid : List Token = t ∷ after in
    let s = r.spelled walk mid (small_clear (word_kind name) t.begins_line small) in
    let w : spells d (optional a_name) mid after (Some name) = some_spelled d a_name mid after name (t, refl, small_anywhere (word_kind name) t.begins_line small, refl) in
    let back = tokens_before walk (type_pieces ty) (param_name (Some name)) after in
    (param_of s.0 (Some name), subst (λ ts. spells d param ts after (param_of s.0 (Some name))) (sym back) (s.0, Some name, mid, s.1, w, refl), ap (λ t. param_of t (Some name)) s.2)

param_given : (d : Ways) (ty : Ty) (name : Option (List ℕ)) → ReadyType d ty → fits_name name ≡ true → (walk : Walk) (after : List Token) → Ends after
    → ParamGiven d (record { ty = ty; name = name }) walk after
param_given d ty None r h walk after e =
    let s = type_given d ty r walk after e in
    (s.0, subst (λ ts. spells d param ts after s.0) (sym (tokens_before walk (type_pieces ty) [] after)) s.1, s.2)
param_given d ty (Some name) r h walk after e = named_given d ty name r (small_name name h) walk after

-- they aren't those of a keyword
param_no_key : (ty : Ty) (name : Option (List ℕ)) → NoKey (type_pieces ty) → fits_name name ≡ true → NoKey (type_pieces ty ++ param_name name)
param_no_key ty None r h walk after e =
    ap (λ ts. begins_two is_word (is k.Colon) ts) (tokens_before walk (type_pieces ty) [] after) ∙ r walk after e
param_no_key ty (Some name) r h walk after e =
    let end = past_all walk (type_pieces ty) in
    let t : Token = token_at (past end blank) (word_kind name) name in
    ap (λ ts. begins_two is_word (is k.Colon) ts) (tokens_before walk (type_pieces ty) (param_name (Some name)) after) ∙ r walk (t ∷ after) (small_no_colon (word_kind name) t.begins_line (small_name name h))

-- ---- positional parameters

-- where a word and `:` don't come next, the parameter as it is given
positional_given : (d : Ways) (needed : Bool) (place : Param → Parameter) (next : Stage) → ((x : Param) → bare_parameter (place x) ≡ place (bare_param x)) → (p : Param) → ReadyParam d p
    → Gives d (key_or needed (map_value (placed place next) param)) next (param_pieces p) (place p)
positional_given d needed place next natural p r walk after e =
    let s = param_given d p.ty p.name r.type r.name walk after e in (
      place s.0,
      inr (map_spelled d (placed place next) param (tokens_of walk (param_pieces p) ++ after) after s.0 s.1, param_no_key p.ty p.name r.type.no_key r.name walk after e.1),
      natural s.0 ∙ ap place s.2 ∙ sym (natural p),
    )

-- a sign and then a parameter
sign_given : (d : Ways) (kind : Kind) (bytes : List ℕ) (g : Grammar (Parameter × Stage)) (next : Stage) (pieces : List Piece) (v : Parameter)
    → is kind kind true ≡ true → is kind kind false ≡ true → Gives d g next pieces v → Gives d (behind kind g) next (token kind bytes ∷ pieces) v
sign_given d kind bytes g next pieces v on off s walk after e =
    let t : Token = token_at walk kind bytes in
    let inner = s (past walk (token kind bytes)) after e in
    (inner.0, behind_spelled d kind g t (tokens_of (past walk (token kind bytes)) pieces ++ after) after (inner.0, next) (same_kind walk.line_ended) inner.1, inner.2)
  where
    same_kind : (line : Bool) → is kind kind line ≡ true
    same_kind true = on
    same_kind false = off

-- a parameter that isn't one of a keyword
placed_given : (d : Ways) (place : Param → Parameter) (next : Stage) → ((x : Param) → bare_parameter (place x) ≡ place (bare_param x)) → (p : Param) → ReadyParam d p
    → Gives d (map_value (placed place next) param) next (param_pieces p) (place p)
placed_given d place next natural p r walk after e =
    let s = param_given d p.ty p.name r.type r.name walk after e in
    (place s.0, map_spelled d (placed place next) param (tokens_of walk (param_pieces p) ++ after) after s.0 s.1, natural s.0 ∙ ap place s.2 ∙ sym (natural p))

required_item : (d : Ways) (p : Param) → ReadyParam d p → Item d at.Open at.Open (param_pieces p) (required p)
unfolding first_params
required_item d p r walk after e = let s = positional_given d true required at.Open (λ x. refl) p r walk after e in (s.0, inr (inr (inr s.1)), s.2)

trailing_item_optional : (d : Ways) (p : Param) → ReadyParam d p → Item d at.Optional at.Trailing (param_pieces p) (trailing p)
unfolding optional_params
trailing_item_optional d p r walk after e = let s = positional_given d true trailing at.Trailing (λ x. refl) p r walk after e in (s.0, inr (inr (inr s.1)), s.2)

trailing_item : (d : Ways) (p : Param) → ReadyParam d p → Item d at.Trailing at.Trailing (param_pieces p) (trailing p)
unfolding trailing_params
trailing_item d p r walk after e = let s = positional_given d true trailing at.Trailing (λ x. refl) p r walk after e in (s.0, inr (inr s.1), s.2)

optional_given : (d : Ways) (p : Param) → ReadyParam d p → Gives d optional_param at.Optional (question ∷ param_pieces p) (optional_one p)
optional_given d p r = sign_given d k.Question (codes "?") (key_or false (map_value (placed optional_one at.Optional) param)) at.Optional (param_pieces p) (optional_one p) refl refl (positional_given d false optional_one at.Optional (λ x. refl) p r)

optional_item : (d : Ways) (p : Param) → ReadyParam d p → Item d at.Open at.Optional (question ∷ param_pieces p) (optional_one p)
unfolding first_params
optional_item d p r walk after e = let s = optional_given d p r walk after e in (s.0, inr (inr (inl s.1)), s.2)

optional_item_more : (d : Ways) (p : Param) → ReadyParam d p → Item d at.Optional at.Optional (question ∷ param_pieces p) (optional_one p)
unfolding optional_params
optional_item_more d p r walk after e = let s = optional_given d p r walk after e in (s.0, inr (inr (inl s.1)), s.2)

abbrev pub star : Piece
star = token k.Star (codes "*")

abbrev pub two_stars : Piece
two_stars = token k.StarStar (codes "**")

rest_given : (d : Ways) (p : Param) → ReadyParam d p → Gives d rest_param at.Trailing (star ∷ param_pieces p) (rest p)
rest_given d p r = sign_given d k.Star (codes "*") (map_value (placed rest at.Trailing) param) at.Trailing (param_pieces p) (rest p) refl refl (placed_given d rest at.Trailing (λ x. refl) p r)

rest_item : (d : Ways) (p : Param) → ReadyParam d p → Item d at.Open at.Trailing (star ∷ param_pieces p) (rest p)
unfolding first_params
rest_item d p r walk after e = let s = rest_given d p r walk after e in (s.0, inr (inl s.1), s.2)

rest_item_optional : (d : Ways) (p : Param) → ReadyParam d p → Item d at.Optional at.Trailing (star ∷ param_pieces p) (rest p)
unfolding optional_params
rest_item_optional d p r walk after e = let s = rest_given d p r walk after e in (s.0, inr (inl s.1), s.2)

rest_keywords_given : (d : Ways) (p : Param) → ReadyParam d p → Gives d rest_keywords_param at.Done (two_stars ∷ param_pieces p) (rest_keywords p)
rest_keywords_given d p r = sign_given d k.StarStar (codes "**") (map_value (placed rest_keywords at.Done) param) at.Done (param_pieces p) (rest_keywords p) refl refl (placed_given d rest_keywords at.Done (λ x. refl) p r)

-- whether a list has ended
abbrev pub is_done : Stage → Bool
is_done at.Done = true
is_done _ = false

rest_keywords_item : (d : Ways) (s : Stage) (p : Param) → ReadyParam d p → Item d s at.Done (two_stars ∷ param_pieces p) (rest_keywords p)
unfolding first_params optional_params trailing_params keyword_params
rest_keywords_item d at.Open p r walk after e = let s = rest_keywords_given d p r walk after e in (s.0, inl s.1, s.2)
rest_keywords_item d at.Optional p r walk after e = let s = rest_keywords_given d p r walk after e in (s.0, inl s.1, s.2)
rest_keywords_item d at.Trailing p r walk after e = let s = rest_keywords_given d p r walk after e in (s.0, inl s.1, s.2)
rest_keywords_item d at.Keyword p r walk after e = let s = rest_keywords_given d p r walk after e in (s.0, inl s.1, s.2)
rest_keywords_item d at.Done p r walk after e = let s = rest_keywords_given d p r walk after e in (s.0, inl s.1, s.2)

-- ---- keywords

abbrev of_key : List ℕ → Bool → Ty → Keyword
of_key key needed ty = record { key = key; required = needed; ty = ty }

-- the kind of a keyword's word
key_kind : (key : List ℕ) → is_word_of is_word key ≡ true → is_word (word_kind key) false ≡ true
key_kind key h = word_fits _ _ _ h

-- a word and `:`, and then the type, where a positional parameter could stand too
key_or_given : (d : Ways) (needed : Bool) (g : Grammar (Parameter × Stage)) (key : List ℕ) (ty : Ty) → ReadyType d ty → is_word_of is_word key ≡ true
    → Gives d (key_or needed g) at.Keyword (key_pieces key ty) (keyword (of_key key needed ty))
key_or_given d needed g key ty r h walk after e =
    let t : Token = token_at walk (word_kind key) key in
    let u : Token = token_at (past walk (word key)) k.Colon (codes ":") in
    let behind_both = past (past (past walk (word key)) colon) blank in
    let mid : List Token = tokens_of behind_both (type_pieces ty) ++ after in
    let s = type_given d ty r behind_both after e in (
      (keyword_of needed t s.0).0,
      inl (t, u, mid, s.0, refl, word_anywhere (word_kind key) t.begins_line (key_kind key h), refl, s.1, refl),
      ap (λ (x : Param). keyword (of_key key needed x.ty)) s.2,
    )

-- the same where only a keyword can stand
key_given : (d : Ways) (needed : Bool) (key : List ℕ) (ty : Ty) → ReadyType d ty → is_word_of is_word key ≡ true
    → Gives d (key_param needed) at.Keyword (key_pieces key ty) (keyword (of_key key needed ty))
key_given d needed key ty r h walk after e =
    let t : Token = token_at walk (word_kind key) key in
    let u : Token = token_at (past walk (word key)) k.Colon (codes ":") in
    let behind_both = past (past (past walk (word key)) colon) blank in
    let mid : List Token = tokens_of behind_both (type_pieces ty) ++ after in
    let s = type_given d ty r behind_both after e in (
      (keyword_of needed t s.0).0,
      (t, s.0, u ∷ mid, (t, refl, word_anywhere (word_kind key) t.begins_line (key_kind key h), refl), behind_spelled d k.Colon param u mid after s.0 refl s.1, refl),
      ap (λ (x : Param). keyword (of_key key needed x.ty)) s.2,
    )

marked_or_given : (d : Ways) (g : Grammar (Parameter × Stage)) (key : List ℕ) (ty : Ty) → ReadyType d ty → is_word_of is_word key ≡ true
    → Gives d (behind k.Question (key_or false g)) at.Keyword (question ∷ key_pieces key ty) (keyword (of_key key false ty))
marked_or_given d g key ty r h = sign_given d k.Question (codes "?") (key_or false g) at.Keyword (key_pieces key ty) (keyword (of_key key false ty)) refl refl (key_or_given d false g key ty r h)

marked_given : (d : Ways) (key : List ℕ) (ty : Ty) → ReadyType d ty → is_word_of is_word key ≡ true
    → Gives d optional_keyword at.Keyword (question ∷ key_pieces key ty) (keyword (of_key key false ty))
marked_given d key ty r h = sign_given d k.Question (codes "?") (key_param false) at.Keyword (key_pieces key ty) (keyword (of_key key false ty)) refl refl (key_given d false key ty r h)

abbrev a_positional : (Param → Parameter) → Stage → Grammar (Parameter × Stage)
a_positional place next = map_value (placed place next) param

keyword_item : (d : Ways) (s : Stage) (key : List ℕ) (needed : Bool) (ty : Ty) → ReadyType d ty → is_word_of is_word key ≡ true
    → Item d s at.Keyword (keyword_pieces (of_key key needed ty)) (keyword (of_key key needed ty))
unfolding first_params optional_params trailing_params keyword_params
keyword_item d at.Open key true ty r h walk after e = let s = key_or_given d true (a_positional required at.Open) key ty r h walk after e in (s.0, inr (inr (inr s.1)), s.2)
keyword_item d at.Open key false ty r h walk after e = let s = marked_or_given d (a_positional optional_one at.Optional) key ty r h walk after e in (s.0, inr (inr (inl s.1)), s.2)
keyword_item d at.Optional key true ty r h walk after e = let s = key_or_given d true (a_positional trailing at.Trailing) key ty r h walk after e in (s.0, inr (inr (inr s.1)), s.2)
keyword_item d at.Optional key false ty r h walk after e = let s = marked_or_given d (a_positional optional_one at.Optional) key ty r h walk after e in (s.0, inr (inr (inl s.1)), s.2)
keyword_item d at.Trailing key true ty r h walk after e = let s = key_or_given d true (a_positional trailing at.Trailing) key ty r h walk after e in (s.0, inr (inr s.1), s.2)
keyword_item d at.Trailing key false ty r h walk after e = let s = marked_given d key ty r h walk after e in (s.0, inr (inl s.1), s.2)
keyword_item d at.Keyword key true ty r h walk after e = let s = key_given d true key ty r h walk after e in (s.0, inr (inr s.1), s.2)
keyword_item d at.Keyword key false ty r h walk after e = let s = marked_given d key ty r h walk after e in (s.0, inr (inl s.1), s.2)
keyword_item d at.Done key true ty r h walk after e = let s = key_given d true key ty r h walk after e in (s.0, inr (inr s.1), s.2)
keyword_item d at.Done key false ty r h walk after e = let s = marked_given d key ty r h walk after e in (s.0, inr (inl s.1), s.2)

-- ---- lists of parameters

-- From a stage on, the pieces spell the parameters, each at the stage to which the one before it leads.
abbrev pub Items : Ways → Stage → List (List Piece) → List Parameter → Type 0
Items d s [] [] = Unit {0}
Items d s [] (v ∷ vs) = ⊥
Items d s (p ∷ ps) [] = ⊥
Items d s (p ∷ ps) (v ∷ vs) = (is_done s ≡ false) × ((next : Stage) × (Item d s next p v) × (Items d next ps vs))

-- what may follow a list
abbrev pub Closed : List Token → Type 0
Closed after = (begins (is k.ColonColon) after ≡ false) × (begins (is k.Colon) after ≡ false) × (begins (is k.Comma) after ≡ false)

abbrev pub separator : List Piece
separator = comma ∷ blank ∷ []

-- behind a parameter of a list the next begins, or the list ends
ends_item : (walk : Walk) (ps : List (List Piece)) (after : List Token) → Closed after → Ends (tokens_of walk (behind_each separator ps) ++ after)
ends_item walk [] after c = (c.0, c.1)
ends_item walk (p ∷ ps) after c = (refl, refl)

none_begins : (ts : List Token) → begins (λ kind line. false) ts ≡ false
none_begins [] = refl
none_begins (t ∷ ts) = refl

stops : (s : Stage) (after : List Token) → Closed after → begins (params_lead s) after ≡ false
stops at.Open after c = c.2
stops at.Optional after c = c.2
stops at.Trailing after c = c.2
stops at.Keyword after c = c.2
stops at.Done [] c = refl
stops at.Done (t ∷ ts) c = refl

leads_on : (s : Stage) (walk : Walk) (ts : List Token) → is_done s ≡ false → begins (params_lead s) (token_at walk k.Comma (codes ",") ∷ ts) ≡ true
leads_on at.Open walk ts h = refl
leads_on at.Optional walk ts h = refl
leads_on at.Trailing walk ts h = refl
leads_on at.Keyword walk ts h = refl
leads_on at.Done walk ts h = cc

abbrev pub TailGiven : Ways → Stage → List (List Piece) → List Parameter → Walk → List Token → Type 0
TailGiven d s ps vs walk after = (xs : List Parameter)
    × (Chain params_lead (λ s. spells d (next_param s)) s (tokens_of walk (behind_each separator ps) ++ after) after xs) × (map bare_parameter xs ≡ map bare_parameter vs)

tail_given : (d : Ways) (s : Stage) (ps : List (List Piece)) (vs : List Parameter) → Items d s ps vs → (walk : Walk) (after : List Token) → Closed after → TailGiven d s ps vs walk after
tail_given d s [] [] h walk after c = ([], (refl, stops s after c), refl)
tail_given d s [] (v ∷ vs) h walk after c = absurd h
tail_given d s (p ∷ ps) [] h walk after c = absurd h
tail_given d s (p ∷ ps) (v ∷ vs) h walk after c =
    let t : Token = token_at walk k.Comma (codes ",") in
    let at_item = past (past walk comma) blank in
    let at_tail = past_all at_item p in
    let mid : List Token = tokens_of at_tail (behind_each separator ps) ++ after in
    let next = h.1.0 in
    let one = h.1.1 at_item mid (ends_item at_tail ps after c) in
    let more = tail_given d next ps vs h.1.2 at_tail after c in
    let ts : List Token = tokens_of at_item p ++ mid in
    let item = behind_spelled d k.Comma (params_at s) t ts mid (one.0, next) refl one.1 in (
      one.0 ∷ more.0,
      subst (λ us. Chain params_lead (λ s. spells d (next_param s)) s (t ∷ us) after (one.0 ∷ more.0)) (sym (tokens_before at_item p (behind_each separator ps) after))
          (leads_on s walk ts h.0, (next, mid, item, more.1)),
      ap (λ x. x ∷ map bare_parameter more.0) one.2 ∙ ap (λ xs. bare_parameter v ∷ xs) more.2,
    )

-- ---- what a list makes

add : Parameter → Parameters → Parameters
add (required p) q = record { required = p ∷ q.required; optional = q.optional; rest = q.rest; trailing = q.trailing; keywords = q.keywords; rest_keywords = q.rest_keywords }
add (optional_one p) q = record { required = q.required; optional = p ∷ q.optional; rest = q.rest; trailing = q.trailing; keywords = q.keywords; rest_keywords = q.rest_keywords }
add (rest p) q = record { required = q.required; optional = q.optional; rest = Some p; trailing = q.trailing; keywords = q.keywords; rest_keywords = q.rest_keywords }
add (trailing p) q = record { required = q.required; optional = q.optional; rest = q.rest; trailing = p ∷ q.trailing; keywords = q.keywords; rest_keywords = q.rest_keywords }
add (keyword p) q = record { required = q.required; optional = q.optional; rest = q.rest; trailing = q.trailing; keywords = p ∷ q.keywords; rest_keywords = q.rest_keywords }
add (rest_keywords p) q = record { required = q.required; optional = q.optional; rest = q.rest; trailing = q.trailing; keywords = q.keywords; rest_keywords = Some p }

adds : (x : Parameter) (xs : List Parameter) → parameters_of (x ∷ xs) ≡ add x (parameters_of xs)
unfolding add
adds (required p) xs = refl
adds (optional_one p) xs = refl
adds (rest p) xs = refl
adds (trailing p) xs = refl
adds (keyword p) xs = refl
adds (rest_keywords p) xs = refl

add_bare : (x : Parameter) (q : Parameters) → bare_parameters (add x q) ≡ add (bare_parameter x) (bare_parameters q)
unfolding add
add_bare (required p) q = refl
add_bare (optional_one p) q = refl
add_bare (rest p) q = refl
add_bare (trailing p) q = refl
add_bare (keyword p) q = refl
add_bare (rest_keywords p) q = refl

-- spans are forgotten before or after
bare_of : (xs : List Parameter) → bare_parameters (parameters_of xs) ≡ parameters_of (map bare_parameter xs)
bare_of [] = refl
bare_of (x ∷ xs) = ap bare_parameters (adds x xs) ∙ add_bare x (parameters_of xs) ∙ ap (add (bare_parameter x)) (bare_of xs) ∙ sym (adds (bare_parameter x) (map bare_parameter xs))

same_parameters : (xs vs : List Parameter) → map bare_parameter xs ≡ map bare_parameter vs → bare_parameters (parameters_of xs) ≡ bare_parameters (parameters_of vs)
same_parameters xs vs e = bare_of xs ∙ ap parameters_of e ∙ sym (bare_of vs)

-- ---- a whole list

abbrev ParamsGiven : Ways → Grammar Parameters → List (List Piece) → List Parameter → Walk → List Token → Type 0
ParamsGiven d g ps vs walk after = (z : Parameters) × (spells d g (tokens_of walk (listed ps) ++ after) after z) × (bare_parameters z ≡ bare_parameters (parameters_of vs))

params_given : (d : Ways) (p : List Piece) (ps : List (List Piece)) (v : Parameter) (vs : List Parameter) → Items d at.Open (p ∷ ps) (v ∷ vs) → (walk : Walk) (after : List Token) → Closed after
    → ParamsGiven d params (p ∷ ps) (v ∷ vs) walk after
unfolding params
params_given d p ps v vs h walk after c =
    let next = h.1.0 in
    let at_tail = past_all walk p in
    let mid : List Token = tokens_of at_tail (behind_each separator ps) ++ after in
    let one = h.1.1 walk mid (ends_item at_tail ps after c) in
    let more = tail_given d next ps vs h.1.2 at_tail after c in (
      parameters_of (one.0 ∷ more.0),
      subst (λ ts. spells d params ts after (parameters_of (one.0 ∷ more.0))) (sym (tokens_before walk p (behind_each separator ps) after))
          (one.0, next, mid, more.0, one.1, more.1, refl),
      same_parameters (one.0 ∷ more.0) (v ∷ vs) (ap (λ x. x ∷ map bare_parameter more.0) one.2 ∙ ap (λ xs. bare_parameter v ∷ xs) more.2),
    )

inner_given : (d : Ways) (ps : List (List Piece)) (vs : List Parameter) → Items d at.Open ps vs → (walk : Walk) (after : List Token) → Closed after
    → ParamsGiven d (alt params (eps no_params)) ps vs walk after
inner_given d [] [] h walk after c = (no_params, inr (refl, refl), refl)
inner_given d [] (v ∷ vs) h walk after c = absurd h
inner_given d (p ∷ ps) [] h walk after c = absurd h
inner_given d (p ∷ ps) (v ∷ vs) h walk after c = let s = params_given d p ps v vs h walk after c in (s.0, inl s.1, s.2)

-- The list between its parentheses.
pub list_given : (d : Ways) (ps : List (List Piece)) (vs : List Parameter) → Items d at.Open ps vs → (walk : Walk) (after : List Token)
    → (z : Parameters) × (spells d param_list (tokens_of walk (in_parens (listed ps)) ++ after) after z) × (bare_parameters z ≡ bare_parameters (parameters_of vs))
unfolding param_list
list_given d ps vs h walk after =
    let t : Token = token_at walk k.LeftParen (codes "(") in
    let inside = past walk (token k.LeftParen (codes "(")) in
    let end = past_all inside (listed ps) in
    let u : Token = token_at end k.RightParen (codes ")") in
    let s = inner_given d ps vs h inside (u ∷ after) (refl, refl, refl) in
    let ts : List Token = tokens_of inside (listed ps) ++ (u ∷ after) in
    let inner = before_spelled d k.RightParen (alt params (eps no_params)) u ts after s.0 refl s.1 in
    let whole = behind_spelled d k.LeftParen (before (alt params (eps no_params)) k.RightParen) t ts after s.0 refl inner in (
      s.0,
      subst (λ us. spells d param_list (t ∷ us) after s.0) (sym (tokens_before inside (listed ps) (token k.RightParen (codes ")") ∷ []) after)) (inl whole),
      s.2,
    )

-- ---- the parameters by their sorts

abbrev pub signed_optionals : List Param → List (List Piece)
signed_optionals ps = map (λ (p : Param). question ∷ param_pieces p) ps

abbrev pub one_of : {A B : Type 0} → (A → B) → Option A → List B
one_of f None = []
one_of f (Some x) = f x ∷ []

-- the stages at which a positional parameter is a trailing one
abbrev pub takes_trailing : Stage → Bool
takes_trailing at.Optional = true
takes_trailing at.Trailing = true
takes_trailing _ = false

-- the stages at which one with `?` or `*` may stand
abbrev pub takes_optional : Stage → Bool
takes_optional at.Open = true
takes_optional at.Optional = true
takes_optional _ = false

abbrev rest_keywords_pieces : Option Param → List (List Piece)
rest_keywords_pieces p = one_of (λ (p : Param). two_stars ∷ param_pieces p) p

abbrev keywords_pieces : List Keyword → Option Param → List (List Piece)
keywords_pieces ks p = map keyword_pieces ks ++ rest_keywords_pieces p

abbrev keywords_values : List Keyword → Option Param → List Parameter
keywords_values ks p = map keyword ks ++ one_of rest_keywords p

abbrev trailing_pieces : List Param → List Keyword → Option Param → List (List Piece)
trailing_pieces ps ks p = map param_pieces ps ++ keywords_pieces ks p

abbrev trailing_values : List Param → List Keyword → Option Param → List Parameter
trailing_values ps ks p = map trailing ps ++ keywords_values ks p

abbrev rest_pieces : Option Param → List Param → List Keyword → Option Param → List (List Piece)
rest_pieces r ps ks p = one_of (λ (p : Param). star ∷ param_pieces p) r ++ trailing_pieces ps ks p

abbrev rest_values : Option Param → List Param → List Keyword → Option Param → List Parameter
rest_values r ps ks p = one_of rest r ++ trailing_values ps ks p

abbrev optional_pieces : List Param → Option Param → List Param → List Keyword → Option Param → List (List Piece)
optional_pieces os r ps ks p = signed_optionals os ++ rest_pieces r ps ks p

abbrev optional_values : List Param → Option Param → List Param → List Keyword → Option Param → List Parameter
optional_values os r ps ks p = map optional_one os ++ rest_values r ps ks p

abbrev pub all_pieces : List Param → List Param → Option Param → List Param → List Keyword → Option Param → List (List Piece)
all_pieces rs os r ps ks p = map param_pieces rs ++ optional_pieces os r ps ks p

abbrev pub all_values : List Param → List Param → Option Param → List Param → List Keyword → Option Param → List Parameter
all_values rs os r ps ks p = map required rs ++ optional_values os r ps ks p

module _ (d : Ways) where
  from_rest_keywords : (s : Stage) (p : Option Param) → is_done s ≡ false → IfThere (ReadyParam d) p → Items d s (rest_keywords_pieces p) (one_of rest_keywords p)
  from_rest_keywords s None h r = tt
  from_rest_keywords s (Some p) h r = (h, (at.Done, rest_keywords_item d s p r, tt))

  from_keywords : (s : Stage) (ks : List Keyword) (p : Option Param) → is_done s ≡ false → AllOf (ReadyKeyword d) ks → IfThere (ReadyParam d) p → Items d s (keywords_pieces ks p) (keywords_values ks p)
  from_keywords s [] p h r q = from_rest_keywords s p h q
  from_keywords s (x ∷ ks) p h r q = (h, (at.Keyword, keyword_item d s x.key x.required x.ty r.0.type r.0.key, from_keywords at.Keyword ks p refl r.1 q))

  not_done_trailing : (s : Stage) → takes_trailing s ≡ true → is_done s ≡ false
  not_done_trailing at.Open h = refl
  not_done_trailing at.Optional h = refl
  not_done_trailing at.Trailing h = refl
  not_done_trailing at.Keyword h = refl
  not_done_trailing at.Done h = cc

  not_done_optional : (s : Stage) → takes_optional s ≡ true → is_done s ≡ false
  not_done_optional at.Open h = refl
  not_done_optional at.Optional h = refl
  not_done_optional at.Trailing h = refl
  not_done_optional at.Keyword h = refl
  not_done_optional at.Done h = cc

  trailing_at : (s : Stage) (p : Param) → takes_trailing s ≡ true → ReadyParam d p → Item d s at.Trailing (param_pieces p) (trailing p)
  trailing_at at.Open p h r = cc
  trailing_at at.Optional p h r = trailing_item_optional d p r
  trailing_at at.Trailing p h r = trailing_item d p r
  trailing_at at.Keyword p h r = cc
  trailing_at at.Done p h r = cc

  -- at a stage where a positional parameter is a trailing one
  from_trailing : (s : Stage) (ps : List Param) (ks : List Keyword) (p : Option Param) → takes_trailing s ≡ true → AllOf (ReadyParam d) ps → AllOf (ReadyKeyword d) ks → IfThere (ReadyParam d) p
      → Items d s (trailing_pieces ps ks p) (trailing_values ps ks p)
  from_trailing s [] ks p h t r q = from_keywords s ks p (not_done_trailing s h) r q
  from_trailing s (x ∷ ps) ks p h t r q = (not_done_trailing s h, (at.Trailing, trailing_at s x h t.0, from_trailing at.Trailing ps ks p refl t.1 r q))

  -- at another stage, where there are none
  without_trailing : (s : Stage) (ps : List Param) (ks : List Keyword) (p : Option Param) → is_done s ≡ false → is_cons ps ≡ false → AllOf (ReadyKeyword d) ks → IfThere (ReadyParam d) p
      → Items d s (trailing_pieces ps ks p) (trailing_values ps ks p)
  without_trailing s [] ks p h n r q = from_keywords s ks p h r q
  without_trailing s (x ∷ ps) ks p h n r q = cc

  rest_at : (s : Stage) (p : Param) → takes_optional s ≡ true → ReadyParam d p → Item d s at.Trailing (star ∷ param_pieces p) (rest p)
  rest_at at.Open p h r = rest_item d p r
  rest_at at.Optional p h r = rest_item_optional d p r
  rest_at at.Trailing p h r = cc
  rest_at at.Keyword p h r = cc
  rest_at at.Done p h r = cc

  -- behind one with `?`
  from_rest : (r : Option Param) (ps : List Param) (ks : List Keyword) (p : Option Param)
      → IfThere (ReadyParam d) r → AllOf (ReadyParam d) ps → AllOf (ReadyKeyword d) ks → IfThere (ReadyParam d) p
      → Items d at.Optional (rest_pieces r ps ks p) (rest_values r ps ks p)
  from_rest None ps ks p w t r q = from_trailing at.Optional ps ks p refl t r q
  from_rest (Some x) ps ks p w t r q = (refl, (at.Trailing, rest_at at.Optional x refl w, from_trailing at.Trailing ps ks p refl t r q))

  -- behind the required ones
  from_rest_open : (r : Option Param) (ps : List Param) (ks : List Keyword) (p : Option Param) → (not (is_cons ps) || is_some r) ≡ true
      → IfThere (ReadyParam d) r → AllOf (ReadyParam d) ps → AllOf (ReadyKeyword d) ks → IfThere (ReadyParam d) p
      → Items d at.Open (rest_pieces r ps ks p) (rest_values r ps ks p)
  from_rest_open None ps ks p h w t r q = without_trailing at.Open ps ks p refl (no_more (is_cons ps) h) r q
    where
      no_more : (b : Bool) → (not b || false) ≡ true → b ≡ false
      no_more true h = cc
      no_more false h = refl
  from_rest_open (Some x) ps ks p h w t r q = (refl, (at.Trailing, rest_at at.Open x refl w, from_trailing at.Trailing ps ks p refl t r q))

  from_optional : (os : List Param) (r : Option Param) (ps : List Param) (ks : List Keyword) (p : Option Param)
      → AllOf (ReadyParam d) os → IfThere (ReadyParam d) r → AllOf (ReadyParam d) ps → AllOf (ReadyKeyword d) ks → IfThere (ReadyParam d) p
      → Items d at.Optional (optional_pieces os r ps ks p) (optional_values os r ps ks p)
  from_optional [] e ps ks p o w t r q = from_rest e ps ks p w t r q
  from_optional (x ∷ os) e ps ks p o w t r q = (refl, (at.Optional, optional_item_more d x o.0, from_optional os e ps ks p o.1 w t r q))

  from_optional_open : (os : List Param) (r : Option Param) (ps : List Param) (ks : List Keyword) (p : Option Param) → (not (is_cons ps) || (is_cons os || is_some r)) ≡ true
      → AllOf (ReadyParam d) os → IfThere (ReadyParam d) r → AllOf (ReadyParam d) ps → AllOf (ReadyKeyword d) ks → IfThere (ReadyParam d) p
      → Items d at.Open (optional_pieces os r ps ks p) (optional_values os r ps ks p)
  from_optional_open [] e ps ks p h o w t r q = from_rest_open e ps ks p h w t r q
  from_optional_open (x ∷ os) e ps ks p h o w t r q = (refl, (at.Optional, optional_item d x o.0, from_optional os e ps ks p o.1 w t r q))

  -- Parameters of all sorts, in the order in which they are printed.
  pub from_required : (rs os : List Param) (r : Option Param) (ps : List Param) (ks : List Keyword) (p : Option Param) → (not (is_cons ps) || (is_cons os || is_some r)) ≡ true
      → AllOf (ReadyParam d) rs → AllOf (ReadyParam d) os → IfThere (ReadyParam d) r → AllOf (ReadyParam d) ps → AllOf (ReadyKeyword d) ks → IfThere (ReadyParam d) p
      → Items d at.Open (all_pieces rs os r ps ks p) (all_values rs os r ps ks p)
  from_required [] os e ps ks p h z o w t r q = from_optional_open os e ps ks p h o w t r q
  from_required (x ∷ rs) os e ps ks p h z o w t r q = (refl, (at.Open, required_item d x z.0, from_required rs os e ps ks p h z.1 o w t r q))

-- ---- what they make

with_keywords : (ks : List Keyword) (p : Option Param) → parameters_of (map keyword ks ++ one_of rest_keywords p)
    ≡ record { required = []; optional = []; rest = None; trailing = []; keywords = ks; rest_keywords = p }
unfolding add
with_keywords [] None = refl
with_keywords [] (Some p) = refl
with_keywords (x ∷ ks) p = adds (keyword x) (map keyword ks ++ one_of rest_keywords p) ∙ ap (add (keyword x)) (with_keywords ks p)

with_trailing : (ps : List Param) (more : List Parameter) (ks : List Keyword) (p : Option Param)
    → parameters_of more ≡ record { required = []; optional = []; rest = None; trailing = []; keywords = ks; rest_keywords = p }
    → parameters_of (map trailing ps ++ more) ≡ record { required = []; optional = []; rest = None; trailing = ps; keywords = ks; rest_keywords = p }
unfolding add
with_trailing [] more ks p e = e
with_trailing (x ∷ ps) more ks p e = adds (trailing x) (map trailing ps ++ more) ∙ ap (add (trailing x)) (with_trailing ps more ks p e)

with_rest : (r : Option Param) (more : List Parameter) (ps : List Param) (ks : List Keyword) (p : Option Param)
    → parameters_of more ≡ record { required = []; optional = []; rest = None; trailing = ps; keywords = ks; rest_keywords = p }
    → parameters_of (one_of rest r ++ more) ≡ record { required = []; optional = []; rest = r; trailing = ps; keywords = ks; rest_keywords = p }
unfolding add
with_rest None more ps ks p e = e
with_rest (Some x) more ps ks p e = adds (rest x) more ∙ ap (add (rest x)) e

with_optional : (os : List Param) (more : List Parameter) (r : Option Param) (ps : List Param) (ks : List Keyword) (p : Option Param)
    → parameters_of more ≡ record { required = []; optional = []; rest = r; trailing = ps; keywords = ks; rest_keywords = p }
    → parameters_of (map optional_one os ++ more) ≡ record { required = []; optional = os; rest = r; trailing = ps; keywords = ks; rest_keywords = p }
unfolding add
with_optional [] more r ps ks p e = e
with_optional (x ∷ os) more r ps ks p e = adds (optional_one x) (map optional_one os ++ more) ∙ ap (add (optional_one x)) (with_optional os more r ps ks p e)

with_required : (rs : List Param) (more : List Parameter) (os : List Param) (r : Option Param) (ps : List Param) (ks : List Keyword) (p : Option Param)
    → parameters_of more ≡ record { required = []; optional = os; rest = r; trailing = ps; keywords = ks; rest_keywords = p }
    → parameters_of (map required rs ++ more) ≡ record { required = rs; optional = os; rest = r; trailing = ps; keywords = ks; rest_keywords = p }
unfolding add
with_required [] more os r ps ks p e = e
with_required (x ∷ rs) more os r ps ks p e = adds (required x) (map required rs ++ more) ∙ ap (add (required x)) (with_required rs more os r ps ks p e)

-- Parameters of all sorts make what they are.
pub all_are : (rs os : List Param) (r : Option Param) (ps : List Param) (ks : List Keyword) (p : Option Param)
    → parameters_of (all_values rs os r ps ks p) ≡ record { required = rs; optional = os; rest = r; trailing = ps; keywords = ks; rest_keywords = p }
all_are rs os r ps ks p =
    with_required rs (optional_values os r ps ks p) os r ps ks p
    (with_optional os (rest_values r ps ks p) r ps ks p
    (with_rest r (trailing_values ps ks p) ps ks p
    (with_trailing ps (keywords_values ks p) ks p (with_keywords ks p))))
