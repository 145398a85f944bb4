-- The parameters of a list, put to those before them one by one.
use Rattle.std.proofs.Common.{◌≡◌, ◌<◌, true, false, List, [], ◌∷◌, ◌++◌, length, Option, Some, None, Ok, refl, sym, ◌∙◌, ap, append_assoc}
use Rattle.std.proofs.lemmas.List.{append-nil}
use Rattle.rbs_lexer.specs.Tokens.{Token}
use Rattle.rbs_tree.specs.declared.types.Param.{Param}
use Rattle.rbs_tree.specs.declared.types.Keyword.{Keyword}
use Rattle.rbs_grammar.specs.declared.parts.Parameters.{Parameters}
use Rattle.rbs_grammar.specs.declared.stage.Stage.{Stage}
use Rattle.rbs_grammar.specs.declared.stage.Stage.TheVariants as at
use Rattle.rbs_grammar.specs.Grammar.{fine, begins, then_read, Outcome, read}
use Rattle.rbs_grammar.specs.Levels.{Room, read_in}
use Rattle.rbs_grammar.specs.Types.{a_type}
use Rattle.rbs_grammar.specs.Functions.{Parameter, required, optional_one, rest, trailing, keyword, rest_keywords, param, first_params, optional_params, trailing_params, keyword_params, params, params_lead, next_param, parameters_of, no_params}
use Rattle.rbs_parser.specs.Parameters.{added, added_all, earlier}
use Rattle.rbs_parser.proofs.Stages.{with_stages, begin_stages, step_stages, end_stages, smaller_stages}

-- ---- what one more parameter makes

abbrev either : Option Param → Option Param → Option Param
either None b = b
either (Some x) b = Some x

either_none : (a : Option Param) → either a None ≡ a
either_none None = refl
either_none (Some x) = refl

either_earlier : (a : Option Param) (x : Param) (b : Option Param) → either a (Some x) ≡ either (earlier a x) b
either_earlier None x b = refl
either_earlier (Some y) x b = refl

abbrev made : List Param → List Param → Option Param → List Param → List Keyword → Option Param → Parameters
made r o e t k f = record { required = r; optional = o; rest = e; trailing = t; keywords = k; rest_keywords = f }

-- the ones and then the others
abbrev merged : Parameters → Parameters → Parameters
merged a b = made (a.required ++ b.required) (a.optional ++ b.optional) (either a.rest b.rest) (a.trailing ++ b.trailing) (a.keywords ++ b.keywords) (either a.rest_keywords b.rest_keywords)

merged_none : (a : Parameters) → merged a no_params ≡ a
merged_none a =
    ap (λ l. made l (a.optional ++ []) (either a.rest None) (a.trailing ++ []) (a.keywords ++ []) (either a.rest_keywords None)) (append-nil a.required)
    ∙ ap (λ l. made a.required l (either a.rest None) (a.trailing ++ []) (a.keywords ++ []) (either a.rest_keywords None)) (append-nil a.optional)
    ∙ ap (λ l. made a.required a.optional l (a.trailing ++ []) (a.keywords ++ []) (either a.rest_keywords None)) (either_none a.rest)
    ∙ ap (λ l. made a.required a.optional a.rest l (a.keywords ++ []) (either a.rest_keywords None)) (append-nil a.trailing)
    ∙ ap (λ l. made a.required a.optional a.rest a.trailing l (either a.rest_keywords None)) (append-nil a.keywords)
    ∙ ap (λ l. made a.required a.optional a.rest a.trailing a.keywords l) (either_none a.rest_keywords)

one_added : (a : Parameters) (x : Parameter) (xs : List Parameter) → merged a (parameters_of (x ∷ xs)) ≡ merged (added a x) (parameters_of xs)
unfolding added
one_added a (required x) xs = ap (λ l. record (merged a (parameters_of xs)) { required = l }) (sym (append_assoc a.required (x ∷ []) (parameters_of xs).required))
one_added a (optional_one x) xs = ap (λ l. record (merged a (parameters_of xs)) { optional = l }) (sym (append_assoc a.optional (x ∷ []) (parameters_of xs).optional))
one_added a (rest x) xs = ap (λ l. record (merged a (parameters_of xs)) { rest = l }) (either_earlier a.rest x (parameters_of xs).rest)
one_added a (trailing x) xs = ap (λ l. record (merged a (parameters_of xs)) { trailing = l }) (sym (append_assoc a.trailing (x ∷ []) (parameters_of xs).trailing))
one_added a (keyword x) xs = ap (λ l. record (merged a (parameters_of xs)) { keywords = l }) (sym (append_assoc a.keywords (x ∷ []) (parameters_of xs).keywords))
one_added a (rest_keywords x) xs = ap (λ l. record (merged a (parameters_of xs)) { rest_keywords = l }) (either_earlier a.rest_keywords x (parameters_of xs).rest_keywords)

all_added : (a : Parameters) (xs : List Parameter) → merged a (parameters_of xs) ≡ added_all a xs
all_added a [] = merged_none a
all_added a (x ∷ xs) = one_added a x xs ∙ all_added (added a x) xs

-- ---- the loop

next_fine : (s : Stage) → fine (next_param s) ≡ true
unfolding a_type param first_params optional_params trailing_params keyword_params
next_fine at.Open = refl
next_fine at.Optional = refl
next_fine at.Trailing = refl
next_fine at.Keyword = refl
next_fine at.Done = refl

module _ (n : Room) where
  abbrev pub with_params : Parameters → Stage → List Token → Outcome Parameters
  with_params all s ts = with_stages n added_all params_lead next_param all s ts

  pub params_begin : (ts : List Token) → read (read_in n) params ts ≡ then_read (read (read_in n) first_params ts) (λ x mid. with_params (added no_params x.0) x.1 mid)
  unfolding params
  params_begin ts = begin_stages n parameters_of first_params params_lead next_param (added no_params) added added_all (λ x xs. all_added no_params (x ∷ xs)) ts

  pub params_step : (all : Parameters) (s : Stage) (ts : List Token) → true ≡ begins (params_lead s) ts
      → with_params all s ts ≡ then_read (read (read_in n) (next_param s) ts) (λ x mid. with_params (added all x.0) x.1 mid)
  params_step all s ts b = step_stages n parameters_of first_params params_lead next_param (added no_params) added added_all next_fine (λ s. refl) (λ c x xs. refl) all s ts b

  pub params_end : (all : Parameters) (s : Stage) (ts : List Token) → false ≡ begins (params_lead s) ts → with_params all s ts ≡ Ok (all, ts)
  params_end all s ts b = end_stages n parameters_of first_params params_lead next_param (added no_params) added added_all next_fine (λ s. refl) all s ts b

  pub params_smaller : (s : Stage) (ts mid : List Token) (x : Parameter × Stage) → read (read_in n) (next_param s) ts ≡ Ok (x, mid) → length mid < length ts
  params_smaller s ts mid x e = smaller_stages n parameters_of first_params params_lead next_param (added no_params) added added_all next_fine (λ s. refl) s ts mid x e
