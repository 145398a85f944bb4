-- The grammar of functions and method types.
use Rattle.std.specs.Prelude.{ℕ, Bool, true, false, not, List, [], ◌∷◌, Option, Some, None}
use Rattle.rbs_lexer.specs.Tokens.{Token}
use Rattle.rbs_lexer.specs.declared.kind.Kind.TheVariants as k
use Rattle.rbs_tree.specs.declared.types.Ty.{Ty}
use Rattle.rbs_tree.specs.declared.types.MethodType.{MethodType}
use Rattle.rbs_tree.specs.declared.types.Param.{Param}
use Rattle.rbs_tree.specs.declared.types.Keyword.{Keyword}
use Rattle.rbs_tree.specs.declared.types.BlockType.{BlockType}
use Rattle.rbs_tree.specs.declared.types.Ty.TheViews.{roll-MethodType, out-MethodType, roll-BlockType}
use Rattle.rbs_grammar.specs.declared.parts.Parameters.{Parameters}
use Rattle.rbs_grammar.specs.declared.stage.Stage.{Stage}
use Rattle.rbs_grammar.specs.declared.stage.Stage.TheVariants as at
use Rattle.rbs_grammar.specs.Rules.{Kinds, is, no_kind, is_small, is_word}
use Rattle.rbs_grammar.specs.Grammar.{Grammar, eps, tok, seq, alt, ahead, chain}
use Rattle.rbs_grammar.specs.Parts.{same, token, both, behind, before, map_value, optional, given, any_of, separated}
use Rattle.rbs_grammar.specs.Names.{text_of}
use Rattle.rbs_grammar.specs.Types.{a_type, a_function, opt}

-- ---- parameters

-- a parameter with the place that it was given in the list
pub data Parameter : Type 0 where
  required : Param → Parameter
  optional_one : Param → Parameter
  rest : Param → Parameter
  trailing : Param → Parameter
  keyword : Keyword → Parameter
  rest_keywords : Param → Parameter

abbrev pub param_of : Ty → Option (List ℕ) → Param
param_of ty name = record { ty = ty; name = name }

-- param = type LN?
unfoldable pub param : Grammar Param
param = seq param_of a_type (optional (tok is_small k.Word text_of))

-- a positional parameter behind which the list stands at a stage
abbrev pub placed : (Param → Parameter) → Stage → Param → Parameter × Stage
placed place stage p = (place p, stage)

-- a keyword parameter; its name is not kept
abbrev pub keyword_of : Bool → Token → Param → Parameter × Stage
keyword_of needed key p = (keyword (record { key = key.text; required = needed; ty = p.ty }), at.Keyword)

-- word ":" param
abbrev pub key_param : Bool → Grammar (Parameter × Stage)
key_param needed = seq (keyword_of needed) (tok is_word k.Word same) (behind k.Colon param)

-- word ":" param where a word stands before ":", else a positional parameter
abbrev pub key_or : Bool → Grammar (Parameter × Stage) → Grammar (Parameter × Stage)
key_or needed positional = ahead (keyword_of needed) is_word k.Word (is k.Colon) k.Colon param positional

-- "**" param
abbrev pub rest_keywords_param : Grammar (Parameter × Stage)
rest_keywords_param = behind k.StarStar (map_value (placed rest_keywords at.Done) param)

-- "*" param
abbrev pub rest_param : Grammar (Parameter × Stage)
rest_param = behind k.Star (map_value (placed rest at.Trailing) param)

-- "?" param, or "?" word ":" param
abbrev pub optional_param : Grammar (Parameter × Stage)
optional_param = behind k.Question (key_or false (map_value (placed optional_one at.Optional) param))

-- param, or word ":" param
abbrev pub positional_param : (Param → Parameter) → Stage → Grammar (Parameter × Stage)
positional_param place stage = key_or true (map_value (placed place stage) param)

-- "?" word ":" param
abbrev pub optional_keyword : Grammar (Parameter × Stage)
optional_keyword = behind k.Question (key_param false)

-- at the list's begin, and behind a required parameter
unfoldable pub first_params : Grammar (Parameter × Stage)
first_params = alt rest_keywords_param (alt rest_param (alt optional_param (positional_param required at.Open)))

-- behind an optional one
unfoldable pub optional_params : Grammar (Parameter × Stage)
optional_params = alt rest_keywords_param (alt rest_param (alt optional_param (positional_param trailing at.Trailing)))

-- behind a rest or a trailing one
unfoldable pub trailing_params : Grammar (Parameter × Stage)
trailing_params = alt rest_keywords_param (alt optional_keyword (positional_param trailing at.Trailing))

-- behind a keyword
unfoldable pub keyword_params : Grammar (Parameter × Stage)
keyword_params = alt rest_keywords_param (alt optional_keyword (key_param true))

abbrev pub params_at : Stage → Grammar (Parameter × Stage)
params_at at.Open = first_params
params_at at.Optional = optional_params
params_at at.Trailing = trailing_params
params_at at.Keyword = keyword_params
params_at at.Done = keyword_params

abbrev pub params_lead : Stage → Kinds
params_lead at.Done = no_kind
params_lead _ = is k.Comma

-- "," and a parameter
abbrev pub next_param : Stage → Grammar (Parameter × Stage)
next_param stage = behind k.Comma (params_at stage)

-- ---- what the parameters of a list make

-- the required parameters before the others
abbrev pub required_of : List Parameter → List Param
required_of [] = []
required_of (required p ∷ ps) = p ∷ required_of ps
required_of (_ ∷ ps) = required_of ps

-- those with `?`
abbrev pub optional_of : List Parameter → List Param
optional_of [] = []
optional_of (optional_one p ∷ ps) = p ∷ optional_of ps
optional_of (_ ∷ ps) = optional_of ps

-- the one with `*`
abbrev pub rest_of : List Parameter → Option Param
rest_of [] = None
rest_of (rest p ∷ ps) = Some p
rest_of (_ ∷ ps) = rest_of ps

-- the required parameters behind others
abbrev pub trailing_of : List Parameter → List Param
trailing_of [] = []
trailing_of (trailing p ∷ ps) = p ∷ trailing_of ps
trailing_of (_ ∷ ps) = trailing_of ps

-- the keywords
abbrev pub keywords_of : List Parameter → List Keyword
keywords_of [] = []
keywords_of (keyword p ∷ ps) = p ∷ keywords_of ps
keywords_of (_ ∷ ps) = keywords_of ps

-- the one with `**`
abbrev pub rest_keywords_of : List Parameter → Option Param
rest_keywords_of [] = None
rest_keywords_of (rest_keywords p ∷ ps) = Some p
rest_keywords_of (_ ∷ ps) = rest_keywords_of ps

-- all of them by their places
abbrev pub parameters_of : List Parameter → Parameters
parameters_of ps = record {
  required = required_of ps;
  optional = optional_of ps;
  rest = rest_of ps;
  trailing = trailing_of ps;
  keywords = keywords_of ps;
  rest_keywords = rest_keywords_of ps;
}

-- params: required ones, then those with "?", then one with "*", then required ones again, then keywords, then one with "**"
unfoldable pub params : Grammar Parameters
params = chain parameters_of first_params params_lead next_param

abbrev pub no_params : Parameters
no_params = parameters_of []

-- ("(" params? ")")?
unfoldable pub param_list : Grammar Parameters
param_list = alt (behind k.LeftParen (before (alt params (eps no_params)) k.RightParen)) (eps no_params)

-- a function of these parameters, with its block and its result
abbrev pub function_of : Parameters → Option BlockType × Ty → MethodType
function_of ps end = roll-MethodType (record {
  vars = [];
  required = ps.required;
  optional = ps.optional;
  rest = ps.rest;
  trailing = ps.trailing;
  keywords = ps.keywords;
  rest_keywords = ps.rest_keywords;
  block = end.0;
  result = end.1;
})

-- ---- functions

-- "->" opt
unfoldable pub result : Grammar Ty
result = behind k.Arrow opt

abbrev pub block_of : Bool → Parameters × Ty → BlockType
block_of optional_block fun = roll-BlockType (record { required = not optional_block; fun = function_of fun.0 (None, fun.1) })

-- block = "?"? "{" ("(" params? ")")? "->" opt "}"
unfoldable pub block : Grammar BlockType
block = seq block_of (given (token k.Question)) (behind k.LeftBrace (before (both param_list result) k.RightBrace))

-- function = ("(" params? ")")? block? "->" opt
unfoldable pub function : Grammar MethodType
function = seq function_of param_list (both (optional block) result)

-- ---- method types

-- "[" CN ("," CN)* "]"
unfoldable pub variables : Grammar (List (List ℕ))
variables = behind k.LeftBracket (before (separated k.Comma (tok (is k.Constant) k.Constant text_of)) k.RightBracket)

abbrev pub with_variables : List (List ℕ) → MethodType → MethodType
with_variables vars fun = let f = out-MethodType fun in roll-MethodType (record {
  vars = vars;
  required = f.required;
  optional = f.optional;
  rest = f.rest;
  trailing = f.trailing;
  keywords = f.keywords;
  rest_keywords = f.rest_keywords;
  block = f.block;
  result = f.result;
})

-- method_type = ("[" CN ("," CN)* "]")? function
unfoldable pub method_type : Grammar MethodType
method_type = seq with_variables (any_of variables) a_function
