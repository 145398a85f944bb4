-- Parameters as the code reads them, one by one, and what a list of them makes.
use Rattle.std.specs.Prelude.{ℕ, List, [], ◌∷◌, ◌++◌, Option, Some, None, Result, Ok, Err}
use Rattle.rbs_lexer.specs.Tokens.{Token}
use Rattle.rbs_lexer.specs.declared.kind.Kind.TheVariants as k
use Rattle.rbs_tree.specs.declared.types.Param.{Param}
use Rattle.rbs_grammar.specs.declared.parts.Parameters.{Parameters}
use Rattle.rbs_grammar.specs.declared.stage.Stage.{Stage}
use Rattle.rbs_grammar.specs.Rules.{is, is_small}
use Rattle.rbs_grammar.specs.Grammar.{Grammar, tok, read}
use Rattle.rbs_grammar.specs.Levels.{rooms, read_in}
use Rattle.rbs_grammar.specs.Parts.{optional}
use Rattle.rbs_grammar.specs.Names.{text_of}
use Rattle.rbs_grammar.specs.Functions as spec
use Rattle.rbs_parser.specs.declared.functions.Parameter.{Parameter}
use Rattle.rbs_parser.specs.declared.functions.Parameter.TheVariants as p
use Rattle.rbs_parser.specs.declared.refusal.Refusal.{Refusal}
use Rattle.rbs_parser.specs.Reading.{Reads}

-- the name of a positional parameter, if it has one
abbrev pub small_name : Grammar (Option (List ℕ))
small_name = optional (tok is_small k.Word text_of)

-- the name of a type variable
abbrev pub variable_name : Grammar (List ℕ)
variable_name = tok (is k.Constant) k.Constant text_of

-- the parameter of the grammar
unfoldable pub given_as : Parameter → spec.Parameter
given_as (p.Required x) = spec.required x
given_as (p.OptionalOne x) = spec.optional_one x
given_as (p.Rest x) = spec.rest x
given_as (p.Trailing x) = spec.trailing x
given_as (p.Keyword x) = spec.keyword x
given_as (p.RestKeywords x) = spec.rest_keywords x

-- It read the parameter that the grammar reads, and the stage behind it.
abbrev pub ReadsParameter : ℕ → ℕ → Grammar (spec.Parameter × Stage) → List Token → Result (Parameter × Stage) Refusal → List Token → Type 0
ReadsParameter marked functions g old result new = Reads (λ r. (given_as r.0, r.1)) (read (read_in (rooms marked functions)) g old) result new

-- the first of two
abbrev pub earlier : Option Param → Param → Option Param
earlier None x = Some x
earlier (Some y) x = Some y

-- the parameters with one more behind them
unfoldable pub added : Parameters → spec.Parameter → Parameters
added all (spec.required x) = record { required = all.required ++ x ∷ []; optional = all.optional; rest = all.rest; trailing = all.trailing; keywords = all.keywords; rest_keywords = all.rest_keywords }
added all (spec.optional_one x) = record { required = all.required; optional = all.optional ++ x ∷ []; rest = all.rest; trailing = all.trailing; keywords = all.keywords; rest_keywords = all.rest_keywords }
added all (spec.rest x) = record { required = all.required; optional = all.optional; rest = earlier all.rest x; trailing = all.trailing; keywords = all.keywords; rest_keywords = all.rest_keywords }
added all (spec.trailing x) = record { required = all.required; optional = all.optional; rest = all.rest; trailing = all.trailing ++ x ∷ []; keywords = all.keywords; rest_keywords = all.rest_keywords }
added all (spec.keyword x) = record { required = all.required; optional = all.optional; rest = all.rest; trailing = all.trailing; keywords = all.keywords ++ x ∷ []; rest_keywords = all.rest_keywords }
added all (spec.rest_keywords x) = record { required = all.required; optional = all.optional; rest = all.rest; trailing = all.trailing; keywords = all.keywords; rest_keywords = earlier all.rest_keywords x }

-- the parameters with more of them behind them
abbrev pub added_all : Parameters → List spec.Parameter → Parameters
added_all all [] = all
added_all all (x ∷ xs) = added_all (added all x) xs

-- what is held and what is read behind it
abbrev pub both_of : {A B : Type 0} → A → Result B Refusal → Result (A × B) Refusal
both_of held (Ok next) = Ok (held, next)
both_of held (Err refused) = Err refused
