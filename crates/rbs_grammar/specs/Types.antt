-- The grammar of types, in the order of RBS's `docs/syntax.md`. Quoted words and signs are tokens; CN, IN and LN are words by how they begin.
use Rattle.std.specs.Prelude.{ℕ, Bool, true, false, not, ◌&&◌, List, [], ◌∷◌, Option, Some, None}
use Rattle.rbs_lexer.specs.Tokens.{Token}
use Rattle.rbs_lexer.specs.declared.kind.Kind.{Kind}
use Rattle.rbs_lexer.specs.declared.kind.Kind.TheVariants as k
use Rattle.rbs_tree.specs.declared.names.TypeName.{TypeName}
use Rattle.rbs_tree.specs.declared.types.Ty.{Ty}
use Rattle.rbs_tree.specs.declared.types.Ty.TheVariants as t
use Rattle.rbs_tree.specs.declared.types.Field.{Field}
use Rattle.rbs_tree.specs.declared.types.MethodType.{MethodType}
use Rattle.rbs_grammar.specs.declared.parts.Words.{Words}
use Rattle.rbs_grammar.specs.declared.stage.Stage.{Stage}
use Rattle.rbs_grammar.specs.declared.stage.Stage.TheVariants as at
use Rattle.rbs_grammar.specs.Rules.{Rule, Kinds, is, no_kind, is_small, is_own_type, is_word}
use Rattle.rbs_grammar.specs.Grammar.{Grammar, eps, tok, seq, alt, chain, call}
use Rattle.rbs_grammar.specs.Parts.{same, token, both, behind, before, map_value, given, any_of, separated}
use Rattle.rbs_grammar.specs.Values.{string_value, symbol_value, integer_value}
use Rattle.rbs_grammar.specs.Names.{words_of, relative_name, absolute_name, name_leads, name_part, last_word, ends_type, class_name}

-- a type inside another
unfoldable pub a_type : Grammar Ty
a_type = call Rule.ty same

-- a function inside a type or a member
unfoldable pub a_function : Grammar MethodType
a_function = call Rule.function same

-- type_args = "[" type ("," type)* "]"
unfoldable pub type_args : Grammar (List Ty)
type_args = behind k.LeftBracket (before (separated k.Comma a_type) k.RightBracket)

-- ---- types that are named

-- LN, but for the words that are types by themselves
abbrev pub ends_lone_type : Kinds
ends_lone_type k.InterfaceName _ = true
ends_lone_type kind line = is_small kind line && not (is_own_type kind line)

-- what stands behind a leading "::", where any word may end a name
unfoldable pub absolute_words : Grammar Words
absolute_words = chain words_of (last_word ends_type) name_leads (name_part ends_type)

-- what stands without one
unfoldable pub relative_words : Grammar Words
relative_words = chain words_of (last_word ends_lone_type) name_leads (name_part ends_type)

-- whether a type is an instance, an interface or an alias, by the last word of its name
abbrev pub named_type : Kind → TypeName → List Ty → Ty
named_type k.Constant name args = t.Instance name args
named_type k.InterfaceName name args = t.Interface name args
named_type _ name args = t.Alias name args

abbrev pub absolute_type : Token → Words × List Ty → Ty
absolute_type colons named = named_type named.0.last (absolute_name colons named.0) named.1

abbrev pub relative_type : Words → List Ty → Ty
relative_type words args = named_type words.last (relative_name words) args

-- named = (name | iname | aname) type_args?
unfoldable pub named : Grammar Ty
named = alt (seq absolute_type (token k.ColonColon) (both absolute_words (any_of type_args))) (seq relative_type relative_words (any_of type_args))

-- ---- types by themselves

-- INT | STR | SYM | "true" | "false" | "self" | "instance" | "class" | "bool" | "untyped" | "nil" | "top" | "bot" | "void"
abbrev pub is_single : Kinds
is_single k.Integer _ = true
is_single k.String _ = true
is_single k.Symbol _ = true
is_single k.Singleton _ = false
is_single kind line = is_own_type kind line

abbrev pub single_type : Kind → List ℕ → Ty
single_type k.Integer text = t.IntLit (integer_value text)
single_type k.String text = t.StrLit (string_value text)
single_type k.Symbol text = t.SymLit (symbol_value text)
single_type k.True text = t.True
single_type k.False text = t.False
single_type k.SelfWord text = t.SelfTy
single_type k.Instance text = t.InstanceTy
single_type k.Class text = t.ClassTy
single_type k.Bool text = t.Bool
single_type k.Nil text = t.Nil
single_type k.Top text = t.Top
single_type k.Bot text = t.Bot
single_type k.Void text = t.Void
single_type _ text = t.Untyped

abbrev pub single_of : Token → Ty
single_of token = single_type token.kind token.text

-- ---- composed types

-- group = "(" type ")"
unfoldable pub group : Grammar Ty
group = behind k.LeftParen (before a_type k.RightParen)

-- tuple = "[" (type ("," type)*)? "]"
unfoldable pub tuple : Grammar Ty
tuple = behind k.LeftBracket (before (map_value t.TupleOf (any_of (separated k.Comma a_type))) k.RightBracket)

abbrev pub field_of : Token → Ty → Field
field_of key ty = record { key = key.text; ty = ty }

-- field = word ":" type
unfoldable pub field : Grammar Field
field = seq field_of (tok is_word k.Word same) (behind k.Colon a_type)

-- a field, and then that the list goes on or ends
abbrev pub some_field : Field → Option Field × Stage
some_field f = (Some f, at.Open)

abbrev pub fields_lead : Stage → Kinds
fields_lead at.Open = is k.Comma
fields_lead _ = no_kind

-- "," and a field, or the comma that ends the list
abbrev pub field_part : Stage → Grammar (Option Field × Stage)
field_part _ = behind k.Comma (alt (map_value some_field field) (eps (None, at.Done)))

abbrev pub somes : {A : Type 0} → List (Option A) → List A
somes [] = []
somes (None ∷ xs) = somes xs
somes (Some x ∷ xs) = x ∷ somes xs

-- record = "{" (field ("," field)* ","?)? "}"
unfoldable pub record_type : Grammar Ty
record_type = behind k.LeftBrace (before (map_value t.RecordOf (any_of (chain somes (map_value some_field field) fields_lead field_part))) k.RightBrace)

-- singleton = "singleton" "(" name ")"
unfoldable pub singleton : Grammar Ty
singleton = behind k.Singleton (behind k.LeftParen (before (map_value t.Singleton class_name) k.RightParen))

-- base = "(" type ")" | "[" .. "]" | "{" .. "}" | "singleton" .. | INT | STR | SYM | a word by itself | a name
unfoldable pub base : Grammar Ty
base = alt group (alt tuple (alt record_type (alt singleton (alt (tok is_single k.Nil single_of) named))))

-- proc = "^" function
unfoldable pub proc : Grammar Ty
proc = behind k.Caret (map_value t.ProcOf a_function)

abbrev pub optional_type : Ty → Bool → Ty
optional_type ty true = t.Optional ty
optional_type ty false = ty

-- opt = proc | base "?"?, where the "?" behind a proc is its result's
unfoldable pub opt : Grammar Ty
opt = alt proc (seq optional_type base (given (token k.Question)))

abbrev pub inter_of : List Ty → Ty
inter_of (x ∷ []) = x
inter_of xs = t.Inter xs

-- inter = opt ("&" opt)*
unfoldable pub inter : Grammar Ty
inter = map_value inter_of (separated k.Ampersand opt)

abbrev pub union_of : List Ty → Ty
union_of (x ∷ []) = x
union_of xs = t.Union xs

-- type = inter ("|" inter)*
unfoldable pub union : Grammar Ty
union = map_value union_of (separated k.Bar inter)
