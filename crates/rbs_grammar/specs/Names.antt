-- Names of classes, modules, interfaces and type aliases.
use Rattle.std.specs.Prelude.{ℕ, true, false, List, [], ◌∷◌, ◌++◌, map, Option, Some, None}
use Rattle.rbs_lexer.specs.Tokens.{Token}
use Rattle.rbs_lexer.specs.declared.kind.Kind.TheVariants as k
use Rattle.rbs_tree.specs.declared.names.TypeName.{TypeName}
use Rattle.rbs_grammar.specs.declared.parts.Words.{Words}
use Rattle.rbs_grammar.specs.declared.stage.Stage.{Stage}
use Rattle.rbs_grammar.specs.declared.stage.Stage.TheVariants as at
use Rattle.rbs_grammar.specs.Rules.{Kinds, is, no_kind, is_small}
use Rattle.rbs_grammar.specs.Grammar.{Grammar, tok, seq, alt, chain}
use Rattle.rbs_grammar.specs.Parts.{same, token, behind, optional, each}

abbrev pub text_of : Token → List ℕ
text_of t = t.text

-- the last of some tokens, or this one
abbrev pub last_of : Token → List Token → Token
last_of t [] = t
last_of t (u ∷ us) = last_of u us

-- the words of a name; of no words, which no name has, anything
abbrev pub words_of : List Token → Words
words_of [] = record { path = []; at = record { start = 0; end = 0 }; last = k.Word }
words_of (t ∷ ts) = record { path = map text_of (t ∷ ts); at = record { start = t.at.start; end = (last_of t ts).at.end }; last = (last_of t ts).kind }

-- the name of some words
abbrev pub relative_name : Words → TypeName
relative_name words = record { absolute = false; path = words.path; at = words.at }

-- the same behind a leading `::`
abbrev pub absolute_name : Token → Words → TypeName
absolute_name colons words = record { absolute = true; path = words.path; at = record { start = colons.at.start; end = words.at.end } }

-- with a leading `::` or without
abbrev pub name_of : Option Token → Words → TypeName
name_of None words = relative_name words
name_of (Some colons) words = absolute_name colons words

-- a word, behind which a name goes on or ends
abbrev pub and_stage : Stage → Token → Token × Stage
and_stage stage t = (t, stage)

-- behind a constant, a name takes each "::" that follows
abbrev pub name_leads : Stage → Kinds
name_leads at.Open = is k.ColonColon
name_leads _ = no_kind

-- "::"?
abbrev pub leading : Grammar (Option Token)
leading = optional (token k.ColonColon)

-- "::" CN
abbrev pub constant_part : Stage → Grammar (Token × Stage)
constant_part _ = behind k.ColonColon (tok (is k.Constant) k.Constant (and_stage at.Open))

-- (CN "::")* CN
unfoldable pub constants : Grammar Words
constants = chain words_of (tok (is k.Constant) k.Constant (and_stage at.Open)) name_leads constant_part

-- class_name = "::"? (CN "::")* CN
unfoldable pub class_name : Grammar TypeName
class_name = seq name_of leading constants

-- (CN "::")*
abbrev pub outer_names : Grammar (List Token)
outer_names = each (seq keep_first (token k.Constant) (token k.ColonColon))
  where
    keep_first : Token → Token → Token
    keep_first t u = t

abbrev pub words_to : List Token → Token → Words
words_to outer t = words_of (outer ++ t ∷ [])

-- interface_name = "::"? (CN "::")* IN
unfoldable pub interface_name : Grammar TypeName
interface_name = seq name_of leading (seq words_to outer_names (token k.InterfaceName))

-- alias_name = "::"? (CN "::")* LN
unfoldable pub alias_name : Grammar TypeName
alias_name = seq name_of leading (seq words_to outer_names (tok is_small k.Word same))

-- CN, or one of the words that end a name
abbrev pub last_word : Kinds → Grammar (Token × Stage)
last_word ends = alt (tok (is k.Constant) k.Constant (and_stage at.Open)) (tok ends k.InterfaceName (and_stage at.Done))

-- "::" and a word
abbrev pub name_part : Kinds → Stage → Grammar (Token × Stage)
name_part ends _ = behind k.ColonColon (last_word ends)

-- (CN "::")* (CN | IN)
unfoldable pub module_words : Grammar Words
module_words = chain words_of (last_word (is k.InterfaceName)) name_leads (name_part (is k.InterfaceName))

-- module_name = "::"? (CN "::")* (CN | IN)
unfoldable pub module_name : Grammar TypeName
module_name = seq name_of leading module_words

-- IN or LN
abbrev pub ends_type : Kinds
ends_type k.InterfaceName _ = true
ends_type kind line = is_small kind line
