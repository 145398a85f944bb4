-- The words of a name, as they are found one by one, and the sets of words that may end one.
use Rattle.std.specs.Prelude.{ℕ, List, [], ◌∷◌, ◌++◌}
use Rattle.rbs_lexer.specs.Tokens.{Token}
use Rattle.rbs_lexer.specs.declared.kind.Kind.TheVariants as k
use Rattle.rbs_grammar.specs.declared.parts.Words.{Words}
use Rattle.rbs_grammar.specs.Rules.{Kinds, is}
use Rattle.rbs_grammar.specs.Grammar.{Grammar, chain}
use Rattle.rbs_grammar.specs.Parts.{token, before, map_value}
use Rattle.rbs_grammar.specs.Names.{words_of, outer_names, name_leads, name_part, last_word, ends_type}
use Rattle.rbs_grammar.specs.Types.{ends_lone_type}
use Rattle.rbs_parser.specs.declared.names.Ends.{Ends}
use Rattle.rbs_parser.specs.declared.names.Ends.TheVariants as ends

-- where words begin: at the first of them
abbrev pub start_of : List (List ℕ) → ℕ → ℕ → ℕ
start_of [] start next = next
start_of (x ∷ xs) start next = start

-- the words, with one more
abbrev pub one_more : Words → Token → Words
one_more words t = record { path = words.path ++ t.text ∷ []; at = record { start = start_of words.path words.at.start t.at.start; end = t.at.end }; last = t.kind }

-- the words, with more of them
abbrev pub more_words : Words → List Token → Words
more_words words [] = words
more_words words (t ∷ ts) = more_words (one_more words t) ts

-- the words that may end a name, beside constants
abbrev pub ends_of : Ends → Kinds
ends_of ends.Interface = is k.InterfaceName
ends_of ends.Type = ends_type
ends_of ends.LoneType = ends_lone_type

-- CN "::"
abbrev pub outer_part : Grammar Token
outer_part = before (token k.Constant) k.ColonColon

-- (CN "::")*, with the words of them
unfoldable pub outer_words : Grammar Words
outer_words = map_value words_of outer_names

-- (CN "::")* and a word that may end a name; one that stands alone is of the first set
unfoldable pub words_by : Ends → Ends → Grammar Words
words_by lone ends = chain words_of (last_word (ends_of lone)) name_leads (name_part (ends_of ends))
