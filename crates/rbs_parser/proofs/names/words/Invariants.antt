use Rattle.std.proofs.Common.{◌≡◌, length}
use Rattle.rbs_grammar.specs.Grammar.{read}
use Rattle.rbs_grammar.specs.Levels.{full, read_in}
use Rattle.rbs_parser.specs.NameWords.{words_by}
use Rattle.rbs_parser.proofs.NameWords.{with_words}
use Rattle.rbs_parser.proofs.names.words.Given as goal

abbrev pub invariant-items : goal.invariant-items
invariant-items l = read (read_in full) (words_by l.fn.lone l.fn.ends) l.fn.cursor ≡ with_words l.fn.ends l.words l.stage l.cursor

abbrev pub decreases-items : goal.decreases-items
decreases-items l = length l.cursor
