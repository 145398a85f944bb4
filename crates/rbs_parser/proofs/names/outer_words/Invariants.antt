use Rattle.std.proofs.Common.{◌≡◌, length}
use Rattle.rbs_grammar.specs.Grammar.{read}
use Rattle.rbs_grammar.specs.Levels.{full, read_in}
use Rattle.rbs_parser.specs.NameWords.{outer_words}
use Rattle.rbs_parser.proofs.NameWords.{with_outer}
use Rattle.rbs_parser.proofs.names.outer_words.Given as goal

abbrev pub invariant-items : goal.invariant-items
invariant-items l = read (read_in full) outer_words l.fn.cursor ≡ with_outer l.words l.cursor

abbrev pub decreases-items : goal.decreases-items
decreases-items l = length l.cursor
