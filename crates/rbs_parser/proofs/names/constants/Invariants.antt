use Rattle.std.proofs.Common.{◌≡◌, length}
use Rattle.rbs_grammar.specs.declared.stage.Stage.TheVariants as at
use Rattle.rbs_grammar.specs.Grammar.{read}
use Rattle.rbs_grammar.specs.Levels.{full, read_in}
use Rattle.rbs_grammar.specs.Names.{constants}
use Rattle.rbs_parser.proofs.NameWords.{with_constants}
use Rattle.rbs_parser.proofs.names.constants.Given as goal

abbrev pub invariant-items : goal.invariant-items
invariant-items l = read (read_in full) constants l.fn.cursor ≡ with_constants l.words at.Open l.cursor

abbrev pub decreases-items : goal.decreases-items
decreases-items l = length l.cursor
