use Rattle.std.proofs.Common.{◌≡◌, length}
use Rattle.rbs_lexer.specs.declared.kind.Kind.TheVariants as k
use Rattle.rbs_grammar.specs.Grammar.{read}
use Rattle.rbs_grammar.specs.Parts.{separated}
use Rattle.rbs_grammar.specs.Levels.{full, read_in}
use Rattle.rbs_parser.specs.Parameters.{variable_name}
use Rattle.rbs_parser.proofs.Loops.{with_rest}
use Rattle.rbs_parser.proofs.functions.variable_names.Given as goal

abbrev pub invariant-items : goal.invariant-items
invariant-items l = read (read_in full) (separated k.Comma variable_name) l.fn.cursor ≡ with_rest full k.Comma variable_name l.all l.cursor

abbrev pub decreases-items : goal.decreases-items
decreases-items l = length l.cursor
