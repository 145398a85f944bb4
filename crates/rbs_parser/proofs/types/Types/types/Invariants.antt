use Rattle.std.proofs.Common.{◌≡◌, length}
use Rattle.rbs_lexer.specs.declared.kind.Kind.TheVariants as k
use Rattle.rbs_grammar.specs.Grammar.{read}
use Rattle.rbs_grammar.specs.Parts.{separated}
use Rattle.rbs_grammar.specs.Levels.{rooms, read_in}
use Rattle.rbs_grammar.specs.Types as spec
use Rattle.rbs_parser.proofs.Loops.{with_rest}
use Rattle.rbs_parser.proofs.types.Types.types.Given as goal

abbrev pub invariant-items : goal.invariant-items
invariant-items g l = read (read_in (rooms l.self.marked l.self.functions)) (separated k.Comma spec.a_type) l.fn.cursor ≡ with_rest (rooms l.self.marked l.self.functions) k.Comma spec.a_type l.all l.cursor

abbrev pub decreases-items : goal.decreases-items
decreases-items g l = length l.cursor
