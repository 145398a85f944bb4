use Rattle.std.proofs.Common.{◌≡◌, length}
use Rattle.rbs_grammar.specs.Grammar.{read}
use Rattle.rbs_grammar.specs.Levels.{rooms, read_in}
use Rattle.rbs_grammar.specs.Functions as spec
use Rattle.rbs_parser.proofs.Adding.{with_params}
use Rattle.rbs_parser.proofs.types.Types.params.Given as goal

abbrev pub invariant-items : goal.invariant-items
invariant-items g l = read (read_in (rooms l.self.marked l.self.functions)) spec.params l.fn.cursor ≡ with_params (rooms l.self.marked l.self.functions) l.all l.stage l.cursor

abbrev pub decreases-items : goal.decreases-items
decreases-items g l = length l.cursor
