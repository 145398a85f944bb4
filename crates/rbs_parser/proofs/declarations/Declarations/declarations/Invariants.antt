use Rattle.std.proofs.Common.{◌≡◌, length}
use Rattle.rbs_grammar.specs.Grammar.{read}
use Rattle.rbs_grammar.specs.Levels.{rooms, read_in}
use Rattle.rbs_grammar.specs.Members.{a_declaration}
use Rattle.rbs_grammar.specs.Declarations.{file}
use Rattle.rbs_parser.proofs.Loops.{with_more}
use Rattle.rbs_parser.proofs.declarations.Declarations.declarations.Given as goal

abbrev pub invariant-items : goal.invariant-items
invariant-items g l = read (read_in (rooms l.self.room.marked l.self.room.functions)) file l.fn.cursor ≡ with_more (rooms l.self.room.marked l.self.room.functions) a_declaration l.all l.cursor

abbrev pub decreases-items : goal.decreases-items
decreases-items g l = length l.cursor
