use Rattle.std.proofs.Common.{◌≡◌, length}
use Rattle.rbs_grammar.specs.Grammar.{read}
use Rattle.rbs_grammar.specs.Levels.{rooms, read_in}
use Rattle.rbs_grammar.specs.Members.{interface_member}
use Rattle.rbs_parser.specs.MemberParts.{interface_members}
use Rattle.rbs_parser.proofs.Loops.{with_more}
use Rattle.rbs_parser.proofs.members.Room.interface_members.Given as goal

abbrev pub invariant-items : goal.invariant-items
invariant-items l = read (read_in (rooms l.self.marked l.self.functions)) interface_members l.fn.cursor ≡ with_more (rooms l.self.marked l.self.functions) interface_member l.all l.cursor

abbrev pub decreases-items : goal.decreases-items
decreases-items l = length l.cursor
