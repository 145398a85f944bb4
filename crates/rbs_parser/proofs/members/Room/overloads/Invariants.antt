use Rattle.std.proofs.Common.{◌≡◌, length}
use Rattle.rbs_grammar.specs.Grammar.{read}
use Rattle.rbs_grammar.specs.Levels.{rooms, read_in}
use Rattle.rbs_grammar.specs.Members.{overloads, overloads_lead, next_overload}
use Rattle.rbs_parser.specs.MemberParts.{with_overloads}
use Rattle.rbs_parser.proofs.Stages.{with_stages}
use Rattle.rbs_parser.proofs.members.Room.overloads.Given as goal

abbrev pub invariant-items : goal.invariant-items
invariant-items l = read (read_in (rooms l.self.marked l.self.functions)) overloads l.fn.cursor ≡ with_stages (rooms l.self.marked l.self.functions) with_overloads overloads_lead next_overload l.found l.stage l.cursor

abbrev pub decreases-items : goal.decreases-items
decreases-items l = length l.cursor
