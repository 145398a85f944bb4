use Rattle.std.proofs.Common.{◌≡◌, length}
use Rattle.rbs_lexer.specs.declared.kind.Kind.TheVariants as k
use Rattle.rbs_grammar.specs.Grammar.{read}
use Rattle.rbs_grammar.specs.Levels.{rooms, read_in}
use Rattle.rbs_grammar.specs.Functions.{method_type}
use Rattle.rbs_parser.specs.MemberParts.{method_types}
use Rattle.rbs_parser.proofs.Loops.{with_rest}
use Rattle.rbs_parser.proofs.members.Room.method_types.Given as goal

abbrev pub invariant-items : goal.invariant-items
invariant-items l = read (read_in (rooms l.self.marked l.self.functions)) method_types l.fn.cursor ≡ with_rest (rooms l.self.marked l.self.functions) k.Bar method_type l.all l.cursor

abbrev pub decreases-items : goal.decreases-items
decreases-items l = length l.cursor
