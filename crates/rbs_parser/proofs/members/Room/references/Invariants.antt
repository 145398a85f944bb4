use Rattle.std.proofs.Common.{◌≡◌, length}
use Rattle.rbs_lexer.specs.declared.kind.Kind.TheVariants as k
use Rattle.rbs_grammar.specs.Grammar.{read}
use Rattle.rbs_grammar.specs.Levels.{rooms, read_in}
use Rattle.rbs_grammar.specs.Members.{ref}
use Rattle.rbs_parser.specs.MemberParts.{references}
use Rattle.rbs_parser.proofs.Loops.{with_rest}
use Rattle.rbs_parser.proofs.members.Room.references.Given as goal

abbrev pub invariant-items : goal.invariant-items
invariant-items l = read (read_in (rooms l.self.marked l.self.functions)) references l.fn.cursor ≡ with_rest (rooms l.self.marked l.self.functions) k.Comma ref l.all l.cursor

abbrev pub decreases-items : goal.decreases-items
decreases-items l = length l.cursor
