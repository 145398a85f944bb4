use Rattle.std.proofs.Common.{◌≡◌, length}
use Rattle.rbs_grammar.specs.Grammar.{chain, read}
use Rattle.rbs_grammar.specs.Parts.{map_value}
use Rattle.rbs_grammar.specs.Levels.{rooms, read_in}
use Rattle.rbs_grammar.specs.Types as spec
use Rattle.rbs_parser.proofs.FieldLoops.{with_fields}
use Rattle.rbs_parser.proofs.types.Types.fields.Given as goal

abbrev pub invariant-items : goal.invariant-items
invariant-items g l = read (read_in (rooms l.self.marked l.self.functions)) (chain spec.somes (map_value spec.some_field spec.field) spec.fields_lead spec.field_part) l.fn.cursor ≡ with_fields (rooms l.self.marked l.self.functions) l.all l.cursor

abbrev pub decreases-items : goal.decreases-items
decreases-items g l = length l.cursor
