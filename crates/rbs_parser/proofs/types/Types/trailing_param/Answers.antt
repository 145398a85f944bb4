use Rattle.std.proofs.Common.{true}
use Rattle.rbs_grammar.specs.declared.stage.Stage.TheVariants as at
use Rattle.rbs_grammar.specs.Parts.{map_value}
use Rattle.rbs_grammar.specs.Functions as spec
use Rattle.rbs_parser.proofs.Keys.{key_first}
use Rattle.rbs_parser.proofs.types.Types.trailing_param.Goals as goal

pub returns-then-sees_two : goal.returns-then-sees_two
returns-then-sees_two g c = key_first c.args.self.now.marked c.args.self.now.functions true (map_value (spec.placed spec.trailing at.Trailing) spec.param) c.args.cursor.now c.key_param.result c.key_param.new.cursor c.if-sees_two.ensures c.key_param.ensures
