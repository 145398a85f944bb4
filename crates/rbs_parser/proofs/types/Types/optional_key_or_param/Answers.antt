use Rattle.std.proofs.Common.{false}
use Rattle.rbs_grammar.specs.declared.stage.Stage.TheVariants as at
use Rattle.rbs_grammar.specs.Parts.{map_value}
use Rattle.rbs_grammar.specs.Functions as spec
use Rattle.rbs_parser.proofs.Keys.{key_first}
use Rattle.rbs_parser.proofs.types.Types.optional_key_or_param.Goals as goal

pub returns-then-sees_two : goal.returns-then-sees_two
returns-then-sees_two g c = key_first c.args.self.now.marked c.args.self.now.functions false (map_value (spec.placed spec.optional_one at.Optional) spec.param) c.args.cursor.now c.key_param.result c.key_param.new.cursor c.if-sees_two.ensures c.key_param.ensures
