use Rattle.std.proofs.Common.{arith}
use Rattle.rbs_parser.proofs.Opened.{declaration_refused, declaration_opened}
use Rattle.rbs_parser.proofs.declarations.+declaration.Goals as goal

pub returns-then-marked-eq0 : goal.returns-then-marked-eq0
returns-then-marked-eq0 t c = declaration_refused _ _ _ _ _ (omega arith) c.begins_declaration.ensures c.no_room.ensures

pub returns : goal.returns
returns t c = declaration_opened _ _ _ _ _ (omega arith) c.declaration.ensures
