use Rattle.std.proofs.Common.{arith}
use Rattle.rbs_parser.proofs.Opened.{type_refused, function_refused, type_opened, function_opened}
use Rattle.rbs_parser.proofs.functions.+opened.Goals as goal

pub ty-returns-then-marked-eq0 : goal.ty-returns-then-marked-eq0
ty-returns-then-marked-eq0 t c = type_refused _ _ _ _ _ (omega arith) c.begins_type.ensures c.no_room.ensures

pub ty-returns : goal.ty-returns
ty-returns t c = type_opened _ _ _ _ _ (omega arith) c.union.ensures

pub function-returns-then-functions-eq0 : goal.function-returns-then-functions-eq0
function-returns-then-functions-eq0 t c = function_refused _ _ _ _ _ (omega arith) c.begins_function.ensures c.no_room.ensures

pub function-returns : goal.function-returns
function-returns t c = function_opened _ _ _ _ _ (omega arith) c.function_body.ensures
