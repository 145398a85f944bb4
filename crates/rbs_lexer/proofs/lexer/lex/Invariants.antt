use Rattle.std.proofs.Common.{◌-◌, length}
use Rattle.rbs_lexer.proofs.Cutting.{Walked}
use Rattle.rbs_lexer.proofs.lexer.lex.Given as goal

abbrev pub invariant-loop-walk : goal.invariant-loop-walk
invariant-loop-walk l = Walked l.text l.walk l.found

abbrev pub decreases-loop-walk : goal.decreases-loop-walk
decreases-loop-walk l = length l.text - l.walk.at
