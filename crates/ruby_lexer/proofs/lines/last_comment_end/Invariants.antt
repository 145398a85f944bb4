use Rattle.ruby_lexer.proofs.CommentEnds.{RightSoFar}
use Rattle.ruby_lexer.proofs.lines.last_comment_end.Given as goal

abbrev pub invariant-loop-at : goal.invariant-loop-at
invariant-loop-at l = RightSoFar l.last_end l.begins l.at l.text
