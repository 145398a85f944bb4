use Rattle.ruby_lexer.proofs.CommentEnds as ends
use Rattle.ruby_lexer.proofs.blanks.line_begins_with_dot.Goals as goal

-- the rest of the text
pub begins_with_dot-requires : goal.begins_with_dot-requires
begins_with_dot-requires c = ends.ends_in c.args.last_end c.args.place c.args.text.now c.behind.result.now c.behind.ensures c.requires
