use Rattle.std.proofs.Common.{rules, ◌≤◌, length, sym}
use Rattle.ruby_lexer.proofs.CommentEnds as ends
use Rattle.ruby_lexer.proofs.lines.long_comment_len.Goals as goal

-- no line behind ends a comment
pub returns-then-text-last_end-clause-value : goal.returns-then-text-last_end-clause-value
returns-then-text-last_end-clause-value c = let few : length c.args.text.now ≤ c.args.last_end = search rules in sym (ends.no_comment c.args.last_end c.args.text.now c.requires few)
