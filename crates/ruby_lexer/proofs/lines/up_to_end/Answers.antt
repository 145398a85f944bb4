use Rattle.std.proofs.Common.{rules, ◌≡◌, ◌<◌, ◌∙◌, length, drop, true}
use Rattle.ruby_lexer.specs.Lines as spec
use Rattle.ruby_lexer.proofs.Looks.{found_end}
use Rattle.ruby_lexer.proofs.lines.up_to_end.Goals as goal

-- the line here ends the comment
pub returns-then-ends_comment-clause-value : goal.returns-then-ends_comment-clause-value
returns-then-ends_comment-clause-value c =
    let some : c.loop-at.at < length c.args.text.now = search rules in
    let is : spec.ends_comment c.loop-at.begins (drop c.loop-at.at c.args.text.now) ≡ true = search rules in
    let size : c.whole_line_len.result ≡ spec.whole_line_len (drop c.loop-at.at c.args.text.now) = search rules in
    found_end c.loop-at.at _ c.loop-at.begins c.args.text.now some is size ∙ c.loop-at.invariant
