use Rattle.std.proofs.Common.{rules, ◌≡◌, ◌<◌, ◌+◌, ◌-◌, ◌∙◌, if◌then◌else◌, length, drop, slice_index, ap, sym, subst}
use Rattle.std.proofs.lemmas.List.{drop_more}
use Rattle.ruby_lexer.specs.Characters.{is_line_end}
use Rattle.ruby_lexer.specs.Lines as spec
use Rattle.ruby_lexer.proofs.CommentEnds as ends
use Rattle.ruby_lexer.proofs.lines.last_comment_end.Goals.{then-ends_comment, else-ends_comment}
use Rattle.ruby_lexer.proofs.lines.last_comment_end.Goals as goal

-- before the first byte
pub loop-at-init : goal.loop-at-init
loop-at-init c = ends.at_start c.args.text.now

-- behind the next byte
pub loop-at-preserved : goal.loop-at-preserved
loop-at-preserved c =
    let text = c.args.text.now in let at = c.loop-at.at in
    let within : at < length text = search rules in
    let is : c.is_line_end-begins.result ≡ is_line_end (slice_index text at) = search rules in
    let test : spec.ends_comment c.loop-at.begins (drop at text) ≡ c.ends_comment.result = search rules in
    let left : c.if-ends_comment.last_end ≡ (if spec.ends_comment c.loop-at.begins (drop at text) then length text - at else c.loop-at.last_end) = elim c.if-ends_comment.branch [
      | then-ends_comment w ↦ w.last_end-is ∙ sym (ap (λ t. if t then length text - at else c.loop-at.last_end) (test ∙ w.if-ends_comment.true))
      | else-ends_comment w ↦ w.last_end-is ∙ sym (ap (λ t. if t then length text - at else c.loop-at.last_end) (test ∙ w.if-ends_comment.false))
    ] in
    subst (λ n. ends.RightSoFar n c.is_line_end-begins.result (at + 1) text) (sym left)
    (subst (λ b. ends.RightSoFar (if spec.ends_comment c.loop-at.begins (drop at text) then length text - at else c.loop-at.last_end) b (at + 1) text) (sym is)
    (ends.step c.loop-at.last_end at (slice_index text at) c.loop-at.begins text within (drop_more text at 0 within) c.loop-at.invariant))
