use Rattle.std.proofs.Common.{rules, ◌≡◌, ◌<◌, ◌∙◌, sym, ap, length, drop}
use Rattle.ruby_lexer.specs.declared.lines.Ahead.TheVariants as ahead
use Rattle.ruby_lexer.specs.Lines as spec
use Rattle.ruby_lexer.proofs.CommentEnds.{ends_behind, ends_in}
use Rattle.ruby_lexer.proofs.Looks.{goes_on}
use Rattle.ruby_lexer.proofs.lines.finds_dot.Goals as goal

-- the look goes on
pub loop-rest-preserved : goal.loop-rest-preserved
loop-rest-preserved c =
    let some : 0 < length c.loop-rest.rest.now = search rules in
    let is : spec.look_here c.loop-rest.look c.loop-rest.rest.now ≡ ahead.Skips c.in-Skips.len c.in-Skips.next = search rules in
    let there : c.behind-rest.result.now ≡ drop c.in-Skips.len (drop 1 c.loop-rest.rest.now) = search rules in (
      ap (λ text. spec.finds_dot 0 c.in-Skips.next text) there ∙ sym (goes_on c.loop-rest.look c.in-Skips.next c.in-Skips.len c.loop-rest.rest.now some is) ∙ c.loop-rest.invariant.0,
      ends_in c.args.last_end c.in-Skips.len (drop 1 c.loop-rest.rest.now) c.behind-rest.result.now there (ends_behind c.args.last_end 1 c.loop-rest.rest.now c.loop-rest.invariant.1),
    )
