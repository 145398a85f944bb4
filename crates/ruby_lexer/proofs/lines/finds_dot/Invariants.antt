use Rattle.std.proofs.Common.{◌≡◌, length}
use Rattle.ruby_lexer.specs.CommentEnds.{EndsBefore}
use Rattle.ruby_lexer.specs.Lines as spec
use Rattle.ruby_lexer.specs.declared.lines.Look.TheVariants as look
use Rattle.ruby_lexer.proofs.lines.finds_dot.Given as goal

abbrev pub invariant-loop-rest : goal.invariant-loop-rest
invariant-loop-rest l = (spec.finds_dot 0 l.look l.rest ≡ spec.finds_dot 0 look.AtLine l.text) × EndsBefore l.last_end l.rest

abbrev pub decreases-loop-rest : goal.decreases-loop-rest
decreases-loop-rest l = length l.rest
