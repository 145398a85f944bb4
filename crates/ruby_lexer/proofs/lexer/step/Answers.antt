use Rattle.ruby_lexer.proofs.CommentEnds as ends
use Rattle.ruby_lexer.proofs.lexer.step.Goals as goal

-- the rest of the text
pub code_step-requires-clause-ends_here : goal.code_step-requires-clause-ends_here
code_step-requires-clause-ends_here c = ends.ends_in c.args.last_end c.args.machine.now.state.place c.args.text.now c.behind-rest.result.now c.behind-rest.ensures c.requires.ends
