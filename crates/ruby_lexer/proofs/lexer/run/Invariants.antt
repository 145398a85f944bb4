use Rattle.ruby_lexer.proofs.Runs as runs
use Rattle.ruby_lexer.proofs.lexer.run.Given as goal

abbrev pub invariant-steps : goal.invariant-steps
invariant-steps l = runs.Awaits l.text l.machine

abbrev pub decreases-steps : goal.decreases-steps
decreases-steps l = runs.steps_left l.text l.machine
