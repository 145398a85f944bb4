use Rattle.std.proofs.Common.{ap, ◌∙◌}
use Rattle.ruby_grammar.specs.Steps.{room_of_both}
use Rattle.ruby_grammar.proofs.Reading.{no_memory}
use Rattle.ruby_grammar.proofs.Trails.{goes_counted}
use Rattle.ruby_grammar.proofs.trail.Trail.counted.Goals as goal

pub returns-in-Some-clause-goes : goal.returns-in-Some-clause-goes
returns-in-Some-clause-goes c = λ r ts lists more begun. goes_counted c.args.budget c.args.before _ r ts lists more begun c.args.self.now c.args.outcome (c.room_of_both-self.ensures ∙ ap (room_of_both c.args.before) c.in-Some.ensures)

pub returns-in-None-clause-goes : goal.returns-in-None-clause-goes
returns-in-None-clause-goes c = λ r ts lists more begun goes is. no_memory _ ts lists more begun _
