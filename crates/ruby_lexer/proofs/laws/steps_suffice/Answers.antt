use Rattle.ruby_lexer.proofs.Suffices as law
use Rattle.ruby_lexer.proofs.laws.steps_suffice.Goals as goal

pub returns : goal.returns
returns c = law.steps_suffice
