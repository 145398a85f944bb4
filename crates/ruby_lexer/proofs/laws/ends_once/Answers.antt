use Rattle.ruby_lexer.proofs.Ends as law
use Rattle.ruby_lexer.proofs.laws.ends_once.Goals as goal

pub returns : goal.returns
returns c = law.ends_once
