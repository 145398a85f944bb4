use Rattle.rbs_lexer.proofs.Lexings as law
use Rattle.rbs_lexer.proofs.laws.one_lexing.Goals as goal

pub returns : goal.returns
returns c = law.one_lexing
