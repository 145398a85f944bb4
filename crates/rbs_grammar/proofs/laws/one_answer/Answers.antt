use Rattle.rbs_grammar.proofs.Texts as law
use Rattle.rbs_grammar.proofs.laws.one_answer.Goals as goal

pub returns : goal.returns
returns c = law.only_answer
