use Rattle.rbs_grammar.proofs.Parses as law
use Rattle.rbs_grammar.proofs.laws.one_tree.Goals as goal

pub returns : goal.returns
returns c = law.one_tree
