use Rattle.rbs_grammar.proofs.Parses as law
use Rattle.rbs_grammar.proofs.laws.every_list_is_spelled_or_refused.Goals as goal

pub returns : goal.returns
returns c = law.spelled_or_refused
