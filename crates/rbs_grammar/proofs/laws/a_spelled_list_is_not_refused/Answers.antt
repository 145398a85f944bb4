use Rattle.rbs_grammar.proofs.Parses as law
use Rattle.rbs_grammar.proofs.laws.a_spelled_list_is_not_refused.Goals as goal

pub returns-clause-syntax : goal.returns-clause-syntax
returns-clause-syntax c = law.spelled_no_syntax_fault

pub returns-clause-deep : goal.returns-clause-deep
returns-clause-deep c = law.spelled_not_deep
