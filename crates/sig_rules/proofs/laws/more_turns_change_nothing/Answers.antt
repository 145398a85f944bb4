use Rattle.sig_rules.proofs.TurnLemmas as law
use Rattle.sig_rules.proofs.laws.more_turns_change_nothing.Goals as goal

pub returns-clause-instances : goal.returns-clause-instances
returns-clause-instances c = law.same_instances

pub returns-clause-singletons : goal.returns-clause-singletons
returns-clause-singletons c = law.same_singletons
