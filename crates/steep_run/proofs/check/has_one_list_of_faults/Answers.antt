use Rattle.steep_run.proofs.ProjectLemmas.{one_list}
use Rattle.steep_run.proofs.check.has_one_list_of_faults.Goals as goal

pub returns : goal.returns
returns c = one_list
