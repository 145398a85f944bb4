use Rattle.std.proofs.Common.{codes}
use Rattle.steep_run.proofs.ProjectLemmas.{same_root}
use Rattle.steep_run.proofs.check.run.Goals as goal

pub returns-clause-report : goal.returns-clause-report
returns-clause-report g c = same_root _ c.in-Ok.root (codes ".") _ _ _ c.in-Ok.ensures c.run_check.ensures.report
