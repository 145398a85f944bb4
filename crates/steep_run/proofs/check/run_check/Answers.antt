use Rattle.steep_run.proofs.ProjectLemmas.{composed, same_root}
use Rattle.steep_run.proofs.check.run_check.Goals as goal

pub returns-in-Ok-clause-report : goal.returns-in-Ok-clause-report
returns-in-Ok-clause-report g c =
    same_root _ c.as_str.result.now c.args.plan.now.root _ _ _ c.as_str.ensures
    (composed _ c.as_str.result.now c.in-Ok.project _ _ _ c.in-Ok.ensures.project c.report_to.ensures.report)
