use Rattle.steep_run.proofs.ProjectLemmas.{read_both}
use Rattle.steep_run.proofs.project.read_project.Goals as goal

pub returns-clause-project : goal.returns-clause-project
returns-clause-project g c = read_both _ _ c.args.root.now c.in_ok-signature.signature c.in_ok-ruby.ruby c.in_ok-signature.ensures.same c.in_ok-signature.ensures.text c.in_ok-ruby.ensures.text
