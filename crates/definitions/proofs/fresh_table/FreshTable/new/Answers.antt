use Rattle.std.proofs.Common.{◌≤◌, sym, subst}
use Rattle.std.proofs.lemmas.Result.{IfOk-weaker, IfErr-weaker}
use Rattle.sig_rules.specs.Counts.{IsLimitFault}
use Rattle.sig_rules.specs.Limits.{most_names, names_count}
use Rattle.definitions.specs.Project.{IsProject}
use Rattle.definitions.proofs.ProjectLemmas.{only_project}
use Rattle.definitions.proofs.fresh_table.FreshTable.new.Goals as goal

pub returns-clause-project : goal.returns-clause-project
returns-clause-project c = IfOk-weaker c.of.result _ _ (λ all same. subst (IsProject c.args.files.now) (sym same) c.in_ok-named.ensures.project) c.of.ensures.all

pub returns-clause-few_names : goal.returns-clause-few_names
returns-clause-few_names c = IfOk-weaker c.of.result _ _ (λ all same. subst (λ ds. names_count ds ≤ most_names) (sym same) c.in_ok-named.ensures.few) c.of.ensures.all

pub returns-clause-fault : goal.returns-clause-fault
returns-clause-fault c =
    IfErr-weaker c.of.result _ _ (λ fault is all project.
    subst (λ ds. IsLimitFault ds fault) (only_project c.args.files.now _ all c.in_ok-named.ensures.project project) is)
    c.of.ensures.fault
