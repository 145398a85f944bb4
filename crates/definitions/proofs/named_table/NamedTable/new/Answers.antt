use Rattle.std.proofs.Common.{◌∙◌, refl, subst}
use Rattle.std.proofs.lemmas.Result.{IfOk-weaker, IfErr-weaker}
use Rattle.sig_rules.specs.Counts.{IsLimitFault}
use Rattle.definitions.proofs.ProjectLemmas.{is_project, only_project}
use Rattle.definitions.proofs.named_table.NamedTable.new.Goals as goal

pub returns-clause-project : goal.returns-clause-project
returns-clause-project c =
    IfOk-weaker c.of.result _ _ (λ all same. is_project c.args.files.now _ _ all c.in_ok-core_tree.ensures c.in_ok-all.ensures same) c.of.ensures.all

pub returns-clause-fault : goal.returns-clause-fault
returns-clause-fault c =
    IfErr-weaker c.of.result _ _ (λ fault is all project.
    subst (λ ds. IsLimitFault ds fault) (only_project c.args.files.now _ all (is_project c.args.files.now _ _ _ c.in_ok-core_tree.ensures c.in_ok-all.ensures refl) project) is)
    c.of.ensures.fault
