use Rattle.std.proofs.Common.{◌∙◌, ap}
use Rattle.std.proofs.lemmas.Result.{IfOk-weaker}
use Rattle.sig_rules.specs.Sorted.{paths_of}
use Rattle.sig_rules.proofs.NameLemmas.{paths_of-full}
use Rattle.definitions.proofs.name_list.each_once.Goals as goal

pub returns : goal.returns
returns c = IfOk-weaker c.last_to_first.result _ _ (λ list is. ap paths_of is ∙ paths_of-full _ ∙ c.in_ok-seen_backwards.ensures) c.last_to_first.ensures
