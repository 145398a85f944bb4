use Rattle.std.proofs.Common.{◌∙◌, ap, get_or}
use Rattle.sig_rules.specs.Worlds.{by_name}
use Rattle.method_steps.proofs.StepLemmas.{all_gathered, behind_first}
use Rattle.method_steps.proofs.step_methods.methods_from.Goals as goal

pub returns-in_ok-groups-in-len1-up : goal.returns-in_ok-groups-in-len1-up
returns-in_ok-groups-in-len1-up g c = λ step rest is.
    all_gathered (g.M.Making.made c.args.making.now) c.get.result.now _ c.args.steps.now (by_name c.args.behind) c.args.given c.in_ok-living-in-len1-up.field-0 c.in_ok-groups-in-len1-up.groups c.gather.result
    c.in_ok-living-in-len1-up.ensures c.in_ok-groups-in-len1-up.ensures.few c.in_ok-groups-in-len1-up.ensures.groups c.gather.ensures step rest
    (c.get.ensures ∙ c.step-item.is ∙ ap (λ steps. get_or steps 0 c.step-item.result) is) (behind_first c.args.steps.now rest step is) is
