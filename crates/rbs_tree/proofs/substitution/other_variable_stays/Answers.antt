use Rattle.std.proofs.Common.{◌∙◌}
use Rattle.rbs_tree.proofs.VariableLemmas.{chosen-none, subst-var}
use Rattle.rbs_tree.proofs.substitution.other_variable_stays.Goals as goal

pub returns : goal.returns
returns c =
    subst-var c.args.vars.now c.args.by.now c.args.name.now
    ∙ chosen-none c.args.vars.now c.args.by.now c.args.name.now c.requires
