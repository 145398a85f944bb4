use Rattle.std.proofs.Common.{Some, sym, ap, ◌∙◌}
use Rattle.rbs_tree.proofs.VariableLemmas.{chosen-first, subst-var}
use Rattle.rbs_tree.proofs.substitution.variable_is_replaced.Goals as goal

pub returns : goal.returns
returns c =
    let name = c.args.name.now in
    let vars = c.args.vars.now in
    let by = c.args.by.now in
    chosen-first vars by name c.args.place c.requires.paired c.requires.first.here c.requires.first.before ∙ ap Some (sym (subst-var vars by name))
