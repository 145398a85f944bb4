use Rattle.std.proofs.Common.{sym, ap, ◌∙◌}
use Rattle.sig_rules.specs.Methods.{is_some}
use Rattle.method_steps.proofs.MadeLemmas.{first_made-none}
use Rattle.method_steps.proofs.site.makes.Goals as goal

pub returns-else-is_new : goal.returns-else-is_new
returns-else-is_new g c =
    let other = sym c.is_new.ensures ∙ c.if-is_new.false in
    c.if-is_new.false ∙ sym (ap is_some (first_made-none (g.M.Making.made c.args.making.now) c.args.steps.now c.args.name.now c.only_new.ensures other))
