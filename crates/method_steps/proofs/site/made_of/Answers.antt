use Rattle.std.proofs.Common.{sym, ◌∙◌}
use Rattle.method_steps.proofs.MadeLemmas.{first_made-none}
use Rattle.method_steps.proofs.site.made_of.Goals as goal

pub returns-else-is_new : goal.returns-else-is_new
returns-else-is_new g c = sym (first_made-none (g.M.Making.made c.args.making.now) c.args.steps.now c.args.name.now c.only_new.ensures (sym c.is_new.ensures ∙ c.if-is_new.false))
