use Rattle.std.proofs.Common.{◌∙◌}
use Rattle.type_instances.proofs.ApartLemmas.{renamed-is}
use Rattle.type_instances.proofs.renaming.rename.Goals as goal

pub returns : goal.returns
returns c =
    renamed-is c.args.var.now c.args.name.now c.args.method.now c.in_ok-parts.parts c.put.new.place c.as_slice.result.now c.in_ok-vars.vars
    c.as_slice.ensures c.in_ok-vars.ensures c.in_ok-parts.ensures (c.put.ensures ∙ c.with_vars.ensures)
