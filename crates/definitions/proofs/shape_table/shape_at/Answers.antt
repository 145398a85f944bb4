use Rattle.std.proofs.Common.{◌∙◌, sym, ap, refl}
use Rattle.sig_rules.specs.Types.{sort}
use Rattle.definitions.specs.Tables.{is_interface}
use Rattle.definitions.proofs.TableLemmas.{shape_none}
use Rattle.definitions.proofs.shape_table.shape_at.Goals as goal

pub returns-else-is_interface-clause-is : goal.returns-else-is_interface-clause-is
returns-else-is_interface-clause-is g c =
    let all = g.L.Names.all c.args.lines.now in
    let path = c.args.name.now.path in
    shape_none all path (sort all path) refl (ap is_interface (sym c.sort.ensures) ∙ sym c.is_interface.ensures ∙ c.if-is_interface.false)
