use Rattle.std.proofs.Common.{◌∙◌, sym, ap, refl}
use Rattle.sig_rules.specs.Types.{sort}
use Rattle.definitions.specs.Tables.{has_sides}
use Rattle.definitions.proofs.TableLemmas.{definitions_none}
use Rattle.definitions.proofs.definition_table.definitions_at.Goals as goal

pub returns-else-has_sides-clause-are : goal.returns-else-has_sides-clause-are
returns-else-has_sides-clause-are g c =
    let all = g.L.Names.all c.args.lines.now in
    let path = c.args.name.now.path in
    definitions_none all path (sort all path) refl (ap has_sides (sym c.sort.ensures) ∙ sym c.has_sides.ensures ∙ c.if-has_sides.false)
