use Rattle.std.proofs.Common.{◌∙◌, sym, ap, refl}
use Rattle.std.proofs.lemmas.Result.{IfOk-weaker}
use Rattle.sig_rules.specs.Types.{sort}
use Rattle.definitions.specs.Tables.{has_lines}
use Rattle.definitions.proofs.TableLemmas.{lines_other, lines_some}
use Rattle.definitions.proofs.lined_table.lines_at.Goals as goal

pub returns-then-has_lines : goal.returns-then-has_lines
returns-then-has_lines g c =
    let all = g.N.Names.all c.args.names.now in
    let path = c.args.name.now.path in
    IfOk-weaker c.both_lines.result _ _ (λ lines are. lines_some all path lines (sort all path) refl (ap has_lines (sym c.sort.ensures) ∙ sym c.has_lines.ensures ∙ c.if-has_lines.true) are) c.both_lines.ensures

pub returns-else-has_lines : goal.returns-else-has_lines
returns-else-has_lines g c =
    let all = g.N.Names.all c.args.names.now in
    let path = c.args.name.now.path in
    lines_other all path (sort all path) refl (ap has_lines (sym c.sort.ensures) ∙ sym c.has_lines.ensures ∙ c.if-has_lines.false)
