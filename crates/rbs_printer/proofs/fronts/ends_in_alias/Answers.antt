use Rattle.std.proofs.Common.{◌∙◌, ap}
use Rattle.std.specs.Prelude.{codes, bytes_eq}
use Rattle.rbs_printer.proofs.Aliases.{last_is_alias}
use Rattle.rbs_printer.proofs.fronts.ends_in_alias.Goals as goal

pub returns-in-len1-up : goal.returns-in-len1-up
returns-in-len1-up c = c.eq.ensures ∙ ap (λ w. bytes_eq w (codes "alias")) c.as_str.ensures
    ∙ last_is_alias c.args.words.now c.last-item.result c.in-len1-up.len_at_least c.last-item.is
