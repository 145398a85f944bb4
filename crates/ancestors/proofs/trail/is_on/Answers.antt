use Rattle.std.proofs.Common.{◌∙◌, ap}
use Rattle.std.specs.List.{list_any}
use Rattle.ancestors.specs.Walks.{is_visit}
use Rattle.ancestors.proofs.TrailLemmas.{is_on_reversed}
use Rattle.ancestors.proofs.trail.is_on.Goals as goal

pub returns : goal.returns
returns c =
    c.is_among.ensures ∙ ap (list_any (is_visit c.args.name.now.path c.args.kind)) c.bottom_up.ensures
    ∙ is_on_reversed c.args.trail.now c.args.name.now.path c.args.kind
