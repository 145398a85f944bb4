use Rattle.std.proofs.Common.{◌∙◌, sym, ap, refl}
use Rattle.ancestors.specs.Known.{uncut}
use Rattle.ancestors.proofs.KnownLemmas.{of_instances}
use Rattle.ancestors.proofs.known_part.known_instances.Goals as goal

pub returns-then-has_own_params : goal.returns-then-has_own_params
returns-then-has_own_params g c =
    of_instances (g.N.Names.all c.args.names.now) (g.K.Known.lines c.args.known.now) c.args.applied.now c.in-Some.line.now c.requires c.in-Some.ensures c.if-not-line.true (c.if-has_own_params.ensures refl)
    ∙ ap uncut (sym c.as_slice.ensures)
