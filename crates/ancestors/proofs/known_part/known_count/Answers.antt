use Rattle.std.proofs.Common.{◌∙◌, refl}
use Rattle.ancestors.proofs.KnownLemmas.{end_count}
use Rattle.ancestors.proofs.known_part.known_count.Goals as goal

pub returns-then-has_own_params : goal.returns-then-has_own_params
returns-then-has_own_params g c =
    c.len.ensures ∙ end_count (g.N.Names.all c.args.names.now) (g.K.Known.lines c.args.known.now) c.args.class.now c.in-Some.line.now c.requires.known c.in-Some.ensures (c.if-has_own_params.ensures refl)
