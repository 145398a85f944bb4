use Rattle.std.proofs.Common.{◌≡◌, map, take}
use Rattle.sig_rules.specs.Types.{meant}
use Rattle.ancestors.proofs.applied.all_meant.Given as goal

abbrev pub invariant-loop-ty : goal.invariant-loop-ty
invariant-loop-ty g l = l.all ≡ map (meant (g.N.Names.all l.names) l.scope.context l.scope.params) (take l.ty-index l.tys)
