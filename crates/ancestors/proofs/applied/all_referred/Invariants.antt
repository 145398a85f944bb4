use Rattle.std.proofs.Common.{◌≡◌, take}
use Rattle.std.specs.List.{flat_map}
use Rattle.ancestors.specs.References.{of_declaration}
use Rattle.ancestors.proofs.applied.all_referred.Given as goal

abbrev pub invariant-loop-declared : goal.invariant-loop-declared
invariant-loop-declared g l = l.all ≡ flat_map (of_declaration (g.N.Names.all l.names) l.role l.applied l.first) (take l.declared-index l.declared-items)
