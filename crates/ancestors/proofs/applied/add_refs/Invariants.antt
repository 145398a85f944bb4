use Rattle.std.proofs.Common.{◌≡◌, ◌++◌, take}
use Rattle.ancestors.specs.References.{applied_refs}
use Rattle.ancestors.proofs.applied.add_refs.Given as goal

abbrev pub invariant-loop-target : goal.invariant-loop-target
invariant-loop-target g l = l.all ≡ l.fn.all ++ applied_refs (g.N.Names.all l.names) l.role l.scope (take l.target-index l.refs)
