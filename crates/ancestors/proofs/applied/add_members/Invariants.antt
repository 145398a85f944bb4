use Rattle.std.proofs.Common.{◌≡◌, ◌++◌, take}
use Rattle.std.specs.List.{flat_map}
use Rattle.ancestors.specs.References.{applied_refs, refs_in}
use Rattle.ancestors.proofs.applied.add_members.Given as goal

abbrev pub invariant-loop-member : goal.invariant-loop-member
invariant-loop-member g l = l.all ≡ l.fn.all ++ applied_refs (g.N.Names.all l.names) l.role l.scope (flat_map (refs_in l.role) (take l.member-index l.members))
