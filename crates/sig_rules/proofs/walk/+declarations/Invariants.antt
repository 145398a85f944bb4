use Rattle.std.proofs.Common.{◌≡◌, ◌++◌, map, take}
use Rattle.std.specs.List.{flat_map}
use Rattle.sig_rules.specs.Declarations.{FoundMember, found_member}
use Rattle.sig_rules.proofs.walk.+declarations.Given as goal

abbrev pub invariant-declare_members-loop-member : goal.invariant-declare_members-loop-member
invariant-declare_members-loop-member l =
    l.all ≡ l.fn.all ++ flat_map (λ (m : FoundMember). m.all l.path l.context) (map found_member (take l.member-index l.members))
