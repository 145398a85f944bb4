use Rattle.std.proofs.Common.{◌≡◌, ℕ, List, [], map, take}
use Rattle.std.specs.List.{flat_map}
use Rattle.rbs_tree.specs.declared.names.TypeName.{TypeName}
use Rattle.sig_rules.specs.Declarations.{FoundMember, found_member}
use Rattle.sig_rules.proofs.walk.has_nested.Given as goal

abbrev pub invariant-loop-member : goal.invariant-loop-member
invariant-loop-member l = (path : List ℕ) (context : List TypeName) → flat_map (λ (m : FoundMember). m.all path context) (map found_member (take l.member-index l.members)) ≡ []
