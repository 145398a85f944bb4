use Rattle.std.proofs.Common.{◌≡◌, map, take}
use Rattle.sig_rules.specs.Declarations.{found_member, own_members}
use Rattle.sig_rules.proofs.own.copy_own_members.Given as goal

abbrev pub invariant-loop-member : goal.invariant-loop-member
invariant-loop-member l = l.own ≡ own_members (map found_member (take l.member-index l.members))
