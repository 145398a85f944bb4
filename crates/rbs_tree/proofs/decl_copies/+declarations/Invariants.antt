use Rattle.std.proofs.Common.{◌≡◌, take}
use Rattle.rbs_tree.proofs.decl_copies.+declarations.Given as goal

abbrev pub invariant-copy_members-loop-member : goal.invariant-copy_members-loop-member
invariant-copy_members-loop-member l = l.copy ≡ take l.member-index l.members
