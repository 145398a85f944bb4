use Rattle.std.proofs.Common.{◌≡◌, List, [], map, subst, arith}
use Rattle.std.specs.List.{flat_map}
use Rattle.std.proofs.lemmas.List.{take_all}
use Rattle.rbs_tree.specs.declared.decls.Member.{Member}
use Rattle.sig_rules.specs.Declarations.{FoundMember, found_member}
use Rattle.sig_rules.proofs.walk.has_nested.Goals as goal

-- all members were looked at
pub returns : goal.returns
returns c = λ none path context.
    let nothing = λ (members : List Member). flat_map (λ (m : FoundMember). m.all path context) (map found_member members) ≡ [] in
    subst nothing (take_all c.loop-member.member-index c.args.members.now (omega (arith, c.loop-member-test.false))) (c.loop-member.invariant path context)
