use Rattle.std.proofs.Common.{◌≡◌, ◌++◌, map, take}
use Rattle.std.specs.List.{flat_map}
use Rattle.sig_rules.specs.Given.{given_variables_of}
use Rattle.given_members.specs.Meanings.{ty_in, with_type}
use Rattle.given_members.proofs.variables.put_members.Given as goal

abbrev pub invariant-loop-member : goal.invariant-loop-member
invariant-loop-member g l =
    l.variables ≡ l.fn.variables ++ map (with_type (ty_in l.scope)) (flat_map (given_variables_of l.kind) (take l.member-index l.members))
