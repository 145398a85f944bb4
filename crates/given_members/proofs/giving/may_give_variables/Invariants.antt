use Rattle.std.proofs.Common.{◌≡◌, List, [], map, take}
use Rattle.std.specs.List.{flat_map}
use Rattle.rbs_tree.specs.declared.types.Ty.{Ty}
use Rattle.sig_rules.specs.declared.files.Declared.{Declared}
use Rattle.sig_rules.specs.Given.{given_variables_of}
use Rattle.sig_rules.specs.Lines.{members}
use Rattle.given_members.specs.Meanings.{scope_of, ty_in, with_type}
use Rattle.given_members.proofs.giving.may_give_variables.Given as goal

abbrev pub invariant-loop-declared : goal.invariant-loop-declared
invariant-loop-declared g l = (args : List Ty) →
    [] ≡ flat_map (λ (d : Declared). map (with_type (ty_in (scope_of (g.N.Names.all l.names) (record { name = l.name; args = args }) d))) (flat_map (given_variables_of l.kind) (members d.decl))) (take l.declared-index l.declared-items)
