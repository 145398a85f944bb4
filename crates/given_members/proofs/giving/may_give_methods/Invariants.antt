use Rattle.std.proofs.Common.{◌≡◌, List, [], map, take}
use Rattle.std.specs.List.{flat_map}
use Rattle.rbs_tree.specs.declared.types.Ty.{Ty}
use Rattle.sig_rules.specs.declared.files.Declared.{Declared}
use Rattle.sig_rules.specs.declared.method.Visibility.TheVariants.{Public}
use Rattle.sig_rules.specs.Given.{given_methods_in}
use Rattle.sig_rules.specs.Lines.{members}
use Rattle.given_members.specs.Meanings.{method_in, scope_of, with_methods}
use Rattle.given_members.proofs.giving.may_give_methods.Given as goal

abbrev pub invariant-loop-declared : goal.invariant-loop-declared
invariant-loop-declared g l = (args : List Ty) →
    [] ≡ flat_map (λ (d : Declared). map (with_methods (method_in (scope_of (g.N.Names.all l.names) (record { name = l.name; args = args }) d))) (given_methods_in l.kind Public (members d.decl))) (take l.declared-index l.declared-items)
