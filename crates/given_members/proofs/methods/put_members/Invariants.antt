use Rattle.std.proofs.Common.{◌≡◌, ◌++◌, length, map}
use Rattle.sig_rules.specs.declared.method.Visibility.TheVariants.{Public}
use Rattle.sig_rules.specs.Given.{given_methods_in}
use Rattle.given_members.specs.Meanings.{method_in, with_methods}
use Rattle.given_members.proofs.methods.put_members.Given as goal

abbrev pub invariant-loop-rest : goal.invariant-loop-rest
invariant-loop-rest g l =
    l.methods ++ map (with_methods (method_in l.scope)) (given_methods_in l.kind l.section l.rest) ≡ l.fn.methods ++ map (with_methods (method_in l.scope)) (given_methods_in l.kind Public l.members)

abbrev pub decreases-loop-rest : goal.decreases-loop-rest
decreases-loop-rest g l = length l.rest
