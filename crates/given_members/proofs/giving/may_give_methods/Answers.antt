use Rattle.std.proofs.Common.{rules, arith, ◌≡◌, ◌∙◌, List, [], false, map, sym, ap}
use Rattle.rbs_tree.specs.declared.decls.Member.{Member}
use Rattle.sig_rules.specs.declared.files.Declared.{Declared}
use Rattle.sig_rules.specs.declared.given.GivenMethod.{GivenMethod}
use Rattle.sig_rules.specs.declared.method.Visibility.TheVariants.{Public}
use Rattle.sig_rules.specs.Given.{given_methods_in}
use Rattle.sig_rules.specs.Lines.{members}
use Rattle.given_members.specs.Meanings.{method_in, scope_of, with_methods}
use Rattle.given_members.proofs.GivenLemmas.{methods_of_entries}
use Rattle.given_members.proofs.GivingLemmas.{none_next}
use Rattle.given_members.proofs.giving.may_give_methods.Goals as goal

-- a declaration that gives none
pub loop-declared-preserved : goal.loop-declared-preserved
loop-declared-preserved g c = λ args.
    let none : c.has_method.result ≡ false = search rules in
    let nothing : given_methods_in c.args.kind Public (members c.declared-item.result.decl) ≡ [] = ap (λ (ms : List Member). given_methods_in c.args.kind Public ms) (sym c.members.ensures) ∙ c.has_method.ensures none Public in
    none_next (λ (d : Declared). map (with_methods (method_in (scope_of (g.N.Names.all c.args.names.now) (record { name = c.args.name.now; args = args }) d))) (given_methods_in c.args.kind Public (members d.decl))) c.entries-declared-items.result.now c.loop-declared.declared-index c.declared-item.result c.loop-declared-test.true c.declared-item.is (c.loop-declared.invariant args)
    (ap (λ (gs : List GivenMethod). map (with_methods (method_in (scope_of (g.N.Names.all c.args.names.now) (record { name = c.args.name.now; args = args }) c.declared-item.result))) gs) nothing)

-- all declarations were looked at
pub returns : goal.returns
returns g c = λ _ args.
    sym (methods_of_entries (g.N.Names.all c.args.names.now) (record { name = c.args.name.now; args = args }) c.args.kind c.loop-declared.declared-index c.entries-declared-items.ensures (omega (arith, c.loop-declared-test.false)) (c.loop-declared.invariant args))
