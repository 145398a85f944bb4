use Rattle.std.proofs.Common.{rules, arith, ◌≡◌, ◌∙◌, List, [], false, map, sym, ap}
use Rattle.rbs_tree.specs.declared.decls.Member.{Member}
use Rattle.sig_rules.specs.declared.files.Declared.{Declared}
use Rattle.sig_rules.specs.declared.given.GivenVariable.{GivenVariable}
use Rattle.std.specs.List.{flat_map}
use Rattle.sig_rules.specs.Given.{given_variables_of}
use Rattle.sig_rules.specs.Lines.{members}
use Rattle.given_members.specs.Meanings.{scope_of, ty_in, with_type}
use Rattle.given_members.proofs.GivenLemmas.{variables_of_entries}
use Rattle.given_members.proofs.GivingLemmas.{none_next}
use Rattle.given_members.proofs.giving.may_give_variables.Goals as goal

-- a declaration that gives none
pub loop-declared-preserved : goal.loop-declared-preserved
loop-declared-preserved g c = λ args.
    let none : c.has_variable.result ≡ false = search rules in
    let nothing : flat_map (given_variables_of c.args.kind) (members c.declared-item.result.decl) ≡ [] = ap (λ (ms : List Member). flat_map (given_variables_of c.args.kind) ms) (sym c.members.ensures) ∙ c.has_variable.ensures none in
    none_next (λ (d : Declared). map (with_type (ty_in (scope_of (g.N.Names.all c.args.names.now) (record { name = c.args.name.now; args = args }) d))) (flat_map (given_variables_of c.args.kind) (members d.decl))) c.entries-declared-items.result.now c.loop-declared.declared-index c.declared-item.result c.loop-declared-test.true c.declared-item.is (c.loop-declared.invariant args)
    (ap (λ (gs : List GivenVariable). map (with_type (ty_in (scope_of (g.N.Names.all c.args.names.now) (record { name = c.args.name.now; args = args }) c.declared-item.result))) gs) nothing)

-- all declarations were looked at
pub returns : goal.returns
returns g c = λ _ args.
    sym (variables_of_entries (g.N.Names.all c.args.names.now) (record { name = c.args.name.now; args = args }) c.args.kind c.loop-declared.declared-index c.entries-declared-items.ensures (omega (arith, c.loop-declared-test.false)) (c.loop-declared.invariant args))
