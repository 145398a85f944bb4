use Rattle.std.proofs.Common.{IfOk, ◌≡◌, subst, sym}
use Rattle.given_members.specs.Meanings.{Scope, method_in, instance_in}
use Rattle.given_members.proofs.ScopeLemmas.{method_of_steps}
use Rattle.given_members.proofs.scope.Scope.method.Goals as goal

pub returns : goal.returns
returns g c =
    let s = c.self.inside in
    let view : Scope = record { all = g.N.Names.all s.names.now; context = s.context; own = s.own; first = s.parameters.now.names; itself = s.parameters.now.types; args = s.args.now } in
    subst (λ z. IfOk c.instance.result (λ m. m ≡ method_in z c.args.method.now)) c.self.view_is
    (method_of_steps view c.args.method.now c.instance.result c.as_slice-context.ensures c.as_slice-own.ensures c.in_ok-meant_method.ensures
    (subst (λ z. IfOk c.instance.result (λ m. m ≡ instance_in z c.in_ok-meant_method.field-0)) (sym c.self.view_is) c.instance.ensures))
