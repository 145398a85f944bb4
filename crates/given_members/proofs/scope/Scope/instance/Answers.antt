use Rattle.std.proofs.Common.{IfOk, ◌≡◌, subst}
use Rattle.given_members.specs.Meanings.{Scope, instance_in}
use Rattle.given_members.proofs.ScopeLemmas.{instance_of_steps}
use Rattle.given_members.proofs.scope.Scope.instance.Goals as goal

pub returns : goal.returns
returns g c =
    let s = c.self.inside in
    let view : Scope = record { all = g.N.Names.all s.names.now; context = s.context; own = s.own; first = s.parameters.now.names; itself = s.parameters.now.types; args = s.args.now } in
    subst (λ z. IfOk c.instance-2.result (λ m. m ≡ instance_in z c.args.method)) c.self.view_is
    (instance_of_steps view c.args.method c.instance-2.result c.in_ok-by_first.ensures c.instance-2.ensures)
