use Rattle.std.proofs.Common.{IfOk, ◌≡◌, subst}
use Rattle.given_members.specs.Meanings.{Scope, meant_in}
use Rattle.given_members.proofs.ScopeLemmas.{meant_of_steps}
use Rattle.given_members.proofs.scope.Scope.meant.Goals as goal

pub returns : goal.returns
returns g c =
    let s = c.self.inside in
    let view : Scope = record { all = g.N.Names.all s.names.now; context = s.context; own = s.own; first = s.parameters.now.names; itself = s.parameters.now.types; args = s.args.now } in
    subst (λ z. IfOk c.meant.result (λ t. t ≡ meant_in z c.args.ty.now)) c.self.view_is
    (meant_of_steps view c.args.ty.now c.meant.result c.as_slice-context.ensures c.as_slice.ensures c.meant.ensures)
