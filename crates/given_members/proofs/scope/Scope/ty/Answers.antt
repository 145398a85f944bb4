use Rattle.std.proofs.Common.{◌≡◌, subst, sym}
use Rattle.given_members.specs.Meanings.{Scope, meant_in, ty_in}
use Rattle.given_members.proofs.VariableLemmas.{one_by_steps, ty_of_steps}
use Rattle.given_members.proofs.scope.Scope.ty.Goals as goal

pub only-requires : goal.only-requires
only-requires g c = one_by_steps _ _ c.in_ok-meant.field-0 c.in_ok-tys.tys c.in_ok-by_first.by_first c.in_ok-by_args.by_args c.in_ok-tys.ensures c.in_ok-by_first.ensures c.in_ok-by_args.ensures

pub returns : goal.returns
returns g c =
    let s = c.self.inside in
    let view : Scope = record { all = g.N.Names.all s.names.now; context = s.context; own = s.own; first = s.parameters.now.names; itself = s.parameters.now.types; args = s.args.now } in
    subst (λ z. c.only.result ≡ ty_in z c.args.ty.now) c.self.view_is
    (ty_of_steps view c.args.ty.now c.in_ok-meant.field-0 c.in_ok-tys.tys c.in_ok-by_first.by_first c.in_ok-by_args.by_args c.only.result
    (subst (λ z. c.in_ok-meant.field-0 ≡ meant_in z c.args.ty.now) (sym c.self.view_is) c.in_ok-meant.ensures) c.in_ok-tys.ensures c.in_ok-by_first.ensures c.in_ok-by_args.ensures c.only.ensures)
