use Rattle.std.proofs.Common.{rules, ◌≡◌, [], ◌∷◌, Some}
use Rattle.given_members.specs.Meanings.{meant_in}
use Rattle.given_members.proofs.AttributeLemmas.{writer_of_steps}
use Rattle.given_members.proofs.attributes.writer_overload.Goals as goal

pub returns : goal.returns
returns g c =
    let scope = c.args.scope.now in
    let required : c.in_ok-required.required ≡ record { ty = meant_in scope c.args.ty.now; name = Some c.args.name.now } ∷ [] = search rules in
    let meant : c.in_ok-required.ty ≡ meant_in scope c.args.ty.now = search rules in
    writer_of_steps scope c.args.name.now c.args.ty.now c.instance.result required meant c.simple.ensures c.instance.ensures
