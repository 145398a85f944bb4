use Rattle.given_members.proofs.AttributeLemmas.{reader_of_steps}
use Rattle.given_members.proofs.attributes.reader_overload.Goals as goal

pub returns : goal.returns
returns g c = reader_of_steps c.args.scope.now c.args.ty.now c.instance.result c.new.ensures c.in_ok-ty.ensures c.simple.ensures c.instance.ensures
