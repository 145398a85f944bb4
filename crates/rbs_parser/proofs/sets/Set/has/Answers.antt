use Rattle.rbs_parser.proofs.KindNumbers.{is_one}
use Rattle.rbs_parser.proofs.sets.Set.has.Goals as goal

pub returns-in-One : goal.returns-in-One
returns-in-One c = is_one _ _ _ _ c.in-One.is c.eq.ensures
