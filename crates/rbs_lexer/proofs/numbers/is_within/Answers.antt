use Rattle.rbs_lexer.proofs.Values.{past_limit}
use Rattle.rbs_lexer.proofs.numbers.is_within.Goals as goal

pub returns-in_default : goal.returns-in_default
returns-in_default c = past_limit c.args.limit c.loop-byte.value c.args.digits.now c.loop-byte.byte-index c.loop-byte-test.true c.loop-byte.invariant c.in_default.ensures
