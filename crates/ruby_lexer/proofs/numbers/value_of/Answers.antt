use Rattle.std.proofs.Common.{◌^◌}
use Rattle.ruby_lexer.proofs.Values.{past_limit}
use Rattle.ruby_lexer.proofs.numbers.value_of.Goals as goal

-- a digit with which the number is too large
pub returns-in_default : goal.returns-in_default
returns-in_default c = past_limit c.args.base (2 ^ 127) c.loop-byte.value c.args.digits.now c.loop-byte.byte-index c.loop-byte-test.true c.loop-byte.invariant c.in_default.ensures
