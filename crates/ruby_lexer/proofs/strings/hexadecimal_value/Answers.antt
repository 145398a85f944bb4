use Rattle.ruby_lexer.proofs.Values.{past_character}
use Rattle.ruby_lexer.proofs.strings.hexadecimal_value.Goals as goal

-- a digit with which the number is too large
pub returns-in_default : goal.returns-in_default
returns-in_default c = past_character 0x10ffff c.loop-digit.value c.args.digits.now c.loop-digit.digit-index c.loop-digit-test.true c.loop-digit.invariant c.in_default.ensures
