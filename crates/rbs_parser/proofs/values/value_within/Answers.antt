use Rattle.std.proofs.Common.{◌<◌, subst, sym}
use Rattle.std.specs.Prelude.{◌≡◌, MatchOption}
use Rattle.rbs_lexer.specs.Numbers.{value_from}
use Rattle.rbs_parser.proofs.Digits.{passed}
use Rattle.rbs_parser.proofs.values.value_within.Goals as goal

pub returns-in_err-value-clause-number : goal.returns-in_err-value-clause-number
returns-in_err-value-clause-number c =
    let e = passed c.args.limit c.loop-byte.value c.args.digits.now c.loop-byte.byte-index c.loop-byte-test.true c.loop-byte.invariant c.in_err-value.ensures in
    subst (λ r. MatchOption r (c.args.limit < value_from 0 c.args.digits.now) (λ value. value ≡ value_from 0 c.args.digits.now)) (sym c.from_residual.ensures) e
