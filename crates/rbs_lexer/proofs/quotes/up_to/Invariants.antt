use Rattle.std.proofs.Common.{◌≡◌, drop}
use Rattle.rbs_lexer.specs.Finds as spec
use Rattle.rbs_lexer.proofs.quotes.up_to.Given as goal

abbrev pub invariant-loop-at : goal.invariant-loop-at
invariant-loop-at l = spec.longer_by l.at (spec.up_to l.close (drop l.at l.text)) ≡ spec.up_to l.close l.text
