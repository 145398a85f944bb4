use Rattle.std.proofs.Common.{◌≡◌, drop, false}
use Rattle.rbs_lexer.specs.Finds as spec
use Rattle.rbs_lexer.proofs.quotes.closed_len.Given as goal

abbrev pub invariant-loop-at : goal.invariant-loop-at
invariant-loop-at l = spec.longer_by l.at (spec.closed_len l.quote l.escaped (drop l.at l.text)) ≡ spec.closed_len l.quote false l.text
