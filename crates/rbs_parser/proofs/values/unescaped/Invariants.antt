use Rattle.std.proofs.Common.{◌≡◌, ◌++◌, length}
use Rattle.rbs_grammar.specs.Values as spec
use Rattle.rbs_parser.proofs.values.unescaped.Given as goal

abbrev pub invariant-loop-rest : goal.invariant-loop-rest
invariant-loop-rest l = l.value.items ++ spec.unescaped l.quote l.rest ≡ spec.unescaped l.quote l.bytes

abbrev pub decreases-loop-rest : goal.decreases-loop-rest
decreases-loop-rest l = length l.rest
