use Rattle.std.proofs.Common.{◌≡◌, ◌≤◌, ◌-◌, length}
use Rattle.ruby_grammar.specs.Firsts as spec
use Rattle.ruby_grammar.proofs.firsts.firsts.Given as goal

abbrev pub invariant-rules : goal.invariant-rules
invariant-rules l = record {
  made : l.all ≡ spec.firsts l.rules l.number;
  within : l.number ≤ length l.rules;
}

abbrev pub decreases-rules : goal.decreases-rules
decreases-rules l = length l.rules - l.number
