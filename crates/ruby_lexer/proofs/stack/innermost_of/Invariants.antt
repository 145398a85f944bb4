use Rattle.std.proofs.Common.{◌≡◌, ◌≤◌, length, reverse}
use Rattle.ruby_lexer.specs.Machine as spec
use Rattle.ruby_lexer.proofs.stack.innermost_of.Given as goal

abbrev pub invariant-loop-rest : goal.invariant-loop-rest
invariant-loop-rest l = record {
  within : length l.rest ≤ length l.stack;
  found : spec.innermost (reverse l.rest) ≡ spec.innermost (reverse l.stack);
}

abbrev pub decreases-loop-rest : goal.decreases-loop-rest
decreases-loop-rest l = length l.rest
