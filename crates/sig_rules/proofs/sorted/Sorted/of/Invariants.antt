use Rattle.std.proofs.Common.{◌≡◌, ◌++◌}
use Rattle.sig_rules.specs.Sorted.{Sorts}
use Rattle.sig_rules.proofs.sorted.Sorted.of.Given as goal

abbrev pub invariant-loop-declared : goal.invariant-loop-declared
invariant-loop-declared l = record {
  sorts : Sorts l.sorted l.yielded;
  names : l.sorted.names ≡ l.fn.names;
  rest : l.yielded ++ l.declared-iterator.rest.items ≡ l.fn.all;
}
