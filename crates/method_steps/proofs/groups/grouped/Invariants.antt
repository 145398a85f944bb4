use Rattle.std.proofs.Common.{◌≡◌, ◌++◌, ◌≤◌, ℕ, List, length}
use Rattle.sig_rules.specs.Methods.{of_name}
use Rattle.sig_rules.specs.Worlds.{by_name}
use Rattle.method_steps.specs.Gathering.{group_of}
use Rattle.method_steps.proofs.groups.grouped.Given as goal

abbrev pub invariant-loop-method : goal.invariant-loop-method
invariant-loop-method l = record {
  groups : (name : List ℕ) → by_name l.groups name ≡ group_of (of_name name l.yielded);
  few : length l.groups ≤ length l.yielded;
  rest : l.yielded ++ l.method-iterator.rest.items ≡ l.fn.given;
}
