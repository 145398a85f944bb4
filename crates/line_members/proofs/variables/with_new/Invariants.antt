use Rattle.std.proofs.Common.{◌≡◌, ◌++◌, ℕ, List}
use Rattle.sig_rules.specs.Methods.{first_variable}
use Rattle.sig_rules.specs.Worlds.{by_name}
use Rattle.line_members.specs.Along.{or_behind}
use Rattle.line_members.proofs.variables.with_new.Given as goal

abbrev pub invariant-loop-variable : goal.invariant-loop-variable
invariant-loop-variable l = record {
  found : (name : List ℕ) → by_name l.all name ≡ or_behind (by_name l.fn.variables name) (first_variable name l.yielded);
  rest : l.yielded ++ l.variable-iterator.rest.items ≡ l.fn.given;
}
