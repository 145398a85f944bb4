use Rattle.std.proofs.Common.{◌≡◌, ◌++◌, ◌+◌, ◌*◌, ◌≤◌, ℕ, List, length, None}
use Rattle.std.specs.Option.{option_to_list}
use Rattle.sig_rules.specs.declared.given.GivenMethod.{GivenMethod}
use Rattle.sig_rules.specs.Methods.{of_name}
use Rattle.sig_rules.specs.Worlds.{by_name}
use Rattle.method_steps.specs.Gathering.{ComesOut, Holds, Task, group_of}
use Rattle.method_steps.proofs.step_methods.gather.Given as goal

abbrev pub invariant-loop-hand : goal.invariant-loop-hand
invariant-loop-hand g l = record {
  holds : (alive : List GivenMethod) (turns : ℕ) → length l.fn.groups ≤ turns → ((name : List ℕ) → by_name l.fn.groups name ≡ group_of (of_name name alive)) →
      let task : Task = record { made = g.M.Making.made l.site.making.now; step = l.site.step.now; rest = l.site.rest.now; steps = l.site.steps.now; behind = by_name l.fn.behind; alive = alive; turns = turns } in
      ComesOut task → Holds task l.methods l.left (l.waiting.items ++ option_to_list l.hand);
  ends : l.hand ≡ None → length l.left + length l.waiting.items ≡ 0;
}

abbrev pub decreases-loop-hand : goal.decreases-loop-hand
decreases-loop-hand g l = 2 * length l.left + length (l.waiting.items ++ option_to_list l.hand)
