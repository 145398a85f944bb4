use Rattle.std.proofs.Common.{◌≡◌, ◌≤◌, length}
use Rattle.sig_rules.specs.Names.{candidates, first_that, is_head}
use Rattle.name_resolver.proofs.resolution.head_of.Given as goal

abbrev pub invariant-loop-enclosing : goal.invariant-loop-enclosing
invariant-loop-enclosing l = record {
  within : length l.enclosing ≤ length l.fn.context;
  found : first_that (is_head l.table l.rest) (candidates l.enclosing l.head) ≡ first_that (is_head l.table l.rest) (candidates l.fn.context l.head);
}

abbrev pub decreases-loop-enclosing : goal.decreases-loop-enclosing
decreases-loop-enclosing l = length l.enclosing
