use Rattle.std.proofs.Common.{◌≡◌, ◌++◌, reverse}
use Rattle.ancestors.specs.Pieces.{adds, parts}
use Rattle.ancestors.proofs.tasks.put_last_first.Given as goal

abbrev pub invariant-loop-applied : goal.invariant-loop-applied
invariant-loop-applied l = l.tasks ≡ adds (parts l.part (reverse l.yielded)) ++ l.fn.tasks
