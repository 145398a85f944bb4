use Rattle.std.proofs.Common.{◌≡◌, ◌++◌, map}
use Rattle.ancestors.specs.References.{with_both}
use Rattle.ancestors.proofs.applied.add_with_args.Given as goal

abbrev pub invariant-loop-applied : goal.invariant-loop-applied
invariant-loop-applied l = l.all ≡ l.fn.all ++ map (with_both l.params l.first l.args) l.yielded
