use Rattle.std.proofs.Common.{◌≡◌, ◌∷◌}
use Rattle.ruby_lowering.proofs.branches.with_first.Given as goal

abbrev pub invariant-loop-arm : goal.invariant-loop-arm
invariant-loop-arm l = l.arms ≡ l.fn.first ∷ l.yielded
