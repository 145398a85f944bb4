use Rattle.std.proofs.Common.{◌≡◌, ◌++◌}
use Rattle.ruby_lowering.proofs.calls.longer_path.Given as goal

abbrev pub invariant-loop-word : goal.invariant-loop-word
invariant-loop-word l = l.words ≡ l.fn.path.words ++ l.yielded
