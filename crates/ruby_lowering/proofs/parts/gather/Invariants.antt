use Rattle.std.proofs.Common.{◌≡◌}
use Rattle.std.specs.List.{fold}
use Rattle.ruby_lowering.specs.Parts.{add}
use Rattle.ruby_lowering.proofs.parts.gather.Given as goal

abbrev pub invariant-loop-value : goal.invariant-loop-value
invariant-loop-value l = l.parts ≡ fold add l.fn.parts l.yielded
