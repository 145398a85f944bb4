use Rattle.std.proofs.Common.{◌≡◌}
use Rattle.ruby_lowering.specs.Parts.{gathered}
use Rattle.ruby_lowering.proofs.parts.leaves_among.Given as goal

abbrev pub invariant-loop-value : goal.invariant-loop-value
invariant-loop-value l = l.leaves ≡ (gathered l.yielded).leaves
