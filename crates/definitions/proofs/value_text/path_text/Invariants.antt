use Rattle.std.proofs.Common.{◌≡◌, ◌++◌, length}
use Rattle.sig_rules.specs.Worlds.{path_text}
use Rattle.definitions.proofs.value_text.path_text.Given as goal

abbrev pub invariant-loop-rest : goal.invariant-loop-rest
invariant-loop-rest l = l.text ++ path_text l.rest ≡ path_text l.fn.path

abbrev pub decreases-loop-rest : goal.decreases-loop-rest
decreases-loop-rest l = length l.rest
