use Rattle.std.proofs.Common.{◌≡◌, map}
use Rattle.sig_rules.specs.Declarations.{full_name}
use Rattle.sig_rules.proofs.sorted_names.full_names.Given as goal

abbrev pub invariant-loop-path : goal.invariant-loop-path
invariant-loop-path l = l.names ≡ map full_name l.yielded
