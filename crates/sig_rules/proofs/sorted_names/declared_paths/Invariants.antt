use Rattle.std.proofs.Common.{◌≡◌, map, take}
use Rattle.sig_rules.specs.Declarations.{declared_path, somes}
use Rattle.sig_rules.proofs.sorted_names.declared_paths.Given as goal

abbrev pub invariant-loop-declared : goal.invariant-loop-declared
invariant-loop-declared l = l.paths ≡ somes (map declared_path (take l.declared-index l.all))
