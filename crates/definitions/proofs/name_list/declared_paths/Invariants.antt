use Rattle.std.proofs.Common.{◌≡◌, map, take}
use Rattle.sig_rules.specs.Declarations.{declared_path, somes}
use Rattle.definitions.proofs.name_list.declared_paths.Given as goal

abbrev pub invariant-loop-i : goal.invariant-loop-i
invariant-loop-i g l = l.paths ≡ somes (map declared_path (take l.i (g.N.Names.all l.names)))
