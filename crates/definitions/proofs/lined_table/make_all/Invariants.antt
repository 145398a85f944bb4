use Rattle.std.proofs.Common.{take}
use Rattle.sig_rules.specs.Sorted.{paths_of}
use Rattle.definitions.specs.MadeLines.{IsSound, MadeOf}
use Rattle.definitions.proofs.lined_table.make_all.Given as goal

abbrev pub invariant-loop-name : goal.invariant-loop-name
invariant-loop-name g l = IsSound (g.N.Names.all l.names) l.made × MadeOf (g.N.Names.all l.names) (paths_of (take l.name-index l.list)) l.made
