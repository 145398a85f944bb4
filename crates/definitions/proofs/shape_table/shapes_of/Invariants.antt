use Rattle.std.proofs.Common.{take}
use Rattle.sig_rules.specs.Sorted.{paths_of}
use Rattle.definitions.specs.Tables.{IsFewShape, HoldsOf}
use Rattle.definitions.proofs.shape_table.shapes_of.Given as goal

abbrev pub invariant-loop-name : goal.invariant-loop-name
invariant-loop-name g l = HoldsOf (IsFewShape (g.L.Names.all l.lines)) (paths_of (take l.name-index l.list)) l.table
