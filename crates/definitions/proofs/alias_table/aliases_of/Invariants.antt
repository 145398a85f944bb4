use Rattle.std.proofs.Common.{take}
use Rattle.sig_rules.specs.Sorted.{paths_of}
use Rattle.definitions.specs.Tables.{IsAlias, HoldsOf}
use Rattle.definitions.proofs.alias_table.aliases_of.Given as goal

abbrev pub invariant-loop-name : goal.invariant-loop-name
invariant-loop-name g l = HoldsOf (IsAlias (g.N.Names.all l.names)) (paths_of (take l.name-index l.list)) l.table
