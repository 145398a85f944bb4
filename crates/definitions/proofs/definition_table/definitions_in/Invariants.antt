use Rattle.std.proofs.Common.{map, take}
use Rattle.sig_rules.specs.Sorted.{paths_of}
use Rattle.definitions.specs.Tables.{AreDefinitions, HoldsOf}
use Rattle.definitions.proofs.definition_table.definitions_in.Given as goal

abbrev pub invariant-loop-name : goal.invariant-loop-name
invariant-loop-name g l = HoldsOf (AreDefinitions (g.L.Names.all l.lines)) (paths_of (map (λ e. e.1.now) (take l.name-index l.order))) l.table
