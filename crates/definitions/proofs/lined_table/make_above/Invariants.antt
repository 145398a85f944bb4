use Rattle.std.proofs.Common.{vec_len}
use Rattle.definitions.specs.MadeLines.{IsSound, Keeps}
use Rattle.definitions.proofs.lined_table.make_above.Given as goal

abbrev pub invariant-loop-superclass : goal.invariant-loop-superclass
invariant-loop-superclass g l = IsSound (g.N.Names.all l.names) l.made × Keeps (g.N.Names.all l.names) l.fn.made l.made

abbrev pub decreases-loop-superclass : goal.decreases-loop-superclass
decreases-loop-superclass g l = vec_len l.above
