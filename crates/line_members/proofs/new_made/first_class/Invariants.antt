use Rattle.std.proofs.Common.{◌≡◌, length}
use Rattle.line_members.specs.Along.{first_class}
use Rattle.line_members.proofs.new_made.first_class.Given as goal

abbrev pub invariant-loop-rest : goal.invariant-loop-rest
invariant-loop-rest g l = first_class (g.N.Names.all l.names) l.rest ≡ first_class (g.N.Names.all l.names) l.steps

abbrev pub decreases-loop-rest : goal.decreases-loop-rest
decreases-loop-rest g l = length l.rest
