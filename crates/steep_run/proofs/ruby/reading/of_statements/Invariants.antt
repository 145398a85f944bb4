use Rattle.std.proofs.Common.{◌≡◌, length}
use Rattle.steep_run.specs.Reading.{AreCalled}
use Rattle.steep_run.specs.Ruby.{before, faults_among}
use Rattle.steep_run.proofs.ruby.reading.of_statements.Given as goal

abbrev pub invariant-loop-rest : goal.invariant-loop-rest
invariant-loop-rest g l = record {
  so_far : before l.faults (faults_among (g.M.Names.all l.members) l.rest) ≡ faults_among (g.M.Names.all l.members) l.nodes;
  called : AreCalled (g.M.Names.all l.members) l.classes;
}

abbrev pub decreases-loop-rest : goal.decreases-loop-rest
decreases-loop-rest g l = length l.rest
