use Rattle.std.proofs.Common.{◌≡◌, ◌++◌, length}
use Rattle.steep_run.specs.Project.{lines_of}
use Rattle.steep_run.proofs.report.lines_text.Given as goal

abbrev pub invariant-loop-rest : goal.invariant-loop-rest
invariant-loop-rest l = l.lines ++ lines_of l.path l.text l.rest ≡ lines_of l.path l.text l.diagnostics

abbrev pub decreases-loop-rest : goal.decreases-loop-rest
decreases-loop-rest l = length l.rest
