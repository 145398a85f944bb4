use Rattle.std.proofs.Common.{◌≡◌, ◌≤◌, length, take}
use Rattle.std.specs.Str.{IsCharBoundary}
use Rattle.steep_run.specs.Project.{without_slashes}
use Rattle.steep_run.proofs.project.without_slashes.Given as goal

abbrev pub invariant-loop-end : goal.invariant-loop-end
invariant-loop-end l = record {
  within : l.end ≤ length l.folder;
  boundary : IsCharBoundary l.folder l.end;
  same : without_slashes (take l.end l.folder) ≡ without_slashes l.folder;
}

abbrev pub decreases-loop-end : goal.decreases-loop-end
decreases-loop-end l = l.end
