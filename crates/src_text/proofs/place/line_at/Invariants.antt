use Rattle.std.proofs.Common.{◌≤◌, ◌<◌, ◌-◌, length}
use Rattle.std.specs.Prelude.{slice_index}
use Rattle.src_text.proofs.place.line_at.Given as goal

abbrev pub invariant-loop-line : goal.invariant-loop-line
invariant-loop-line l = record {
  apart : l.line < l.next;
  within : l.next ≤ length l.starts;
  begins : slice_index l.starts l.line ≤ l.end;
  last : l.next < length l.starts → l.end < slice_index l.starts l.next;
}

abbrev pub decreases-loop-line : goal.decreases-loop-line
decreases-loop-line l = l.next - l.line
