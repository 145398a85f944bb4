-- In what order the diagnostics of a file are printed and published, and that none is so twice.
use Rattle.std.specs.Prelude.{List, Contains, ◌↔◌}
use Rattle.std.specs.Cmp.Lexicographic.{slice_cmp}
use Rattle.std.specs.List.Sorted.{IsStrictlySortedBy}
use Rattle.std.specs.Ordering.{nat_cmp, ordering_then}
use Rattle.std.specs.declared.cmp.Ordering.{Ordering}
use Rattle.diagnostics.specs.Codes.{code_name}
use Rattle.diagnostics.specs.declared.diagnostic.Diagnostic.{Diagnostic}

-- the first difference decides: of the starts, the ends, the names of the codes by their bytes, the messages by theirs, or the severities
abbrev pub diagnostic_cmp : Diagnostic → Diagnostic → Ordering
diagnostic_cmp a b =
    let starts = nat_cmp a.span.start b.span.start in
    let ends = nat_cmp a.span.end b.span.end in
    let names = slice_cmp nat_cmp (code_name a.code) (code_name b.code) in
    let messages = slice_cmp nat_cmp a.message b.message in
    let severities = nat_cmp a.severity b.severity in
    ordering_then starts (ordering_then ends (ordering_then names (ordering_then messages severities)))

-- the diagnostics of a list in order: each is less than all after it, so none stands twice
pub record IsOrder (list ordered : List Diagnostic) : Type 0 where
  pub rises : IsStrictlySortedBy diagnostic_cmp ordered
  pub same : (d : Diagnostic) → Contains ordered d ↔ Contains list d
