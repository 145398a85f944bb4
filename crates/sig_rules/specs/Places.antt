-- A table: sorted declarations, and the places of their names.
use Rattle.std.specs.Prelude.{◌≡◌, List}
use Rattle.sig_rules.specs.declared.files.Declared.{Declared}
use Rattle.sig_rules.specs.declared.sorted.Sorted.{Sorted}
use Rattle.sig_rules.specs.Declarations.{Path}
use Rattle.sig_rules.specs.Sorted.{Sorts, paths_of}

-- Declarations are sorted so, and these are the words of their names in the same order.
pub record Finds (s : Sorted) (words : List Path) (all : List Declared) : Type 0 where
  pub sorts : Sorts s all
  pub listed : words ≡ paths_of s.names
