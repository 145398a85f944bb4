-- What is noted of the names that are asked, where memory is short.
use Rattle.std.specs.Prelude.{◌≡◌, List, ◌++◌, map}
use Rattle.rbs_tree.specs.declared.names.TypeName.{TypeName}
use Rattle.sig_rules.specs.Declarations.{Path, full_name}

-- the names that are asked are noted, up to those that are left
pub record NotesBefore (asked left : List Path) (old new : List TypeName) : Type 0 where
  pub done : List Path
  pub all : asked ≡ done ++ left
  pub noted : new ≡ old ++ map full_name done

-- the names that are asked first are noted, perhaps not all
abbrev pub NotesFirst : List Path → List TypeName → List TypeName → Type 0
NotesFirst asked old new = (left : List Path) × NotesBefore asked left old new
