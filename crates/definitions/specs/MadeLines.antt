-- Lines that are made so far.
use Rattle.std.specs.Prelude.{◌≡◌, true, List, Option, Some, IfSome}
use Rattle.std.specs.List.{list_any}
use Rattle.std.specs.Map.{lookup}
use Rattle.std.specs.Option.{option_map}
use Rattle.sig_rules.specs.declared.files.Declared.{Declared}
use Rattle.sig_rules.specs.declared.line.Kind.{Kind}
use Rattle.sig_rules.specs.declared.line.Line.{Line}
use Rattle.sig_rules.specs.Declarations.{Path, same_path}
use Rattle.definitions.specs.Tables.{AreLines, line_on}

-- the line that a table has of a name
abbrev pub line_at : List (Path × (Line × Line)) → Path → Kind → Option Line
line_at table path kind = option_map (line_on kind) (lookup (same_path path) table)

-- What a table has of a name is so.
abbrev pub IsSound : List Declared → List (Path × (Line × Line)) → Type 0
IsSound all table = (path : Path) → IfSome (lookup (same_path path) table) (λ lines. AreLines all path (Some lines))

-- a name that had its lines in a table has them in a later one
abbrev pub Keeps : List Declared → List (Path × (Line × Line)) → List (Path × (Line × Line)) → Type 0
Keeps all old new = (path : Path) → AreLines all path (lookup (same_path path) old) → AreLines all path (lookup (same_path path) new)

-- each of these names has its lines
abbrev pub MadeOf : List Declared → List Path → List (Path × (Line × Line)) → Type 0
MadeOf all paths table = (path : Path) → list_any (same_path path) paths ≡ true → AreLines all path (lookup (same_path path) table)
