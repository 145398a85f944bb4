-- Lines that are known already, and what they add to others.
use Rattle.std.specs.Prelude.{◌≡◌, ℕ, ◌-◌, Bool, false, List, [], length, Option, IfSome}
use Rattle.std.specs.List.{list_any}
use Rattle.sig_rules.specs.declared.files.Declared.{Declared}
use Rattle.sig_rules.specs.declared.line.Kind.{Kind}
use Rattle.sig_rules.specs.declared.line.Applied.{Applied}
use Rattle.sig_rules.specs.declared.line.Step.{Step}
use Rattle.sig_rules.specs.declared.line.Line.{Line}
use Rattle.sig_rules.specs.declared.sort.Sort.TheVariants as is
use Rattle.sig_rules.specs.Declarations.{Path}
use Rattle.sig_rules.specs.Lines.{Trail, end_of_singletons, is_on, line, turns}
use Rattle.ancestors.specs.declared.tasks.Part.{Part}
use Rattle.ancestors.specs.declared.tasks.Piece.TheVariants as piece
use Rattle.ancestors.specs.Walks.{piece_line}

-- the lines that are known are the lines of these declarations
abbrev pub Knows : List Declared → (Path → Kind → Option Line) → Type 0
Knows all lines = (path : Path) (kind : Kind) → IfSome (lines path kind) (λ l. l ≡ line all path kind)

-- a line of these steps, of which no name was left out
abbrev pub uncut : List Step → Line
uncut steps = record { steps = steps; cut = false }

-- some step stands on a trail
abbrev pub on_any : Trail → List Step → Bool
on_any trail steps = list_any (λ (s : Step). is_on trail s.name.path s.kind) steps

-- the line of a part of a name behind a trail, with the turns that are left
abbrev pub part_line : List Declared → Trail → Part → Applied → Line
part_line all trail part a = piece_line (turns all - length trail) all trail (piece.Of part a)

-- the line of a part of a name behind nothing
abbrev pub whole_part : List Declared → Part → Applied → Line
whole_part all part a = piece_line (turns all) all [] (piece.Of part a)

-- how many steps the line has that stands behind the singletons of a class, if that is known
abbrev pub IsEndCount : List Declared → Option ℕ → Type 0
IsEndCount all count = IfSome count (λ n. n ≡ length (end_of_singletons is.Class all).steps)
