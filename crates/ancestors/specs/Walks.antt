-- How a line is walked, task by task.
use Rattle.std.specs.Prelude.{◌≡◌, ℕ, ◌-◌, ◌&&◌, ◌⊎◌, Bool, true, false, not, nat_lt, if◌then◌else◌, List, [], ◌∷◌, ◌++◌, length, map}
use Rattle.sig_rules.specs.declared.files.Declared.{Declared}
use Rattle.sig_rules.specs.declared.line.Kind.{Kind}
use Rattle.sig_rules.specs.declared.line.Applied.{Applied}
use Rattle.sig_rules.specs.declared.line.Step.{Step}
use Rattle.sig_rules.specs.declared.line.Line.{Line}
use Rattle.sig_rules.specs.Declarations.{Path, same_path}
use Rattle.sig_rules.specs.Lines.{Trail, brought, followed_by, in_a_row, instances, is_on, same_kind, singletons, turns}
use Rattle.ancestors.specs.declared.tasks.Part.{Part}
use Rattle.ancestors.specs.declared.tasks.Part.TheVariants as part
use Rattle.ancestors.specs.declared.tasks.Piece.{Piece}
use Rattle.ancestors.specs.declared.tasks.Piece.TheVariants as piece
use Rattle.ancestors.specs.declared.tasks.Task.{Task}
use Rattle.ancestors.specs.declared.tasks.Task.TheVariants as task
use Rattle.ancestors.specs.declared.trail.Visited.{Visited}
use Rattle.ancestors.specs.declared.walk.Walk.{Walk}
use Rattle.ancestors.specs.Pieces.{adds, kind_of, pieces}

-- the trail of the names that lead to a place, the last first
abbrev pub trail_of : List Visited → Trail
trail_of = map (λ (v : Visited). (v.name.path, v.kind))

abbrev pub is_visit : Path → Kind → Visited → Bool
is_visit path kind v = same_path v.name.path path && same_kind v.kind kind

-- a name isn't left out behind a trail
abbrev pub may_enter : List Declared → Trail → Path → Kind → Bool
may_enter all trail path kind = nat_lt (length trail) (turns all) && not (is_on trail path kind)

-- ---- one task

abbrev pub without_last : List Visited → List Visited
without_last [] = []
without_last (v ∷ vs) = vs

abbrev pub left : Walk → Walk
left w = record { tasks = w.tasks; trail = without_last w.trail; line = w.line }

abbrev pub entered : List Declared → Walk → Part → Applied → Walk
entered all w part a = record { tasks = adds (pieces all part a) ++ task.Leave ∷ w.tasks; trail = record { name = a.name; kind = kind_of part } ∷ w.trail; line = w.line }

abbrev pub cut_off : Walk → Walk
cut_off w = record { tasks = w.tasks; trail = w.trail; line = record { steps = w.line.steps; cut = true } }

abbrev pub with_step : Walk → Step → Walk
with_step w step = record { tasks = w.tasks; trail = w.trail; line = record { steps = w.line.steps ++ step ∷ []; cut = w.line.cut } }

abbrev pub after_part : List Declared → Walk → Part → Applied → Walk
after_part all w part a = if may_enter all (trail_of w.trail) a.name.path (kind_of part) then entered all w part a else cut_off w

-- the walk when a task is done that was taken off the top
abbrev pub after_task : List Declared → Walk → Task → Walk
after_task all w task.Leave = left w
after_task all w (task.Add (piece.One step)) = with_step w step
after_task all w (task.Add (piece.Of part a)) = after_part all w part a

-- ---- a piece

-- the line of a piece behind a trail, with so many turns left
abbrev pub piece_line : ℕ → List Declared → Trail → Piece → Line
piece_line n all trail (piece.One step) = record { steps = step ∷ []; cut = false }
piece_line n all trail (piece.Of part.Brought a) = brought n all trail a
piece_line n all trail (piece.Of part.Instances a) = instances n all trail a
piece_line n all trail (piece.Of part.Singletons a) = singletons n all trail a

-- the line of pieces, one behind the other
abbrev pub line_of : List Declared → List Piece → Line
line_of all ps = in_a_row (map (piece_line (turns all) all []) ps)

-- ---- a task of which the line may be known

-- a line is added
abbrev pub with_line : Walk → Line → Walk
with_line w l = record { tasks = w.tasks; trail = w.trail; line = followed_by w.line l }

-- a part of a name is done: its pieces are to be added, or its line is added whole
abbrev pub TakesPart : List Declared → Walk → Part → Applied → Walk → Type 0
TakesPart all w part a after = (after ≡ after_part all w part a) ⊎ (after ≡ with_line w (piece_line (turns all - length (trail_of w.trail)) all (trail_of w.trail) (piece.Of part a)))

-- a task is done
abbrev pub Takes : List Declared → Walk → Task → Walk → Type 0
Takes all w (task.Add (piece.Of part a)) after = TakesPart all w part a after
Takes all w t after = after ≡ after_task all w t
