-- A walk ends.
use Rattle.std.proofs.Common.{◌≡◌, ◌∙◌, inl, inr, ℕ, zero, suc, ◌+◌, ◌-◌, ◌≤◌, ◌<◌, Bool, true, false, not, nat_lt, if◌then◌else◌, List, [], ◌∷◌, ◌++◌, length, map, refl, sym, ap, subst, arith}
use Rattle.sig_rules.specs.declared.files.Declared.{Declared}
use Rattle.sig_rules.specs.declared.line.Applied.{Applied}
use Rattle.sig_rules.specs.declared.line.Line.{Line}
use Rattle.sig_rules.specs.Lines.{Trail, is_on, turns}
use Rattle.ancestors.specs.declared.tasks.Part.{Part}
use Rattle.ancestors.specs.declared.tasks.Piece.{Piece}
use Rattle.ancestors.specs.declared.tasks.Piece.TheVariants as piece
use Rattle.ancestors.specs.declared.tasks.Task.{Task}
use Rattle.ancestors.specs.declared.tasks.Task.TheVariants as task
use Rattle.ancestors.specs.declared.trail.Visited.{Visited}
use Rattle.ancestors.specs.declared.walk.Walk.{Walk}
use Rattle.ancestors.specs.Pieces.{adds, kind_of, pieces}
use Rattle.ancestors.specs.Walks.{Takes, TakesPart, after_part, after_task, may_enter, trail_of}
use Rattle.ancestors.proofs.LineLemmas.{further, turns_more, and_left, and_right}
use Rattle.ancestors.proofs.TrailLemmas.{back, trail_back}

abbrev pub total : List ℕ → ℕ
total [] = 0
total (n ∷ ns) = n + total ns

-- how many tasks a piece takes
abbrev pub piece_tasks : ℕ → List Declared → Trail → Piece → ℕ
piece_tasks n all trail (piece.One step) = 1
piece_tasks zero all trail (piece.Of part a) = 1
piece_tasks (suc n) all trail (piece.Of part a) = if is_on trail a.name.path (kind_of part) then 1 else suc (suc (total (map (piece_tasks n all ((a.name.path, kind_of part) ∷ trail)) (pieces all part a))))

abbrev pub tasks_left : List Declared → Trail → List Task → ℕ
tasks_left all trail [] = 0
tasks_left all trail (task.Leave ∷ tasks) = suc (tasks_left all (back trail) tasks)
tasks_left all trail (task.Add p ∷ tasks) = piece_tasks (turns all - length trail) all trail p + tasks_left all trail tasks

some_tasks : (n : ℕ) (all : List Declared) (trail : Trail) (p : Piece) → 1 ≤ piece_tasks n all trail p
some_tasks n all trail (piece.One step) = omega arith
some_tasks zero all trail (piece.Of part a) = omega arith
some_tasks (suc n) all trail (piece.Of part a) = by_test (is_on trail a.name.path (kind_of part)) _
  where
    by_test : (b : Bool) (m : ℕ) → 1 ≤ (if b then 1 else suc (suc m))
    by_test true m = omega arith
    by_test false m = omega arith

left-adds : (all : List Declared) (trail : Trail) (ps : List Piece) (tasks : List Task) → tasks_left all trail (adds ps ++ tasks) ≡ total (map (piece_tasks (turns all - length trail) all trail) ps) + tasks_left all trail tasks
left-adds all trail [] tasks = omega arith
left-adds all trail (p ∷ ps) tasks =
    let rest = left-adds all trail ps tasks in
    omega arith

entered_tasks : (n : ℕ) (all : List Declared) (trail : Trail) (part : Part) (a : Applied) → not (is_on trail a.name.path (kind_of part)) ≡ true → piece_tasks (suc n) all trail (piece.Of part a) ≡ suc (suc (total (map (piece_tasks n all (further part a trail)) (pieces all part a))))
entered_tasks n all trail part a off = by_test (is_on trail a.name.path (kind_of part)) _ off
  where
    by_test : (b : Bool) (m : ℕ) → not b ≡ true → (if b then 1 else suc (suc m)) ≡ suc (suc m)
    by_test true m off = cc
    by_test false m off = refl

enters_fewer : (all : List Declared) (trail : Trail) (part : Part) (a : Applied) (tasks : List Task) → may_enter all trail a.name.path (kind_of part) ≡ true → tasks_left all (further part a trail) (adds (pieces all part a) ++ task.Leave ∷ tasks) < tasks_left all trail (task.Add (piece.Of part a) ∷ tasks)
enters_fewer all trail part a tasks may =
    let n = turns all - suc (length trail) in
    let more : turns all - length trail ≡ suc n = turns_more (length trail) (turns all) (and_left _ _ may) in
    let off = and_right (nat_lt (length trail) (turns all)) _ may in
    let before : piece_tasks (turns all - length trail) all trail (piece.Of part a) ≡ suc (suc (total (map (piece_tasks n all (further part a trail)) (pieces all part a)))) =
    ap (λ m. piece_tasks m all trail (piece.Of part a)) more ∙ entered_tasks n all trail part a off
    in
    let after = left-adds all (further part a trail) (pieces all part a) (task.Leave ∷ tasks) in
    omega arith

part_fewer : (all : List Declared) (w : Walk) (part : Part) (a : Applied) (may : Bool) → may_enter all (trail_of w.trail) a.name.path (kind_of part) ≡ may → tasks_left all (trail_of (after_part all w part a).trail) (after_part all w part a).tasks < tasks_left all (trail_of w.trail) (task.Add (piece.Of part a) ∷ w.tasks)
part_fewer all w part a true is = rw is (enters_fewer all (trail_of w.trail) part a w.tasks is)
part_fewer all w part a false is = rw is (omega (arith, some_tasks (turns all - length (trail_of w.trail)) all (trail_of w.trail) (piece.Of part a)))

task_fewer : (all : List Declared) (w : Walk) (t : Task) → tasks_left all (trail_of (after_task all w t).trail) (after_task all w t).tasks < tasks_left all (trail_of w.trail) (t ∷ w.tasks)
task_fewer all w task.Leave = rw (trail_back w.trail) (omega arith)
task_fewer all w (task.Add (piece.One step)) = omega arith
task_fewer all w (task.Add (piece.Of part a)) = part_fewer all w part a _ refl

part_taken : (all : List Declared) (w : Walk) (part : Part) (a : Applied) (after : Walk) → TakesPart all w part a after → tasks_left all (trail_of after.trail) after.tasks < tasks_left all (trail_of w.trail) (task.Add (piece.Of part a) ∷ w.tasks)
part_taken all w part a after (inl is) =
    subst (λ (v : Walk). tasks_left all (trail_of v.trail) v.tasks < tasks_left all (trail_of w.trail) (task.Add (piece.Of part a) ∷ w.tasks)) (sym is) (part_fewer all w part a _ refl)
part_taken all w part a after (inr is) =
    let some = some_tasks (turns all - length (trail_of w.trail)) all (trail_of w.trail) (piece.Of part a) in
    let fewer : tasks_left all (trail_of w.trail) w.tasks < tasks_left all (trail_of w.trail) (task.Add (piece.Of part a) ∷ w.tasks) = omega (arith, some) in
    subst (λ (v : Walk). tasks_left all (trail_of v.trail) v.tasks < tasks_left all (trail_of w.trail) (task.Add (piece.Of part a) ∷ w.tasks)) (sym is) fewer

task_taken : (all : List Declared) (w : Walk) (t : Task) (after : Walk) → Takes all w t after → tasks_left all (trail_of after.trail) after.tasks < tasks_left all (trail_of w.trail) (t ∷ w.tasks)
task_taken all w task.Leave after is = subst (λ (v : Walk). tasks_left all (trail_of v.trail) v.tasks < tasks_left all (trail_of w.trail) (task.Leave ∷ w.tasks)) (sym is) (task_fewer all w task.Leave)
task_taken all w (task.Add (piece.One step)) after is =
    subst (λ (v : Walk). tasks_left all (trail_of v.trail) v.tasks < tasks_left all (trail_of w.trail) (task.Add (piece.One step) ∷ w.tasks)) (sym is) (task_fewer all w (task.Add (piece.One step)))
task_taken all w (task.Add (piece.Of part a)) after is = part_taken all w part a after is

-- fewer tasks are left when the task is done that was on the top
pub walk_ends : (all : List Declared) (tasks rest : List Task) (trail : List Visited) (line : Line) (t : Task) (after : Walk) → tasks ≡ t ∷ rest → Takes all (record { tasks = rest; trail = trail; line = line }) t after → tasks_left all (trail_of after.trail) after.tasks < tasks_left all (trail_of trail) tasks
walk_ends all tasks rest trail line t after top is =
    let w : Walk = record { tasks = rest; trail = trail; line = line } in
    subst (λ (ts : List Task). tasks_left all (trail_of after.trail) after.tasks < tasks_left all (trail_of trail) ts) (sym top) (task_taken all w t after is)
