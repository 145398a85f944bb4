-- A walk keeps its line.
use Rattle.std.proofs.Common.{◌≡◌, ◌∙◌, inl, inr, suc, ◌-◌, Bool, true, false, ◌||◌, nat_lt, List, [], ◌∷◌, ◌++◌, length, map, refl, sym, ap, arith, append-nil}
use Rattle.sig_rules.specs.declared.files.Declared.{Declared}
use Rattle.sig_rules.specs.declared.line.Applied.{Applied}
use Rattle.sig_rules.specs.declared.line.Line.{Line}
use Rattle.sig_rules.specs.Lines.{Trail, followed_by, in_a_row, is_on, left_out, no_line, turns}
use Rattle.ancestors.specs.declared.tasks.Part.{Part}
use Rattle.ancestors.specs.declared.tasks.Piece.{Piece}
use Rattle.ancestors.specs.declared.tasks.Piece.TheVariants as piece
use Rattle.ancestors.specs.declared.tasks.Task.{Task}
use Rattle.ancestors.specs.declared.tasks.Task.TheVariants as task
use Rattle.ancestors.specs.declared.trail.Visited.{Visited}
use Rattle.ancestors.specs.declared.walk.Walk.{Walk}
use Rattle.ancestors.specs.Pieces.{adds, kind_of, pieces}
use Rattle.ancestors.specs.Walks.{Takes, TakesPart, after_part, after_task, line_of, may_enter, piece_line, trail_of}
use Rattle.ancestors.proofs.LineLemmas.{or_false, followed_by-assoc, followed_by-none, further, out_by, in_by, turns_more, on_trail, and_left, and_right}
use Rattle.ancestors.proofs.TrailLemmas.{back, trail_back}

-- what tasks add to a line, the first of which is next
abbrev pub rest_of : List Declared → Trail → List Task → Line
rest_of all trail [] = no_line
rest_of all trail (task.Leave ∷ tasks) = rest_of all (back trail) tasks
rest_of all trail (task.Add p ∷ tasks) = followed_by (piece_line (turns all - length trail) all trail p) (rest_of all trail tasks)

-- the line of a walk: what there is of it, and what is still to be done
abbrev pub whole : List Declared → Walk → Line
whole all w = followed_by w.line (rest_of all (trail_of w.trail) w.tasks)

-- what pieces add
rest-adds : (all : List Declared) (trail : Trail) (ps : List Piece) (tasks : List Task) → rest_of all trail (adds ps ++ tasks) ≡ followed_by (in_a_row (map (piece_line (turns all - length trail) all trail) ps)) (rest_of all trail tasks)
rest-adds all trail [] tasks = refl
rest-adds all trail (p ∷ ps) tasks =
    let f = piece_line (turns all - length trail) all trail in
    ap (followed_by (f p)) (rest-adds all trail ps tasks) ∙ sym (followed_by-assoc (f p) (in_a_row (map f ps)) (rest_of all trail tasks))

-- a part of a name that isn't left out
enters : (all : List Declared) (trail : Trail) (part : Part) (a : Applied) (tasks : List Task) → may_enter all trail a.name.path (kind_of part) ≡ true → rest_of all (further part a trail) (adds (pieces all part a) ++ task.Leave ∷ tasks) ≡ rest_of all trail (task.Add (piece.Of part a) ∷ tasks)
enters all trail part a tasks may =
    let n = turns all - suc (length trail) in
    let more : turns all - length trail ≡ suc n = turns_more (length trail) (turns all) (and_left _ _ may) in
    let off = and_right (nat_lt (length trail) (turns all)) _ may in
    rest-adds all (further part a trail) (pieces all part a) (task.Leave ∷ tasks)
    ∙ ap (λ (l : Line). followed_by l (rest_of all trail tasks)) (sym (ap (λ m. piece_line m all trail (piece.Of part a)) more ∙ in_by n all trail part a off))

-- a part of a name that is left out
stays_out : (all : List Declared) (trail : Trail) (part : Part) (a : Applied) (tasks : List Task) → may_enter all trail a.name.path (kind_of part) ≡ false → rest_of all trail (task.Add (piece.Of part a) ∷ tasks) ≡ followed_by left_out (rest_of all trail tasks)
stays_out all trail part a tasks out =
    ap (λ (l : Line). followed_by l (rest_of all trail tasks)) (out_by (turns all - length trail) all trail part a (on_trail (length trail) (turns all) (is_on trail a.name.path (kind_of part)) out))

or_true : (a : Bool) → (a || true) ≡ true
or_true true = refl
or_true false = refl

part_keeps : (all : List Declared) (w : Walk) (part : Part) (a : Applied) (may : Bool) → may_enter all (trail_of w.trail) a.name.path (kind_of part) ≡ may → whole all (after_part all w part a) ≡ followed_by w.line (rest_of all (trail_of w.trail) (task.Add (piece.Of part a) ∷ w.tasks))
part_keeps all w part a true is = rw is (ap (followed_by w.line) (enters all (trail_of w.trail) part a w.tasks is))
part_keeps all w part a false is =
    let rest = rest_of all (trail_of w.trail) w.tasks in
    rw is (sym (ap (followed_by w.line) (stays_out all (trail_of w.trail) part a w.tasks is) ∙ sym (followed_by-assoc w.line left_out rest)
    ∙ (λ i. followed_by (record { steps = append-nil w.line.steps i; cut = or_true w.line.cut i }) rest)))

task_keeps : (all : List Declared) (w : Walk) (t : Task) → whole all (after_task all w t) ≡ followed_by w.line (rest_of all (trail_of w.trail) (t ∷ w.tasks))
task_keeps all w task.Leave = ap (λ (trail : Trail). followed_by w.line (rest_of all trail w.tasks)) (trail_back w.trail)
task_keeps all w (task.Add (piece.One step)) =
    let rest = rest_of all (trail_of w.trail) w.tasks in
    (λ i. followed_by (record { steps = w.line.steps ++ step ∷ []; cut = sym (or_false w.line.cut) i }) rest)
    ∙ followed_by-assoc w.line (record { steps = step ∷ []; cut = false }) rest
task_keeps all w (task.Add (piece.Of part a)) = part_keeps all w part a _ refl

part_taken : (all : List Declared) (w : Walk) (part : Part) (a : Applied) (after : Walk) → TakesPart all w part a after → whole all after ≡ followed_by w.line (rest_of all (trail_of w.trail) (task.Add (piece.Of part a) ∷ w.tasks))
part_taken all w part a after (inl is) = ap (whole all) is ∙ part_keeps all w part a _ refl
part_taken all w part a after (inr is) =
    let l = piece_line (turns all - length (trail_of w.trail)) all (trail_of w.trail) (piece.Of part a) in
    ap (whole all) is ∙ followed_by-assoc w.line l (rest_of all (trail_of w.trail) w.tasks)

task_taken : (all : List Declared) (w : Walk) (t : Task) (after : Walk) → Takes all w t after → whole all after ≡ followed_by w.line (rest_of all (trail_of w.trail) (t ∷ w.tasks))
task_taken all w task.Leave after is = ap (whole all) is ∙ task_keeps all w task.Leave
task_taken all w (task.Add (piece.One step)) after is = ap (whole all) is ∙ task_keeps all w (task.Add (piece.One step))
task_taken all w (task.Add (piece.Of part a)) after is = part_taken all w part a after is

-- a walk keeps its line when the task is done that was on the top
pub walk_keeps : (all : List Declared) (tasks rest : List Task) (trail : List Visited) (line : Line) (t : Task) (after : Walk) (goal : Line) → tasks ≡ t ∷ rest → Takes all (record { tasks = rest; trail = trail; line = line }) t after → followed_by line (rest_of all (trail_of trail) tasks) ≡ goal → whole all after ≡ goal
walk_keeps all tasks rest trail line t after goal top is before =
    task_taken all (record { tasks = rest; trail = trail; line = line }) t after is ∙ ap (λ (ts : List Task). followed_by line (rest_of all (trail_of trail) ts)) (sym top) ∙ before

-- what the tasks add that a walk begins with
pub begins : (all : List Declared) (ps : List Piece) → rest_of all [] (adds ps) ≡ line_of all ps
begins all ps =
    let turns_left : turns all - 0 ≡ turns all = omega arith in
    ap (rest_of all []) (sym (append-nil (adds ps))) ∙ rest-adds all [] ps [] ∙ followed_by-none (in_a_row (map (piece_line (turns all - 0) all []) ps))
    ∙ ap (λ n. in_a_row (map (piece_line n all []) ps)) turns_left
