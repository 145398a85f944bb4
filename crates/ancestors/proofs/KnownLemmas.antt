-- A line that isn't cut is the same behind names that don't stand on it, with as many turns as it has steps.
use Rattle.std.proofs.Common.{◌≡◌, ◌∙◌, ℕ, zero, suc, ◌+◌, ◌-◌, ◌≤◌, Bool, true, false, not, ◌&&◌, ◌||◌, nat_lt, List, [], ◌∷◌, ◌++◌, length, map, take, Option, Some, None, IfSome, refl, sym, ap, subst, arith, append_assoc, true≢false}
use Rattle.std.proofs.Math.Seq.{take-append_seam}
use Rattle.std.proofs.lemmas.Bool.{ltb-true, or_parts}
use Rattle.std.proofs.lemmas.List.{length-append}
use Rattle.std.proofs.lemmas.List.Folds.{list_any-append}
use Rattle.rbs_tree.specs.declared.types.Ty.{Ty}
use Rattle.rbs_tree.specs.declared.types.Ty.TheVariants as t
use Rattle.sig_rules.specs.declared.files.Declared.{Declared}
use Rattle.sig_rules.specs.declared.line.Applied.{Applied}
use Rattle.sig_rules.specs.declared.line.Kind.{Kind}
use Rattle.sig_rules.specs.declared.line.Kind.TheVariants.{Instance, Singleton}
use Rattle.sig_rules.specs.declared.line.Line.{Line}
use Rattle.sig_rules.specs.declared.line.Step.{Step}
use Rattle.sig_rules.specs.declared.sort.Sort.TheVariants as sorts
use Rattle.sig_rules.specs.Declarations.{Path, full_name, same_path}
use Rattle.sig_rules.specs.Types.{first_params, sort}
use Rattle.sig_rules.specs.Lines.{Trail, behind_instances, behind_singletons, end_of_singletons, extend_of, followed_by, in_a_row, include_of, instances, is_on, itself, left_out, line, mixed_in, prepend_of, same_kind, turns}
use Rattle.ancestors.specs.declared.tasks.Part.{Part}
use Rattle.ancestors.specs.declared.tasks.Part.TheVariants as part
use Rattle.ancestors.specs.declared.tasks.Piece.{Piece}
use Rattle.ancestors.specs.declared.tasks.Piece.TheVariants as piece
use Rattle.ancestors.specs.Known.{IsEndCount, Knows, on_any, part_line, uncut, whole_part}
use Rattle.ancestors.specs.Pieces.{kind_of, parts, pieces, singleton_step_of, step_of}
use Rattle.ancestors.specs.Walks.{piece_line}
use Rattle.ancestors.proofs.LineLemmas.{and_left, and_right, further, in_by, of_class, out_by}

-- the line of pieces behind a trail
abbrev row : ℕ → List Declared → Trail → List Piece → Line
row n all trail ps = in_a_row (map (piece_line n all trail) ps)

-- With other turns, at least as many as it has steps, a part's line is the same behind more names, unless they stand on it.
abbrev SettlesWith : ℕ → ℕ → List Declared → Trail → Trail → Type 0
SettlesWith n m all trail extra = (p : Part) (a : Applied) → (piece_line n all trail (piece.Of p a)).cut ≡ false → on_any extra (piece_line n all trail (piece.Of p a)).steps ≡ false → length (piece_line n all trail (piece.Of p a)).steps ≤ m → piece_line m all (trail ++ extra) (piece.Of p a) ≡ piece_line n all trail (piece.Of p a)

on_either : (extra : Trail) (xs ys : List Step) → on_any extra (xs ++ ys) ≡ false → (on_any extra xs ≡ false) × (on_any extra ys ≡ false)
on_either extra xs ys off = or_parts (on_any extra xs) (on_any extra ys) (sym (list_any-append (λ (s : Step). is_on extra s.name.path s.kind) xs ys) ∙ off)

-- the line of pieces, if each part's is the same
rows_settle : (n m : ℕ) (all : List Declared) (trail extra : Trail) (ps : List Piece) → SettlesWith n m all trail extra → (row n all trail ps).cut ≡ false → on_any extra (row n all trail ps).steps ≡ false → length (row n all trail ps).steps ≤ m → row m all (trail ++ extra) ps ≡ row n all trail ps
rows_settle n m all trail extra [] each whole off few = refl
rows_settle n m all trail extra (piece.One s ∷ ps) each whole off few =
    let offs = or_parts (is_on extra s.name.path s.kind) (on_any extra (row n all trail ps).steps) off in
    let fewer : length (row n all trail ps).steps ≤ m = omega (arith, few) in
    ap (followed_by (uncut (s ∷ []))) (rows_settle n m all trail extra ps each whole offs.1 fewer)
rows_settle n m all trail extra (piece.Of p a ∷ ps) each whole off few =
    let l = piece_line n all trail (piece.Of p a) in
    let r = row n all trail ps in
    let cuts = or_parts l.cut r.cut whole in
    let offs = on_either extra l.steps r.steps off in
    let sum : length (l.steps ++ r.steps) ≡ length l.steps + length r.steps = length-append l.steps r.steps in
    let first : length l.steps ≤ m = omega (arith, few, sum) in
    let rest : length r.steps ≤ m = omega (arith, few, sum) in
    let here = each p a cuts.0 offs.0 first in
    let behind = rows_settle n m all trail extra ps each cuts.1 offs.1 rest in
    λ i. followed_by (here i) (behind i)

some_step : (n : ℕ) (all : List Declared) (trail : Trail) (before after : List Piece) (s : Step) → 1 ≤ length (row n all trail (before ++ piece.One s ∷ after)).steps
some_step n all trail [] after s = omega arith
some_step n all trail (piece.One first ∷ before) after s = omega arith
some_step n all trail (piece.Of p a ∷ before) after s =
    let l = piece_line n all trail (piece.Of p a) in
    let r = row n all trail (before ++ piece.One s ∷ after) in
    let sum : length (l.steps ++ r.steps) ≡ length l.steps + length r.steps = length-append l.steps r.steps in
    let rest = some_step n all trail before after s in
    omega (arith, sum, rest)

-- the line of pieces among which there is a step, which is no part's
around_settles : (n m : ℕ) (all : List Declared) (trail extra : Trail) (before after : List Piece) (s : Step) → SettlesWith n m all trail extra → (row n all trail (before ++ piece.One s ∷ after)).cut ≡ false → on_any extra (row n all trail (before ++ piece.One s ∷ after)).steps ≡ false → length (row n all trail (before ++ piece.One s ∷ after)).steps ≤ suc m → (is_on extra s.name.path s.kind ≡ false) × (row m all (trail ++ extra) (before ++ piece.One s ∷ after) ≡ row n all trail (before ++ piece.One s ∷ after))
around_settles n m all trail extra [] after s each whole off few =
    let offs = or_parts (is_on extra s.name.path s.kind) (on_any extra (row n all trail after).steps) off in
    let fewer : length (row n all trail after).steps ≤ m = omega (arith, few) in
    (offs.0, ap (followed_by (uncut (s ∷ []))) (rows_settle n m all trail extra after each whole offs.1 fewer))
around_settles n m all trail extra (piece.One first ∷ before) after s each whole off few =
    let offs = or_parts (is_on extra first.name.path first.kind) (on_any extra (row n all trail (before ++ piece.One s ∷ after)).steps) off in
    let fewer : length (row n all trail (before ++ piece.One s ∷ after)).steps ≤ suc m = omega (arith, few) in
    let rest = around_settles n m all trail extra before after s each whole offs.1 fewer in
    (rest.0, ap (followed_by (uncut (first ∷ []))) rest.1)
around_settles n m all trail extra (piece.Of p a ∷ before) after s each whole off few =
    let l = piece_line n all trail (piece.Of p a) in
    let r = row n all trail (before ++ piece.One s ∷ after) in
    let cuts = or_parts l.cut r.cut whole in
    let offs = on_either extra l.steps r.steps off in
    let sum : length (l.steps ++ r.steps) ≡ length l.steps + length r.steps = length-append l.steps r.steps in
    let some = some_step n all trail before after s in
    let first : length l.steps ≤ m = omega (arith, few, sum, some) in
    let fewer : length r.steps ≤ suc m = omega (arith, few, sum) in
    let here = each p a cuts.0 offs.0 first in
    let rest = around_settles n m all trail extra before after s each cuts.1 offs.1 fewer in
    let behind = rest.1 in
    (rest.0, λ i. followed_by (here i) (behind i))

-- among the pieces of a part of a name is the name's own step
record OwnStep (all : List Declared) (p : Part) (a : Applied) : Type 0 where
  before : List Piece
  step : Step
  after : List Piece
  is : pieces all p a ≡ before ++ piece.One step ∷ after
  name : step.name.path ≡ a.name.path
  kind : step.kind ≡ kind_of p

own_step : (all : List Declared) (p : Part) (a : Applied) → OwnStep all p a
own_step all part.Brought a = record {
  before = parts part.Brought (mixed_in all prepend_of a);
  step = step_of a;
  after = parts part.Brought (mixed_in all include_of a);
  is = refl;
  name = refl;
  kind = refl;
}
own_step all part.Instances a = record {
  before = parts part.Brought (mixed_in all prepend_of a);
  step = step_of a;
  after = parts part.Brought (mixed_in all include_of a) ++ parts part.Instances (behind_instances all a);
  is = append_assoc (parts part.Brought (mixed_in all prepend_of a)) (piece.One (step_of a) ∷ parts part.Brought (mixed_in all include_of a)) (parts part.Instances (behind_instances all a));
  name = refl;
  kind = refl;
}
own_step all part.Singletons a = record {
  before = [];
  step = singleton_step_of a;
  after = parts part.Brought (mixed_in all extend_of a) ++ parts part.Singletons (behind_singletons all a);
  is = refl;
  name = refl;
  kind = refl;
}

left_out_whole : (l : Line) → l ≡ left_out → l.cut ≡ false → ⊥
left_out_whole l is whole = true≢false (sym (ap (λ (x : Line). x.cut) is) ∙ whole)

off_both : (trail extra : Trail) (path : Path) (kind : Kind) → is_on trail path kind ≡ false → is_on extra path kind ≡ false → not (is_on (trail ++ extra) path kind) ≡ true
off_both trail extra path kind off other =
    let joined = list_any-append (λ (p : Path × Kind). same_path p.0 path && same_kind p.1 kind) trail extra in
    ap not (joined ∙ ap (λ b. b || is_on extra path kind) off ∙ other)

-- one turn, if the lines of a part's pieces settle
turn_settles : (n m : ℕ) (all : List Declared) (trail extra : Trail) (p : Part) (a : Applied) → ((k : ℕ) → SettlesWith n k all (further p a trail) extra) → is_on trail a.name.path (kind_of p) ≡ false → (piece_line (suc n) all trail (piece.Of p a)).cut ≡ false → on_any extra (piece_line (suc n) all trail (piece.Of p a)).steps ≡ false → length (piece_line (suc n) all trail (piece.Of p a)).steps ≤ m → piece_line m all (trail ++ extra) (piece.Of p a) ≡ piece_line (suc n) all trail (piece.Of p a)
turn_settles n m all trail extra p a each off_trail whole off few = by m few
  where
    next : Trail
    next = further p a trail

    own : OwnStep all p a
    own = own_step all p a

    ps : List Piece
    ps = own.before ++ piece.One own.step ∷ own.after

    is : piece_line (suc n) all trail (piece.Of p a) ≡ row n all next ps
    is = in_by n all trail p a (ap not off_trail) ∙ ap (row n all next) own.is

    by : (m : ℕ) → length (piece_line (suc n) all trail (piece.Of p a)).steps ≤ m → piece_line m all (trail ++ extra) (piece.Of p a) ≡ piece_line (suc n) all trail (piece.Of p a)
    by zero few =
        let some = some_step n all next own.before own.after own.step in
        let same : length (piece_line (suc n) all trail (piece.Of p a)).steps ≡ length (row n all next ps).steps = ap (λ (l : Line). length l.steps) is in
        absurd (omega (arith, some, few, same))
    by (suc k) few =
        let fewer : length (row n all next ps).steps ≤ suc k = subst (λ (l : Line). length l.steps ≤ suc k) is few in
        let settled = around_settles n k all next extra own.before own.after own.step (each k) (sym (ap (λ (l : Line). l.cut) is) ∙ whole) (sym (ap (λ (l : Line). on_any extra l.steps) is) ∙ off) fewer in
        let off_extra : is_on extra a.name.path (kind_of p) ≡ false = (λ i. is_on extra (sym own.name i) (sym own.kind i)) ∙ settled.0 in
        in_by k all (trail ++ extra) p a (off_both trail extra a.name.path (kind_of p) off_trail off_extra)
        ∙ ap (row k all (next ++ extra)) own.is ∙ settled.1 ∙ sym is

settles : (n m : ℕ) (all : List Declared) (trail extra : Trail) → SettlesWith n m all trail extra
settles zero m all trail extra p a whole off few =
    absurd (left_out_whole (piece_line zero all trail (piece.Of p a)) (out_by zero all trail p a (λ some. absurd (omega (arith, some)))) whole)
settles (suc n) m all trail extra p a whole off few =
    by_test (is_on trail a.name.path (kind_of p)) refl (λ k q b. settles n k all (further p a trail) extra q b)
  where
    by_test : (on : Bool) → is_on trail a.name.path (kind_of p) ≡ on → ((k : ℕ) → SettlesWith n k all (further p a trail) extra) → piece_line m all (trail ++ extra) (piece.Of p a) ≡ piece_line (suc n) all trail (piece.Of p a)
    by_test true on each = absurd (left_out_whole (piece_line (suc n) all trail (piece.Of p a)) (out_by (suc n) all trail p a (λ some. on)) whole)
    by_test false off_trail each = turn_settles n m all trail extra p a each off_trail whole off few

not_true : (b : Bool) → not b ≡ true → b ≡ false
not_true true is = sym is
not_true false is = refl

-- a known line stands behind a trail as it stands behind nothing
pub behind_trail : (all : List Declared) (trail : Trail) (p : Part) (a : Applied) (steps : List Step) → whole_part all p a ≡ uncut steps → (nat_lt (length trail + length steps) (turns all) && not (on_any trail steps)) ≡ true → part_line all trail p a ≡ uncut steps
behind_trail all trail p a steps is fits =
    let room = ltb-true (length trail + length steps) (turns all) (and_left _ _ fits) in
    let off = not_true (on_any trail steps) (and_right (nat_lt (length trail + length steps) (turns all)) _ fits) in
    let few : length steps ≤ turns all - length trail = omega (arith, room) in
    settles (turns all) (turns all - length trail) all [] trail p a (ap (λ (l : Line). l.cut) is) (ap (λ (l : Line). on_any trail l.steps) is ∙ off) (subst (λ (l : Line). length l.steps ≤ turns all - length trail) (sym is) few)
    ∙ is

-- ---- what is known of a name

-- only the words of a name and the arguments make a line
named_alike : (n : ℕ) (all : List Declared) (trail : Trail) (p : Part) (a : Applied) → piece_line (suc n) all trail (piece.Of p a) ≡ piece_line (suc n) all trail (piece.Of p (record { name = full_name a.name.path; args = a.args }))
named_alike n all trail part.Brought a = refl
named_alike n all trail part.Instances a = refl
named_alike n all trail part.Singletons a = refl

own_line : (all : List Declared) (p : Part) (a : Applied) → a.args ≡ map t.Var (first_params all a.name.path) → whole_part all p a ≡ whole_part all p (itself all a.name.path)
own_line all p a own = named_alike _ all [] p a ∙ ap (λ (args : List Ty). whole_part all p (record { name = full_name a.name.path; args = args })) own

known_is : (all : List Declared) (lines : Path → Kind → Option Line) (path : Path) (kind : Kind) (l : Line) → Knows all lines → Some l ≡ lines path kind → l ≡ line all path kind
known_is all lines path kind l knows there = subst (λ (o : Option Line). IfSome o (λ x. x ≡ line all path kind)) (sym there) (knows path kind)

of_steps : (l : Line) → l.cut ≡ false → l ≡ uncut l.steps
of_steps l whole = λ i. record { steps = l.steps; cut = whole i }

-- the known line of instances
pub of_instances : (all : List Declared) (lines : Path → Kind → Option Line) (a : Applied) (l : Line) → Knows all lines → Some l ≡ lines a.name.path Instance → l.cut ≡ false → a.args ≡ map t.Var (first_params all a.name.path) → whole_part all part.Instances a ≡ uncut l.steps
of_instances all lines a l knows there whole own =
    own_line all part.Instances a own ∙ sym (known_is all lines a.name.path Instance l knows there) ∙ of_steps l whole

-- the known line of singletons, without what stands behind it
pub of_singletons : (all : List Declared) (lines : Path → Kind → Option Line) (a : Applied) (l : Line) (count : ℕ) → Knows all lines → Some l ≡ lines a.name.path Singleton → l.cut ≡ false → sort all a.name.path ≡ sorts.Class → a.args ≡ map t.Var (first_params all a.name.path) → count ≡ length (end_of_singletons sorts.Class all).steps → whole_part all part.Singletons a ≡ uncut (take (length l.steps - count) l.steps)
of_singletons all lines a l count knows there whole class own is =
    let path = a.name.path in
    let front = whole_part all part.Singletons (itself all path) in
    let end = end_of_singletons sorts.Class all in
    let both : l ≡ followed_by front end = known_is all lines path Singleton l knows there ∙ of_class all path class in
    let cuts = or_parts front.cut end.cut (sym (ap (λ (x : Line). x.cut) both) ∙ whole) in
    let sum : length (front.steps ++ end.steps) ≡ length front.steps + length end.steps = length-append front.steps end.steps in
    let left : length (front.steps ++ end.steps) - length end.steps ≡ length front.steps = omega (arith, sum) in
    let taken : take (length l.steps - count) l.steps ≡ front.steps =
    (λ i. take (length (ap (λ (x : Line). x.steps) both i) - is i) (ap (λ (x : Line). x.steps) both i))
    ∙ ap (λ n. take n (front.steps ++ end.steps)) left ∙ take-append_seam front.steps end.steps
    in
    own_line all part.Singletons a own ∙ of_steps front cuts.0 ∙ ap uncut (sym taken)

-- how long the line of a class with its own type parameters is
pub end_count : (all : List Declared) (lines : Path → Kind → Option Line) (a : Applied) (l : Line) → Knows all lines → Some l ≡ lines a.name.path Instance → a.args ≡ map t.Var (first_params all a.name.path) → length l.steps ≡ length (instances (turns all) all [] a).steps
end_count all lines a l knows there own =
    ap (λ (x : Line). length x.steps) (known_is all lines a.name.path Instance l knows there ∙ sym (own_line all part.Instances a own))

pub count_of : (all : List Declared) (end : Option ℕ) (count : ℕ) → end ≡ Some count → IsEndCount all end → count ≡ length (end_of_singletons sorts.Class all).steps
count_of all end count is has = subst (λ (o : Option ℕ). IsEndCount all o) is has

-- the front of the known line of singletons, if there is one
pub front_of : (all : List Declared) (a : Applied) (l : Line) (count : ℕ) (steps : List Step) (o : Option (List Step)) → steps ≡ l.steps → whole_part all part.Singletons a ≡ uncut (take (length l.steps - count) l.steps) → IfSome o (λ front. front ≡ take (length steps - count) steps) → IfSome o (λ front. whole_part all part.Singletons a ≡ uncut front)
front_of all a l count steps None same whole is = tt
front_of all a l count steps (Some front) same whole is = whole ∙ ap uncut (sym (is ∙ ap (λ (ss : List Step). take (length ss - count) ss) same))
