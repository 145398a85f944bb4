-- Lines, one behind the other, and a line one turn further.
use Rattle.std.proofs.Common.{◌≡◌, ◌∙◌, ℕ, zero, suc, ◌-◌, ◌<◌, Bool, true, false, not, ◌&&◌, ◌||◌, nat_lt, if◌then◌else◌, List, [], ◌∷◌, ◌++◌, map, codes, refl, sym, ap, arith, append_assoc, append-nil}
use Rattle.std.proofs.lemmas.Bool.{lt-ltb, ltb-true}
use Rattle.sig_rules.specs.declared.files.Declared.{Declared}
use Rattle.sig_rules.specs.declared.line.Applied.{Applied}
use Rattle.sig_rules.specs.declared.line.Line.{Line}
use Rattle.sig_rules.specs.declared.sort.Sort.TheVariants as is
use Rattle.sig_rules.specs.Declarations.{Path}
use Rattle.sig_rules.specs.Types.{sort}
use Rattle.sig_rules.specs.Lines.{Trail, behind_instances, behind_singletons, brought, end_of_singletons, extend_of, followed_by, in_a_row, include_of, instances, is_on, itself, left_out, mixed_in, no_line, plain, prepend_of, singleton_line, singletons, turns}
use Rattle.ancestors.specs.declared.tasks.Part.{Part}
use Rattle.ancestors.specs.declared.tasks.Part.TheVariants as part
use Rattle.ancestors.specs.declared.tasks.Piece.{Piece}
use Rattle.ancestors.specs.declared.tasks.Piece.TheVariants as piece
use Rattle.ancestors.specs.Pieces.{brought_pieces, kind_of, parts, pieces, singleton_step_of, step_of}
use Rattle.ancestors.specs.Walks.{line_of, piece_line}

pub or_false : (a : Bool) → (a || false) ≡ a
or_false true = refl
or_false false = refl

or_assoc : (a b c : Bool) → ((a || b) || c) ≡ (a || (b || c))
or_assoc true b c = refl
or_assoc false b c = refl

pub followed_by-assoc : (a b c : Line) → followed_by (followed_by a b) c ≡ followed_by a (followed_by b c)
followed_by-assoc a b c = λ i. record { steps = append_assoc a.steps b.steps c.steps i; cut = or_assoc a.cut b.cut c.cut i }

pub followed_by-none : (a : Line) → followed_by a no_line ≡ a
followed_by-none a = λ i. record { steps = append-nil a.steps i; cut = or_false a.cut i }

rows-append : (f : Piece → Line) (ps qs : List Piece) → in_a_row (map f (ps ++ qs)) ≡ followed_by (in_a_row (map f ps)) (in_a_row (map f qs))
rows-append f [] qs = refl
rows-append f (p ∷ ps) qs = ap (followed_by (f p)) (rows-append f ps qs) ∙ sym (followed_by-assoc (f p) (in_a_row (map f ps)) (in_a_row (map f qs)))

rows-parts : (f : Piece → Line) (part : Part) (names : List Applied) → in_a_row (map f (parts part names)) ≡ in_a_row (map (λ (a : Applied). f (piece.Of part a)) names)
rows-parts f part [] = refl
rows-parts f part (a ∷ names) = ap (followed_by (f (piece.Of part a))) (rows-parts f part names)

abbrev pub further : Part → Applied → Trail → Trail
further part a trail = (a.name.path, kind_of part) ∷ trail

-- the line of the pieces of a part of a name
abbrev inner : ℕ → List Declared → Trail → Part → Applied → Line
inner n all trail part a = in_a_row (map (piece_line n all (further part a trail)) (pieces all part a))

brought_inner : (n : ℕ) (all : List Declared) (trail : Trail) (a : Applied) → followed_by (in_a_row (map (brought n all trail) (mixed_in all prepend_of a))) (followed_by (piece_line n all trail (piece.One (step_of a))) (in_a_row (map (brought n all trail) (mixed_in all include_of a)))) ≡ in_a_row (map (piece_line n all trail) (brought_pieces all a))
brought_inner n all trail a =
    let f = piece_line n all trail in
    let before = parts part.Brought (mixed_in all prepend_of a) in
    let behind = parts part.Brought (mixed_in all include_of a) in
    sym (rows-append f before (piece.One (step_of a) ∷ behind) ∙ ap (λ (l : Line). followed_by l (followed_by (f (piece.One (step_of a))) (in_a_row (map f behind)))) (rows-parts f part.Brought (mixed_in all prepend_of a))
    ∙ ap (λ (l : Line). followed_by (in_a_row (map (brought n all trail) (mixed_in all prepend_of a))) (followed_by (f (piece.One (step_of a))) l)) (rows-parts f part.Brought (mixed_in all include_of a)))

else_same : {A : Type 0} (b : Bool) (x y z : A) → y ≡ z → (if b then x else y) ≡ (if b then x else z)
else_same b x y z same = ap (λ w. if b then x else w) same

twice : (b : Bool) (y z : Line) → (if b then left_out else followed_by (if b then left_out else y) z) ≡ (if b then left_out else followed_by y z)
twice true y z = refl
twice false y z = refl

-- a part of a name is left out, or its pieces stand there
turn : (n : ℕ) (all : List Declared) (trail : Trail) (part : Part) (a : Applied) → piece_line (suc n) all trail (piece.Of part a) ≡ (if is_on trail a.name.path (kind_of part) then left_out else inner n all trail part a)
turn n all trail part.Brought a = else_same (is_on trail a.name.path (kind_of part.Brought)) left_out _ _ (brought_inner n all (further part.Brought a trail) a)
turn n all trail part.Instances a =
    let on = is_on trail a.name.path (kind_of part.Instances) in
    let next = further part.Instances a trail in
    let f = piece_line n all next in
    twice on _ _
    ∙ else_same on left_out _ _ (ap (λ (l : Line). followed_by l (in_a_row (map (instances n all next) (behind_instances all a)))) (brought_inner n all next a)
    ∙ ap (followed_by (in_a_row (map f (brought_pieces all a)))) (sym (rows-parts f part.Instances (behind_instances all a)))
    ∙ sym (rows-append f (brought_pieces all a) (parts part.Instances (behind_instances all a))))
turn n all trail part.Singletons a =
    let next = further part.Singletons a trail in
    let f = piece_line n all next in
    let extended = parts part.Brought (mixed_in all extend_of a) in
    let behind = parts part.Singletons (behind_singletons all a) in
    else_same (is_on trail a.name.path (kind_of part.Singletons)) left_out _ _ (ap (followed_by (f (piece.One (singleton_step_of a))))
    (ap (λ (l : Line). followed_by l (in_a_row (map (singletons n all next) (behind_singletons all a)))) (sym (rows-parts f part.Brought (mixed_in all extend_of a)))
    ∙ ap (followed_by (in_a_row (map f extended))) (sym (rows-parts f part.Singletons (behind_singletons all a)))
    ∙ sym (rows-append f extended behind)))

pub out_by : (n : ℕ) (all : List Declared) (trail : Trail) (part : Part) (a : Applied) → (0 < n → is_on trail a.name.path (kind_of part) ≡ true) → piece_line n all trail (piece.Of part a) ≡ left_out
out_by zero all trail part.Brought a on = refl
out_by zero all trail part.Instances a on = refl
out_by zero all trail part.Singletons a on = refl
out_by (suc n) all trail part a on = turn n all trail part a ∙ ap (λ b. if b then left_out else inner n all trail part a) (on (omega arith))

pub in_by : (n : ℕ) (all : List Declared) (trail : Trail) (part : Part) (a : Applied) → not (is_on trail a.name.path (kind_of part)) ≡ true → piece_line (suc n) all trail (piece.Of part a) ≡ inner n all trail part a
in_by n all trail part a off = turn n all trail part a ∙ by_test (is_on trail a.name.path (kind_of part)) off
  where
    by_test : (b : Bool) → not b ≡ true → (if b then left_out else inner n all trail part a) ≡ inner n all trail part a
    by_test true off = cc
    by_test false off = refl

pub turns_more : (t n : ℕ) → nat_lt t n ≡ true → n - t ≡ suc (n - suc t)
turns_more t n more = omega (arith, ltb-true t n more)

pub on_trail : (t n : ℕ) (on : Bool) → (nat_lt t n && not on) ≡ false → 0 < n - t → on ≡ true
on_trail t n true out some = refl
on_trail t n false out some =
    let below : nat_lt t n ≡ true = lt-ltb t n (omega arith) in
    let both : (nat_lt t n && true) ≡ true = ap (λ b. b && true) below in
    cc

pub and_left : (a b : Bool) → (a && b) ≡ true → a ≡ true
and_left true b is = refl
and_left false b is = cc

pub and_right : (a b : Bool) → (a && b) ≡ true → b ≡ true
and_right true b is = is
and_right false b is = cc

-- a line of instances alone
pub only_instances : (all : List Declared) (a : Applied) → line_of all (piece.Of part.Instances a ∷ []) ≡ instances (turns all) all [] a
only_instances all a = followed_by-none (instances (turns all) all [] a)

-- a line of singletons, and a line of instances behind it
pub singletons_first : (all : List Declared) (a b : Applied) → line_of all (piece.Of part.Singletons a ∷ piece.Of part.Instances b ∷ []) ≡ followed_by (singletons (turns all) all [] a) (instances (turns all) all [] b)
singletons_first all a b = ap (followed_by (singletons (turns all) all [] a)) (followed_by-none (instances (turns all) all [] b))

class_whole : (all : List Declared) (path : Path) (l : Line) → sort all path ≡ is.Class → followed_by (singletons (turns all) all [] (itself all path)) (end_of_singletons (sort all path) all) ≡ l → singleton_line all path ≡ l
class_whole all path l class whole = rw class whole

module_whole : (all : List Declared) (path : Path) (l : Line) → sort all path ≡ is.Module → followed_by (singletons (turns all) all [] (itself all path)) (end_of_singletons (sort all path) all) ≡ l → singleton_line all path ≡ l
module_whole all path l sorted whole = rw sorted whole

-- the line of a class itself
pub of_class : (all : List Declared) (path : Path) → sort all path ≡ is.Class → singleton_line all path ≡ followed_by (singletons (turns all) all [] (itself all path)) (instances (turns all) all [] (plain (codes "Class" ∷ [])))
of_class all path class = class_whole all path _ class (ap (λ s. followed_by (singletons (turns all) all [] (itself all path)) (end_of_singletons s all)) class)

-- the line of a module itself
pub of_module : (all : List Declared) (path : Path) → sort all path ≡ is.Module → singleton_line all path ≡ followed_by (singletons (turns all) all [] (itself all path)) (instances (turns all) all [] (plain (codes "Module" ∷ [])))
of_module all path sorted = module_whole all path _ sorted (ap (λ s. followed_by (singletons (turns all) all [] (itself all path)) (end_of_singletons s all)) sorted)
