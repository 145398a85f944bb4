-- What is read in some room is read with the same trees in each room that is enough for it: the parts.
use Rattle.std.proofs.Common.{◌≡◌, ℕ, zero, suc, ◌++◌, ◌∷◌, [], Bool, true, false, if◌then◌else◌, List, slice_get, Option, Some, None, Result, Ok, IfSome, refl, sym, ap, subst, ◌∙◌}
use Rattle.ruby_grammar.specs.declared.token.Token.{Token}
use Rattle.ruby_grammar.specs.declared.room.Room.{Room}
use Rattle.ruby_grammar.specs.declared.step.Step.{Step}
use Rattle.ruby_grammar.specs.declared.tree.Tree.{Tree}
use Rattle.ruby_grammar.specs.declared.tree.Tree.TheVariants as tree
use Rattle.ruby_grammar.specs.Steps.{passed, failed, and_then, or_else, on_step, go_on, both_read, or_try, either_read, further, turn, turns, negated, not_read, marked, marked_read, mark_in, ended_step, ended_read, guarded_read}
use Rattle.ruby_grammar.specs.Tokens.{may_stand}
use Rattle.ruby_grammar.specs.Meaning.{Meaning, next_of, with_trees, trees_of_first, trees_of_either, more_trees, row_trees, place_or, chained_trees}
use Rattle.ruby_grammar.specs.Memos.{Fits}
use Rattle.ruby_grammar.proofs.Keeps.{Keeps, Behind, KeepsBehind, Ending, EndsIn, on_step_ok, ok, ok_same, fits_same, second_fits, keeps_go_on, keeps_or_try, mutual_turn, keeps_turns, negated_fits, ended_fits}

-- Where something derives, the trees are the same.
abbrev pub Same : Option ℕ → List Tree → List Tree → Type 0
Same o ts us = IfSome o (λ next. ts ≡ us)

-- What the first reads that this room is enough for, the second reads too, with the same trees.
abbrev pub KeepsAll : Room → Meaning → Meaning → Type 0
KeepsAll room m n = (i : ℕ) (s : Step) → m.step i ≡ Ok s → Fits s.need room → (n.step i ≡ Ok s) × Same s.next (m.trees i) (n.trees i)

pub keeps_of : (room : Room) (m n : Meaning) → KeepsAll room m n → Keeps room m.step n.step
keeps_of room m n kept i s e fits = (kept i s e fits).0

pub same_refl : (o : Option ℕ) (ts : List Tree) → Same o ts ts
same_refl None ts = tt
same_refl (Some next) ts = refl

-- what is read alike is kept
pub all_same : (room : Room) (m : Meaning) → KeepsAll room m m
all_same room m i s e fits = (e, same_refl s.next (m.trees i))

-- trees by a step, where the steps are known
same_by : (o : Option ℕ) (r r' : Result Step ℕ) (s : Step) (f g : Result Step ℕ → List Tree) → r ≡ Ok s → r' ≡ Ok s → Same o (f (ok s)) (g (ok s)) → Same o (f r) (g r')
same_by o r r' s f g e e' same = subst (λ x. Same o (f x) (g r')) (sym e) (subst (λ x. Same o (f (ok s)) (g x)) (sym e') same)

-- a part, and what is behind its step
all_then : (room : Room) (p q : Meaning) (k m : ℕ → Behind) (f g : ℕ → Result Step ℕ → List Tree) → KeepsAll room p q → ((i : ℕ) → KeepsBehind room (k i) (m i))
    → ((i : ℕ) (s t : Step) → k i s ≡ Ok t → Fits t.need room → Same s.next (p.trees i) (q.trees i) → Same t.next (f i (ok s)) (g i (ok s)))
    → KeepsAll room (record { step = λ i. on_step (p.step i) (k i); trees = λ i. f i (p.step i) }) (record { step = λ i. on_step (q.step i) (m i); trees = λ i. g i (q.step i) })
all_then room p q k m f g kept behind trees i t e fits =
    let found = on_step_ok (p.step i) (k i) t e in
    let more = behind i found.0 t found.2 fits in
    let first = kept i found.0 found.1 more.0 in
    (ap (λ r. on_step r (m i)) first.0 ∙ more.1, same_by t.next (p.step i) (q.step i) found.0 (f i) (g i) found.1 first.0 (trees i found.0 t found.2 fits first.1))

-- ---- one after the other

both_same : (o : Option ℕ) (ts us vs ws : List Tree) → ts ≡ us → Same o vs ws → Same o (ts ++ vs) (us ++ ws)
both_same None ts us vs ws e same = tt
both_same (Some next) ts us vs ws e same = ap (λ xs. xs ++ vs) e ∙ ap (λ xs. us ++ xs) same

both_trees : (room : Room) (p q : Meaning) → KeepsAll room p q → (s t : Step) (o : Option ℕ) (ts us : List Tree) → go_on p.step s o ≡ Ok t → Fits t.need room → o ≡ s.next → Same o ts us → Same t.next (with_trees ts p.trees o) (with_trees us q.trees o)
both_trees room p q kept s t None ts us e fits is same = subst (λ (x : Step). Same x.next ts us) (ok_same s t e) (subst (λ x. Same x ts us) is same)
both_trees room p q kept s t (Some mid) ts us e fits is same =
    let found = on_step_ok (p.step mid) (λ t. Ok (and_then s t)) t e in
    let both = fits_same room (and_then s found.0) t (ok_same (and_then s found.0) t found.2) fits in
    let rest = kept mid found.0 found.1 (second_fits s.need found.0.need room both) in
    subst (λ (x : Step). Same x.next (ts ++ p.trees mid) (us ++ q.trees mid)) (ok_same (and_then s found.0) t found.2) (both_same found.0.next ts us (p.trees mid) (q.trees mid) same rest.1)

abbrev both_means : Meaning → Meaning → Meaning
both_means p q = record { step = both_read p.step q.step; trees = λ i. with_trees (p.trees i) q.trees (next_of (p.step i)) }

pub all_both : (room : Room) (p p' q q' : Meaning) → KeepsAll room p p' → KeepsAll room q q' → KeepsAll room (both_means p q) (both_means p' q')
all_both room p p' q q' kept_p kept_q = all_then room p p' (λ i s. go_on q.step s s.next) (λ i s. go_on q'.step s s.next) (λ i r. with_trees (p.trees i) q.trees (next_of r)) (λ i r. with_trees (p'.trees i) q'.trees (next_of r)) kept_p
    (λ i s t e fits. keeps_go_on room q.step q'.step (keeps_of room q q' kept_q) s t s.next e fits)
    (λ i s t e fits same. both_trees room q q' kept_q s t s.next (p.trees i) (p'.trees i) e fits refl same)

-- ---- the first that derives

either_trees : (room : Room) (p q : Meaning) → KeepsAll room p q → (i : ℕ) (s t : Step) (o : Option ℕ) (ts us : List Tree) → or_try p.step i s o ≡ Ok t → Fits t.need room → Same o ts us → Same t.next (trees_of_first ts (p.trees i) o) (trees_of_first us (q.trees i) o)
either_trees room p q kept i s t (Some next) ts us e fits same = subst (λ xs. Same t.next ts xs) same (same_refl t.next ts)
either_trees room p q kept i s t None ts us e fits same =
    let found = on_step_ok (p.step i) (λ t. Ok (or_else s t)) t e in
    let both = fits_same room (or_else s found.0) t (ok_same (or_else s found.0) t found.2) fits in
    let rest = kept i found.0 found.1 (second_fits s.need found.0.need room both) in
    subst (λ (x : Step). Same x.next (p.trees i) (q.trees i)) (ok_same (or_else s found.0) t found.2) rest.1

abbrev either_means : Meaning → Meaning → Meaning
either_means p q = record { step = either_read p.step q.step; trees = λ i. trees_of_either (p.trees i) (q.trees i) (p.step i) }

pub all_either : (room : Room) (p p' q q' : Meaning) → KeepsAll room p p' → KeepsAll room q q' → KeepsAll room (either_means p q) (either_means p' q')
all_either room p p' q q' kept_p kept_q = all_then room p p' (λ i s. or_try q.step i s s.next) (λ i s. or_try q'.step i s s.next) (λ i r. trees_of_either (p.trees i) (q.trees i) r) (λ i r. trees_of_either (p'.trees i) (q'.trees i) r) kept_p
    (λ i s t e fits. keeps_or_try room q.step q'.step (keeps_of room q q' kept_q) i s t s.next e fits)
    (λ i s t e fits same. either_trees room q q' kept_q i s t s.next (p.trees i) (p'.trees i) e fits same)

-- ---- repetitions

further_same : (b : Bool) (next : ℕ) (ts us : List Tree) → ts ≡ us → Same (if b then Some next else None) ts us
further_same true next ts us e = e
further_same false next ts us e = tt

taken_same : (i : ℕ) (o : Option ℕ) (ts us : List Tree) → Same o ts us → Same (further i o) ts us
taken_same i None ts us same = tt
taken_same i (Some next) ts us same = further_same _ next ts us same

turn_trees : (room : Room) (ending : Ending) (again more : ℕ → List Tree) → ((done t : Step) (i : ℕ) → ending done i ≡ Ok t → Fits t.need room → again i ≡ more i) → (done s t : Step) (o : Option ℕ) (ts us : List Tree) → turn ending done s o ≡ Ok t → Fits t.need room → Same o ts us → more_trees again ts o ≡ more_trees more us o
turn_trees room ending again more kept done s t None ts us e fits same = refl
turn_trees room ending again more kept done s t (Some next) ts us e fits same = ap (λ xs. xs ++ again next) same ∙ ap (λ xs. us ++ xs) (kept (and_then done s) t next e fits)

pub same_row : (n : ℕ) (room : Room) (ending : Ending) (p q : Meaning) → EndsIn room ending → KeepsAll room p q → (done t : Step) (i : ℕ) → turns ending p.step n done i ≡ Ok t → Fits t.need room → row_trees p.step p.trees n i ≡ row_trees q.step q.trees n i
same_row zero room ending p q ends kept done t i e fits = refl
same_row (suc n) room ending p q ends kept done t i e fits =
    let found = on_step_ok (p.step i) (λ s. turn (turns ending p.step n) done s (further i s.next)) t e in
    let rest = mutual_turn room (turns ending p.step n) (turns ending q.step n) (keeps_turns n room ending p.step q.step ends (keeps_of room p q kept)) done found.0 t (further i found.0.next) found.2 fits in
    let first = kept i found.0 found.1 rest.1 in
    ap (λ r. more_trees (row_trees p.step p.trees n) (p.trees i) (further i (next_of r))) found.1
    ∙ turn_trees room (turns ending p.step n) (row_trees p.step p.trees n) (row_trees q.step q.trees n) (same_row n room ending p q ends kept) done found.0 t (further i found.0.next) (p.trees i) (q.trees i) found.2 fits (taken_same i found.0.next (p.trees i) (q.trees i) first.1)
    ∙ sym (ap (λ r. more_trees (row_trees q.step q.trees n) (q.trees i) (further i (next_of r))) first.0)

abbrev turns_mean : Ending → Meaning → ℕ → Meaning
turns_mean ending p n = record { step = λ i. turns ending p.step n (passed i) i; trees = row_trees p.step p.trees n }

pub all_turns : (n : ℕ) (room : Room) (ending : Ending) (p q : Meaning) → EndsIn room ending → KeepsAll room p q → KeepsAll room (turns_mean ending p n) (turns_mean ending q n)
all_turns n room ending p q ends kept i t e fits = (
  (keeps_turns n room ending p.step q.step ends (keeps_of room p q kept) (passed i) t i e fits).1,
  subst (λ xs. Same t.next (row_trees p.step p.trees n i) xs) (same_row n room ending p q ends kept (passed i) t i e fits) (same_refl t.next (row_trees p.step p.trees n i)),
)

-- ---- the others

pub all_not : (room : Room) (p q : Meaning) → KeepsAll room p q → KeepsAll room (record { step = not_read p.step; trees = λ i. [] }) (record { step = not_read q.step; trees = λ i. [] })
all_not room p q kept = all_then room p q (λ i s. Ok (negated i s.need s.next)) (λ i s. Ok (negated i s.need s.next)) (λ i r. []) (λ i r. []) kept
    (λ i s t e fits. (negated_fits room i s s.next (fits_same room (negated i s.need s.next) t (ok_same (negated i s.need s.next) t e) fits), e))
    (λ i s t e fits same. same_refl t.next [])

mapped_same : (f : List Tree → List Tree) (o : Option ℕ) (ts us : List Tree) → Same o ts us → Same o (f ts) (f us)
mapped_same f None ts us same = tt
mapped_same f (Some next) ts us same = ap f same

marked_same : (name : ℕ) (f : List Tree → List Tree) (s t : Step) (ts us : List Tree) → ok (marked name s) ≡ ok t → Same s.next ts us → Same t.next (f ts) (f us)
marked_same name f s t ts us e same = subst (λ (x : Step). Same x.next (f ts) (f us)) (ok_same (marked name s) t e) (mapped_same f s.next ts us same)

-- trees that are made of the place behind and of the trees
all_marked : (room : Room) (name : ℕ) (f : ℕ → ℕ → List Tree → List Tree) (p q : Meaning) → KeepsAll room p q → KeepsAll room (record { step = marked_read name p.step; trees = λ i. f i (place_or i (next_of (p.step i))) (p.trees i) }) (record { step = marked_read name q.step; trees = λ i. f i (place_or i (next_of (q.step i))) (q.trees i) })
all_marked room name f p q kept = all_then room p q (λ i s. Ok (marked name s)) (λ i s. Ok (marked name s)) (λ i r. f i (place_or i (next_of r)) (p.trees i)) (λ i r. f i (place_or i (next_of r)) (q.trees i)) kept
    (λ i s t e fits. (fits_same room (marked name s) t (ok_same (marked name s) t e) fits, e))
    (λ i s t e fits same. marked_same name (f i (place_or i s.next)) s t (p.trees i) (q.trees i) e same)

abbrev label_means : ℕ → Meaning → Meaning
label_means name p = record { step = marked_read name p.step; trees = λ i. tree.Node name i (place_or i (next_of (p.step i))) (p.trees i) ∷ [] }

pub all_label : (room : Room) (name : ℕ) (p q : Meaning) → KeepsAll room p q → KeepsAll room (label_means name p) (label_means name q)
all_label room name = all_marked room name (λ i behind ts. tree.Node name i behind ts ∷ [])

abbrev chained_means : ℕ → Meaning → Meaning
chained_means name p = record { step = marked_read name p.step; trees = λ i. chained_trees name i (place_or i (next_of (p.step i))) (p.trees i) }

pub all_chained : (room : Room) (name : ℕ) (p q : Meaning) → KeepsAll room p q → KeepsAll room (chained_means name p) (chained_means name q)
all_chained room name = all_marked room name (chained_trees name)

if_same : (b : Bool) (i : ℕ) (s : Step) (ts us : List Tree) → Same s.next ts us → Same (if b then s else or_else s (failed i)).next ts us
if_same true i s ts us same = same
if_same false i s ts us same = tt

ended_same : (labels : List Bool) (i : ℕ) (s : Step) (o : Option ℕ) (ts us : List Tree) → Same s.next ts us → Same (ended_step labels i s o).next ts us
ended_same labels i s None ts us same = same
ended_same labels i s (Some next) ts us same = if_same (mark_in labels s.mark) i s ts us same

abbrev ended_means : List Bool → Meaning → Meaning
ended_means labels p = record { step = ended_read labels p.step; trees = p.trees }

pub all_ended : (room : Room) (labels : List Bool) (p q : Meaning) → KeepsAll room p q → KeepsAll room (ended_means labels p) (ended_means labels q)
all_ended room labels p q kept = all_then room p q (λ i s. Ok (ended_step labels i s s.next)) (λ i s. Ok (ended_step labels i s s.next)) (λ i r. p.trees i) (λ i r. q.trees i) kept
    (λ i s t e fits. (ended_fits room labels i s s.next (fits_same room (ended_step labels i s s.next) t (ok_same (ended_step labels i s s.next) t e) fits), e))
    (λ i s t e fits same. subst (λ (x : Step). Same x.next (p.trees i) (q.trees i)) (ok_same (ended_step labels i s s.next) t e) (ended_same labels i s s.next (p.trees i) (q.trees i) same))

abbrev guarded_means : List Token → List Bool → Meaning → Meaning
guarded_means tokens table p = record { step = guarded_read tokens table p.step; trees = p.trees }

all_if : (room : Room) (b : Bool) (p q : Meaning) → KeepsAll room p q → (i : ℕ) (s : Step) → (if b then p.step i else Ok (failed i)) ≡ Ok s → Fits s.need room → ((if b then q.step i else Ok (failed i)) ≡ Ok s) × Same s.next (p.trees i) (q.trees i)
all_if room true p q kept i s e fits = kept i s e fits
all_if room false p q kept i s e fits = (e, subst (λ (x : Step). Same x.next (p.trees i) (q.trees i)) (ok_same (failed i) s e) tt)

pub all_guarded : (room : Room) (tokens : List Token) (table : List Bool) (p q : Meaning) → KeepsAll room p q → KeepsAll room (guarded_means tokens table p) (guarded_means tokens table q)
all_guarded room tokens table p q kept i s e fits = all_if room (may_stand table (slice_get tokens i)) p q kept i s e fits
