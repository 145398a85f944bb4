-- Repetitions: how a turn goes, and how they end.
use Rattle.std.proofs.Common.{◌≡◌, ◌<◌, ◌≤◌, ◌+◌, ◌-◌, ◌++◌, ◌∙◌, [], ℕ, zero, suc, max, ltb, Bool, true, false, if◌then◌else◌, List, slice_get, Option, Some, None, Result, Ok, Err, refl, sym, ap, subst, arith}
use Rattle.std.proofs.Math.Nat.{zero-max, max-zero}
use Rattle.std.proofs.lemmas.Bool.{lt-ltb, le-ltb}
use Rattle.std.proofs.lemmas.List.{append-nil, append_assoc}
use Rattle.ruby_grammar.specs.declared.token.Token.{Token}
use Rattle.ruby_grammar.specs.declared.set.TokenSet.{TokenSet}
use Rattle.ruby_grammar.specs.declared.tree.Tree.{Tree}
use Rattle.ruby_grammar.specs.declared.step.Step.{Step}
use Rattle.ruby_grammar.specs.declared.trail.Trail.{Trail}
use Rattle.ruby_grammar.specs.declared.outcome.Outcome.{Outcome}
use Rattle.ruby_grammar.specs.declared.outcome.Outcome.TheVariants as outcome
use Rattle.ruby_grammar.specs.Rows.{At, Extends, Grows}
use Rattle.ruby_grammar.specs.Steps.{Reading, room_of_both, later_mark, passed, failed, and_then, but_tried, on_step, token_step, token_read, further, turn, turns, no_more, none_fits, full_chain}
use Rattle.ruby_grammar.specs.Meaning.{next_of, more_trees, row_trees}
use Rattle.ruby_grammar.specs.Memos.{Tried, Goes}
use Rattle.ruby_grammar.proofs.Extends.{extends_same, at_kept}
use Rattle.ruby_grammar.proofs.Reading.{max_assoc, room_assoc, room_same, room_first, no_mark, mark_assoc}

-- ---- steps

-- steps are the same where their fields are
step_same : (s t : Step) → s.far ≡ t.far → s.next ≡ t.next → s.mark ≡ t.mark → s.need ≡ t.need → s ≡ t
step_same s t far next mark need = let same : ◌≡◌ {A = Step} (record { far = s.far; next = s.next; mark = s.mark; need = s.need }) (record { far = t.far; next = t.next; mark = t.mark; need = t.need }) = cc in same

-- what takes nothing changes nothing of a step behind it
passed_then : (i : ℕ) (s : Step) → and_then (passed i) s ≡ s
passed_then i s = step_same (and_then (passed i) s) s (zero-max s.far) refl (no_mark s.mark) (room_first s.need)

-- nor of a step before it
then_passed : (d : Step) (i : ℕ) → d.next ≡ Some i → d ≡ and_then d (passed i)
then_passed d i next = step_same d (and_then d (passed i)) (sym (max-zero d.far)) next refl (sym (room_same d.need))

then_assoc : (a b c : Step) → and_then (and_then a b) c ≡ and_then a (and_then b c)
then_assoc a b c = step_same (and_then (and_then a b) c) (and_then a (and_then b c)) (max_assoc a.far b.far c.far) refl (mark_assoc a.mark b.mark c.mark) (room_assoc a.need b.need c.need)

-- what is taken back behind a step is taken back behind what takes nothing
then_tried : (d s : Step) (i : ℕ) → d.next ≡ Some i → but_tried d s ≡ and_then d (but_tried (passed i) s)
then_tried d s i next = step_same (but_tried d s) (and_then d (but_tried (passed i) s)) (ap (λ n. max d.far n) (sym (zero-max s.far))) next refl (ap (λ a. room_of_both d.need a) (sym (room_first s.need)))

-- ---- what was done before

-- What was done before comes before what is read as if nothing had been.
abbrev pub Prepends : (Step → ℕ → Result Step ℕ) → Type 0
Prepends ending = (d : Step) (i : ℕ) → d.next ≡ Some i → ending d i ≡ on_step (ending (passed i) i) (λ t. Ok (and_then d t))

pub no_more_prepends : Prepends no_more
no_more_prepends d i next = ap Ok (then_passed d i next)

none_fits_prepends : (d s : Step) (i : ℕ) (o : Option ℕ) → d.next ≡ Some i → none_fits i d s o ≡ on_step (none_fits i (passed i) s o) (λ t. Ok (and_then d t))
none_fits_prepends d s i None next = ap Ok (then_tried d s i next)
none_fits_prepends d s i (Some behind) next = refl

pub full_chain_prepends : (tokens : List Token) (head : TokenSet) → Prepends (full_chain tokens head)
full_chain_prepends tokens head d i next =
    let s = token_step head i (slice_get tokens i) in
    none_fits_prepends d s i s.next next

-- two steps before one are one step before it
before_both : (d s : Step) (r : Result Step ℕ) → on_step r (λ t. Ok (and_then (and_then d s) t)) ≡ on_step (on_step r (λ t. Ok (and_then s t))) (λ t. Ok (and_then d t))
before_both d s (Ok t) = ap Ok (then_assoc d s t)
before_both d s (Err at) = refl

if_some : (b : Bool) (i next : ℕ) → Some next ≡ (if b then Some i else None) → Some i ≡ Some next
if_some true i next is = sym is
if_some false i next is = absurd (let never : Some next ≡ None = is in cc never)

-- a turn that took something ends where its step does
further_next : (i next : ℕ) (o : Option ℕ) → Some next ≡ further i o → o ≡ Some next
further_next i next None is = absurd (let never : Some next ≡ None = is in cc never)
further_next i next (Some behind) is = if_some (ltb i behind) behind next is

turn_prepends : (again : Step → ℕ → Result Step ℕ) → Prepends again → (d s : Step) (i : ℕ) (o : Option ℕ) → d.next ≡ Some i → o ≡ further i s.next → turn again d s o ≡ on_step (turn again (passed i) s o) (λ t. Ok (and_then d t))
turn_prepends again prepends d s i None next on = ap Ok (then_tried d s i next)
turn_prepends again prepends d s i (Some behind) next on =
    let here : s.next ≡ Some behind = further_next i behind s.next on in
    prepends (and_then d s) behind here
    ∙ before_both d s (again (passed behind) behind)
    ∙ ap (λ r. on_step r (λ t. Ok (and_then d t))) (sym (ap (λ s. again s behind) (passed_then i s) ∙ prepends s behind here))

on_turn_prepends : (again : Step → ℕ → Result Step ℕ) → Prepends again → (d : Step) (i : ℕ) (r : Result Step ℕ) → d.next ≡ Some i → on_step r (λ s. turn again d s (further i s.next)) ≡ on_step (on_step r (λ s. turn again (passed i) s (further i s.next))) (λ t. Ok (and_then d t))
on_turn_prepends again prepends d i (Ok s) next = turn_prepends again prepends d s i (further i s.next) next refl
on_turn_prepends again prepends d i (Err at) next = refl

-- turns before an ending that does so do so too
turns_prepend : (ending : Step → ℕ → Result Step ℕ) (p : Reading) → Prepends ending → (n : ℕ) → Prepends (turns ending p n)
turns_prepend ending p prepends zero = prepends
turns_prepend ending p prepends (suc n) = λ d i next. on_turn_prepends (turns ending p n) (turns_prepend ending p prepends n) d i (p i) next

-- ---- trails

goes_same : (r u : Result Step ℕ) (ts us : List Tree) (lists more : List (List Tree)) (old new : Trail) (out : Outcome) → r ≡ u → ts ≡ us → Goes u us lists old out more new → Goes r ts lists old out more new
goes_same r u ts us lists more old new out result trees goes = subst (λ r. Goes r ts lists old out more new) (sym result) (subst (λ ts. Goes u ts lists old out more new) (sym trees) goes)

-- one that was tried, and then another
then_tries : (s t : Step) (old here new : Trail) → Tried s old here → Tried t here new → Tried (and_then s t) old new
then_tries s t old here new first second = (
  second.0 ∙ ap (λ n. max n t.far) first.0 ∙ max_assoc old.far s.far t.far,
  second.1 ∙ ap (λ a. room_of_both a t.need) first.1 ∙ room_assoc old.need s.need t.need,
)

-- what goes on behind a step that passed, with that step before it
goes_then : (r : Result Step ℕ) (s : Step) (ts us : List Tree) (lists mid more : List (List Tree)) (old here new : Trail) (out : Outcome) → Tried s old here → here.mark ≡ later_mark old.mark s.mark → Grows lists old.row mid here.row ts → Goes r us mid here out more new → Goes (on_step r (λ t. Ok (and_then s t))) (ts ++ us) lists old out more new
unfolding Goes
goes_then r s ts us lists mid more old here new (outcome.Passed next) tried mark grows goes = (
  and_then s goes.0,
  ap (λ r. on_step r (λ t. Ok (and_then s t))) goes.1,
  goes.2,
  then_tries s goes.0 old here new tried goes.3,
  goes.4 ∙ ap (λ m. later_mark m goes.0.mark) mark ∙ mark_assoc old.mark s.mark goes.0.mark,
  λ vs at. subst (λ l. At more new.row l) (append_assoc vs ts us) (goes.5 (vs ++ ts) (grows vs at)),
)
goes_then r s ts us lists mid more old here new outcome.Failed tried mark grows goes = (
  and_then s goes.0,
  ap (λ r. on_step r (λ t. Ok (and_then s t))) goes.1,
  goes.2,
  then_tries s goes.0 old here new tried goes.3,
)
goes_then r s ts us lists mid more old here new (outcome.TooDeep at) tried mark grows goes = ap (λ r. on_step r (λ t. Ok (and_then s t))) goes
goes_then r s ts us lists mid more old here new outcome.NoMemory tried mark grows goes = tt

-- where a step is tried and taken back
goes_over : (r : Result Step ℕ) (ts : List Tree) (i : ℕ) (s : Step) (lists mid : List (List Tree)) (old here : Trail) → r ≡ Ok (but_tried (passed i) s) → ts ≡ [] → Tried s old here → Extends lists mid → Goes r ts lists old (outcome.Passed i) mid (record { far = here.far; need = here.need; mark = old.mark; row = old.row })
unfolding Goes
goes_over r ts i s lists mid old here read none tried more = (
  but_tried (passed i) s,
  read,
  refl,
  (tried.0 ∙ ap (λ n. max old.far n) (sym (zero-max s.far)), tried.1 ∙ ap (λ a. room_of_both old.need a) (sym (room_first s.need))),
  refl,
  λ us at. subst (λ l. At mid old.row l) (sym (ap (λ l. us ++ l) none ∙ append-nil us)) (at_kept lists mid old.row us more at),
)

-- ---- turns

further_on : (i next : ℕ) (o : Option ℕ) → i < next → o ≡ Some next → further i o ≡ Some next
further_on i next o on is = ap (λ o. further i o) is ∙ ap (λ b. if b then Some next else None) (lt-ltb i next on)

no_further : (i next : ℕ) (o : Option ℕ) → next ≤ i → o ≡ Some next → further i o ≡ None
no_further i next o still is = ap (λ o. further i o) is ∙ ap (λ b. if b then Some next else None) (le-ltb i next still)

module _ (ending : Step → ℕ → Result Step ℕ) (p : Reading) (q : ℕ → List Tree) where
  -- the first of some turns, by what is read
  turns_first : (n i : ℕ) (r : Result Step ℕ) → 0 < n → p i ≡ r → turns ending p n (passed i) i ≡ on_step r (λ s. turn (turns ending p (n - 1)) (passed i) s (further i s.next))
  turns_first n i r some read =
      let more : n ≡ suc (n - 1) = omega arith in
      ap (λ k. turns ending p k (passed i) i) more
      ∙ ap (λ r. on_step r (λ s. turn (turns ending p (n - 1)) (passed i) s (further i s.next))) read

  -- the trees of some turns, by the first step
  trees_first : (n i : ℕ) (s : Step) (o : Option ℕ) → 0 < n → p i ≡ Ok s → further i s.next ≡ o → row_trees p q n i ≡ more_trees (row_trees p q (n - 1)) (q i) o
  trees_first n i s o some read on =
      let more : n ≡ suc (n - 1) = omega arith in
      ap (λ k. row_trees p q k i) more
      ∙ ap (λ r. more_trees (row_trees p q (n - 1)) (q i) (further i (next_of r))) read
      ∙ ap (λ o. more_trees (row_trees p q (n - 1)) (q i) o) on

  -- a turn that took something, and what goes on behind it
  pub turn_goes : Prepends ending → (n i next : ℕ) (lists mid : List (List Tree)) (old here : Trail) → 0 < n → i < next → Goes (p i) (q i) lists old (outcome.Passed next) mid here → (out : Outcome) (more : List (List Tree)) (new : Trail) → Goes (turns ending p (n - 1) (passed next) next) (row_trees p q (n - 1) next) mid here out more new → Goes (turns ending p n (passed i) i) (row_trees p q n i) lists old out more new
  unfolding Goes
  turn_goes prepends n i next lists mid old here some on goes out more new rest =
      let s = goes.0 in
      let taken : further i s.next ≡ Some next = further_on i next s.next on goes.2 in
      goes_same (turns ending p n (passed i) i) (on_step (turns ending p (n - 1) (passed next) next) (λ t. Ok (and_then s t))) (row_trees p q n i) (q i ++ row_trees p q (n - 1) next) lists more old new out
      (turns_first n i (Ok s) some goes.1
      ∙ ap (λ o. turn (turns ending p (n - 1)) (passed i) s o) taken
      ∙ ap (λ d. turns ending p (n - 1) d next) (passed_then i s)
      ∙ turns_prepend ending p prepends (n - 1) s next goes.2)
      (trees_first n i s (Some next) some goes.1 taken)
      (goes_then (turns ending p (n - 1) (passed next) next) s (q i) (row_trees p q (n - 1) next) lists mid more old here new out goes.3 goes.4 goes.5 rest)

  -- a turn that took nothing
  turn_over : (n i : ℕ) (s : Step) (lists mid : List (List Tree)) (old here : Trail) → 0 < n → p i ≡ Ok s → further i s.next ≡ None → Tried s old here → Extends lists mid → Goes (turns ending p n (passed i) i) (row_trees p q n i) lists old (outcome.Passed i) mid (record { far = here.far; need = here.need; mark = old.mark; row = old.row })
  turn_over n i s lists mid old here some read over = goes_over (turns ending p n (passed i) i) (row_trees p q n i) i s lists mid old here
      (turns_first n i (Ok s) some read ∙ ap (λ o. turn (turns ending p (n - 1)) (passed i) s o) over)
      (trees_first n i s None some read over)

  -- a turn that doesn't derive is the last
  pub turn_fails : (n i : ℕ) (lists mid : List (List Tree)) (old here : Trail) → 0 < n → Extends lists mid → Goes (p i) (q i) lists old outcome.Failed mid here → Goes (turns ending p n (passed i) i) (row_trees p q n i) lists old (outcome.Passed i) mid (record { far = here.far; need = here.need; mark = old.mark; row = old.row })
  unfolding Goes
  turn_fails n i lists mid old here some more goes = turn_over n i goes.0 lists mid old here some goes.1 (ap (λ o. further i o) goes.2) goes.3 more

  -- so is one that derives and takes nothing
  pub turn_idles : (n i next : ℕ) (lists mid : List (List Tree)) (old here : Trail) → 0 < n → next ≤ i → Extends lists mid → Goes (p i) (q i) lists old (outcome.Passed next) mid here → Goes (turns ending p n (passed i) i) (row_trees p q n i) lists old (outcome.Passed i) mid (record { far = here.far; need = here.need; mark = old.mark; row = old.row })
  unfolding Goes
  turn_idles n i next lists mid old here some still more goes = turn_over n i goes.0 lists mid old here some goes.1 (no_further i next goes.0.next still goes.2) goes.3 more

  -- what is too deep in a turn is too deep
  pub turn_stops : (n i at : ℕ) (lists mid more : List (List Tree)) (old here new : Trail) → 0 < n → Goes (p i) (q i) lists old (outcome.TooDeep at) mid here → Goes (turns ending p n (passed i) i) (row_trees p q n i) lists old (outcome.TooDeep at) more new
  unfolding Goes
  turn_stops n i at lists mid more old here new some goes = turns_first n i (Err at) some goes

-- ---- ends

-- a row that has no turn left
pub row_ends : (p : Reading) (q : ℕ → List Tree) (n i : ℕ) (lists : List (List Tree)) (old : Trail) → n ≡ 0 → Goes (turns no_more p n (passed i) i) (row_trees p q n i) lists old (outcome.Passed i) lists old
row_ends p q n i lists old none = goes_over (turns no_more p n (passed i) i) (row_trees p q n i) i (passed i) lists lists old old
    (ap (λ k. turns no_more p k (passed i) i) none)
    (ap (λ k. row_trees p q k i) none)
    (sym (max-zero old.far), sym (room_same old.need))
    (extends_same lists)

-- a full chain, by the token that is read behind it
full_chain_reads : (tokens : List Token) (head : TokenSet) (p : Reading) (n i : ℕ) (r : Result Step ℕ) → n ≡ 0 → token_read tokens head i ≡ r → turns (full_chain tokens head) p n (passed i) i ≡ on_step r (λ s. none_fits i (passed i) s s.next)
full_chain_reads tokens head p n i r none read = ap (λ k. turns (full_chain tokens head) p k (passed i) i) none ∙ ap (λ r. on_step r (λ s. none_fits i (passed i) s s.next)) read

-- a full chain that no head follows
pub chain_ends : (tokens : List Token) (head : TokenSet) (p : Reading) (q : ℕ → List Tree) (n i : ℕ) (lists : List (List Tree)) (old : Trail) → n ≡ 0 → token_read tokens head i ≡ Ok (failed i) → Goes (turns (full_chain tokens head) p n (passed i) i) (row_trees p q n i) lists old (outcome.Passed i) lists (record { far = max old.far i; need = old.need; mark = old.mark; row = old.row })
chain_ends tokens head p q n i lists old none read = goes_over (turns (full_chain tokens head) p n (passed i) i) (row_trees p q n i) i (failed i) lists lists old (record { far = max old.far i; need = old.need; mark = old.mark; row = old.row })
    (full_chain_reads tokens head p n i (Ok (failed i)) none read)
    (ap (λ k. row_trees p q k i) none)
    (refl, sym (room_same old.need))
    (extends_same lists)

-- a full chain that a head follows
pub chain_full : (tokens : List Token) (head : TokenSet) (p : Reading) (q : ℕ → List Tree) (n i : ℕ) (lists more : List (List Tree)) (old new : Trail) → n ≡ 0 → token_read tokens head i ≡ Ok (passed (i + 1)) → Goes (turns (full_chain tokens head) p n (passed i) i) (row_trees p q n i) lists old (outcome.TooDeep i) more new
unfolding Goes
chain_full tokens head p q n i lists more old new none read = full_chain_reads tokens head p n i (Ok (passed (i + 1))) none read

-- ---- in a loop

-- Whatever the turns that are left do from here on, all turns do from the beginning on.
abbrev pub GoesOn : (Step → ℕ → Result Step ℕ) → Reading → (ℕ → List Tree) → ℕ → ℕ → List (List Tree) → Trail → ℕ → ℕ → List (List Tree) → Trail → Type 0
GoesOn ending p q all start lists old left i mid here = (out : Outcome) (more : List (List Tree)) (new : Trail) → Goes (turns ending p left (passed i) i) (row_trees p q left i) mid here out more new → Goes (turns ending p all (passed start) start) (row_trees p q all start) lists old out more new
