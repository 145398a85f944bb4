-- How readings are made of readings.
use Rattle.std.proofs.Common.{◌≡◌, ◌++◌, ◌∙◌, [], ℕ, max, Bool, true, false, if◌then◌else◌, List, slice_get, Option, Some, None, Result, Ok, Err, refl, sym, ap, subst, arith}
use Rattle.std.proofs.lemmas.Grind.{common_steps}
use Rattle.std.proofs.Math.Nat.{zero-max, max-zero}
use Rattle.std.proofs.lemmas.List.{append-nil, append_assoc}
use Rattle.ruby_grammar.specs.declared.token.Token.{Token}
use Rattle.ruby_grammar.specs.declared.tree.Tree.{Tree}
use Rattle.ruby_grammar.specs.declared.row.Row.{Row}
use Rattle.ruby_grammar.specs.declared.room.Room.{Room}
use Rattle.ruby_grammar.specs.declared.step.Step.{Step}
use Rattle.ruby_grammar.specs.declared.trail.Trail.{Trail}
use Rattle.ruby_grammar.specs.declared.outcome.Outcome.{Outcome}
use Rattle.ruby_grammar.specs.declared.outcome.Outcome.TheVariants as outcome
use Rattle.ruby_grammar.specs.Rows.{At, Extends, Grows}
use Rattle.ruby_grammar.specs.Steps.{Reading, no_room, room_of_both, later_mark, passed, failed, and_then, or_else, on_step, go_on, or_try, negated, mark_in, ended_step, guarded_read, marked, marked_result}
use Rattle.ruby_grammar.specs.Meaning.{next_of, with_trees, trees_of_first, trees_of_either}
use Rattle.ruby_grammar.specs.Memos.{Goes, Tried}
use Rattle.ruby_grammar.specs.Tokens.{may_stand}
use Rattle.ruby_grammar.proofs.Extends.{at_kept}

pub max_assoc : (a b c : ℕ) → max (max a b) c ≡ max a (max b c)
max_assoc a b c = grind (arith, common_steps)

pub room_assoc : (a b c : Room) → room_of_both (room_of_both a b) c ≡ room_of_both a (room_of_both b c)
room_assoc a b c = ap (λ n. record { rules = n; words = max (max a.words b.words) c.words }) (max_assoc a.rules b.rules c.rules) ∙ ap (λ n. record { rules = max a.rules (max b.rules c.rules); words = n }) (max_assoc a.words b.words c.words)

-- no more room is needed
pub room_same : (a : Room) → room_of_both a no_room ≡ a
room_same a = ap (λ n. record { rules = n; words = max a.words 0 }) (max-zero a.rules) ∙ ap (λ n. record { rules = a.rules; words = n }) (max-zero a.words)

pub room_first : (a : Room) → room_of_both no_room a ≡ a
room_first a = ap (λ n. record { rules = n; words = max 0 a.words }) (zero-max a.rules) ∙ ap (λ n. record { rules = a.rules; words = n }) (zero-max a.words)

pub no_mark : (m : Option ℕ) → later_mark None m ≡ m
no_mark None = refl
no_mark (Some name) = refl

pub mark_assoc : (a b c : Option ℕ) → later_mark (later_mark a b) c ≡ later_mark a (later_mark b c)
mark_assoc a b None = refl
mark_assoc a b (Some name) = refl

-- a trail that is the same, behind and before
pub goes_to : (r : Result Step ℕ) (ts : List Tree) (lists more : List (List Tree)) (old new same : Trail) (out : Outcome) → same ≡ new → Goes r ts lists old out more new → Goes r ts lists old out more same
goes_to r ts lists more old new same out is = subst (Goes r ts lists old out more) (sym is)

pub goes_from : (r : Result Step ℕ) (ts : List Tree) (lists more : List (List Tree)) (old new same : Trail) (out : Outcome) → same ≡ old → Goes r ts lists same out more new → Goes r ts lists old out more new
goes_from r ts lists more old new same out is = subst (λ (t : Trail). Goes r ts lists t out more new) is

pub goes_as : (r : Result Step ℕ) (ts : List Tree) (lists more : List (List Tree)) (old new : Trail) (out same : Outcome) → out ≡ same → Goes r ts lists old out more new → Goes r ts lists old same more new
goes_as r ts lists more old new out same is = subst (λ (o : Outcome). Goes r ts lists old o more new) is

-- a reading that fails at its place
failed_there : (r : Result Step ℕ) (ts : List Tree) (lists : List (List Tree)) (old : Trail) (i : ℕ) → r ≡ Ok (failed i) → Goes r ts lists old outcome.Failed lists (record { far = max old.far i; need = old.need; mark = old.mark; row = old.row })
unfolding Goes
failed_there r ts lists old i is = (failed i, is, refl, (refl, sym (room_same old.need)))

pub goes_failed : (r : Result Step ℕ) (ts : List Tree) (lists : List (List Tree)) (old new : Trail) (i : ℕ) → r ≡ Ok (failed i) → new ≡ record { far = max old.far i; need = old.need; mark = old.mark; row = old.row } → Goes r ts lists old outcome.Failed lists new
goes_failed r ts lists old new i is same = goes_to r ts lists lists old (record { far = max old.far i; need = old.need; mark = old.mark; row = old.row }) new outcome.Failed same (failed_there r ts lists old i is)

abbrev ok : Step → Result Step ℕ
ok s = Ok s

-- ---- what is tried

pub tried_then : (s t : Step) (old here new : Trail) → Tried s old here → Tried t here new → Tried (and_then s t) old new
tried_then s t old here new first second = (
  second.0 ∙ ap (λ n. max n t.far) first.0 ∙ max_assoc old.far s.far t.far,
  second.1 ∙ ap (λ (n : Room). room_of_both n t.need) first.1 ∙ room_assoc old.need s.need t.need,
)

-- ---- one after the other

both_step : (r : Result Step ℕ) (q : Reading) (s t : Step) (at : ℕ) → r ≡ Ok s → s.next ≡ Some at → q at ≡ Ok t → on_step r (λ s. go_on q s s.next) ≡ Ok (and_then s t)
both_step r q s t at is next read =
    ap (λ r. on_step r (λ (s : Step). go_on q s s.next)) is
    ∙ ap (go_on q s) next
    ∙ ap (λ r. on_step r (λ t. Ok (and_then s t))) read

both_deep : (r : Result Step ℕ) (q : Reading) (s : Step) (at place : ℕ) → r ≡ Ok s → s.next ≡ Some at → q at ≡ Err place → on_step r (λ s. go_on q s s.next) ≡ Err place
both_deep r q s at place is next read =
    ap (λ r. on_step r (λ (s : Step). go_on q s s.next)) is
    ∙ ap (go_on q s) next
    ∙ ap (λ r. on_step r (λ t. Ok (and_then s t))) read

both_trees : (r : Result Step ℕ) (s : Step) (ts : List Tree) (us : ℕ → List Tree) (at : ℕ) → r ≡ Ok s → s.next ≡ Some at → with_trees ts us (next_of r) ≡ ts ++ us at
both_trees r s ts us at is next = ap (λ r. with_trees ts us (next_of r)) is ∙ ap (with_trees ts us) next

pub both_goes : (r : Result Step ℕ) (q : Reading) (ts : List Tree) (us : ℕ → List Tree) (lists mid more : List (List Tree)) (old here new : Trail) (at : ℕ) (out : Outcome) → Goes r ts lists old (outcome.Passed at) mid here → Goes (q at) (us at) mid here out more new → Goes (on_step r (λ s. go_on q s s.next)) (with_trees ts us (next_of r)) lists old out more new
unfolding Goes
both_goes r q ts us lists mid more old here new at (outcome.Passed next) first second = (
  and_then first.0 second.0,
  both_step r q first.0 second.0 at first.1 first.2 second.1,
  second.2,
  tried_then first.0 second.0 old here new first.3 second.3,
  second.4 ∙ ap (λ m. later_mark m second.0.mark) first.4 ∙ mark_assoc old.mark first.0.mark second.0.mark,
  λ vs stands. subst (λ ws. At more new.row (vs ++ ws)) (sym (both_trees r first.0 ts us at first.1 first.2)) (subst (At more new.row) (append_assoc vs ts (us at)) (second.5 (vs ++ ts) (first.5 vs stands))),
)
both_goes r q ts us lists mid more old here new at outcome.Failed first second = (
  and_then first.0 second.0,
  both_step r q first.0 second.0 at first.1 first.2 second.1,
  second.2,
  tried_then first.0 second.0 old here new first.3 second.3,
)
both_goes r q ts us lists mid more old here new at (outcome.TooDeep place) first second = both_deep r q first.0 at place first.1 first.2 second
both_goes r q ts us lists mid more old here new at outcome.NoMemory first second = tt

pub both_fails : (r : Result Step ℕ) (q : Reading) (ts : List Tree) (us : ℕ → List Tree) (lists more : List (List Tree)) (old new : Trail) → Goes r ts lists old outcome.Failed more new → Goes (on_step r (λ s. go_on q s s.next)) (with_trees ts us (next_of r)) lists old outcome.Failed more new
unfolding Goes
both_fails r q ts us lists more old new first = (first.0, ap (λ r. on_step r (λ (s : Step). go_on q s s.next)) first.1 ∙ ap (go_on q first.0) first.2, first.2, first.3)

-- what is too deep at first is too deep with anything behind it
pub deep_then : (r : Result Step ℕ) (k : Step → Result Step ℕ) (ts us : List Tree) (from lists mid more : List (List Tree)) (was here old new : Trail) (at : ℕ) → Goes r ts from was (outcome.TooDeep at) mid here → Goes (on_step r k) us lists old (outcome.TooDeep at) more new
unfolding Goes
deep_then r k ts us from lists mid more was here old new at first = ap (λ r. on_step r k) first

pub deep_same : (r : Result Step ℕ) (ts : List Tree) (from lists mid more : List (List Tree)) (was here old new : Trail) (at : ℕ) → Goes r ts from was (outcome.TooDeep at) mid here → Goes r ts lists old (outcome.TooDeep at) more new
unfolding Goes
deep_same r ts from lists mid more was here old new at first = first

pub goes_deep : (r : Result Step ℕ) (ts : List Tree) (lists more : List (List Tree)) (old new : Trail) (at : ℕ) → r ≡ Err at → Goes r ts lists old (outcome.TooDeep at) more new
unfolding Goes
goes_deep r ts lists more old new at is = is

pub no_memory : (r : Result Step ℕ) (ts : List Tree) (lists more : List (List Tree)) (old new : Trail) → Goes r ts lists old outcome.NoMemory more new
unfolding Goes
no_memory r ts lists more old new = tt

-- ---- no token and one token

pub goes_passed : (lists : List (List Tree)) (old : Trail) (i : ℕ) → Goes (ok (passed i)) [] lists old (outcome.Passed i) lists old
unfolding Goes
goes_passed lists old i = (passed i, refl, refl, (sym (max-zero old.far), sym (room_same old.need)), refl, λ us stands. subst (At lists old.row) (sym (append-nil us)) stands)

-- ---- the first that derives

either_step : (r : Result Step ℕ) (q : Reading) (i : ℕ) (s : Step) (a : Result Step ℕ) → r ≡ Ok s → s.next ≡ None → q i ≡ a → on_step r (λ s. or_try q i s s.next) ≡ on_step a (λ t. Ok (or_else s t))
either_step r q i s a is next read =
    ap (λ r. on_step r (λ (s : Step). or_try q i s s.next)) is
    ∙ ap (or_try q i s) next
    ∙ ap (λ r. on_step r (λ t. Ok (or_else s t))) read

other_trees : (r : Result Step ℕ) (s : Step) (ts us : List Tree) → r ≡ Ok s → s.next ≡ None → trees_of_either ts us r ≡ us
other_trees r s ts us is next = ap (trees_of_either ts us) is ∙ ap (trees_of_first ts us) next

pub first_goes : (r : Result Step ℕ) (q : Reading) (ts us : List Tree) (i next : ℕ) (lists more : List (List Tree)) (old new : Trail) → Goes r ts lists old (outcome.Passed next) more new → Goes (on_step r (λ s. or_try q i s s.next)) (trees_of_either ts us r) lists old (outcome.Passed next) more new
unfolding Goes
first_goes r q ts us i next lists more old new first = (
  first.0,
  ap (λ r. on_step r (λ (s : Step). or_try q i s s.next)) first.1 ∙ ap (or_try q i first.0) first.2,
  first.2,
  first.3,
  first.4,
  λ vs stands. subst (λ ws. At more new.row (vs ++ ws)) (sym (ap (trees_of_either ts us) first.1 ∙ ap (trees_of_first ts us) first.2)) (first.5 vs stands),
)

-- what stands behind a row stands behind it where cells were added
grows_back : (lists mid more : List (List Tree)) (row new : Row) (ts : List Tree) → Extends lists mid → Grows mid row more new ts → Grows lists row more new ts
grows_back lists mid more row new ts extends grows us stands = grows us (at_kept lists mid row us extends stands)

pub other_goes : (r : Result Step ℕ) (q : Reading) (ts us : List Tree) (i : ℕ) (lists mid more : List (List Tree)) (old here new : Trail) (out : Outcome) → Extends lists mid → Goes r ts lists old outcome.Failed mid here → Goes (q i) us mid (record { far = here.far; need = here.need; mark = old.mark; row = old.row }) out more new → Goes (on_step r (λ s. or_try q i s s.next)) (trees_of_either ts us r) lists old out more new
unfolding Goes
other_goes r q ts us i lists mid more old here new (outcome.Passed next) extends first second = (
  or_else first.0 second.0,
  either_step r q i first.0 (Ok second.0) first.1 first.2 second.1,
  second.2,
  tried_then first.0 second.0 old (record { far = here.far; need = here.need; mark = old.mark; row = old.row }) new first.3 second.3,
  second.4,
  λ vs stands. subst (λ ws. At more new.row (vs ++ ws)) (sym (other_trees r first.0 ts us first.1 first.2)) (second.5 vs (at_kept lists mid old.row vs extends stands)),
)
other_goes r q ts us i lists mid more old here new outcome.Failed extends first second = (
  or_else first.0 second.0,
  either_step r q i first.0 (Ok second.0) first.1 first.2 second.1,
  second.2,
  tried_then first.0 second.0 old (record { far = here.far; need = here.need; mark = old.mark; row = old.row }) new first.3 second.3,
)
other_goes r q ts us i lists mid more old here new (outcome.TooDeep at) extends first second = either_step r q i first.0 (Err at) first.1 first.2 second
other_goes r q ts us i lists mid more old here new outcome.NoMemory extends first second = tt

-- ---- no token, where something doesn't derive

pub not_fails : (r : Result Step ℕ) (ts us : List Tree) (i next : ℕ) (lists more : List (List Tree)) (old here : Trail) → Goes r ts lists old (outcome.Passed next) more here → Goes (on_step r (λ s. Ok (negated i s.need s.next))) us lists old outcome.Failed more (record { far = max old.far i; need = here.need; mark = here.mark; row = here.row })
unfolding Goes
not_fails r ts us i next lists more old here inner = (
  negated i inner.0.need (Some next),
  ap (λ r. on_step r (λ (s : Step). Ok (negated i s.need s.next))) inner.1 ∙ ap (λ o. Ok (negated i inner.0.need o)) inner.2,
  refl,
  (refl, inner.3.1),
)

pub not_passes : (r : Result Step ℕ) (ts : List Tree) (i : ℕ) (lists more : List (List Tree)) (old here : Trail) → Extends lists more → Goes r ts lists old outcome.Failed more here → Goes (on_step r (λ s. Ok (negated i s.need s.next))) [] lists old (outcome.Passed i) more (record { far = old.far; need = here.need; mark = old.mark; row = old.row })
unfolding Goes
not_passes r ts i lists more old here extends inner = (
  negated i inner.0.need None,
  ap (λ r. on_step r (λ (s : Step). Ok (negated i s.need s.next))) inner.1 ∙ ap (λ o. Ok (negated i inner.0.need o)) inner.2,
  refl,
  (sym (max-zero old.far), inner.3.1),
  refl,
  λ us stands. subst (At more old.row) (sym (append-nil us)) (at_kept lists more old.row us extends stands),
)

-- ---- a node, and a mark

pub marked_fails : (r : Result Step ℕ) (name : ℕ) (ts us : List Tree) (lists more : List (List Tree)) (old new : Trail) → Goes r ts lists old outcome.Failed more new → Goes (marked_result name r) us lists old outcome.Failed more new
unfolding Goes
marked_fails r name ts us lists more old new inner = (marked name inner.0, ap (marked_result name) inner.1, inner.2, inner.3)

later_some : (m old : Option ℕ) (labels : List Bool) → mark_in labels m ≡ true → later_mark old m ≡ m
later_some None old labels is = absurd (let never : false ≡ true = is in cc)
later_some (Some name) old labels is = refl

pub ended_passes : (r : Result Step ℕ) (labels : List Bool) (ts : List Tree) (i next : ℕ) (lists more : List (List Tree)) (old new : Trail) → Goes r ts lists (record { far = old.far; need = old.need; mark = None; row = old.row }) (outcome.Passed next) more new → mark_in labels new.mark ≡ true → Goes (on_step r (λ s. Ok (ended_step labels i s s.next))) ts lists old (outcome.Passed next) more new
unfolding Goes
ended_passes r labels ts i next lists more old new inner is =
    let mark : new.mark ≡ inner.0.mark = inner.4 ∙ no_mark inner.0.mark in (
      inner.0,
      ap (λ r. on_step r (λ (s : Step). Ok (ended_step labels i s s.next))) inner.1 ∙ ap (λ o. Ok (ended_step labels i inner.0 o)) inner.2 ∙ ap (λ b. Ok (if b then inner.0 else or_else inner.0 (failed i))) (ap (mark_in labels) (sym mark) ∙ is),
      inner.2,
      inner.3,
      mark ∙ sym (later_some inner.0.mark old.mark labels (ap (mark_in labels) (sym mark) ∙ is)),
      inner.5,
    )

pub ended_stops : (r : Result Step ℕ) (labels : List Bool) (ts : List Tree) (i next : ℕ) (lists more : List (List Tree)) (old new : Trail) → Goes r ts lists (record { far = old.far; need = old.need; mark = None; row = old.row }) (outcome.Passed next) more new → mark_in labels new.mark ≡ false → Goes (on_step r (λ s. Ok (ended_step labels i s s.next))) ts lists old outcome.Failed more (record { far = max new.far i; need = new.need; mark = new.mark; row = new.row })
unfolding Goes
ended_stops r labels ts i next lists more old new inner is =
    let mark : new.mark ≡ inner.0.mark = inner.4 ∙ no_mark inner.0.mark in (
      or_else inner.0 (failed i),
      ap (λ r. on_step r (λ (s : Step). Ok (ended_step labels i s s.next))) inner.1 ∙ ap (λ o. Ok (ended_step labels i inner.0 o)) inner.2 ∙ ap (λ b. Ok (if b then inner.0 else or_else inner.0 (failed i))) (ap (mark_in labels) (sym mark) ∙ is),
      refl,
      tried_then inner.0 (failed i) old new (record { far = max new.far i; need = new.need; mark = new.mark; row = new.row }) inner.3 (refl, sym (room_same new.need)),
    )

pub ended_fails : (r : Result Step ℕ) (labels : List Bool) (ts : List Tree) (i : ℕ) (lists more : List (List Tree)) (old new : Trail) → Goes r ts lists (record { far = old.far; need = old.need; mark = None; row = old.row }) outcome.Failed more new → Goes (on_step r (λ s. Ok (ended_step labels i s s.next))) ts lists old outcome.Failed more new
unfolding Goes
ended_fails r labels ts i lists more old new inner = (
  inner.0,
  ap (λ r. on_step r (λ (s : Step). Ok (ended_step labels i s s.next))) inner.1 ∙ ap (λ o. Ok (ended_step labels i inner.0 o)) inner.2,
  inner.2,
  inner.3,
)

-- ---- where a token may stand

pub guard_passes : (tokens : List Token) (table : List Bool) (p : Reading) (ts : List Tree) (i : ℕ) (lists more : List (List Tree)) (old new : Trail) (out : Outcome) → may_stand table (slice_get tokens i) ≡ true → Goes (p i) ts lists old out more new → Goes (guarded_read tokens table p i) ts lists old out more new
guard_passes tokens table p ts i lists more old new out stands = subst (λ r. Goes r ts lists old out more new) (ap (λ b. if b then p i else Ok (failed i)) (sym stands))

pub guard_fails : (tokens : List Token) (table : List Bool) (p : Reading) (i : ℕ) → may_stand table (slice_get tokens i) ≡ false → guarded_read tokens table p i ≡ Ok (failed i)
guard_fails tokens table p i bars = ap (λ b. if b then p i else Ok (failed i)) bars
