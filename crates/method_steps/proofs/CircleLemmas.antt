-- Walks and circles.
use Rattle.std.proofs.Common.{◌≡◌, ◌+◌, ◌<◌, ◌≤◌, ℕ, zero, suc, Bool, true, false, ◌||◌, List, [], ◌∷◌, length, map, replicate, take, slice_index_or, slice_set, refl, sym, ap, ◌∙◌, subst, arith, true≢false, ◌⊎◌, inl, inr, get_or-set_same, get_or-set_other, length-set}
use Rattle.std.specs.Prelude.{◌==◌, Option, Some, None}
use Rattle.std.proofs.lemmas.Bool.{ne_eqb, eq-eqb, eqb-true, cases_eq, cases_lt, cases_Bool, or_cases, or_left, or_right, false_from_ne_true, true_from_ne_false}
use Rattle.std.proofs.lemmas.Option.{none-some, same_Some}
use Rattle.std.proofs.lemmas.List.{get_or_past, length-replicate}
use Rattle.method_steps.specs.declared.circles.Mark.{Mark}
use Rattle.method_steps.specs.declared.circles.Mark.TheVariants.{Unseen, Walked, Done}
use Rattle.method_steps.specs.declared.leads.Lead.{Lead}
use Rattle.method_steps.specs.declared.leads.Lead.TheVariants.{Gone, End, Nowhere, Here}
use Rattle.method_steps.specs.Slots.{lead_at, comes_back, count_there, is_on_circle}
use Rattle.method_steps.specs.Circles.{next_of, is_unseen, is_walked, mark_at, unseen_at, walked_at, first_mark, count_unseen, circle_at, AreMarks, IsWalk, AreCircles, OneMore}

-- ---- ways

both_ways : {A : Type 0} (b : Bool) → b ≡ true → b ≡ false → A
both_ways b t f = absurd (true≢false (sym t ∙ f))

no_next : (turns : ℕ) (leads : List Lead) (x : ℕ) (l : Lead) → next_of l ≡ None → comes_back turns leads x l ≡ false
no_next zero leads x l h = refl
no_next (suc turns) leads x Gone h = refl
no_next (suc turns) leads x End h = refl
no_next (suc turns) leads x Nowhere h = refl
no_next (suc turns) leads x (Here at) h = absurd (none-some at (sym h))

pub to_next : (l : Lead) (next : ℕ) → next_of l ≡ Some next → l ≡ Here next
to_next Gone next h = absurd (none-some next h)
to_next End next h = absurd (none-some next h)
to_next Nowhere next h = absurd (none-some next h)
to_next (Here at) next h = ap (λ n. Here n) (same_Some at next h)

pub next_is : (l : Lead) (next : ℕ) → l ≡ Here next → next_of l ≡ Some next
next_is l next h = ap (λ (x : Lead). next_of x) h

comes_more : (turns others : ℕ) (leads : List Lead) (x : ℕ) (l : Lead) → turns ≤ others → comes_back turns leads x l ≡ true → comes_back others leads x l ≡ true
comes_more zero others leads x l le h = both_ways false h refl
comes_more (suc turns) zero leads x l le h = absurd (omega (arith, le))
comes_more (suc turns) (suc others) leads x Gone le h = h
comes_more (suc turns) (suc others) leads x End le h = h
comes_more (suc turns) (suc others) leads x Nowhere le h = h
comes_more (suc turns) (suc others) leads x (Here at) le h = by_either (or_cases (at == x) (comes_back turns leads x (lead_at leads at)) h) (comes_more turns others leads x (lead_at leads at) (omega (arith, le)))
  where
    by_either : ((at == x) ≡ true) ⊎ (comes_back turns leads x (lead_at leads at) ≡ true)
        → (comes_back turns leads x (lead_at leads at) ≡ true → comes_back others leads x (lead_at leads at) ≡ true)
        → (at == x || comes_back others leads x (lead_at leads at)) ≡ true
    by_either (inl own) more = or_left (at == x) (comes_back others leads x (lead_at leads at)) own
    by_either (inr on) more = or_right (at == x) (comes_back others leads x (lead_at leads at)) (more on)

-- one place on
comes_on : (turns : ℕ) (leads : List Lead) (x y : ℕ) (l : Lead) → lead_at leads x ≡ Here y → comes_back turns leads x l ≡ true → comes_back (suc turns) leads y l ≡ true
comes_on zero leads x y l to h = both_ways false h refl
comes_on (suc turns) leads x y Gone to h = both_ways false h refl
comes_on (suc turns) leads x y End to h = both_ways false h refl
comes_on (suc turns) leads x y Nowhere to h = both_ways false h refl
comes_on (suc turns) leads x y (Here at) to h = by_either (or_cases (at == x) (comes_back turns leads x (lead_at leads at)) h) (comes_on turns leads x y (lead_at leads at) to)
  where
    by_either : ((at == x) ≡ true) ⊎ (comes_back turns leads x (lead_at leads at) ≡ true)
        → (comes_back turns leads x (lead_at leads at) ≡ true → comes_back (suc turns) leads y (lead_at leads at) ≡ true)
        → (at == y || comes_back (suc turns) leads y (lead_at leads at)) ≡ true
    by_either (inl own) more =
        or_right (at == y) (comes_back (suc turns) leads y (lead_at leads at))
        (subst (λ (l : Lead). comes_back (suc turns) leads y l ≡ true) (sym (ap (λ n. lead_at leads n) (eqb-true at x own) ∙ to)) (or_left (y == y) (comes_back turns leads y (lead_at leads y)) (eq-eqb y y refl)))
    by_either (inr on) more = or_right (at == y) (comes_back (suc turns) leads y (lead_at leads at)) (more on)

-- what a circle leads to is on it
circle_on : (leads : List Lead) (x y : ℕ) → lead_at leads x ≡ Here y → is_on_circle leads x ≡ true → is_on_circle leads y ≡ true
circle_on leads x y to h = by_either (or_cases (y == x) (comes_back (count_there leads) leads x (lead_at leads y)) (subst (λ (l : Lead). comes_back (suc (count_there leads)) leads x l ≡ true) to h))
  where
    by_either : ((y == x) ≡ true) ⊎ (comes_back (count_there leads) leads x (lead_at leads y) ≡ true) → is_on_circle leads y ≡ true
    by_either (inl own) = subst (λ n. is_on_circle leads n ≡ true) (sym (eqb-true y x own)) h
    by_either (inr on) = comes_on (count_there leads) leads x y (lead_at leads y) to on

pub circle_next : (leads : List Lead) (x : ℕ) → is_on_circle leads x ≡ true → next_of (lead_at leads x) ≡ None → ⊥
circle_next leads x h none = both_ways (is_on_circle leads x) h (no_next (suc (count_there leads)) leads x (lead_at leads x) none)

pub circle_within : (leads : List Lead) (x : ℕ) → is_on_circle leads x ≡ true → x < length leads
circle_within leads x h = by_order (cases_lt x (length leads))
  where
    by_order : (x < length leads) ⊎ (length leads ≤ x) → x < length leads
    by_order (inl near) = near
    by_order (inr far) = absurd (circle_next leads x h (ap (λ (l : Lead). next_of l) (get_or_past leads x Gone far)))

-- what holds of a place and goes on holds of all that its way comes to
holds_on : (P : ℕ → Type 0) (leads : List Lead) → ((x y : ℕ) → P x → lead_at leads x ≡ Here y → P y)
    → (turns : ℕ) (x : ℕ) (l : Lead) → ((y : ℕ) → l ≡ Here y → P y) → comes_back turns leads x l ≡ true → P x
holds_on P leads on zero x l at h = both_ways false h refl
holds_on P leads on (suc turns) x Gone at h = both_ways false h refl
holds_on P leads on (suc turns) x End at h = both_ways false h refl
holds_on P leads on (suc turns) x Nowhere at h = both_ways false h refl
holds_on P leads on (suc turns) x (Here y) at h = by_either (or_cases (y == x) (comes_back turns leads x (lead_at leads y)) h) (holds_on P leads on turns x (lead_at leads y) (λ z to. on y z (at y refl) to))
  where
    by_either : ((y == x) ≡ true) ⊎ (comes_back turns leads x (lead_at leads y) ≡ true) → (comes_back turns leads x (lead_at leads y) ≡ true → P x) → P x
    by_either (inl own) more = subst P (eqb-true y x own) (at y refl)
    by_either (inr on) more = more on

pub comes_within : (P : ℕ → Type 0) (leads : List Lead) → ((x y : ℕ) → P x → lead_at leads x ≡ Here y → P y)
    → (turns : ℕ) (x at : ℕ) → P at → comes_back turns leads x (Here at) ≡ true → P x
comes_within P leads on turns x at own h = holds_on P leads on turns x (Here at) (λ y same. subst P (same_Some at y (ap (λ (l : Lead). next_of l) same)) own) h

-- ---- marks

mark_own : (marks : List Mark) (at start : ℕ) → at < length marks → mark_at (slice_set marks at (Walked start)) at ≡ Walked start
mark_own marks at start h = get_or-set_same marks at (Walked start) Done h

mark_other : (marks : List Mark) (at start x : ℕ) → (x ≡ at → ⊥) → mark_at (slice_set marks at (Walked start)) x ≡ mark_at marks x
mark_other marks at start x h = get_or-set_other marks at x (Walked start) Done h

unseen_within : (marks : List Mark) (at : ℕ) → unseen_at marks at ≡ true → at < length marks
unseen_within marks at h = by_order (cases_lt at (length marks))
  where
    by_order : (at < length marks) ⊎ (length marks ≤ at) → at < length marks
    by_order (inl near) = near
    by_order (inr far) = both_ways (unseen_at marks at) h (ap (λ (m : Mark). is_unseen m) (get_or_past marks at Done far))

pub one_less : (marks : List Mark) (at start : ℕ) → unseen_at marks at ≡ true → suc (count_unseen (slice_set marks at (Walked start))) ≡ count_unseen marks
one_less [] at start h = both_ways false h refl
one_less (Unseen ∷ marks) zero start h = refl
one_less (Walked from ∷ marks) zero start h = both_ways false h refl
one_less (Done ∷ marks) zero start h = both_ways false h refl
one_less (Unseen ∷ marks) (suc at) start h = ap suc (one_less marks at start h)
one_less (Walked from ∷ marks) (suc at) start h = one_less marks at start h
one_less (Done ∷ marks) (suc at) start h = one_less marks at start h

-- on the walk from a place, at what is led to
pub record IsWalking (leads : List Lead) (start : ℕ) (old marks : List Mark) (l : Lead) : Type 0 where
  pub past : (x y : ℕ) → unseen_at marks x ≡ false → walked_at start marks x ≡ false → lead_at leads x ≡ Here y → (unseen_at marks y ≡ false) × (walked_at start marks y ≡ false)
  pub ahead : (x y : ℕ) → walked_at start marks x ≡ true → lead_at leads x ≡ Here y → unseen_at marks y ≡ true → next_of l ≡ Some y
  pub comes : (x y turns : ℕ) → walked_at start marks x ≡ true → next_of l ≡ Some y → count_there leads ≤ turns + count_unseen marks → comes_back turns leads y (lead_at leads x) ≡ true
  pub back : (x : ℕ) → walked_at start marks x ≡ true → is_on_circle leads x ≡ true → comes_back (suc (count_there leads)) leads x l ≡ true
  pub earlier : (x from : ℕ) → start + 1 ≤ from → walked_at from marks x ≡ false
  pub few : count_unseen marks ≤ count_there leads
  pub kept : (x : ℕ) → unseen_at old x ≡ false → (unseen_at marks x ≡ false) × (walked_at start marks x ≡ false)
  pub new : (x : ℕ) → unseen_at old x ≡ true → unseen_at marks x ≡ false → walked_at start marks x ≡ true
  pub own : unseen_at marks start ≡ true → next_of l ≡ Some start

pub walk_begins : (leads : List Lead) (start : ℕ) (old : List Mark) → AreMarks leads start old → IsWalking leads start old old (Here start)
walk_begins leads start old h = record {
  past = λ x y seen other to. (h.closed x y seen to, h.earlier y start (omega arith));
  ahead = λ x y walked to unseen. both_ways (walked_at start old x) walked (h.earlier x start (omega arith));
  comes = λ x y turns walked to le. both_ways (walked_at start old x) walked (h.earlier x start (omega arith));
  back = λ x walked circle. both_ways (walked_at start old x) walked (h.earlier x start (omega arith));
  earlier = λ x from le. h.earlier x from (omega (arith, le));
  few = h.few;
  kept = λ x seen. (seen, h.earlier x start (omega arith));
  new = λ x unseen seen. both_ways (unseen_at old x) unseen seen;
  own = λ unseen. refl;
}

module _ (leads : List Lead) (start : ℕ) (old marks : List Mark) (at : ℕ) (h : IsWalking leads start old marks (Here at)) (unseen : unseen_at marks at ≡ true) where
  on : List Mark
  on = slice_set marks at (Walked start)

  own_unseen : unseen_at (slice_set marks at (Walked start)) at ≡ false
  own_unseen = ap (λ (m : Mark). is_unseen m) (mark_own marks at start (unseen_within marks at unseen))

  own_walked : walked_at start (slice_set marks at (Walked start)) at ≡ true
  own_walked = ap (λ (m : Mark). is_walked start m) (mark_own marks at start (unseen_within marks at unseen)) ∙ eq-eqb start start refl

  other_unseen : (x : ℕ) → (x ≡ at → ⊥) → unseen_at (slice_set marks at (Walked start)) x ≡ unseen_at marks x
  other_unseen x other = ap (λ (m : Mark). is_unseen m) (mark_other marks at start x other)

  other_walked : (x from : ℕ) → (x ≡ at → ⊥) → walked_at from (slice_set marks at (Walked start)) x ≡ walked_at from marks x
  other_walked x from other = ap (λ (m : Mark). is_walked from m) (mark_other marks at start x other)

  -- what was seen is another place
  seen_other : (x : ℕ) → unseen_at marks x ≡ false → x ≡ at → ⊥
  seen_other x seen same = both_ways (unseen_at marks at) unseen (subst (λ n. unseen_at marks n ≡ false) same seen)

  unseen_other : (x : ℕ) → unseen_at (slice_set marks at (Walked start)) x ≡ true → x ≡ at → ⊥
  unseen_other x new same = both_ways (unseen_at (slice_set marks at (Walked start)) at) (subst (λ n. unseen_at (slice_set marks at (Walked start)) n ≡ true) same new) own_unseen

  step_past : (x y : ℕ) → unseen_at (slice_set marks at (Walked start)) x ≡ false → walked_at start (slice_set marks at (Walked start)) x ≡ false → lead_at leads x ≡ Here y
      → (unseen_at (slice_set marks at (Walked start)) y ≡ false) × (walked_at start (slice_set marks at (Walked start)) y ≡ false)
  step_past x y seen walked to = by (cases_eq x at)
    where
      by : (x ≡ at) ⊎ (x ≡ at → ⊥) → (unseen_at (slice_set marks at (Walked start)) y ≡ false) × (walked_at start (slice_set marks at (Walked start)) y ≡ false)
      by (inl same) = both_ways (walked_at start (slice_set marks at (Walked start)) at) own_walked (subst (λ n. walked_at start (slice_set marks at (Walked start)) n ≡ false) same walked)
      by (inr other) =
          let next = h.past x y (sym (other_unseen x other) ∙ seen) (sym (other_walked x start other) ∙ walked) to in
          (other_unseen y (seen_other y next.0) ∙ next.0, other_walked y start (seen_other y next.0) ∙ next.1)

  step_ahead : (x y : ℕ) → walked_at start (slice_set marks at (Walked start)) x ≡ true → lead_at leads x ≡ Here y → unseen_at (slice_set marks at (Walked start)) y ≡ true
      → next_of (lead_at leads at) ≡ Some y
  step_ahead x y walked to new = by (cases_eq x at)
    where
      by : (x ≡ at) ⊎ (x ≡ at → ⊥) → next_of (lead_at leads at) ≡ Some y
      by (inl same) = next_is (lead_at leads at) y (subst (λ n. lead_at leads n ≡ Here y) same to)
      by (inr other) =
          let there = h.ahead x y (sym (other_walked x start other) ∙ walked) to (sym (other_unseen y (unseen_other y new)) ∙ new) in
          absurd (unseen_other y new (sym (same_Some at y there)))

  step_comes : (x y turns : ℕ) → walked_at start (slice_set marks at (Walked start)) x ≡ true → next_of (lead_at leads at) ≡ Some y
      → count_there leads ≤ turns + count_unseen (slice_set marks at (Walked start)) → comes_back turns leads y (lead_at leads x) ≡ true
  step_comes x y zero walked to le = let less = one_less marks at start unseen in let few = h.few in absurd (omega (arith, less, few, le))
  step_comes x y (suc turns) walked to le = by (cases_eq x at)
    where
      by : (x ≡ at) ⊎ (x ≡ at → ⊥) → comes_back (suc turns) leads y (lead_at leads x) ≡ true
      by (inl same) =
          subst (λ (l : Lead). comes_back (suc turns) leads y l ≡ true) (sym (ap (λ n. lead_at leads n) same ∙ to_next (lead_at leads at) y to))
          (or_left (y == y) (comes_back turns leads y (lead_at leads y)) (eq-eqb y y refl))
      by (inr other) =
          let less = one_less marks at start unseen in
          comes_on turns leads at y (lead_at leads x) (to_next (lead_at leads at) y to) (h.comes x at turns (sym (other_walked x start other) ∙ walked) refl (omega (arith, less, le)))

  step_back : (x : ℕ) → walked_at start (slice_set marks at (Walked start)) x ≡ true → is_on_circle leads x ≡ true → comes_back (suc (count_there leads)) leads x (lead_at leads at) ≡ true
  step_back x walked circle = by (cases_eq x at)
    where
      by_either : (x ≡ at → ⊥) → ((at == x) ≡ true) ⊎ (comes_back (count_there leads) leads x (lead_at leads at) ≡ true) → comes_back (suc (count_there leads)) leads x (lead_at leads at) ≡ true
      by_either other (inl same) = absurd (other (sym (eqb-true at x same)))
      by_either other (inr more) = comes_more (count_there leads) (suc (count_there leads)) leads x (lead_at leads at) (omega arith) more

      by : (x ≡ at) ⊎ (x ≡ at → ⊥) → comes_back (suc (count_there leads)) leads x (lead_at leads at) ≡ true
      by (inl same) = subst (λ n. comes_back (suc (count_there leads)) leads x (lead_at leads n) ≡ true) same circle
      by (inr other) = by_either other (or_cases (at == x) (comes_back (count_there leads) leads x (lead_at leads at)) (h.back x (sym (other_walked x start other) ∙ walked) circle))

  step_earlier : (x from : ℕ) → start + 1 ≤ from → walked_at from (slice_set marks at (Walked start)) x ≡ false
  step_earlier x from le = by (cases_eq x at)
    where
      by : (x ≡ at) ⊎ (x ≡ at → ⊥) → walked_at from (slice_set marks at (Walked start)) x ≡ false
      by (inl same) =
          subst (λ n. walked_at from (slice_set marks at (Walked start)) n ≡ false) (sym same)
          (ap (λ (m : Mark). is_walked from m) (mark_own marks at start (unseen_within marks at unseen)) ∙ ne_eqb start from (λ e. absurd (omega (arith, le, e))))
      by (inr other) = other_walked x from other ∙ h.earlier x from le

  step_kept : (x : ℕ) → unseen_at old x ≡ false → (unseen_at (slice_set marks at (Walked start)) x ≡ false) × (walked_at start (slice_set marks at (Walked start)) x ≡ false)
  step_kept x seen =
      let before = h.kept x seen in
      (other_unseen x (seen_other x before.0) ∙ before.0, other_walked x start (seen_other x before.0) ∙ before.1)

  step_new : (x : ℕ) → unseen_at old x ≡ true → unseen_at (slice_set marks at (Walked start)) x ≡ false → walked_at start (slice_set marks at (Walked start)) x ≡ true
  step_new x first seen = by (cases_eq x at)
    where
      by : (x ≡ at) ⊎ (x ≡ at → ⊥) → walked_at start (slice_set marks at (Walked start)) x ≡ true
      by (inl same) = subst (λ n. walked_at start (slice_set marks at (Walked start)) n ≡ true) (sym same) own_walked
      by (inr other) = other_walked x start other ∙ h.new x first (sym (other_unseen x other) ∙ seen)

  step_own : unseen_at (slice_set marks at (Walked start)) start ≡ true → next_of (lead_at leads at) ≡ Some start
  step_own new =
      let there = h.own (sym (other_unseen start (unseen_other start new)) ∙ new) in
      absurd (unseen_other start new (sym (same_Some at start there)))

  -- a step of a walk
  pub walk_on : IsWalking leads start old (slice_set marks at (Walked start)) (lead_at leads at)
  walk_on = record {
    past = step_past;
    ahead = step_ahead;
    comes = step_comes;
    back = step_back;
    earlier = step_earlier;
    few = (let less = one_less marks at start unseen in let few = h.few in omega (arith, less, few));
    kept = step_kept;
    new = step_new;
    own = step_own;
  }

-- the end of a walk that can't go on to what is unseen
walked_marks : (leads : List Lead) (start : ℕ) (old marks : List Mark) (l : Lead) → IsWalking leads start old marks l
    → ((y : ℕ) → next_of l ≡ Some y → unseen_at marks y ≡ false) → AreMarks leads (start + 1) marks
walked_marks leads start old marks l h ends = record {
  closed = λ x y seen to. by x y seen to (cases_Bool (walked_at start marks x));
  earlier = h.earlier;
  few = h.few;
}
  where
    by : (x y : ℕ) → unseen_at marks x ≡ false → lead_at leads x ≡ Here y → (walked_at start marks x ≡ true) ⊎ (walked_at start marks x ≡ false) → unseen_at marks y ≡ false
    by x y seen to (inl walked) = false_from_ne_true (unseen_at marks y) (λ unseen. both_ways (unseen_at marks y) unseen (ends y (h.ahead x y walked to unseen)))
    by x y seen to (inr other) = (h.past x y seen other to).0

walked_own : (leads : List Lead) (start : ℕ) (old marks : List Mark) (l : Lead) → IsWalking leads start old marks l
    → ((y : ℕ) → next_of l ≡ Some y → unseen_at marks y ≡ false) → unseen_at marks start ≡ false
walked_own leads start old marks l h ends = false_from_ne_true (unseen_at marks start) (λ unseen. both_ways (unseen_at marks start) unseen (ends start (h.own unseen)))

-- where the way ends
pub walk_ends : (leads : List Lead) (start : ℕ) (old marks : List Mark) (l : Lead) → IsWalking leads start old marks l → next_of l ≡ None → IsWalk leads start old marks None
walk_ends leads start old marks l h none =
    let ends : (y : ℕ) → next_of l ≡ Some y → unseen_at marks y ≡ false = λ y is. absurd (none-some y (sym none ∙ is)) in
    record {
      marks = walked_marks leads start old marks l h ends;
      own = walked_own leads start old marks l h ends;
      kept = λ x seen. (h.kept x seen).0;
      circle = tt;
      all = λ x first seen circle. both_ways (comes_back (suc (count_there leads)) leads x l) (h.back x (h.new x first seen) circle) (no_next (suc (count_there leads)) leads x l none);
    }

-- where the way comes to what this walk has seen
pub walk_meets : (leads : List Lead) (start : ℕ) (old marks : List Mark) (at : ℕ) → IsWalking leads start old marks (Here at) → unseen_at marks at ≡ false
    → walked_at start marks at ≡ true → IsWalk leads start old marks (Some at)
walk_meets leads start old marks at h seen walked =
    let ends : (y : ℕ) → ◌≡◌ {A = Option ℕ} (Some at) (Some y) → unseen_at marks y ≡ false = λ y is. subst (λ n. unseen_at marks n ≡ false) (same_Some at y is) seen in
    record {
      marks = walked_marks leads start old marks (Here at) h ends;
      own = walked_own leads start old marks (Here at) h ends;
      kept = λ x seen. (h.kept x seen).0;
      circle = h.comes at at (suc (count_there leads)) walked refl (omega arith);
      all = λ x first seen circle. h.back x (h.new x first seen) circle;
    }

-- where the way comes to what an earlier walk has seen
pub walk_joins : (leads : List Lead) (start : ℕ) (old marks : List Mark) (at : ℕ) → IsWalking leads start old marks (Here at) → unseen_at marks at ≡ false
    → walked_at start marks at ≡ false → IsWalk leads start old marks None
walk_joins leads start old marks at h seen other =
    let ends : (y : ℕ) → ◌≡◌ {A = Option ℕ} (Some at) (Some y) → unseen_at marks y ≡ false = λ y is. subst (λ n. unseen_at marks n ≡ false) (same_Some at y is) seen in
    record {
      marks = walked_marks leads start old marks (Here at) h ends;
      own = walked_own leads start old marks (Here at) h ends;
      kept = λ x seen. (h.kept x seen).0;
      circle = tt;
      all = λ x first seen_x circle.
          let walked = h.new x first seen_x in
          both_ways (walked_at start marks x) walked
          (comes_within (λ n. (unseen_at marks n ≡ false) × (walked_at start marks n ≡ false)) leads (λ a b is to. h.past a b is.0 is.1 to)
          (suc (count_there leads)) x at (seen, other) (h.back x walked circle)).1;
    }

-- ---- circles that are noted

abbrev pub count_new : List Bool → ℕ
count_new [] = 0
count_new (true ∷ bs) = count_new bs
count_new (false ∷ bs) = suc (count_new bs)

pub one_new_less : (bs : List Bool) (at : ℕ) → at < length bs → circle_at bs at ≡ false → suc (count_new (slice_set bs at true)) ≡ count_new bs
one_new_less [] at within h = absurd (omega (arith, within))
one_new_less (true ∷ bs) zero within h = both_ways true refl h
one_new_less (false ∷ bs) zero within h = refl
one_new_less (true ∷ bs) (suc at) within h = one_new_less bs at (omega (arith, within)) h
one_new_less (false ∷ bs) (suc at) within h = ap suc (one_new_less bs at (omega (arith, within)) h)

-- while a circle is gone round, from a place on it
pub record IsNoting (leads : List Lead) (first : ℕ) (old circles : List Bool) (at : ℕ) : Type 0 where
  pub long : length circles ≡ length leads
  pub circle : is_on_circle leads at ≡ true
  pub sound : (x : ℕ) → circle_at circles x ≡ true → is_on_circle leads x ≡ true
  pub ahead : (x y : ℕ) → circle_at circles x ≡ true → lead_at leads x ≡ Here y → circle_at circles y ≡ false → at ≡ y
  pub kept : (x : ℕ) → circle_at old x ≡ true → circle_at circles x ≡ true
  pub own : circle_at circles first ≡ false → at ≡ first

pub noting_begins : (leads : List Lead) (at : ℕ) (old : List Bool) → length old ≡ length leads → is_on_circle leads at ≡ true → AreCircles leads old → IsNoting leads at old old at
noting_begins leads at old long circle h = record {
  long = long;
  circle = circle;
  sound = h.sound;
  ahead = λ x y there to new. both_ways (circle_at old y) (h.closed x y there to) new;
  kept = λ x there. there;
  own = λ new. refl;
}

module _ (leads : List Lead) (first : ℕ) (old circles : List Bool) (at : ℕ) (h : IsNoting leads first old circles at) where
  noted_own : circle_at (slice_set circles at true) at ≡ true
  noted_own = let long = h.long in let near = circle_within leads at h.circle in get_or-set_same circles at true false (omega (arith, long, near))

  noted_other : (x : ℕ) → (x ≡ at → ⊥) → circle_at (slice_set circles at true) x ≡ circle_at circles x
  noted_other x other = get_or-set_other circles at x true false other

  new_other : (x : ℕ) → circle_at (slice_set circles at true) x ≡ false → x ≡ at → ⊥
  new_other x new same = both_ways (circle_at (slice_set circles at true) at) noted_own (subst (λ n. circle_at (slice_set circles at true) n ≡ false) same new)

  -- the next place on it
  pub noting_on : (next : ℕ) → next_of (lead_at leads at) ≡ Some next → IsNoting leads first old (slice_set circles at true) next
  noting_on next is = record {
    long = length-set circles at true ∙ h.long;
    circle = circle_on leads at next (to_next (lead_at leads at) next is) h.circle;
    sound = λ x there. by_sound x there (cases_eq x at);
    ahead = λ x y there to new. by_ahead x y there to new (cases_eq x at);
    kept = λ x there. by_kept x there (cases_eq x at);
    own = λ new. absurd (new_other first new (sym (h.own (sym (noted_other first (new_other first new)) ∙ new))));
  }
    where
      by_sound : (x : ℕ) → circle_at (slice_set circles at true) x ≡ true → (x ≡ at) ⊎ (x ≡ at → ⊥) → is_on_circle leads x ≡ true
      by_sound x there (inl same) = subst (λ n. is_on_circle leads n ≡ true) (sym same) h.circle
      by_sound x there (inr other) = h.sound x (sym (noted_other x other) ∙ there)

      by_ahead : (x y : ℕ) → circle_at (slice_set circles at true) x ≡ true → lead_at leads x ≡ Here y → circle_at (slice_set circles at true) y ≡ false → (x ≡ at) ⊎ (x ≡ at → ⊥) → next ≡ y
      by_ahead x y there to new (inl same) = same_Some next y (sym is ∙ next_is (lead_at leads at) y (subst (λ n. lead_at leads n ≡ Here y) same to))
      by_ahead x y there to new (inr other) =
          absurd (new_other y new (sym (h.ahead x y (sym (noted_other x other) ∙ there) to (sym (noted_other y (new_other y new)) ∙ new))))

      by_kept : (x : ℕ) → circle_at old x ≡ true → (x ≡ at) ⊎ (x ≡ at → ⊥) → circle_at (slice_set circles at true) x ≡ true
      by_kept x there (inl same) = subst (λ n. circle_at (slice_set circles at true) n ≡ true) (sym same) noted_own
      by_kept x there (inr other) = noted_other x other ∙ h.kept x there

  -- when it comes to what is noted, the circle is whole
  pub noting_ends : (at < length circles → circle_at circles at ≡ true) → OneMore leads first old circles
  noting_ends there =
      let long = h.long in
      let near = circle_within leads at h.circle in
      let own = there (omega (arith, long, near)) in
      record {
        circles = record {
          sound = h.sound;
          closed = λ x y noted to. true_from_ne_false (circle_at circles y) (λ new. both_ways (circle_at circles at) own (subst (λ n. circle_at circles n ≡ false) (sym (h.ahead x y noted to new)) new));
        };
        own = true_from_ne_false (circle_at circles first) (λ new. both_ways (circle_at circles at) own (subst (λ n. circle_at circles n ≡ false) (sym (h.own new)) new));
        kept = h.kept;
      }

-- ---- all circles

-- the circles of all that was seen by the walks from the places before one
pub record AreFound (leads : List Lead) (start : ℕ) (marks : List Mark) (circles : List Bool) : Type 0 where
  pub marked : AreMarks leads start marks
  pub noted : AreCircles leads circles
  pub long : length circles ≡ length leads
  pub seen : (x : ℕ) → x < start → unseen_at marks x ≡ false
  pub whole : (x : ℕ) → unseen_at marks x ≡ false → is_on_circle leads x ≡ true → circle_at circles x ≡ true

first_at : (leads : List Lead) (x : ℕ) → mark_at (map first_mark leads) x ≡ first_mark (lead_at leads x)
first_at [] x = refl
first_at (l ∷ leads) zero = refl
first_at (l ∷ leads) (suc x) = first_at leads x

first_not_walked : (from : ℕ) (l : Lead) → is_walked from (first_mark l) ≡ false
first_not_walked from Gone = refl
first_not_walked from End = refl
first_not_walked from Nowhere = refl
first_not_walked from (Here at) = refl

first_seen : (l : Lead) → is_unseen (first_mark l) ≡ false → next_of l ≡ None
first_seen Gone h = refl
first_seen End h = both_ways true refl h
first_seen Nowhere h = both_ways true refl h
first_seen (Here at) h = both_ways true refl h

first_count : (leads : List Lead) → count_unseen (map first_mark leads) ≡ count_there leads
first_count [] = refl
first_count (Gone ∷ leads) = first_count leads
first_count (End ∷ leads) = ap suc (first_count leads)
first_count (Nowhere ∷ leads) = ap suc (first_count leads)
first_count (Here at ∷ leads) = ap suc (first_count leads)

none_noted : (n x : ℕ) → circle_at (replicate n false) x ≡ false
none_noted zero x = refl
none_noted (suc n) zero = refl
none_noted (suc n) (suc x) = none_noted n x

pub found_first : (leads : List Lead) → AreFound leads 0 (map first_mark leads) (replicate (length leads) false)
found_first leads =
    let ends : (x : ℕ) → unseen_at (map first_mark leads) x ≡ false → next_of (lead_at leads x) ≡ None =
    λ x seen. first_seen (lead_at leads x) (ap (λ (m : Mark). is_unseen m) (sym (first_at leads x)) ∙ seen) in
    let count = first_count leads in
    record {
      marked = record {
        closed = λ x y seen to. absurd (none-some y (sym (ends x seen) ∙ next_is (lead_at leads x) y to));
        earlier = λ x from le. ap (λ (m : Mark). is_walked from m) (first_at leads x) ∙ first_not_walked from (lead_at leads x);
        few = omega (arith, count);
      };
      noted = record {
        sound = λ x there. both_ways (circle_at (replicate (length leads) false) x) there (none_noted (length leads) x);
        closed = λ x y there to. both_ways (circle_at (replicate (length leads) false) x) there (none_noted (length leads) x);
      };
      long = length-replicate (length leads) false;
      seen = λ x less. absurd (omega (arith, less));
      whole = λ x seen circle. absurd (circle_next leads x circle (ends x seen));
    }

module _ (leads : List Lead) (start : ℕ) (old new : List Mark) (circles : List Bool) (h : AreFound leads start old circles) where
  seen_on : (met : Option ℕ) → IsWalk leads start old new met → (x : ℕ) → x < start + 1 → unseen_at new x ≡ false
  seen_on met walk x less = by (cases_eq x start)
    where
      by : (x ≡ start) ⊎ (x ≡ start → ⊥) → unseen_at new x ≡ false
      by (inl same) = subst (λ n. unseen_at new n ≡ false) (sym same) walk.own
      by (inr other) = walk.kept x (h.seen x (omega (arith, less, other)))

  pub found_none : IsWalk leads start old new None → AreFound leads (start + 1) new circles
  found_none walk = record {
    marked = walk.marks;
    noted = h.noted;
    long = h.long;
    seen = seen_on None walk;
    whole = λ x seen circle. by x seen circle (cases_Bool (unseen_at old x));
  }
    where
      by : (x : ℕ) → unseen_at new x ≡ false → is_on_circle leads x ≡ true → (unseen_at old x ≡ true) ⊎ (unseen_at old x ≡ false) → circle_at circles x ≡ true
      by x seen circle (inl first) = absurd (walk.all x first seen circle)
      by x seen circle (inr before) = h.whole x before circle

  pub found_one : (at : ℕ) (more : List Bool) → IsWalk leads start old new (Some at) → length more ≡ length leads → OneMore leads at circles more → AreFound leads (start + 1) new more
  found_one at more walk long one = record {
    marked = walk.marks;
    noted = one.circles;
    long = long;
    seen = seen_on (Some at) walk;
    whole = λ x seen circle. by x seen circle (cases_Bool (unseen_at old x));
  }
    where
      by : (x : ℕ) → unseen_at new x ≡ false → is_on_circle leads x ≡ true → (unseen_at old x ≡ true) ⊎ (unseen_at old x ≡ false) → circle_at more x ≡ true
      by x seen circle (inl first) =
          comes_within (λ n. circle_at more n ≡ true) leads (λ a b there to. one.circles.closed a b there to) (suc (count_there leads)) x at one.own (walk.all x first seen circle)
      by x seen circle (inr before) = one.kept x (h.whole x before circle)

same_test : (a b : Bool) → (a ≡ true → b ≡ true) → (b ≡ true → a ≡ true) → a ≡ b
same_test true b there back = sym (there refl)
same_test false b there back = sym (false_from_ne_true b (λ e. both_ways false (back e) refl))

pub found_all : (leads : List Lead) (start : ℕ) (marks : List Mark) (circles : List Bool) → AreFound leads start marks circles → length leads ≤ start
    → (place : ℕ) → slice_index_or circles place false ≡ is_on_circle leads place
found_all leads start marks circles h end place = same_test (circle_at circles place) (is_on_circle leads place)
    (h.noted.sound place)
    (λ circle. let near = circle_within leads place circle in h.whole place (h.seen place (omega (arith, near, end))) circle)

pub take_none : (n : ℕ) → ◌≡◌ {A = List Bool} (take n []) []
take_none zero = refl
take_none (suc n) = refl
