-- How circles are found: each way is walked until it ends or comes to what was walked before, and what it met of its own is on a circle.
use Rattle.std.specs.Prelude.{◌≡◌, ℕ, suc, ◌+◌, ◌≤◌, ◌==◌, Bool, true, false, List, [], ◌∷◌, slice_index_or, Option, Some, None, IfSome}
use Rattle.method_steps.specs.declared.circles.Mark.{Mark}
use Rattle.method_steps.specs.declared.circles.Mark.TheVariants.{Unseen, Walked, Done}
use Rattle.method_steps.specs.declared.leads.Lead.{Lead}
use Rattle.method_steps.specs.declared.leads.Lead.TheVariants.{Gone, Here}
use Rattle.method_steps.specs.Slots.{lead_at, comes_back, count_there, is_on_circle}

abbrev pub next_of : Lead → Option ℕ
next_of (Here place) = Some place
next_of _ = None

abbrev pub is_unseen : Mark → Bool
is_unseen Unseen = true
is_unseen _ = false

-- whether it was seen on the walk from a place
abbrev pub is_walked : ℕ → Mark → Bool
is_walked start (Walked from) = from == start
is_walked start _ = false

abbrev pub mark_at : List Mark → ℕ → Mark
mark_at marks place = slice_index_or marks place Done

abbrev pub unseen_at : List Mark → ℕ → Bool
unseen_at marks place = is_unseen (mark_at marks place)

abbrev pub walked_at : ℕ → List Mark → ℕ → Bool
walked_at start marks place = is_walked start (mark_at marks place)

-- what is gone leads nowhere, and needs no walk
abbrev pub first_mark : Lead → Mark
first_mark Gone = Done
first_mark _ = Unseen

abbrev pub count_unseen : List Mark → ℕ
count_unseen [] = 0
count_unseen (Unseen ∷ marks) = suc (count_unseen marks)
count_unseen (_ ∷ marks) = count_unseen marks

abbrev pub circle_at : List Bool → ℕ → Bool
circle_at circles place = slice_index_or circles place false

-- the marks before the walk from a place: what is seen leads to what is seen, by earlier walks
pub record AreMarks (leads : List Lead) (start : ℕ) (marks : List Mark) : Type 0 where
  pub closed : (place next : ℕ) → unseen_at marks place ≡ false → lead_at leads place ≡ Here next → unseen_at marks next ≡ false
  pub earlier : (place from : ℕ) → start ≤ from → walked_at from marks place ≡ false
  pub few : count_unseen marks ≤ count_there leads

-- from where on a circle was met, the way comes to a place
abbrev pub ComesTo : List Lead → ℕ → Option ℕ → Type 0
ComesTo leads place None = ⊥
ComesTo leads place (Some at) = comes_back (suc (count_there leads)) leads place (Here at) ≡ true

-- a walk sees its start, and what it sees of circles is on the one that is met
pub record IsWalk (leads : List Lead) (start : ℕ) (old new : List Mark) (met : Option ℕ) : Type 0 where
  pub marks : AreMarks leads (start + 1) new
  pub own : unseen_at new start ≡ false
  pub kept : (place : ℕ) → unseen_at old place ≡ false → unseen_at new place ≡ false
  pub circle : IfSome met (λ at. is_on_circle leads at ≡ true)
  pub all : (place : ℕ) → unseen_at old place ≡ true → unseen_at new place ≡ false → is_on_circle leads place ≡ true → ComesTo leads place met

-- circles that were found, each whole
pub record AreCircles (leads : List Lead) (circles : List Bool) : Type 0 where
  pub sound : (place : ℕ) → circle_at circles place ≡ true → is_on_circle leads place ≡ true
  pub closed : (place next : ℕ) → circle_at circles place ≡ true → lead_at leads place ≡ Here next → circle_at circles next ≡ true

-- one circle more, by a place on it
pub record OneMore (leads : List Lead) (at : ℕ) (old new : List Bool) : Type 0 where
  pub circles : AreCircles leads new
  pub own : circle_at new at ≡ true
  pub kept : (place : ℕ) → circle_at old place ≡ true → circle_at new place ≡ true
