-- The methods whose slots live after all rounds are those that live.
use Rattle.std.proofs.Common.{◌≡◌, ◌+◌, ◌<◌, ◌≤◌, ℕ, zero, suc, Bool, true, false, not, ◌&&◌, ◌||◌, List, [], ◌∷◌, length, map, filter, slice_index_or, refl, sym, ap, ◌∙◌, subst, arith, true≢false, ◌⊎◌, inl, inr}
use Rattle.std.specs.Prelude.{◌==◌, nat_eq, Option, Some, None, if◌then◌else◌, cond}
use Rattle.std.specs.Option.{option_map}
use Rattle.std.specs.Cmp.Lexicographic.{bytes_decides, nat_list_eq_equiv}
use Rattle.std.proofs.lemmas.Option.{none-some, same_Some}
use Rattle.std.proofs.lemmas.Bool.{ne_eqb, eq-eqb, cases_eq, lt-ltb, le-ltb, cases_lt, and_parts, or_parts}
use Rattle.sig_rules.specs.declared.given.What.{What}
use Rattle.sig_rules.specs.declared.given.What.TheVariants.{Whole, Further, AliasOf}
use Rattle.sig_rules.specs.declared.given.GivenMethod.{GivenMethod}
use Rattle.sig_rules.specs.declared.method.Visibility.{Visibility}
use Rattle.sig_rules.specs.Methods.{same_word, Placed, placed_from, first_of_name, Next, elsewhere, here, nowhere, next, comes_to, is_dead, living_after, living}
use Rattle.method_steps.specs.declared.slots.Slot.{Slot}
use Rattle.method_steps.specs.declared.slots.Origin.TheVariants.{Own, Alias}
use Rattle.method_steps.specs.declared.slots.Origin.{Origin}
use Rattle.method_steps.specs.declared.leads.Lead.{Lead}
use Rattle.method_steps.specs.declared.leads.Lead.TheVariants.{Gone, End, Nowhere, Here}
use Rattle.method_steps.specs.Slots.{key, is_alias, has_alias, origin, slot, first_from, first_of, lead, lead_at, comes_back, is_nowhere, is_on_circle, is_dead_at, without, count_there, leads_among, dead_among, round, rounds, all_live, chosen}

-- a fact of each item
abbrev pub Each : {X : Type 0} → (X → Type 0) → List X → Type 0
Each P [] = Unit {0}
Each P (x ∷ xs) = P x × Each P xs

pub each_as : {X : Type 0} (P Q : X → Type 0) (xs : List X) → ((x : X) → P x → Q x) → Each P xs → Each Q xs
each_as P Q [] f h = tt
each_as P Q (x ∷ xs) f h = (f x h.0, each_as P Q xs f h.1)

-- the methods whose slots live, by their places from one on
abbrev kept : ℕ → List GivenMethod → List Slot → List Placed
kept n [] ss = []
kept n (g ∷ gs) [] = []
kept n (g ∷ gs) (s ∷ ss) = if s.lives then record { place = n; given = g } ∷ kept (suc n) gs ss else kept (suc n) gs ss

-- slots that stand for methods
abbrev AreSlots : (List ℕ → ℕ) → (List ℕ → Bool) → List GivenMethod → List Slot → Type 0
AreSlots k e [] [] = Unit {0}
AreSlots k e [] (s ∷ ss) = ⊥
AreSlots k e (g ∷ gs) [] = ⊥
AreSlots k e (g ∷ gs) (s ∷ ss) = ((s.key ≡ k g.name) × (s.origin ≡ origin k e g.what)) × AreSlots k e gs ss

-- ---- slots

chosen_kept : (n : ℕ) (gs : List GivenMethod) (ss : List Slot) → chosen gs ss ≡ map (λ (p : Placed). p.given) (kept n gs ss)
chosen_kept n [] ss = refl
chosen_kept n (g ∷ gs) [] = refl
chosen_kept n (g ∷ gs) (s ∷ ss) = by_lives s.lives (chosen gs ss) (kept (suc n) gs ss) (chosen_kept (suc n) gs ss)
  where
    by_lives : (b : Bool) (xs : List GivenMethod) (ps : List Placed) → xs ≡ map (λ (p : Placed). p.given) ps
        → cond b (g ∷ xs) xs ≡ map (λ (p : Placed). p.given) (cond b (record { place = n; given = g } ∷ ps) ps)
    by_lives true xs ps h = ap (λ (ys : List GivenMethod). g ∷ ys) h
    by_lives false xs ps h = h

kept_all : (k : List ℕ → ℕ) (e : List ℕ → Bool) (n : ℕ) (gs : List GivenMethod) → kept n gs (map (slot k e) gs) ≡ placed_from n gs
kept_all k e n [] = refl
kept_all k e n (g ∷ gs) = ap (λ (ps : List Placed). record { place = n; given = g } ∷ ps) (kept_all k e (suc n) gs)

slots_made : (k : List ℕ → ℕ) (e : List ℕ → Bool) (gs : List GivenMethod) → AreSlots k e gs (map (slot k e) gs)
slots_made k e [] = tt
slots_made k e (g ∷ gs) = ((refl, refl), slots_made k e gs)

without_slots : (k : List ℕ → ℕ) (e : List ℕ → Bool) (dead : ℕ → Bool) (n : ℕ) (gs : List GivenMethod) (ss : List Slot)
    → AreSlots k e gs ss → AreSlots k e gs (without dead n ss)
without_slots k e dead n [] [] h = tt
without_slots k e dead n [] (s ∷ ss) h = absurd h
without_slots k e dead n (g ∷ gs) [] h = absurd h
without_slots k e dead n (g ∷ gs) (s ∷ ss) h = (h.0, without_slots k e dead (suc n) gs ss h.1)

rounds_slots : (k : List ℕ → ℕ) (e : List ℕ → Bool) (turns : ℕ) (gs : List GivenMethod) (ss : List Slot) → AreSlots k e gs ss → AreSlots k e gs (rounds turns ss)
rounds_slots k e zero gs ss h = h
rounds_slots k e (suc turns) gs ss h = rounds_slots k e turns gs (round ss) (without_slots k e (dead_among ss) 0 gs ss h)

slots_length : (k : List ℕ → ℕ) (e : List ℕ → Bool) (gs : List GivenMethod) (ss : List Slot) → AreSlots k e gs ss → length ss ≡ length gs
slots_length k e [] [] h = refl
slots_length k e [] (s ∷ ss) h = absurd h
slots_length k e (g ∷ gs) [] h = absurd h
slots_length k e (g ∷ gs) (s ∷ ss) h = ap suc (slots_length k e gs ss h.1)

-- what lives isn't gone
there : (first : ℕ → Option ℕ) (own : ℕ) (o : Origin) (leads : List Lead) → count_there (lead first (record { key = own; origin = o; lives = true }) ∷ leads) ≡ suc (count_there leads)
there first own Own leads = refl
there first own (Alias key is_elsewhere) leads = by_first (first key) is_elsewhere
  where
    by_first : (place : Option ℕ) (b : Bool) → count_there (lead (λ (n : ℕ). place) (record { key = own; origin = Alias key b; lives = true }) ∷ leads) ≡ suc (count_there leads)
    by_first (Some place) b = refl
    by_first None true = refl
    by_first None false = refl

count_kept : (k : List ℕ → ℕ) (e : List ℕ → Bool) (first : ℕ → Option ℕ) (n : ℕ) (gs : List GivenMethod) (ss : List Slot) → AreSlots k e gs ss
    → count_there (map (lead first) ss) ≡ length (kept n gs ss)
count_kept k e first n [] [] h = refl
count_kept k e first n [] (s ∷ ss) h = absurd h
count_kept k e first n (g ∷ gs) [] h = absurd h
count_kept k e first n (g ∷ gs) (s ∷ ss) h = by_lives s.lives (kept (suc n) gs ss) (count_kept k e first (suc n) gs ss h.1)
  where
    by_lives : (b : Bool) (ps : List Placed) → count_there (map (lead first) ss) ≡ length ps
        → count_there (lead first (record { key = s.key; origin = s.origin; lives = b }) ∷ map (lead first) ss) ≡ length (cond b (record { place = n; given = g } ∷ ps) ps)
    by_lives true ps h = there first s.key s.origin (map (lead first) ss) ∙ ap suc h
    by_lives false ps h = h

kept_without : (dead : ℕ → Bool) (q : Placed → Bool) (n : ℕ) (gs : List GivenMethod) (ss : List Slot)
    → Each (λ (p : Placed). dead p.place ≡ q p) (kept n gs ss)
    → kept n gs (without dead n ss) ≡ filter (λ (p : Placed). not (q p)) (kept n gs ss)
kept_without dead q n [] ss h = refl
kept_without dead q n (g ∷ gs) [] h = refl
kept_without dead q n (g ∷ gs) (s ∷ ss) h =
    by_lives s.lives (kept (suc n) gs ss) (kept (suc n) gs (without dead (suc n) ss)) h (kept_without dead q (suc n) gs ss)
  where
    p : Placed
    p = record { place = n; given = g }

    by_lives : (b : Bool) (ps rest : List Placed)
        → Each (λ (p : Placed). dead p.place ≡ q p) (cond b (record { place = n; given = g } ∷ ps) ps)
        → (Each (λ (p : Placed). dead p.place ≡ q p) ps → rest ≡ filter (λ (p : Placed). not (q p)) ps)
        → cond (b && not (dead n)) (record { place = n; given = g } ∷ rest) rest ≡ filter (λ (p : Placed). not (q p)) (cond b (record { place = n; given = g } ∷ ps) ps)
    by_lives true ps rest h more = λ i. cond (not (h.0 i)) (record { place = n; given = g } ∷ more h.1 i) (more h.1 i)
    by_lives false ps rest h more = more h

-- ---- keys

same_word-refl : (a : List ℕ) → same_word a a ≡ true
same_word-refl a = (bytes_decides a a).1 refl

nat_eq-suc : (m n : ℕ) → nat_eq m n ≡ nat_eq (suc m) (suc n)
nat_eq-suc m n = by_cases (cases_eq m n)
  where
    by_cases : (m ≡ n) ⊎ (m ≡ n → ⊥) → nat_eq m n ≡ nat_eq (suc m) (suc n)
    by_cases (inl same) = eq-eqb m n same ∙ sym (eq-eqb (suc m) (suc n) (ap suc same))
    by_cases (inr other) = ne_eqb m n other ∙ sym (ne_eqb (suc m) (suc n) (λ same. other (omega (arith, same))))

same_key : (all : List GivenMethod) (a b : List ℕ) → key all b < length all → same_word a b ≡ nat_eq (key all a) (key all b)
same_key [] a b h = absurd (omega (arith, h))
same_key (g ∷ gs) a b h = by_own (same_word a g.name) (same_word b g.name) refl refl (same_key gs a b) h
  where
    by_own : (x y : Bool) → same_word a g.name ≡ x → same_word b g.name ≡ y → (key gs b < length gs → same_word a b ≡ nat_eq (key gs a) (key gs b))
        → cond y 0 (suc (key gs b)) < suc (length gs) → same_word a b ≡ nat_eq (cond x 0 (suc (key gs a))) (cond y 0 (suc (key gs b)))
    by_own true true x y more h = subst (λ (w : List ℕ). same_word a w ≡ true) ((bytes_decides a g.name).0 x ∙ sym ((bytes_decides b g.name).0 y)) (same_word-refl a)
    by_own true false x y more h = ap (λ (w : List ℕ). same_word w b) ((bytes_decides a g.name).0 x) ∙ sym (nat_list_eq_equiv.symm b g.name) ∙ y ∙ sym (ne_eqb 0 (suc (key gs b)) (λ e. absurd (omega (arith, e))))
    by_own false true x y more h = ap (λ (w : List ℕ). same_word a w) ((bytes_decides b g.name).0 y) ∙ x ∙ sym (ne_eqb (suc (key gs a)) 0 (λ e. absurd (omega (arith, e))))
    by_own false false x y more h = more (omega (arith, h)) ∙ nat_eq-suc (key gs a) (key gs b)

key_next : (b : Bool) (k n : ℕ) → k < n → cond b 0 (suc k) < suc n
key_next true k n h = omega arith
key_next false k n h = omega (arith, h)

keys_within : (all : List GivenMethod) → Each (λ (g : GivenMethod). key all g.name < length all) all
keys_within [] = tt
keys_within (g ∷ gs) = (
  subst (λ b. cond b 0 (suc (key gs g.name)) < suc (length gs)) (sym (same_word-refl g.name)) (omega arith),
  each_as (λ (x : GivenMethod). key gs x.name < length gs) (λ (x : GivenMethod). key (g ∷ gs) x.name < length (g ∷ gs)) gs (λ x h. key_next (same_word x.name g.name) (key gs x.name) (length gs) h) (keys_within gs),
)

same_keys : (all : List GivenMethod) (a : List ℕ) → Each (λ (g : GivenMethod). same_word a g.name ≡ nat_eq (key all a) (key all g.name)) all
same_keys all a = each_as (λ (g : GivenMethod). key all g.name < length all) (λ (g : GivenMethod). same_word a g.name ≡ nat_eq (key all a) (key all g.name)) all (λ g h. same_key all a g.name h) (keys_within all)

other_names : (all : List GivenMethod) (a : List ℕ) → length all ≤ key all a → Each (λ (g : GivenMethod). same_word a g.name ≡ false) all
other_names all a far = each_as (λ (g : GivenMethod). key all g.name < length all) (λ (g : GivenMethod). same_word a g.name ≡ false) all
    (λ g h. same_key all a g.name h ∙ ne_eqb (key all a) (key all g.name) (λ same. absurd (omega (arith, h, far, same)))) (keys_within all)

-- ---- the first of a name

first_kept : (k : List ℕ → ℕ) (e : List ℕ → Bool) (a : List ℕ) (n : ℕ) (gs : List GivenMethod) (ss : List Slot) → AreSlots k e gs ss
    → Each (λ (g : GivenMethod). same_word a g.name ≡ nat_eq (k a) (k g.name)) gs
    → first_from n (k a) ss ≡ option_map (λ (p : Placed). p.place) (first_of_name a (kept n gs ss))
first_kept k e a n [] [] h same = refl
first_kept k e a n [] (s ∷ ss) h same = absurd h
first_kept k e a n (g ∷ gs) [] h same = absurd h
first_kept k e a n (g ∷ gs) (s ∷ ss) h same =
    by_lives s.lives (nat_eq (k a) s.key) (ap (λ m. nat_eq (k a) m) h.0.0 ∙ sym same.0) (kept (suc n) gs ss) (first_from (suc n) (k a) ss) (first_kept k e a (suc n) gs ss h.1 same.1)
  where
    by_test : (t : Bool) (o : Option ℕ) (q : Option Placed) → o ≡ option_map (λ (p : Placed). p.place) q
        → cond t (Some n) o ≡ option_map (λ (p : Placed). p.place) (cond t (Some (record { place = n; given = g })) q)
    by_test true o q h = refl
    by_test false o q h = h

    by_lives : (b x : Bool) → x ≡ same_word a g.name → (ps : List Placed) (o : Option ℕ) → o ≡ option_map (λ (p : Placed). p.place) (first_of_name a ps)
        → cond (b && x) (Some n) o ≡ option_map (λ (p : Placed). p.place) (first_of_name a (cond b (record { place = n; given = g } ∷ ps) ps))
    by_lives false x h ps o more = more
    by_lives true x h ps o more = ap (λ t. cond t (Some n) o) h ∙ by_test (same_word a g.name) o (first_of_name a ps) more

no_first : (a : List ℕ) (n : ℕ) (gs : List GivenMethod) (ss : List Slot) → Each (λ (g : GivenMethod). same_word a g.name ≡ false) gs → first_of_name a (kept n gs ss) ≡ None
no_first a n [] ss h = refl
no_first a n (g ∷ gs) [] h = refl
no_first a n (g ∷ gs) (s ∷ ss) h = by_lives s.lives (kept (suc n) gs ss) (no_first a (suc n) gs ss h.1)
  where
    by_lives : (b : Bool) (ps : List Placed) → first_of_name a ps ≡ None → first_of_name a (cond b (record { place = n; given = g } ∷ ps) ps) ≡ None
    by_lives true ps more = ap (λ t. cond t (Some (record { place = n; given = g })) (first_of_name a ps)) h.0 ∙ more
    by_lives false ps more = more

first_is : (e : List ℕ → Bool) (all : List GivenMethod) (ss : List Slot) (a : List ℕ) → AreSlots (key all) e all ss
    → first_of ss (key all a) ≡ option_map (λ (p : Placed). p.place) (first_of_name a (kept 0 all ss))
first_is e all ss a h = by_order (cases_lt (key all a) (length ss))
  where
    by_order : (key all a < length ss) ⊎ (length ss ≤ key all a) → first_of ss (key all a) ≡ option_map (λ (p : Placed). p.place) (first_of_name a (kept 0 all ss))
    by_order (inl near) =
        ap (λ b. cond b (first_from 0 (key all a) ss) None) (lt-ltb (key all a) (length ss) near)
        ∙ first_kept (key all) e a 0 all ss h (same_keys all a)
    by_order (inr far) =
        let far_all : length all ≤ key all a = subst (λ n. n ≤ key all a) (slots_length (key all) e all ss h) far in
        ap (λ b. cond b (first_from 0 (key all a) ss) None) (le-ltb (key all a) (length ss) far)
        ∙ ap (λ (o : Option Placed). option_map (λ (p : Placed). p.place) o) (sym (no_first a 0 all ss (other_names all a far_all)))

-- ---- ways

abbrev pub found : Bool → Option Placed → Next
found b (Some p) = here p
found b None = if b then elsewhere else nowhere

abbrev of_next : Next → Lead
of_next elsewhere = End
of_next (here p) = Here p.place
of_next nowhere = Nowhere

abbrev of_what : (List ℕ → Bool) → List Placed → What → Lead
of_what e ps (AliasOf old) = of_next (next e ps old)
of_what e ps _ = End

-- what stands at each one's place is what it leads to
abbrev IsLed : (List ℕ → Bool) → List Placed → List Lead → Placed → Type 0
IsLed e ps leads p = lead_at leads p.place ≡ of_what e ps p.given.what

pub next_found : (e : List ℕ → Bool) (ps : List Placed) (name : List ℕ) → next e ps name ≡ found (e name) (first_of_name name ps)
next_found e ps name = refl

abbrev pub turn_what : (List ℕ → Bool) → What → Bool
turn_what again (AliasOf old) = again old
turn_what again _ = false

abbrev pub turn : ℕ → (List ℕ → Bool) → Next → Bool
turn place again (here p) = p.place == place || turn_what again p.given.what
turn place again _ = false

one_turn : (turns : ℕ) (e : List ℕ → Bool) (ps : List Placed) (place : ℕ) (name : List ℕ)
    → comes_to (suc turns) e ps place name ≡ turn place (comes_to turns e ps place) (next e ps name)
one_turn turns e ps place name = refl

pub each_first : (P : Placed → Type 0) (ps : List Placed) (name : List ℕ) (p : Placed) → Each P ps → first_of_name name ps ≡ Some p → P p
each_first P [] name p h is = absurd (none-some p is)
each_first P (q ∷ ps) name p h is = by_test (same_word name q.given.name) (each_first P ps name p h.1) is
  where
    by_test : (b : Bool) → (first_of_name name ps ≡ Some p → P p) → cond b (Some q) (first_of_name name ps) ≡ Some p → P p
    by_test true more is = subst P (same_Some q p is) h.0
    by_test false more is = more is

end_comes_nowhere : (turns : ℕ) (leads : List Lead) (place : ℕ) → comes_back turns leads place End ≡ false
end_comes_nowhere zero leads place = refl
end_comes_nowhere (suc turns) leads place = refl

-- a way comes to a place just as that of the slots does
way : (turns : ℕ) (e : List ℕ → Bool) (ps : List Placed) (leads : List Lead) (place : ℕ) (name : List ℕ) → Each (IsLed e ps leads) ps
    → comes_to turns e ps place name ≡ comes_back turns leads place (of_next (next e ps name))
way zero e ps leads place name h = refl
way (suc turns) e ps leads place name h = by_first (first_of_name name ps) refl (λ other. way turns e ps leads place other h)
  where
    by_what : (w : What) → ((other : List ℕ) → comes_to turns e ps place other ≡ comes_back turns leads place (of_next (next e ps other)))
        → turn_what (comes_to turns e ps place) w ≡ comes_back turns leads place (of_what e ps w)
    by_what (AliasOf old) more = more old
    by_what (Whole overloads) more = sym (end_comes_nowhere turns leads place)
    by_what (Further overloads) more = sym (end_comes_nowhere turns leads place)

    by_found : (b : Bool) → turn place (comes_to turns e ps place) (found b None) ≡ comes_back (suc turns) leads place (of_next (found b None))
    by_found true = refl
    by_found false = refl

    by_first : (o : Option Placed) → first_of_name name ps ≡ o
        → ((other : List ℕ) → comes_to turns e ps place other ≡ comes_back turns leads place (of_next (next e ps other)))
        → turn place (comes_to turns e ps place) (found (e name) (first_of_name name ps)) ≡ comes_back (suc turns) leads place (of_next (found (e name) (first_of_name name ps)))
    by_first None is more =
        subst (λ (o : Option Placed). turn place (comes_to turns e ps place) (found (e name) o) ≡ comes_back (suc turns) leads place (of_next (found (e name) o))) (sym is) (by_found (e name))
    by_first (Some p) is more =
        subst (λ (o : Option Placed). turn place (comes_to turns e ps place) (found (e name) o) ≡ comes_back (suc turns) leads place (of_next (found (e name) o))) (sym is)
        (ap (λ b. p.place == place || b) (by_what p.given.what more ∙ ap (λ (l : Lead). comes_back turns leads place l) (sym (each_first (IsLed e ps leads) ps name p h is))))

abbrev pub nowhere_next : Next → Bool
nowhere_next nowhere = true
nowhere_next _ = false

-- the dead ones are the dead ones of the slots
dead_is : (e : List ℕ → Bool) (ps : List Placed) (leads : List Lead) → Each (IsLed e ps leads) ps → count_there leads ≡ length ps → (p : Placed) → IsLed e ps leads p
    → is_dead_at (is_on_circle leads) leads p.place ≡ is_dead e ps p
dead_is e ps leads h same p led =
    ap (λ (l : Lead). is_nowhere l || comes_back (suc (count_there leads)) leads p.place l) led
    ∙ ap (λ n. is_nowhere (of_what e ps p.given.what) || comes_back (suc n) leads p.place (of_what e ps p.given.what)) same
    ∙ by_what p.given.what p.place p.given.name p.given.visible
  where
    by_next : (x : Next) → is_nowhere (of_next x) ≡ nowhere_next x
    by_next elsewhere = refl
    by_next (here q) = refl
    by_next nowhere = refl

    by_what : (w : What) (place : ℕ) (name : List ℕ) (visible : Visibility)
        → (is_nowhere (of_what e ps w) || comes_back (suc (length ps)) leads place (of_what e ps w))
        ≡ is_dead e ps (record { place = place; given = record { name = name; visible = visible; what = w } })
    by_what (AliasOf old) place name visible = λ i. by_next (next e ps old) i || sym (way (suc (length ps)) e ps leads place old h) i
    by_what (Whole overloads) place name visible = refl
    by_what (Further overloads) place name visible = refl

-- ---- what slots lead to

lead_is : (e : List ℕ → Bool) (all : List GivenMethod) (ss : List Slot) → AreSlots (key all) e all ss → (own : ℕ) (w : What)
    → lead (first_of ss) (record { key = own; origin = origin (key all) e w; lives = true }) ≡ of_what e (kept 0 all ss) w
lead_is e all ss h own (Whole overloads) = refl
lead_is e all ss h own (Further overloads) = refl
lead_is e all ss h own (AliasOf old) =
    ap (λ (o : Option ℕ). lead (λ (n : ℕ). o) (record { key = own; origin = Alias (key all old) (e old); lives = true })) (first_is e all ss old h)
    ∙ by_first (first_of_name old (kept 0 all ss)) (e old)
  where
    by_first : (o : Option Placed) (b : Bool)
        → lead (λ (n : ℕ). option_map (λ (p : Placed). p.place) o) (record { key = own; origin = Alias (key all old) b; lives = true }) ≡ of_next (found b o)
    by_first (Some p) b = refl
    by_first None true = refl
    by_first None false = refl

leads_kept : (e : List ℕ → Bool) (k : List ℕ → ℕ) (first : ℕ → Option ℕ) (ps : List Placed) (leads : List Lead)
    → ((own : ℕ) (w : What) → lead first (record { key = own; origin = origin k e w; lives = true }) ≡ of_what e ps w)
    → (n : ℕ) (gs : List GivenMethod) (ss : List Slot) → AreSlots k e gs ss
    → ((j : ℕ) → lead_at leads (n + j) ≡ slice_index_or (map (lead first) ss) j Gone)
    → Each (IsLed e ps leads) (kept n gs ss)
leads_kept e k first ps leads is n [] ss h at = tt
leads_kept e k first ps leads is n (g ∷ gs) [] h at = tt
leads_kept e k first ps leads is n (g ∷ gs) (s ∷ ss) h at =
    by_lives s.lives refl (leads_kept e k first ps leads is (suc n) gs ss h.1 (λ j. let sum : suc n + j ≡ n + suc j = omega arith in ap (λ m. lead_at leads m) sum ∙ at (suc j)))
  where
    by_lives : (b : Bool) → s.lives ≡ b → Each (IsLed e ps leads) (kept (suc n) gs ss)
        → Each (IsLed e ps leads) (cond b (record { place = n; given = g } ∷ kept (suc n) gs ss) (kept (suc n) gs ss))
    by_lives false lives more = more
    by_lives true lives more =
        let own : n ≡ n + 0 = omega arith in (
          ap (λ m. lead_at leads m) own ∙ at 0
              ∙ (λ i. lead first (record { key = s.key; origin = h.0.1 i; lives = lives i }))
              ∙ is s.key g.what,
          more,
        )

-- ---- rounds

round_is : (e : List ℕ → Bool) (all : List GivenMethod) (ss : List Slot) → AreSlots (key all) e all ss
    → kept 0 all (round ss) ≡ filter (λ (p : Placed). not (is_dead e (kept 0 all ss) p)) (kept 0 all ss)
round_is e all ss h =
    let ps = kept 0 all ss in
    let led : Each (IsLed e ps (leads_among ss)) ps =
    leads_kept e (key all) (first_of ss) ps (leads_among ss) (lead_is e all ss h) 0 all ss h (λ j. let sum : 0 + j ≡ j = omega arith in ap (λ m. lead_at (leads_among ss) m) sum) in
    kept_without (dead_among ss) (is_dead e ps) 0 all ss
    (each_as (IsLed e ps (leads_among ss)) (λ (p : Placed). dead_among ss p.place ≡ is_dead e ps p) ps (dead_is e ps (leads_among ss) led (count_kept (key all) e (first_of ss) 0 all ss h)) led)

rounds_are : (turns : ℕ) (e : List ℕ → Bool) (all : List GivenMethod) (ss : List Slot) → AreSlots (key all) e all ss
    → kept 0 all (rounds turns ss) ≡ living_after turns e (kept 0 all ss)
rounds_are zero e all ss h = refl
rounds_are (suc turns) e all ss h =
    rounds_are turns e all (round ss) (without_slots (key all) e (dead_among ss) 0 all ss h)
    ∙ ap (λ (ps : List Placed). living_after turns e ps) (round_is e all ss h)

pub chosen_live : (e : List ℕ → Bool) (all : List GivenMethod) → chosen all (rounds (length all) (map (slot (key all) e) all)) ≡ living e all
chosen_live e all =
    chosen_kept 0 all (rounds (length all) (map (slot (key all) e) all))
    ∙ ap (λ (ps : List Placed). map (λ (p : Placed). p.given) ps)
    (rounds_are (length all) e all (map (slot (key all) e) all) (slots_made (key all) e all) ∙ ap (λ (ps : List Placed). living_after (length all) e ps) (kept_all (key all) e 0 all))

chosen_all : (k : List ℕ → ℕ) (e : List ℕ → Bool) (gs : List GivenMethod) (ss : List Slot) → AreSlots k e gs ss → all_live ss ≡ true → chosen gs ss ≡ gs
chosen_all k e [] ss h live = refl
chosen_all k e (g ∷ gs) [] h live = absurd h
chosen_all k e (g ∷ gs) (s ∷ ss) h live =
    let both = and_parts s.lives (all_live ss) live in
    ap (λ b. cond b (g ∷ chosen gs ss) (chosen gs ss)) both.0 ∙ ap (λ (x : List GivenMethod). g ∷ x) (chosen_all k e gs ss h.1 both.1)

pub slots_after : (e : List ℕ → Bool) (all seen : List GivenMethod) (slots ss : List Slot) (turns : ℕ) → seen ≡ all → slots ≡ map (slot (key seen) e) seen → turns ≡ length all
    → ss ≡ rounds turns slots → ss ≡ rounds (length all) (map (slot (key all) e) all)
slots_after e all seen slots ss turns same made count is =
    is ∙ (λ i. rounds (count i) (made i)) ∙ ap (λ (gs : List GivenMethod). rounds (length all) (map (slot (key gs) e) gs)) same

pub all_of_them_live : (e : List ℕ → Bool) (all : List GivenMethod) (ss : List Slot) → ss ≡ rounds (length all) (map (slot (key all) e) all) → all_live ss ≡ true → all ≡ living e all
all_of_them_live e all ss is live =
    let slots = map (slot (key all) e) all in
    sym (chosen_all (key all) e all (rounds (length all) slots) (rounds_slots (key all) e (length all) all slots (slots_made (key all) e all)) (ap (λ (x : List Slot). all_live x) (sym is) ∙ live))
    ∙ chosen_live e all

-- ---- without aliases

abbrev IsOwn : Placed → Type 0
IsOwn p = is_alias p.given.what ≡ false

own_lives : (e : List ℕ → Bool) (ps : List Placed) (w : What) (place : ℕ) (name : List ℕ) (visible : Visibility) → is_alias w ≡ false
    → is_dead e ps (record { place = place; given = record { name = name; visible = visible; what = w } }) ≡ false
own_lives e ps (AliasOf old) place name visible h = absurd (true≢false h)
own_lives e ps (Whole overloads) place name visible h = refl
own_lives e ps (Further overloads) place name visible h = refl

pub none_dead : (dead : Placed → Bool) (ps : List Placed) → Each (λ (p : Placed). dead p ≡ false) ps → filter (λ (p : Placed). not (dead p)) ps ≡ ps
none_dead dead [] h = refl
none_dead dead (p ∷ ps) h = λ i. cond (not (h.0 i)) (p ∷ none_dead dead ps h.1 i) (none_dead dead ps h.1 i)

all_own : (turns : ℕ) (e : List ℕ → Bool) (ps : List Placed) → Each IsOwn ps → living_after turns e ps ≡ ps
all_own zero e ps h = refl
all_own (suc turns) e ps h =
    ap (λ (x : List Placed). living_after turns e x)
    (none_dead (is_dead e ps) ps (each_as IsOwn (λ (p : Placed). is_dead e ps p ≡ false) ps (λ p own. own_lives e ps p.given.what p.place p.given.name p.given.visible own) h))
    ∙ all_own turns e ps h

own_placed : (n : ℕ) (gs : List GivenMethod) → has_alias gs ≡ false → Each IsOwn (placed_from n gs)
own_placed n [] h = tt
own_placed n (g ∷ gs) h = let both = or_parts (is_alias g.what) (has_alias gs) h in (both.0, own_placed (suc n) gs both.1)

given_placed : (n : ℕ) (gs : List GivenMethod) → map (λ (p : Placed). p.given) (placed_from n gs) ≡ gs
given_placed n [] = refl
given_placed n (g ∷ gs) = ap (λ (x : List GivenMethod). g ∷ x) (given_placed (suc n) gs)

pub no_alias : (e : List ℕ → Bool) (gs : List GivenMethod) → has_alias gs ≡ false → gs ≡ living e gs
no_alias e gs h =
    sym (ap (λ (ps : List Placed). map (λ (p : Placed). p.given) ps) (all_own (length gs) e (placed_from 0 gs) (own_placed 0 gs h)) ∙ given_placed 0 gs)
