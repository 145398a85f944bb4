-- Among the methods that live no alias leads nowhere, and none is on a circle: each name that is declared comes to a method that is no
-- alias or to one elsewhere, within as many turns as there are methods and one.
use Rattle.std.proofs.Common.{◌≡◌, ◌<◌, ◌≤◌, ℕ, zero, suc, Bool, true, false, not, ◌||◌, List, [], ◌∷◌, length, map, filter, refl, sym, ap, ◌∙◌, subst, arith, true≢false, ◌⊎◌, inl, inr}
use Rattle.std.specs.Prelude.{◌==◌, Option, Some, None, cond}
use Rattle.std.proofs.lemmas.Bool.{eq-eqb, eqb-true, or_cases, or_parts, or_left, or_right}
use Rattle.sig_rules.specs.declared.given.What.{What}
use Rattle.sig_rules.specs.declared.given.What.TheVariants.{Whole, Further, AliasOf}
use Rattle.sig_rules.specs.declared.given.GivenMethod.{GivenMethod}
use Rattle.sig_rules.specs.declared.method.Visibility.{Visibility}
use Rattle.sig_rules.specs.Methods.{same_word, Placed, placed_from, first_of_name, Next, elsewhere, here, nowhere, next, comes_to, is_dead, living_after, living, of_name}
use Rattle.method_steps.proofs.SlotsLive.{Each, each_as, each_first, found, turn_what, turn, nowhere_next, none_dead}

-- what comes of a way at an alias, and at any other method
abbrev pub out_what : (List ℕ → Bool) → What → Bool
out_what again (AliasOf old) = again old
out_what again _ = true

-- what comes of a way at the methods of a name, or where there is none
abbrev pub out_declared : (List ℕ → Bool) → Bool → List GivenMethod → Bool
out_declared again is_elsewhere [] = is_elsewhere
out_declared again is_elsewhere (g ∷ more) = out_what again g.what

-- whether the way from a name, by the first method of it, comes within so many turns to a method that is no alias or to one elsewhere
abbrev pub comes_out : ℕ → (List ℕ → Bool) → List GivenMethod → List ℕ → Bool
comes_out zero is_elsewhere gs name = false
comes_out (suc turns) is_elsewhere gs name = out_declared (comes_out turns is_elsewhere gs) (is_elsewhere name) (of_name name gs)

-- ---- rounds until nothing changes

filter_shorter : (q : Placed → Bool) (ps : List Placed) → (length (filter (λ (p : Placed). not (q p)) ps) ≤ length ps)
filter_shorter q [] = omega arith
filter_shorter q (p ∷ ps) = by_test (q p) (filter_shorter q ps)
  where
    by_test : (b : Bool) → length (filter (λ (p : Placed). not (q p)) ps) ≤ length ps
        → length (cond (not b) (p ∷ filter (λ (p : Placed). not (q p)) ps) (filter (λ (p : Placed). not (q p)) ps)) ≤ suc (length ps)
    by_test true h = omega (arith, h)
    by_test false h = omega (arith, h)

-- a round takes one away, or none is dead
some_or_none : (q : Placed → Bool) (ps : List Placed) → Each (λ (p : Placed). q p ≡ false) ps ⊎ (length (filter (λ (p : Placed). not (q p)) ps) < length ps)
some_or_none q [] = inl tt
some_or_none q (p ∷ ps) = by_test (q p) refl (some_or_none q ps)
  where
    by_test : (b : Bool) → q p ≡ b → Each (λ (p : Placed). q p ≡ false) ps ⊎ (length (filter (λ (p : Placed). not (q p)) ps) < length ps)
        → Each (λ (p : Placed). q p ≡ false) (p ∷ ps) ⊎ (length (cond (not b) (p ∷ filter (λ (p : Placed). not (q p)) ps) (filter (λ (p : Placed). not (q p)) ps)) < suc (length ps))
    by_test true is more = let le = filter_shorter q ps in inr (omega (arith, le))
    by_test false is (inl none) = inl (is, none)
    by_test false is (inr less) = inr (omega (arith, less))

abbrev NoneDead : (List ℕ → Bool) → List Placed → Type 0
NoneDead e ps = Each (λ (p : Placed). is_dead e ps p ≡ false) ps

stays : (turns : ℕ) (e : List ℕ → Bool) (ps : List Placed) → NoneDead e ps → living_after turns e ps ≡ ps
stays zero e ps h = refl
stays (suc turns) e ps h = ap (λ (x : List Placed). living_after turns e x) (none_dead (is_dead e ps) ps h) ∙ stays turns e ps h

none_left : (turns : ℕ) (e : List ℕ → Bool) (ps : List Placed) → length ps ≤ turns → NoneDead e (living_after turns e ps)
none_left zero e [] h = tt
none_left zero e (p ∷ ps) h = absurd (omega (arith, h))
none_left (suc turns) e ps h = by_round (some_or_none (is_dead e ps) ps) (none_left turns e (filter (λ (p : Placed). not (is_dead e ps p)) ps))
  where
    by_round : NoneDead e ps ⊎ (length (filter (λ (p : Placed). not (is_dead e ps p)) ps) < length ps)
        → (length (filter (λ (p : Placed). not (is_dead e ps p)) ps) ≤ turns → NoneDead e (living_after turns e (filter (λ (p : Placed). not (is_dead e ps p)) ps)))
        → NoneDead e (living_after turns e (filter (λ (p : Placed). not (is_dead e ps p)) ps))
    by_round (inr less) more = more (omega (arith, less, h))
    by_round (inl none) more = subst (λ (x : List Placed). NoneDead e x) (sym (stays (suc turns) e ps none)) none

living_fewer : (turns : ℕ) (e : List ℕ → Bool) (ps : List Placed) → length (living_after turns e ps) ≤ length ps
living_fewer zero e ps = omega arith
living_fewer (suc turns) e ps =
    let fewer = living_fewer turns e (filter (λ (p : Placed). not (is_dead e ps p)) ps) in
    let round = filter_shorter (is_dead e ps) ps in
    omega (arith, fewer, round)

placed_length : (n : ℕ) (gs : List GivenMethod) → length (placed_from n gs) ≡ length gs
placed_length n [] = refl
placed_length n (g ∷ gs) = ap suc (placed_length (suc n) gs)

-- ---- places that a way can still come to

abbrev has_place : ℕ → List ℕ → Bool
has_place x [] = false
has_place x (u ∷ us) = x == u || has_place x us

abbrev without_place : ℕ → List ℕ → List ℕ
without_place x [] = []
without_place x (u ∷ us) = cond (x == u) (without_place x us) (u ∷ without_place x us)

without_fewer : (x : ℕ) (us : List ℕ) → length (without_place x us) ≤ length us
without_fewer x [] = omega arith
without_fewer x (u ∷ us) = by_test (x == u) (without_fewer x us)
  where
    by_test : (b : Bool) → length (without_place x us) ≤ length us → length (cond b (without_place x us) (u ∷ without_place x us)) ≤ suc (length us)
    by_test true h = omega (arith, h)
    by_test false h = omega (arith, h)

without_one : (x : ℕ) (us : List ℕ) → has_place x us ≡ true → length (without_place x us) < length us
without_one x [] h = absurd (true≢false (sym h))
without_one x (u ∷ us) h = by_test (x == u) h (without_one x us)
  where
    by_test : (b : Bool) → (b || has_place x us) ≡ true → (has_place x us ≡ true → length (without_place x us) < length us)
        → length (cond b (without_place x us) (u ∷ without_place x us)) < suc (length us)
    by_test true h more = let le = without_fewer x us in omega (arith, le)
    by_test false h more = let less = more h in omega (arith, less)

other_place : (x y : ℕ) (us : List ℕ) → has_place x us ≡ true → (x ≡ y → ⊥) → has_place x (without_place y us) ≡ true
other_place x y [] h other = h
other_place x y (u ∷ us) h other = by_test (y == u) refl (x == u) refl h (λ more. other_place x y us more other)
  where
    by_test : (b : Bool) → (y == u) ≡ b → (c : Bool) → (x == u) ≡ c → (c || has_place x us) ≡ true → (has_place x us ≡ true → has_place x (without_place y us) ≡ true)
        → has_place x (cond b (without_place y us) (u ∷ without_place y us)) ≡ true
    by_test true is true own h more = absurd (other (eqb-true x u own ∙ sym (eqb-true y u is)))
    by_test true is false own h more = more h
    by_test false is true own h more = ap (λ t. t || has_place x (without_place y us)) own
    by_test false is false own h more = ap (λ t. t || has_place x (without_place y us)) own ∙ more h

abbrev places : List Placed → List ℕ
places ps = map (λ (p : Placed). p.place) ps

each_has : (ps : List Placed) → Each (λ (p : Placed). has_place p.place (places ps) ≡ true) ps
each_has [] = tt
each_has (p ∷ ps) = (
  or_left (p.place == p.place) (has_place p.place (places ps)) (eq-eqb p.place p.place refl),
  each_as (λ (q : Placed). has_place q.place (places ps) ≡ true) (λ (q : Placed). has_place q.place (places (p ∷ ps)) ≡ true) ps (λ q h. or_right (q.place == p.place) (has_place q.place (places ps)) h) (each_has ps),
)

places_length : (ps : List Placed) → length (places ps) ≡ length ps
places_length [] = refl
places_length (p ∷ ps) = ap suc (places_length ps)

-- a way comes to no place but theirs
comes_to_one : (turns : ℕ) (e : List ℕ → Bool) (ps : List Placed) (x : ℕ) (name : List ℕ) → comes_to turns e ps x name ≡ true → has_place x (places ps) ≡ true
comes_to_one zero e ps x name h = absurd (true≢false (sym h))
comes_to_one (suc turns) e ps x name h = by_first (first_of_name name ps) refl h (λ other. comes_to_one turns e ps x other)
  where
    by_what : (w : What) → ((other : List ℕ) → comes_to turns e ps x other ≡ true → has_place x (places ps) ≡ true)
        → turn_what (comes_to turns e ps x) w ≡ true → has_place x (places ps) ≡ true
    by_what (AliasOf old) more h = more old h
    by_what (Whole overloads) more h = absurd (true≢false (sym h))
    by_what (Further overloads) more h = absurd (true≢false (sym h))

    by_found : (b : Bool) → turn x (comes_to turns e ps x) (found b None) ≡ true → has_place x (places ps) ≡ true
    by_found true h = absurd (true≢false (sym h))
    by_found false h = absurd (true≢false (sym h))

    by_either : (p : Placed) → first_of_name name ps ≡ Some p → ((p.place == x) ≡ true) ⊎ (turn_what (comes_to turns e ps x) p.given.what ≡ true)
        → ((other : List ℕ) → comes_to turns e ps x other ≡ true → has_place x (places ps) ≡ true) → has_place x (places ps) ≡ true
    by_either p is (inl own) more = subst (λ n. has_place n (places ps) ≡ true) (eqb-true p.place x own) (each_first (λ (q : Placed). has_place q.place (places ps) ≡ true) ps name p (each_has ps) is)
    by_either p is (inr on) more = by_what p.given.what more on

    by_first : (o : Option Placed) → first_of_name name ps ≡ o → turn x (comes_to turns e ps x) (found (e name) (first_of_name name ps)) ≡ true
        → ((other : List ℕ) → comes_to turns e ps x other ≡ true → has_place x (places ps) ≡ true) → has_place x (places ps) ≡ true
    by_first None is h more = by_found (e name) (subst (λ (o : Option Placed). turn x (comes_to turns e ps x) (found (e name) o) ≡ true) is h)
    by_first (Some p) is h more =
        by_either p is (or_cases (p.place == x) (turn_what (comes_to turns e ps x) p.given.what) (subst (λ (o : Option Placed). turn x (comes_to turns e ps x) (found (e name) o) ≡ true) is h)) more

-- what a way comes to, it comes to within more turns
turn_more : (x : ℕ) (f g : List ℕ → Bool) → ((name : List ℕ) → f name ≡ true → g name ≡ true) → (n : Next) → turn x f n ≡ true → turn x g n ≡ true
turn_more x f g more elsewhere h = h
turn_more x f g more nowhere h = h
turn_more x f g more (here p) h = by_either (or_cases (p.place == x) (turn_what f p.given.what) h)
  where
    by_what : (w : What) → turn_what f w ≡ true → turn_what g w ≡ true
    by_what (AliasOf old) h = more old h
    by_what (Whole overloads) h = h
    by_what (Further overloads) h = h

    by_either : ((p.place == x) ≡ true) ⊎ (turn_what f p.given.what ≡ true) → (p.place == x || turn_what g p.given.what) ≡ true
    by_either (inl own) = or_left (p.place == x) (turn_what g p.given.what) own
    by_either (inr on) = or_right (p.place == x) (turn_what g p.given.what) (by_what p.given.what on)

comes_more : (turns others : ℕ) (e : List ℕ → Bool) (ps : List Placed) (x : ℕ) (name : List ℕ) → turns ≤ others → comes_to turns e ps x name ≡ true → comes_to others e ps x name ≡ true
comes_more zero others e ps x name le h = absurd (true≢false (sym h))
comes_more (suc turns) zero e ps x name le h = absurd (omega (arith, le))
comes_more (suc turns) (suc others) e ps x name le h =
    turn_more x (comes_to turns e ps x) (comes_to others e ps x) (λ other. comes_more turns others e ps x other (omega (arith, le))) (next e ps name) h

-- ---- ways that come out

abbrev out_next : (List ℕ → Bool) → Next → Bool
out_next again elsewhere = true
out_next again (here p) = out_what again p.given.what
out_next again nowhere = false

abbrev out : ℕ → (List ℕ → Bool) → List Placed → List ℕ → Bool
out zero e ps name = false
out (suc turns) e ps name = out_next (out turns e ps) (next e ps name)

next_more : (f g : List ℕ → Bool) → ((name : List ℕ) → f name ≡ true → g name ≡ true) → (n : Next) → out_next f n ≡ true → out_next g n ≡ true
next_more f g more elsewhere h = h
next_more f g more nowhere h = h
next_more f g more (here p) h = by_what p.given.what h
  where
    by_what : (w : What) → out_what f w ≡ true → out_what g w ≡ true
    by_what (AliasOf old) h = more old h
    by_what (Whole overloads) h = h
    by_what (Further overloads) h = h

out_more : (turns others : ℕ) (e : List ℕ → Bool) (ps : List Placed) (name : List ℕ) → turns ≤ others → out turns e ps name ≡ true → out others e ps name ≡ true
out_more zero others e ps name le h = absurd (true≢false (sym h))
out_more (suc turns) zero e ps name le h = absurd (omega (arith, le))
out_more (suc turns) (suc others) e ps name le h = next_more (out turns e ps) (out others e ps) (λ other. out_more turns others e ps other (omega (arith, le))) (next e ps name) h

-- where none is dead, each turn leaves one place fewer to come to
ways_out : (e : List ℕ → Bool) (ps : List Placed) → NoneDead e ps → (turns : ℕ) (us : List ℕ) (name : List ℕ)
    → turns ≤ suc (length ps) → length us < turns
    → ((x : ℕ) → comes_to turns e ps x name ≡ true → has_place x us ≡ true)
    → nowhere_next (next e ps name) ≡ false
    → out turns e ps name ≡ true
ways_out e ps none zero us name few fewer to leads = absurd (omega (arith, fewer))
ways_out e ps none (suc turns) us name few fewer to leads = by_first (first_of_name name ps) refl leads to (ways_out e ps none turns)
  where
    by_found : (b : Bool) → nowhere_next (found b None) ≡ false → out_next (out turns e ps) (found b None) ≡ true
    by_found true h = refl
    by_found false h = absurd (true≢false h)

    by_what : (w : What) (place : ℕ) (own : List ℕ) (visible : Visibility)
        → is_dead e ps (record { place = place; given = record { name = own; visible = visible; what = w } }) ≡ false
        → ((x : ℕ) → (place == x || turn_what (comes_to turns e ps x) w) ≡ true → has_place x us ≡ true)
        → ((us : List ℕ) (other : List ℕ) → turns ≤ suc (length ps) → length us < turns → ((x : ℕ) → comes_to turns e ps x other ≡ true → has_place x us ≡ true)
        → nowhere_next (next e ps other) ≡ false → out turns e ps other ≡ true)
        → out_what (out turns e ps) w ≡ true
    by_what (Whole overloads) place own visible lives to more = refl
    by_what (Further overloads) place own visible lives to more = refl
    by_what (AliasOf old) place own visible lives to more =
        let parts = or_parts (nowhere_next (next e ps old)) (comes_to (suc (length ps)) e ps place old) lives in
        let less = without_one place us (to place (or_left (place == place) (comes_to turns e ps place old) (eq-eqb place place refl))) in
        let le : turns ≤ suc (length ps) = omega (arith, few) in
        more (without_place place us) old le (omega (arith, less, fewer))
        (λ x h. other_place x place us (to x (or_right (place == x) (comes_to turns e ps x old) h))
        (λ same. true≢false (sym (comes_more turns (suc (length ps)) e ps place old le (subst (λ n. comes_to turns e ps n old ≡ true) same h)) ∙ parts.1)))
        parts.0

    by_first : (o : Option Placed) → first_of_name name ps ≡ o → nowhere_next (found (e name) (first_of_name name ps)) ≡ false
        → ((x : ℕ) → turn x (comes_to turns e ps x) (found (e name) (first_of_name name ps)) ≡ true → has_place x us ≡ true)
        → ((us : List ℕ) (other : List ℕ) → turns ≤ suc (length ps) → length us < turns → ((x : ℕ) → comes_to turns e ps x other ≡ true → has_place x us ≡ true)
        → nowhere_next (next e ps other) ≡ false → out turns e ps other ≡ true)
        → out_next (out turns e ps) (found (e name) (first_of_name name ps)) ≡ true
    by_first None is leads to more =
        subst (λ (o : Option Placed). out_next (out turns e ps) (found (e name) o) ≡ true) (sym is)
        (by_found (e name) (subst (λ (o : Option Placed). nowhere_next (found (e name) o) ≡ false) is leads))
    by_first (Some p) is leads to more =
        subst (λ (o : Option Placed). out_next (out turns e ps) (found (e name) o) ≡ true) (sym is)
        (by_what p.given.what p.place p.given.name p.given.visible (each_first (λ (q : Placed). is_dead e ps q ≡ false) ps name p none is)
        (λ x h. to x (subst (λ (o : Option Placed). turn x (comes_to turns e ps x) (found (e name) o) ≡ true) (sym is) h)) more)

-- ---- by the methods of a name

declared_first : (again : List ℕ → Bool) (b : Bool) (name : List ℕ) (ps : List Placed)
    → out_declared again b (of_name name (map (λ (p : Placed). p.given) ps)) ≡ out_next again (found b (first_of_name name ps))
declared_first again true name [] = refl
declared_first again false name [] = refl
declared_first again b name (p ∷ ps) = by_test (same_word name p.given.name) (declared_first again b name ps)
  where
    by_test : (t : Bool) → out_declared again b (of_name name (map (λ (p : Placed). p.given) ps)) ≡ out_next again (found b (first_of_name name ps))
        → out_declared again b (cond t (p.given ∷ of_name name (map (λ (p : Placed). p.given) ps)) (of_name name (map (λ (p : Placed). p.given) ps)))
        ≡ out_next again (found b (cond t (Some p) (first_of_name name ps)))
    by_test true more = refl
    by_test false more = more

out_is : (turns : ℕ) (e : List ℕ → Bool) (ps : List Placed) (name : List ℕ) → comes_out turns e (map (λ (p : Placed). p.given) ps) name ≡ out turns e ps name
out_is zero e ps name = refl
out_is (suc turns) e ps name =
    ap (λ (again : List ℕ → Bool). out_declared again (e name) (of_name name (map (λ (p : Placed). p.given) ps))) (λ i other. out_is turns e ps other i)
    ∙ declared_first (out turns e ps) (e name) name ps

is_led : (o : Option Placed) (b : Bool) → out_next (λ (name : List ℕ). true) (found false o) ≡ true → nowhere_next (found b o) ≡ false
is_led None b h = absurd (true≢false (sym h))
is_led (Some p) b h = refl

goes_on : (w : What) → out_what (λ (name : List ℕ). true) w ≡ true
goes_on (AliasOf old) = refl
goes_on (Whole overloads) = refl
goes_on (Further overloads) = refl

-- the same of a name whose methods that live are given
pub living_comes_out : (is_elsewhere : List ℕ → Bool) (gs : List GivenMethod) (name : List ℕ) (g : GivenMethod) (more : List GivenMethod)
    → of_name name (living is_elsewhere gs) ≡ g ∷ more
    → comes_out (suc (length gs)) is_elsewhere (living is_elsewhere gs) name ≡ true
living_comes_out e gs name g more is =
    let ps = living_after (length gs) e (placed_from 0 gs) in
    let placed = placed_length 0 gs in
    let none : NoneDead e ps = none_left (length gs) e (placed_from 0 gs) (omega (arith, placed)) in
    let fewer = living_fewer (length gs) e (placed_from 0 gs) in
    let own = places_length ps in
    let led : nowhere_next (next e ps name) ≡ false =
    is_led (first_of_name name ps) (e name)
    (sym (declared_first (λ (n : List ℕ). true) false name ps) ∙ ap (λ (x : List GivenMethod). out_declared (λ (n : List ℕ). true) false x) is ∙ goes_on g.what) in
    out_is (suc (length gs)) e ps name
    ∙ out_more (suc (length ps)) (suc (length gs)) e ps name (omega (arith, fewer, placed))
    (ways_out e ps none (suc (length ps)) (places ps) name (omega arith) (omega (arith, own)) (λ x h. comes_to_one (suc (length ps)) e ps x name h) led)
