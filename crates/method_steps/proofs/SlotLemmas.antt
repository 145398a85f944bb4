-- What follows of slots, places and keys.
use Rattle.std.proofs.Common.{◌≡◌, ◌+◌, ◌-◌, ◌<◌, ℕ, zero, suc, Bool, true, false, not, ◌&&◌, ◌||◌, List, [], ◌∷◌, ◌++◌, length, map, slice_index_or, unwrap_or, refl, sym, ap, ◌∙◌, subst, arith, true≢false, append-nil, slice_set, get_or-set_same, get_or-set_other, length-set, ◌⊎◌, inl, inr}
use Rattle.std.specs.Prelude.{◌==◌, nat_lt, Option, Some, None, if◌then◌else◌, cond, is_none}
use Rattle.std.specs.Option.{option_or}
use Rattle.std.proofs.lemmas.Bool.{ne_eqb, eq-eqb, lt-ltb, cases_eq}
use Rattle.std.specs.Cmp.Lexicographic.{bytes_decides}
use Rattle.sig_rules.specs.Methods.{same_word}
use Rattle.sig_rules.specs.Worlds.{by_name}
use Rattle.sig_rules.specs.declared.given.GivenMethod.{GivenMethod}
use Rattle.method_steps.specs.Slots.{key, with_key, with_first, lead_at, first_from, is_on_circle, is_dead_at, is_nowhere, without, some_dead, dead_among, leads_among, round, rounds}
use Rattle.method_steps.specs.declared.slots.Slot.{Slot}
use Rattle.method_steps.specs.declared.leads.Lead.{Lead}

-- ---- rounds

without_first : (dead : ℕ → Bool) (n : ℕ) (s : Slot) (ss rest : List Slot) (lives is_dead : Bool) (some : Bool) → ((lives && is_dead) || some) ≡ false
    → (some ≡ false → rest ≡ ss) → ◌≡◌ {A = List Slot} (record s { lives = lives && not is_dead } ∷ rest) (record s { lives = lives } ∷ ss)
without_first dead n s ss rest true true some h more = absurd (true≢false h)
without_first dead n s ss rest true false some h more = ap (λ (x : List Slot). record s { lives = true } ∷ x) (more h)
without_first dead n s ss rest false d some h more = ap (λ (x : List Slot). record s { lives = false } ∷ x) (more h)

pub without_same : (dead : ℕ → Bool) (n : ℕ) (ss : List Slot) → some_dead dead n ss ≡ false → without dead n ss ≡ ss
without_same dead n [] h = refl
without_same dead n (s ∷ ss) h = without_first dead n s ss (without dead (suc n) ss) s.lives (dead n) (some_dead dead (suc n) ss) h (without_same dead (suc n) ss)

-- the dead ones by what the code has found
pub same_dead : (ss : List Slot) (leads at_circles at_dead : List Lead) (circles told : List Bool)
    → leads ≡ leads_among ss → at_circles ≡ leads → at_dead ≡ leads → told ≡ circles
    → ((place : ℕ) → slice_index_or circles place false ≡ is_on_circle at_circles place)
    → is_dead_at (λ (place : ℕ). slice_index_or told place false) at_dead ≡ dead_among ss
same_dead ss leads at_circles at_dead circles told l a d c h =
    (λ i. is_dead_at (λ (place : ℕ). slice_index_or (c i) place false) ((d ∙ l) i))
    ∙ (λ i place. is_nowhere (lead_at (leads_among ss) place) || h place i)
    ∙ (λ i. is_dead_at (is_on_circle ((a ∙ l) i)) (leads_among ss))

pub rounds_same : (turns : ℕ) (ss : List Slot) → round ss ≡ ss → rounds turns ss ≡ ss
rounds_same zero ss h = refl
rounds_same (suc turns) ss h = ap (λ (x : List Slot). rounds turns x) h ∙ rounds_same turns ss h

pub one_round : (turns : ℕ) (ss : List Slot) → 0 < turns → rounds turns ss ≡ rounds (turns - 1) (round ss)
one_round zero ss h = absurd (omega (arith, h))
one_round (suc turns) ss h = let e : turns ≡ suc turns - 1 = omega arith in ap (λ n. rounds n (round ss)) e

-- ---- keys

lookup_more : (keys : List (List ℕ × ℕ)) (e : List ℕ × ℕ) (name : List ℕ)
    → by_name (keys ++ e ∷ []) name ≡ option_or (by_name keys name) (if same_word name e.0 then Some e.1 else None)
lookup_more [] e name = refl
lookup_more (x ∷ xs) e name = by_test (same_word name x.0) x.1 _ _ _ (lookup_more xs e name)
  where
    by_test : (b : Bool) (v : ℕ) (o p q : Option ℕ) → o ≡ option_or p q → cond b (Some v) o ≡ option_or (cond b (Some v) p) q
    by_test true v o p q h = refl
    by_test false v o p q h = h

-- what a table has by a name, once one more method is noted
pub key_more : (keys : List (List ℕ × ℕ)) (place : ℕ) (g : GivenMethod) (more : List GivenMethod) (name : List ℕ)
    → unwrap_or (by_name (with_key keys g.name place) name) ((place + 1) + key more name) ≡ unwrap_or (by_name keys name) (place + key (g ∷ more) name)
key_more keys place g more name = by_own (by_name keys g.name) refl
  where
    later : (o : Option ℕ) (b : Bool) → b ≡ false → unwrap_or o ((place + 1) + key more name) ≡ unwrap_or o (place + (if b then 0 else suc (key more name)))
    later (Some v) b h = refl
    later None true h = absurd (true≢false h)
    later None false h = omega arith

    known : (o : Option ℕ) (b : Bool) → (b ≡ true → is_none o ≡ false) → unwrap_or o ((place + 1) + key more name) ≡ unwrap_or o (place + (if b then 0 else suc (key more name)))
    known (Some v) b h = refl
    known None true h = absurd (true≢false (h refl))
    known None false h = omega arith

    new : (o : Option ℕ) (b : Bool) → unwrap_or (option_or o (if b then Some place else None)) ((place + 1) + key more name) ≡ unwrap_or o (place + (if b then 0 else suc (key more name)))
    new (Some v) b = refl
    new None true = omega arith
    new None false = omega arith

    by_own : (o : Option ℕ) → by_name keys g.name ≡ o
        → unwrap_or (by_name (if is_none (by_name keys g.name) then keys ++ (g.name, place) ∷ [] else keys) name) ((place + 1) + key more name)
        ≡ unwrap_or (by_name keys name) (place + key (g ∷ more) name)
    by_own (Some v) is =
        ap (λ (o : Option ℕ). unwrap_or (by_name (if is_none o then keys ++ (g.name, place) ∷ [] else keys) name) ((place + 1) + key more name)) is
        ∙ known (by_name keys name) (same_word name g.name) (λ same. ap (λ (w : List ℕ). is_none (by_name keys w)) ((bytes_decides name g.name).0 same) ∙ ap (λ (o : Option ℕ). is_none o) is)
    by_own None is =
        ap (λ (o : Option ℕ). unwrap_or (by_name (if is_none o then keys ++ (g.name, place) ∷ [] else keys) name) ((place + 1) + key more name)) is
        ∙ ap (λ (o : Option ℕ). unwrap_or o ((place + 1) + key more name)) (lookup_more keys (g.name, place) name)
        ∙ new (by_name keys name) (same_word name g.name)

-- what is made of each of a list, when the list is at its end
pub at_end : {A B : Type 0} (f : A → B) (done : List B) (rest all : List A) → length rest < 1 → done ++ map f rest ≡ map f all → done ≡ map f all
at_end f done [] all h e = sym (append-nil done) ∙ e
at_end f done (x ∷ rest) all h e = absurd (omega (arith, h))

-- ---- firsts

later_place : (place key : ℕ) (more : List Slot) → first_from (place + 1) key more ≡ first_from (suc place) key more
later_place place key more = let e : place + 1 ≡ suc place = omega arith in ap (λ n. first_from n key more) e

first_own : (firsts : List (Option ℕ)) (place : ℕ) (key : ℕ) (o rest : Option ℕ) → key < length firsts → slice_index_or firsts key None ≡ o
    → option_or (slice_index_or (if is_none (slice_index_or firsts key None) then slice_set firsts key (Some place) else firsts) key None) rest
    ≡ option_or (slice_index_or firsts key None) (Some place)
first_own firsts place key (Some v) rest h is =
    ap (λ (o : Option ℕ). option_or (slice_index_or (if is_none o then slice_set firsts key (Some place) else firsts) key None) rest) is
    ∙ ap (λ (o : Option ℕ). option_or o rest) is
    ∙ ap (λ (o : Option ℕ). option_or o (Some place)) (sym is)
first_own firsts place key None rest h is =
    ap (λ (o : Option ℕ). option_or (slice_index_or (if is_none o then slice_set firsts key (Some place) else firsts) key None) rest) is
    ∙ ap (λ (o : Option ℕ). option_or o rest) (get_or-set_same firsts key (Some place) None h)
    ∙ ap (λ (o : Option ℕ). option_or o (Some place)) (sym is)

set_other : (firsts : List (Option ℕ)) (place own key : ℕ) (b : Bool) → (key ≡ own → ⊥)
    → slice_index_or (if b then slice_set firsts own (Some place) else firsts) key None ≡ slice_index_or firsts key None
set_other firsts place own key true other = get_or-set_other firsts own key (Some place) None other
set_other firsts place own key false other = refl

pub first_more : (firsts : List (Option ℕ)) (place : ℕ) (s : Slot) (more : List Slot) (key : ℕ) → key < length firsts
    → option_or (slice_index_or (with_first firsts place s) key None) (first_from (place + 1) key more) ≡ option_or (slice_index_or firsts key None) (first_from place key (s ∷ more))
first_more firsts place s more key h =
    ap (λ (o : Option ℕ). option_or (slice_index_or (with_first firsts place s) key None) o) (later_place place key more)
    ∙ by_lives s.lives s.key (cases_eq key s.key)
  where
    by_lives : (lives : Bool) (own : ℕ) → (key ≡ own) ⊎ (key ≡ own → ⊥)
        → option_or (slice_index_or (if lives && (nat_lt own (length firsts) && is_none (slice_index_or firsts own None)) then slice_set firsts own (Some place) else firsts) key None) (first_from (suc place) key more)
        ≡ option_or (slice_index_or firsts key None) (if lives && key == own then Some place else first_from (suc place) key more)
    by_lives false own either = refl
    by_lives true own (inr other) =
        ap (λ (o : Option ℕ). option_or o (first_from (suc place) key more)) (set_other firsts place own key (nat_lt own (length firsts) && is_none (slice_index_or firsts own None)) other)
        ∙ ap (λ b. option_or (slice_index_or firsts key None) (if b then Some place else first_from (suc place) key more)) (sym (ne_eqb key own other))
    by_lives true own (inl same) = subst
        (λ (k : ℕ). option_or (slice_index_or (if nat_lt k (length firsts) && is_none (slice_index_or firsts k None) then slice_set firsts k (Some place) else firsts) key None) (first_from (suc place) key more)
        ≡ option_or (slice_index_or firsts key None) (if key == k then Some place else first_from (suc place) key more))
        same
        (ap (λ b. option_or (slice_index_or (if b && is_none (slice_index_or firsts key None) then slice_set firsts key (Some place) else firsts) key None) (first_from (suc place) key more)) (lt-ltb key (length firsts) h)
        ∙ first_own firsts place key (slice_index_or firsts key None) (first_from (suc place) key more) h refl
        ∙ ap (λ b. option_or (slice_index_or firsts key None) (if b then Some place else first_from (suc place) key more)) (sym (eq-eqb key key refl)))

set_length : (firsts : List (Option ℕ)) (place own : ℕ) (b : Bool) → length (if b then slice_set firsts own (Some place) else firsts) ≡ length firsts
set_length firsts place own true = length-set firsts own (Some place)
set_length firsts place own false = refl

pub with_first_length : (firsts : List (Option ℕ)) (place : ℕ) (s : Slot) → length (with_first firsts place s) ≡ length firsts
with_first_length firsts place s = set_length firsts place s.key (s.lives && (nat_lt s.key (length firsts) && is_none (slice_index_or firsts s.key None)))
