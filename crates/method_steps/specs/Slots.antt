-- Given methods by numbers: names by the places of the first methods that have them, and what each alias leads to among those that live.
use Rattle.std.specs.Prelude.{ℕ, zero, suc, ◌==◌, Bool, true, false, not, ◌&&◌, ◌||◌, if◌then◌else◌, nat_lt, List, [], ◌∷◌, length, map, slice_index_or, slice_set, is_none, ◌++◌, Option, Some, None}
use Rattle.sig_rules.specs.declared.given.What.{What}
use Rattle.sig_rules.specs.declared.given.What.TheVariants.{AliasOf}
use Rattle.sig_rules.specs.declared.given.GivenMethod.{GivenMethod}
use Rattle.sig_rules.specs.Methods.{same_word}
use Rattle.sig_rules.specs.Worlds.{by_name}
use Rattle.method_steps.specs.declared.slots.Slot.{Slot}
use Rattle.method_steps.specs.declared.slots.Origin.{Origin}
use Rattle.method_steps.specs.declared.slots.Origin.TheVariants.{Own, Alias}
use Rattle.method_steps.specs.declared.leads.Lead.{Lead}
use Rattle.method_steps.specs.declared.leads.Lead.TheVariants.{Gone, End, Nowhere, Here}

-- the place of the first method of a name, or the number of methods where there is none
abbrev pub key : List GivenMethod → List ℕ → ℕ
key [] name = 0
key (g ∷ gs) name = if same_word name g.name then 0 else suc (key gs name)

abbrev pub is_alias : What → Bool
is_alias (AliasOf old) = true
is_alias _ = false

abbrev pub has_alias : List GivenMethod → Bool
has_alias [] = false
has_alias (g ∷ gs) = is_alias g.what || has_alias gs

abbrev pub origin : (List ℕ → ℕ) → (List ℕ → Bool) → What → Origin
origin key_of is_elsewhere (AliasOf old) = Alias (key_of old) (is_elsewhere old)
origin key_of is_elsewhere _ = Own

-- a method that lives, by the keys of names
abbrev pub slot : (List ℕ → ℕ) → (List ℕ → Bool) → GivenMethod → Slot
slot key_of is_elsewhere g = record { key = key_of g.name; origin = origin key_of is_elsewhere g.what; lives = true }

-- the place of the first that lives of those with a key, from a place on
abbrev pub first_from : ℕ → ℕ → List Slot → Option ℕ
first_from n key [] = None
first_from n key (s ∷ ss) = if s.lives && key == s.key then Some n else first_from (suc n) key ss

-- the same, and none for a key that no method has
abbrev pub first_of : List Slot → ℕ → Option ℕ
first_of ss key = if nat_lt key (length ss) then first_from 0 key ss else None

-- the places of the firsts, with one more where its key has none yet
abbrev pub with_first : List (Option ℕ) → ℕ → Slot → List (Option ℕ)
with_first firsts place s = if s.lives && (nat_lt s.key (length firsts) && is_none (slice_index_or firsts s.key None)) then slice_set firsts s.key (Some place) else firsts

-- the places by names, with one more where the name has none yet
abbrev pub with_key : List (List ℕ × ℕ) → List ℕ → ℕ → List (List ℕ × ℕ)
with_key keys name place = if is_none (by_name keys name) then keys ++ (name, place) ∷ [] else keys

-- what a slot leads to, by the first that lives of each key
abbrev pub lead : (ℕ → Option ℕ) → Slot → Lead
lead first s = if s.lives then by_origin s.origin else Gone
  where
    by_first : Bool → Option ℕ → Lead
    by_first is_elsewhere (Some place) = Here place
    by_first is_elsewhere None = if is_elsewhere then End else Nowhere

    by_origin : Origin → Lead
    by_origin Own = End
    by_origin (Alias key is_elsewhere) = by_first is_elsewhere (first key)

abbrev pub lead_at : List Lead → ℕ → Lead
lead_at leads place = slice_index_or leads place Gone

-- whether the way from what is led to comes to a place within so many turns
abbrev pub comes_back : ℕ → List Lead → ℕ → Lead → Bool
comes_back zero leads place from = false
comes_back (suc turns) leads place (Here at) = at == place || comes_back turns leads place (lead_at leads at)
comes_back (suc turns) leads place _ = false

abbrev pub is_nowhere : Lead → Bool
is_nowhere Nowhere = true
is_nowhere _ = false

-- how many live
abbrev pub count_there : List Lead → ℕ
count_there [] = 0
count_there (Gone ∷ leads) = count_there leads
count_there (_ ∷ leads) = suc (count_there leads)

-- whether the own way of what stands at a place comes back to it
abbrev pub is_on_circle : List Lead → ℕ → Bool
is_on_circle leads place = comes_back (suc (count_there leads)) leads place (lead_at leads place)

abbrev pub is_dead_at : (ℕ → Bool) → List Lead → ℕ → Bool
is_dead_at on_circle leads place = is_nowhere (lead_at leads place) || on_circle place

-- without those that are dead, by their places from one on
abbrev pub without : (ℕ → Bool) → ℕ → List Slot → List Slot
without dead n [] = []
without dead n (s ∷ ss) = record s { lives = s.lives && not (dead n) } ∷ without dead (suc n) ss

-- whether one that lives is dead
abbrev pub some_dead : (ℕ → Bool) → ℕ → List Slot → Bool
some_dead dead n [] = false
some_dead dead n (s ∷ ss) = (s.lives && dead n) || some_dead dead (suc n) ss

abbrev pub leads_among : List Slot → List Lead
leads_among ss = map (lead (first_of ss)) ss

abbrev pub dead_among : List Slot → ℕ → Bool
dead_among ss = is_dead_at (is_on_circle (leads_among ss)) (leads_among ss)

abbrev pub round : List Slot → List Slot
round ss = without (dead_among ss) 0 ss

abbrev pub rounds : ℕ → List Slot → List Slot
rounds zero ss = ss
rounds (suc turns) ss = rounds turns (round ss)

abbrev pub all_live : List Slot → Bool
all_live [] = true
all_live (s ∷ ss) = s.lives && all_live ss

-- the methods whose slots live
abbrev pub chosen : List GivenMethod → List Slot → List GivenMethod
chosen [] ss = []
chosen (g ∷ gs) [] = []
chosen (g ∷ gs) (s ∷ ss) = if s.lives then g ∷ chosen gs ss else chosen gs ss
