-- Which methods live, by what is known of the old names of aliases.
use Rattle.std.proofs.Common.{◌≡◌, ℕ, Bool, true, false, if◌then◌else◌, List, [], ◌∷◌, length, map, refl, sym, ap, subst, ◌∙◌}
use Rattle.sig_rules.specs.declared.given.GivenMethod.{GivenMethod}
use Rattle.sig_rules.specs.declared.given.What.{What}
use Rattle.sig_rules.specs.declared.given.What.TheVariants.{Whole, Further, AliasOf}
use Rattle.sig_rules.specs.Methods.{living}
use Rattle.method_steps.specs.declared.slots.Slot.{Slot}
use Rattle.method_steps.specs.declared.slots.Origin.{Origin}
use Rattle.method_steps.specs.declared.slots.Origin.TheVariants.{Own, Alias}
use Rattle.method_steps.specs.Slots.{chosen, key, origin, rounds, slot}
use Rattle.method_steps.proofs.SlotsLive.{Each, chosen_live}

-- two tests agree at the old name of an alias
abbrev pub OldAlike : (List ℕ → Bool) → (List ℕ → Bool) → What → Type 0
OldAlike e f (AliasOf old) = e old ≡ f old
OldAlike e f other = Unit {0}

same_origin : (k : List ℕ → ℕ) (e f : List ℕ → Bool) (w : What) → OldAlike e f w → origin k e w ≡ origin k f w
same_origin k e f (Whole overloads) h = refl
same_origin k e f (Further overloads) h = refl
same_origin k e f (AliasOf old) h = ap (Alias (k old)) h

same_slots : (k : List ℕ → ℕ) (e f : List ℕ → Bool) (gs : List GivenMethod) → Each (λ (g : GivenMethod). OldAlike e f g.what) gs → map (slot k e) gs ≡ map (slot k f) gs
same_slots k e f [] h = refl
same_slots k e f (g ∷ gs) h =
    ap (λ (o : Origin). record { key = k g.name; origin = o; lives = true } ∷ map (slot k e) gs) (same_origin k e f g.what h.0)
    ∙ ap (λ (ss : List Slot). slot k f g ∷ ss) (same_slots k e f gs h.1)

-- where two tests agree at the old names of all aliases, the same methods live
pub same_living : (e f : List ℕ → Bool) (gs : List GivenMethod) → Each (λ (g : GivenMethod). OldAlike e f g.what) gs → living e gs ≡ living f gs
same_living e f gs h = sym (chosen_live e gs) ∙ ap (λ (ss : List Slot). chosen gs (rounds (length gs) ss)) (same_slots (key gs) e f gs h) ∙ chosen_live f gs

each_chosen : (P : GivenMethod → Type 0) (gs : List GivenMethod) (ss : List Slot) → Each P gs → Each P (chosen gs ss)
each_chosen P [] ss h = tt
each_chosen P (g ∷ gs) [] h = tt
each_chosen P (g ∷ gs) (s ∷ ss) h = by_lives s.lives (each_chosen P gs ss h.1)
  where
    by_lives : (b : Bool) → Each P (chosen gs ss) → Each P (if b then g ∷ chosen gs ss else chosen gs ss)
    by_lives true rest = (h.0, rest)
    by_lives false rest = rest

pub each_living : (P : GivenMethod → Type 0) (e : List ℕ → Bool) (gs : List GivenMethod) → Each P gs → Each P (living e gs)
each_living P e gs h = subst (λ (xs : List GivenMethod). Each P xs) (chosen_live e gs) (each_chosen P gs (rounds (length gs) (map (slot (key gs) e) gs)) h)
