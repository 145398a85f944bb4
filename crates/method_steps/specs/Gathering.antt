-- How the methods of a step are gathered, name after name. The declarations of a name wait while the method of another name is
-- gathered, which the first of them takes over.
use Rattle.std.specs.Prelude.{◌≡◌, ℕ, suc, ◌+◌, ◌<◌, ◌≤◌, Bool, true, false, List, [], ◌∷◌, length, Option, Some, None}
use Rattle.sig_rules.specs.declared.given.GivenMethod.{GivenMethod}
use Rattle.sig_rules.specs.declared.given.What.{What}
use Rattle.sig_rules.specs.declared.given.What.TheVariants.{AliasOf}
use Rattle.sig_rules.specs.declared.line.Step.{Step}
use Rattle.sig_rules.specs.declared.method.Method.{Method}
use Rattle.sig_rules.specs.Methods.{Made, at_step, is_some, of_name}
use Rattle.sig_rules.specs.Worlds.{by_name}
use Rattle.method_steps.specs.Steps.{elsewhere}

-- a name with its declarations
abbrev pub Entry : Type 0
Entry = List ℕ × List GivenMethod

-- the declarations, if there are any
abbrev pub group_of : List GivenMethod → Option (List GivenMethod)
group_of [] = None
group_of (g ∷ gs) = Some (g ∷ gs)

-- the declarations that there are
abbrev pub listed : Option (List GivenMethod) → List GivenMethod
listed None = []
listed (Some gs) = gs

-- the name whose method the first of some declarations takes over
abbrev pub wanted : List GivenMethod → Option (List ℕ)
wanted [] = None
wanted (g ∷ gs) = by_what g.what
  where
    by_what : What → Option (List ℕ)
    by_what (AliasOf old) = Some old
    by_what _ = None

-- what is to be gathered: the methods of a step, by the declarations that live and what is found behind it
pub record Task : Type 0 where
  pub made : Made
  pub step : Step
  -- the steps behind it
  pub rest : List Step
  -- the steps from it on
  pub steps : List Step
  pub behind : List ℕ → Option Method
  pub alive : List GivenMethod
  -- at least as many as there are names
  pub turns : ℕ

-- what a name is to have, if its aliases are followed so many turns
abbrev pub aim : Task → ℕ → List ℕ → Option Method
aim task turns name =
    if_declared (of_name name task.alive) (at_step turns task.step (elsewhere task.made task.rest task.behind) (elsewhere task.made task.steps task.behind) task.alive name)
  where
    if_declared : List GivenMethod → Option Method → Option Method
    if_declared [] at_it = task.behind name
    if_declared (g ∷ gs) at_it = at_it

-- each alias that is followed comes to an end
pub record ComesOut (task : Task) : Type 0 where
  -- there is a method elsewhere where its old name isn't declared
  pub out : (name old : List ℕ) → wanted (of_name name task.alive) ≡ Some old → of_name old task.alive ≡ [] → is_some (elsewhere task.made task.steps task.behind old) ≡ true
  -- no names are such that each takes over the method of one of them
  pub no_circle : (circle : List ℕ → Bool) → ((name : List ℕ) → circle name ≡ true → (old : List ℕ) × ((wanted (of_name name task.alive) ≡ Some old) × (circle old ≡ true))) → (name : List ℕ) → circle name ≡ false

abbrev pub or_group : Option (List GivenMethod) → Option (List GivenMethod) → Option (List GivenMethod)
or_group None other = other
or_group (Some gs) other = Some gs

-- what is found by the one table or else by the other
abbrev pub in_either : List Entry → List Entry → List ℕ → Option (List GivenMethod)
in_either stack left name = or_group (by_name stack name) (by_name left name)

-- the declarations of these names are still to be gathered, and all other names have the method that they are to have
pub record Gathers (task : Task) (methods : List ℕ → Option Method) (pending : List ℕ → Option (List GivenMethod)) (count : ℕ) : Type 0 where
  pub few : count ≤ task.turns
  pub groups : (name : List ℕ) (gs : List GivenMethod) → pending name ≡ Some gs → group_of (of_name name task.alive) ≡ Some gs
  pub waits : (name : List ℕ) (gs : List GivenMethod) → pending name ≡ Some gs → methods name ≡ task.behind name
  pub settled : (name : List ℕ) → pending name ≡ None → (turns : ℕ) → task.turns < turns + count → methods name ≡ aim task turns name
  pub there : (name : List ℕ) (g : GivenMethod) (gs : List GivenMethod) → pending name ≡ None → of_name name task.alive ≡ g ∷ gs → is_some (methods name) ≡ true

-- names that wait are each there once
abbrev pub Apart : List Entry → List Entry → Type 0
Apart left [] = Unit {0}
Apart left (e ∷ es) = (by_name left e.0 ≡ None) × ((by_name es e.0 ≡ None) × Apart left es)

-- each takes over the method of the next
abbrev pub Chained : List Entry → Type 0
Chained [] = Unit {0}
Chained (e ∷ es) = to_next es × Chained es
  where
    to_next : List Entry → Type 0
    to_next [] = Unit {0}
    to_next (f ∷ fs) = wanted e.1 ≡ Some f.0

-- so far are the methods gathered: some names wait for one another on a stack, and others are left
pub record Holds (task : Task) (methods : List (List ℕ × Method)) (left stack : List Entry) : Type 0 where
  pub gathers : Gathers task (by_name methods) (in_either stack left) (length stack + length left)
  pub apart : Apart left stack
  pub chained : Chained stack

-- an entry taken out of a table
pub record TakesOut (old new : List Entry) (entry : Entry) : Type 0 where
  pub found : by_name old entry.0 ≡ Some entry.1
  pub gone : by_name new entry.0 ≡ None
  pub others : (other : List ℕ) → by_name old other ≡ in_either (entry ∷ []) new other
  pub count : length old ≡ suc (length new)
