-- What is found along a line, of which the rest may be known.
use Rattle.std.specs.Prelude.{◌≡◌, ◌<◌, ℕ, false, not, ◌&&◌, if◌then◌else◌, List, drop, filter, codes, Option, Some, None}
use Rattle.std.specs.List.{IsDistinct}
use Rattle.std.specs.Map.{keys_of}
use Rattle.sig_rules.specs.declared.files.Declared.{Declared}
use Rattle.sig_rules.specs.declared.limits.BuildFault.{BuildFault}
use Rattle.sig_rules.specs.declared.limits.BuildFault.TheVariants as fault
use Rattle.sig_rules.specs.declared.line.Kind.{Kind}
use Rattle.sig_rules.specs.declared.line.Step.{Step}
use Rattle.sig_rules.specs.declared.method.Method.{Method}
use Rattle.sig_rules.specs.Counts.{most_methods}
use Rattle.sig_rules.specs.Methods.{along, declared_along, made_on, same_word, variable_along}
use Rattle.sig_rules.specs.Worlds.{by_name}
use Rattle.line_members.specs.declared.sides.Behind.{Behind}
use Rattle.line_members.specs.declared.sides.Side.{Side}

-- what is declared among what is found: all of it but a `new` that is made
abbrev pub declared_in : Side → List ℕ → Option Method
declared_in side name = if side.makes_new && same_word name (codes "new") then None else by_name side.definition.methods name

-- a side has exactly what is found along some steps, each name once
pub record Describes (all : List Declared) (kind : Kind) (steps : List Step) (side : Side) : Type 0 where
  pub methods : (name : List ℕ) → by_name side.definition.methods name ≡ along all (made_on all kind) steps name
  pub declared : (name : List ℕ) → declared_in side name ≡ declared_along all (made_on all kind) steps name
  pub variables : (name : List ℕ) → by_name side.definition.variables name ≡ variable_along all steps name
  pub methods_once : IsDistinct same_word (keys_of side.definition.methods)
  pub variables_once : IsDistinct same_word (keys_of side.definition.variables)

-- what is known of the rest of a line is what is found along it
abbrev pub IsBehind : List Declared → Kind → List Step → Option Behind → Type 0
IsBehind all kind steps None = Unit {0}
IsBehind all kind steps (Some behind) = Describes all kind (drop behind.start steps) behind.side.now

-- the entries of a side that are declared
abbrev pub declared_entries : Side → List (List ℕ × Method)
declared_entries side = if side.makes_new then filter (λ (e : List ℕ × Method). not (same_word e.0 (codes "new"))) side.definition.methods else side.definition.methods

-- a side has so many methods that there is none
abbrev pub IsTooManyAt : ℕ → BuildFault → Type 0
IsTooManyAt count (fault.Methods n) = (n ≡ count) × (most_methods < n)
IsTooManyAt count fault.NoMemory = Unit {0}
