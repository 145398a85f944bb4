-- What tables by key have.
use Rattle.std.specs.Prelude.{◌≡◌, ◌≤◌, ◌<◌, ℕ, Bool, true, false, if◌then◌else◌, List, Option, Some, None}
use Rattle.std.specs.List.{list_any}
use Rattle.std.specs.Map.{lookup}
use Rattle.std.specs.Option.{option_map}
use Rattle.rbs_tree.specs.declared.types.Ty.{Ty}
use Rattle.sig_rules.specs.declared.files.Declared.{Declared}
use Rattle.sig_rules.specs.declared.limits.BuildFault.{BuildFault}
use Rattle.sig_rules.specs.declared.limits.BuildFault.TheVariants as fault
use Rattle.sig_rules.specs.declared.line.Kind.{Kind}
use Rattle.sig_rules.specs.declared.line.Kind.TheVariants.{Instance, Singleton}
use Rattle.sig_rules.specs.declared.line.Line.{Line}
use Rattle.sig_rules.specs.declared.method.Definition.{Definition}
use Rattle.sig_rules.specs.declared.sort.Sort.{Sort}
use Rattle.sig_rules.specs.declared.sort.Sort.TheVariants as is
use Rattle.sig_rules.specs.Counts.{HasSoMany, methods_count, most_methods}
use Rattle.sig_rules.specs.Declarations.{Path, declared_names, same_path}
use Rattle.sig_rules.specs.Lines.{line}
use Rattle.sig_rules.specs.Methods.{same_word}
use Rattle.sig_rules.specs.Names.{first_that}
use Rattle.sig_rules.specs.Types.{sort, value}
use Rattle.sig_rules.specs.Worlds.{IsDefinition, IsShape, alias_of, line_of, value_text}
use Rattle.line_members.specs.declared.sides.Side.{Side}
use Rattle.line_members.specs.Sides.{Describes}
use Rattle.definitions.specs.declared.sides.Sides.{Sides}

-- ---- tables

-- a key has a value, and all others have what they had
abbrev pub Puts : {K V : Type 0} → (K → K → Bool) → List (K × V) → List (K × V) → K → V → Type 0
Puts eq old new key value = (other : _) → lookup (eq other) new ≡ (if eq key other then Some value else lookup (eq other) old)

-- where a name has something, it is put there
abbrev pub PutsFound : {V : Type 0} → List (Path × V) → List (Path × V) → Path → Option V → Type 0
PutsFound old new path None = new ≡ old
PutsFound old new path (Some value) = Puts same_path old new path value

-- What a table has of a name is so.
abbrev pub Holds : {V : Type 0} → (Path → Option V → Type 0) → List (Path × V) → Type 0
Holds is entries = (path : Path) → is path (lookup (same_path path) entries)

-- What a table has is so.
abbrev pub IsSound : {V : Type 0} → (Path → Option V → Type 0) → List (Path × V) → Type 0
IsSound is entries = (path : Path) (v : _) → lookup (same_path path) entries ≡ Some v → is path (Some v)

-- what is had of one of some names is so, and of others there is nothing
abbrev pub IsHad : {V : Type 0} → (Path → Option V → Type 0) → Bool → Path → Option V → Type 0
IsHad is true path found = is path found
IsHad is false path found = found ≡ None

-- What a table has of each of these names is so, and of others it has nothing.
abbrev pub HoldsOf : {V : Type 0} → (Path → Option V → Type 0) → List Path → List (Path × V) → Type 0
HoldsOf is paths entries = (path : Path) → IsHad is (list_any (same_path path) paths) path (lookup (same_path path) entries)

-- ---- what a name has

abbrev pub line_on : Kind → Line × Line → Line
line_on Instance lines = lines.0
line_on Singleton lines = lines.1

-- whether a name of this sort has lines
abbrev pub has_lines : Sort → Bool
has_lines is.Class = true
has_lines is.Module = true
has_lines is.Interface = true
has_lines _ = false

-- both lines of a name
abbrev pub AreLines : List Declared → Path → Option (Line × Line) → Type 0
AreLines all path lines = (kind : Kind) → option_map (line_on kind) lines ≡ line_of all path kind

abbrev pub side_on : Kind → Sides → Side
side_on Instance sides = sides.instance
side_on Singleton sides = sides.singleton

abbrev pub definition_on : Kind → Sides → Definition
definition_on kind sides = (side_on kind sides).definition

-- whether a name of this sort has two sides with methods
abbrev pub has_sides : Sort → Bool
has_sides is.Class = true
has_sides is.Module = true
has_sides _ = false

-- what is known of a side is what is found along its line
abbrev pub IsDescribed : List Declared → Path → Kind → Option Sides → Type 0
IsDescribed all path kind None = Unit {0}
IsDescribed all path kind (Some sides) = Describes all kind (line all path kind).steps (side_on kind sides)

-- both sides of a class or a module, with few methods
pub record AreDefinitions (all : List Declared) (path : Path) (found : Option Sides) : Type 0 where
  pub sides : (kind : Kind) → IsDefinition all path kind (option_map (definition_on kind) found)
  pub described : (kind : Kind) → IsDescribed all path kind found
  pub few : has_sides (sort all path) ≡ true → (kind : Kind) → methods_count all path kind ≤ most_methods

abbrev pub is_interface : Sort → Bool
is_interface is.Interface = true
is_interface _ = false

-- the methods of an interface, which are few
pub record IsFewShape (all : List Declared) (path : Path) (found : Option Definition) : Type 0 where
  pub shape : IsShape all path found
  pub few : is_interface (sort all path) ≡ true → methods_count all path Instance ≤ most_methods

-- what an alias stands for
abbrev pub IsAlias : List Declared → Path → Option (List (List ℕ) × Ty) → Type 0
IsAlias all path found = found ≡ alias_of all path

-- What a table has of a text is what the first of these names has that is asked for so.
abbrev pub HoldsValues : List Declared → List Path → List (List ℕ × Option Ty) → Type 0
HoldsValues all paths entries = (name : List ℕ) → lookup (same_word name) entries ≡ option_map (value all) (first_that (λ path. same_word name (value_text path)) paths)

-- ---- all that a project defines

-- tables of all that is declared
pub record AreDefined (all : List Declared) (of_classes : List (Path × Sides)) (of_interfaces : List (Path × Definition)) (of_aliases : List (Path × (List (List ℕ) × Ty))) (of_values : List (List ℕ × Option Ty)) : Type 0 where
  pub definitions : Holds (AreDefinitions all) of_classes
  pub shapes : Holds (IsFewShape all) of_interfaces
  pub aliases : Holds (IsAlias all) of_aliases
  pub values : HoldsValues all (declared_names all) of_values

-- why definitions can't be made: one has too many methods, or memory is short
abbrev pub IsTooMany : List Declared → BuildFault → Type 0
IsTooMany all (fault.Methods n) = (most_methods < n) × HasSoMany all n
IsTooMany all fault.NoMemory = Unit {0}
