-- How many methods a definition has.
use Rattle.std.specs.Prelude.{◌≡◌, ℕ, ◌≤◌, ◌<◌, ◌⊎◌, if◌then◌else◌, List, [], ◌∷◌, length, map, filter, codes}
use Rattle.std.specs.List.{list_any, flat_map}
use Rattle.sig_rules.specs.declared.files.Declared.{Declared}
use Rattle.sig_rules.specs.declared.given.GivenMethod.{GivenMethod}
use Rattle.sig_rules.specs.declared.limits.BuildFault.{BuildFault}
use Rattle.sig_rules.specs.declared.limits.BuildFault.TheVariants as fault
use Rattle.sig_rules.specs.declared.limits.Limit.TheVariants as limit
use Rattle.sig_rules.specs.declared.limits.LimitFault.{LimitFault}
use Rattle.sig_rules.specs.declared.limits.LimitFault.TheVariants as problem
use Rattle.sig_rules.specs.declared.line.Kind.{Kind}
use Rattle.sig_rules.specs.declared.line.Step.{Step}
use Rattle.sig_rules.specs.Declarations.{Path}
use Rattle.sig_rules.specs.Limits.{most_names, names_count}
use Rattle.sig_rules.specs.Lines.{line}
use Rattle.sig_rules.specs.Given.{given_methods}
use Rattle.sig_rules.specs.Methods.{applied_of, is_some, method, same_word}

-- a definition may have so many methods
abbrev pub most_methods : ℕ
most_methods = 4096

-- the names of the methods that are given on a step
abbrev pub names_on : List Declared → Step → List (List ℕ)
names_on all step = map (λ (g : GivenMethod). g.name) (given_methods all (applied_of all step) step.kind)

-- words, each once
abbrev pub words_once : List (List ℕ) → List (List ℕ)
words_once [] = []
words_once (word ∷ words) = if list_any (same_word word) words then words_once words else word ∷ words_once words

-- the names that may have a method: those that are given on the line, and `new`
abbrev pub names_along : List Declared → Path → Kind → List (List ℕ)
names_along all path kind = codes "new" ∷ flat_map (names_on all) (line all path kind).steps

-- how many methods one side of a class or a module has, or an interface: so many names have one
abbrev pub methods_count : List Declared → Path → Kind → ℕ
methods_count all path kind = length (words_once (filter (λ name. is_some (method all path kind name)) (names_along all path kind)))

-- why there is no definition of one of these sides: the first that has too many methods, or memory is short
abbrev pub IsBuildFault : List Declared → Path → List Kind → BuildFault → Type 0
IsBuildFault all path [] (fault.Methods n) = ⊥
IsBuildFault all path (kind ∷ kinds) (fault.Methods n) =
    ((n ≡ methods_count all path kind) × (most_methods < n)) ⊎ ((methods_count all path kind ≤ most_methods) × IsBuildFault all path kinds (fault.Methods n))
IsBuildFault all path kinds fault.NoMemory = Unit {0}

-- there is some name one side of which has so many methods
pub record HasSoMany (all : List Declared) (n : ℕ) : Type 0 where
  pub path : Path
  pub kind : Kind
  pub count : n ≡ methods_count all path kind

-- why there is no table of all definitions: too many names first, then too many methods of some definition, or memory is short
abbrev pub IsLimitFault : List Declared → LimitFault → Type 0
IsLimitFault all (problem.Limit limit.Names n) = (n ≡ names_count all) × (most_names < n)
IsLimitFault all (problem.Limit limit.Methods n) = (names_count all ≤ most_names) × ((most_methods < n) × HasSoMany all n)
IsLimitFault all (problem.Limit other n) = ⊥
IsLimitFault all problem.NoMemory = Unit {0}
