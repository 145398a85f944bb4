-- Tables of what is found along a line.
use Rattle.std.specs.Prelude.{◌≡◌, ℕ, Bool, true, false, ◌&&◌, ◌||◌, if◌then◌else◌, List, [], ◌∷◌, codes, Option, Some, None}
use Rattle.std.specs.List.{IsDistinct, list_any}
use Rattle.std.specs.Map.{keys_of}
use Rattle.sig_rules.specs.declared.files.Declared.{Declared}
use Rattle.sig_rules.specs.declared.given.GivenMethod.{GivenMethod}
use Rattle.sig_rules.specs.declared.given.What.{What}
use Rattle.sig_rules.specs.declared.given.What.TheVariants.{Whole, Further, AliasOf}
use Rattle.sig_rules.specs.declared.line.Kind.{Kind}
use Rattle.sig_rules.specs.declared.line.Kind.TheVariants.{Singleton}
use Rattle.sig_rules.specs.declared.line.Step.{Step}
use Rattle.sig_rules.specs.declared.method.Method.{Method}
use Rattle.sig_rules.specs.declared.method.Visibility.TheVariants.{Public}
use Rattle.sig_rules.specs.declared.sort.Sort.{Sort}
use Rattle.sig_rules.specs.declared.sort.Sort.TheVariants as is
use Rattle.sig_rules.specs.Declarations.{Path, same_path}
use Rattle.sig_rules.specs.Methods.{Made, first_made, initialize_of, new_overloads, or_else, same_word}
use Rattle.sig_rules.specs.Types.{first_params, sort}
use Rattle.sig_rules.specs.Worlds.{by_name}

-- whether a step is a class itself
abbrev pub is_class_itself : List Declared → Step → Bool
is_class_itself all step = by_kind step.kind (sort all step.name.path)
  where
    by_kind : Kind → Sort → Bool
    by_kind Singleton is.Class = true
    by_kind _ _ = false

-- the `new` of a class by its `initialize`
abbrev pub new_by : List Declared → Step → Option Method → Method
new_by all step initialize = record {
  overloads = new_overloads (first_params all step.name.path) step.name.path initialize;
  visible = Public;
  owner = step.name;
  kind = Singleton;
}

-- the `initialize` of a class, where that of one class is known
abbrev pub known_initialize : List Declared → Path → Option Method → Path → Option Method
known_initialize all known initialize path = if same_path path known then initialize else initialize_of all path

-- what is made where the `initialize` of one class is known
abbrev pub made_knowing : List Declared → Path → Option Method → Made
made_knowing all path initialize step name =
    if same_word name (codes "new") && is_class_itself all step then Some (new_by all step (known_initialize all path initialize step.name.path)) else None

-- a value, or else what there is behind
abbrev pub or_behind : {V : Type 0} → Option V → Option V → Option V
or_behind None behind = behind
or_behind (Some v) behind = Some v

-- a list that has of each name what is found, each name once
pub record IsListed {V : Type 0} (found : List ℕ → Option V) (entries : List (List ℕ × V)) : Type 0 where
  pub same : (name : List ℕ) → by_name entries name ≡ found name
  pub once : IsDistinct same_word (keys_of entries)

-- the first of some steps that is a class itself
abbrev pub first_class : List Declared → List Step → Option Step
first_class all [] = None
first_class all (step ∷ steps) = if is_class_itself all step then Some step else first_class all steps

-- ---- one step more

-- whether a method of a name is given
abbrev pub is_given : List GivenMethod → List ℕ → Bool
is_given gs name = list_any (λ (g : GivenMethod). same_word name g.name) gs

-- whether what there is of a name behind a step may count for a method that is given there: further overloads stand before those of its
-- own name, and an alias may lead to its old name there, or nowhere
abbrev pub wants : List ℕ → List ℕ → What → Bool
wants name own (Whole overloads) = false
wants name own (Further overloads) = same_word name own
wants name own (AliasOf old) = same_word name own || same_word name old

abbrev pub is_wanted : List GivenMethod → List ℕ → Bool
is_wanted gs name = list_any (λ (g : GivenMethod). wants name g.name g.what) gs

-- a table has what is found of the names that are given, whatever it has of others
abbrev pub HasGiven : (List ℕ → Option Method) → List GivenMethod → List (List ℕ × Method) → Type 0
HasGiven found gs table = (name : List ℕ) → is_given gs name ≡ true → by_name table name ≡ found name

-- what is found of the names that were seen stands in a list, each name once, and that of other names is left in a table
pub record IsTaken (found : List ℕ → Option Method) (seen : List ℕ → Bool) (own left : List (List ℕ × Method)) : Type 0 where
  pub is_own : (name : List ℕ) → by_name own name ≡ (if seen name then found name else None)
  pub is_left : (name : List ℕ) → by_name left name ≡ (if seen name then None else found name)
  pub once : IsDistinct same_word (keys_of own)

-- ---- a `new` that is made

-- a method by the name `new`
abbrev pub named_new : Option Method → List (List ℕ × Method)
named_new None = []
named_new (Some new) = (codes "new", new) ∷ []

-- methods that are declared, and the `new` that some steps make where none is declared
pub record AddsMade (made : Made) (steps : List Step) (declared all : List (List ℕ × Method)) (makes_new : Bool) : Type 0 where
  pub methods : (name : List ℕ) → by_name all name ≡ or_else (by_name declared name) (first_made made steps name)
  pub is_declared : (name : List ℕ) → (if makes_new && same_word name (codes "new") then None else by_name all name) ≡ by_name declared name
  pub once : IsDistinct same_word (keys_of declared) → IsDistinct same_word (keys_of all)
