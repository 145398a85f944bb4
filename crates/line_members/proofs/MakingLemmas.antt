-- What is made along a line.
use Rattle.std.proofs.Common.{◌≡◌, ℕ, Bool, true, false, ◌&&◌, if◌then◌else◌, List, [], ◌∷◌, codes, refl, sym, ap, ◌∙◌, Option, None, Some}
use Rattle.std.specs.Bool.{Decides}
use Rattle.std.specs.Option.{option_map}
use Rattle.sig_rules.specs.declared.files.Declared.{Declared}
use Rattle.sig_rules.specs.declared.line.Step.{Step}
use Rattle.sig_rules.specs.declared.method.Method.{Method}
use Rattle.sig_rules.specs.Declarations.{Path, same_path}
use Rattle.sig_rules.specs.declared.line.Kind.{Kind}
use Rattle.sig_rules.specs.declared.line.Kind.TheVariants.{Instance, Singleton}
use Rattle.sig_rules.specs.declared.sort.Sort.{Sort}
use Rattle.sig_rules.specs.declared.sort.Sort.TheVariants as is
use Rattle.sig_rules.specs.Types.{sort}
use Rattle.sig_rules.proofs.OrderLemmas.{path_decides}
use Rattle.sig_rules.specs.Lines.{line}
use Rattle.sig_rules.specs.Methods.{along, declared_along, first_made, initialize_of, new_made, nothing_made, or_else, same_word}
use Rattle.sig_rules.specs.Worlds.{by_name}
use Rattle.line_members.specs.Along.{IsListed, first_class, is_class_itself, known_initialize, made_knowing, new_by}

-- where nothing is made there is no first
pub nothing_is_first : (steps : List Step) (name : List ℕ) → first_made nothing_made steps name ≡ None
nothing_is_first [] name = refl
nothing_is_first (step ∷ steps) name = nothing_is_first steps name

-- the first `new` that is made is that of the first class
pub first_is_made : (all : List Declared) (path : Path) (initialize : Option Method) (steps : List Step) →
    first_made (made_knowing all path initialize) steps (codes "new")
    ≡ option_map (λ (step : Step). new_by all step (known_initialize all path initialize step.name.path)) (first_class all steps)
first_is_made all path initialize [] = refl
first_is_made all path initialize (step ∷ steps) = one (is_class_itself all step) (first_is_made all path initialize steps)
  where
    new : Method
    new = new_by all step (known_initialize all path initialize step.name.path)

    one : (b : Bool) →
        first_made (made_knowing all path initialize) steps (codes "new") ≡ option_map (λ (s : Step). new_by all s (known_initialize all path initialize s.name.path)) (first_class all steps) →
        or_else (if b then Some new else None) (first_made (made_knowing all path initialize) steps (codes "new"))
        ≡ option_map (λ (s : Step). new_by all s (known_initialize all path initialize s.name.path)) (if b then Some step else first_class all steps)
    one true behind = refl
    one false behind = behind

or_nothing : (m : Option Method) → or_else m None ≡ m
or_nothing None = refl
or_nothing (Some m) = refl

-- where nothing is made, what is found is declared
pub along_nothing : (all : List Declared) (steps : List Step) (name : List ℕ) → along all nothing_made steps name ≡ declared_along all nothing_made steps name
along_nothing all steps name = ap (or_else (declared_along all nothing_made steps name)) (nothing_is_first steps name) ∙ or_nothing (declared_along all nothing_made steps name)

-- the `initialize` of a class in the list of its instances' methods
pub initialize_in : (all : List Declared) (path : Path) (methods : List (List ℕ × Method)) →
    IsListed (declared_along all nothing_made (line all path Instance).steps) methods → by_name methods (codes "initialize") ≡ initialize_of all path
initialize_in all path methods declared =
    declared.same (codes "initialize") ∙ sym (along_nothing all (line all path Instance).steps (codes "initialize"))

-- where the `initialize` of a class is known, each class has its own
known_is_own : (all : List Declared) (path : Path) (initialize : Option Method) → initialize ≡ initialize_of all path →
    (other : Path) → known_initialize all path initialize other ≡ initialize_of all other
known_is_own all path initialize is other = by_test (same_path other path) (path_decides other path)
  where
    by_test : (b : Bool) → Decides b (other ≡ path) → (if b then initialize else initialize_of all other) ≡ initialize_of all other
    by_test true same = is ∙ ap (initialize_of all) (sym (same.0 refl))
    by_test false other_path = refl

-- the two ways to say that a step is a class itself
same_making : (all : List Declared) (step : Step) (name : List ℕ) (kind : Kind) (s : Sort) → step.kind ≡ kind → sort all step.name.path ≡ s →
    (if same_word name (codes "new") && is_class_itself all step then Some (new_by all step (initialize_of all step.name.path)) else None) ≡ new_made all step name
same_making all step name Instance s k c = rw k (rw c refl)
same_making all step name Singleton is.Class k c = rw k (rw c refl)
same_making all step name Singleton is.Module k c = rw k (rw c refl)
same_making all step name Singleton is.Interface k c = rw k (rw c refl)
same_making all step name Singleton is.Alias k c = rw k (rw c refl)
same_making all step name Singleton is.Other k c = rw k (rw c refl)

made_at : (all : List Declared) (path : Path) (initialize : Option Method) → initialize ≡ initialize_of all path →
    (step : Step) (name : List ℕ) → made_knowing all path initialize step name ≡ new_made all step name
made_at all path initialize is step name =
    ap (λ (m : Option Method). if same_word name (codes "new") && is_class_itself all step then Some (new_by all step m) else None) (known_is_own all path initialize is step.name.path)
    ∙ same_making all step name step.kind (sort all step.name.path) refl refl

-- what is made where the `initialize` of a class is known, is what is made
pub knowing_is_made : (all : List Declared) (path : Path) (initialize : Option Method) → initialize ≡ initialize_of all path →
    made_knowing all path initialize ≡ new_made all
knowing_is_made all path initialize is = λ i step name. made_at all path initialize is step name i
