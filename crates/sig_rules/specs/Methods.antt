-- The methods and variables of one side of a class or a module, and of an interface: each is looked for along the line.
use Rattle.std.specs.Prelude.{ℕ, zero, suc, ◌==◌, Bool, true, false, not, ◌&&◌, ◌||◌, if◌then◌else◌, nat_eq, List, [], ◌∷◌, ◌++◌, length, map, filter, codes, Option, Some, None}
use Rattle.std.specs.Cmp.Lexicographic.{pointwise}
use Rattle.rbs_tree.specs.declared.types.Ty.{Ty}
use Rattle.rbs_tree.specs.declared.types.Ty.TheVariants as t
use Rattle.rbs_tree.specs.declared.types.MethodType.{MethodType}
use Rattle.rbs_tree.specs.declared.types.Ty.TheViews.{out-MethodType, roll-MethodType}
use Rattle.sig_rules.specs.declared.files.Declared.{Declared}
use Rattle.sig_rules.specs.declared.sort.Sort.{Sort}
use Rattle.sig_rules.specs.declared.sort.Sort.TheVariants as is
use Rattle.sig_rules.specs.declared.given.What.{What}
use Rattle.sig_rules.specs.declared.given.What.TheVariants.{Whole, Further, AliasOf}
use Rattle.sig_rules.specs.declared.given.GivenMethod.{GivenMethod}
use Rattle.sig_rules.specs.declared.given.GivenVariable.{GivenVariable}
use Rattle.sig_rules.specs.declared.line.Applied.{Applied}
use Rattle.sig_rules.specs.declared.line.Kind.{Kind}
use Rattle.sig_rules.specs.declared.line.Kind.TheVariants.{Instance, Singleton}
use Rattle.sig_rules.specs.declared.line.Step.{Step}
use Rattle.sig_rules.specs.declared.method.Visibility.TheVariants.{Public}
use Rattle.sig_rules.specs.declared.method.Method.{Method}
use Rattle.sig_rules.specs.Declarations.{Path, full_name}
use Rattle.sig_rules.specs.Types.{sort, first_params}
use Rattle.sig_rules.specs.Lines.{line}
use Rattle.sig_rules.specs.Instances.{all_apart_from}
use Rattle.sig_rules.specs.Given.{given_methods, given_variables, simple}

abbrev pub same_word : List ℕ → List ℕ → Bool
same_word = pointwise nat_eq

-- ---- aliases that lead nowhere

-- A method that is given, by its place among those that its declarations give.
pub record Placed : Type 0 where
  pub place : ℕ
  pub given : GivenMethod

abbrev pub placed_from : ℕ → List GivenMethod → List Placed
placed_from n [] = []
placed_from n (g ∷ gs) = record { place = n; given = g } ∷ placed_from (suc n) gs

abbrev pub first_of_name : List ℕ → List Placed → Option Placed
first_of_name name [] = None
first_of_name name (p ∷ ps) = if same_word name p.given.name then Some p else first_of_name name ps

-- what an alias leads to
pub data Next : Type 0 where
  -- a method that isn't declared here
  elsewhere : Next
  -- what is declared here
  here : Placed → Next
  -- nothing
  nowhere : Next

-- the first of the old name among those that are given here and live, or else a method that isn't declared here
abbrev pub next : (List ℕ → Bool) → List Placed → List ℕ → Next
next is_elsewhere living name = go (first_of_name name living)
  where
    go : Option Placed → Next
    go (Some p) = here p
    go None = if is_elsewhere name then elsewhere else nowhere

-- whether the way from an old name comes to a place within so many turns
abbrev pub comes_to : ℕ → (List ℕ → Bool) → List Placed → ℕ → List ℕ → Bool
comes_to zero is_elsewhere living place name = false
comes_to (suc turns) is_elsewhere living place name = by_next (comes_to turns is_elsewhere living place) (next is_elsewhere living name)
  where
    by_what : (List ℕ → Bool) → What → Bool
    by_what again (AliasOf old) = again old
    by_what again _ = false

    by_next : (List ℕ → Bool) → Next → Bool
    by_next again (here p) = p.place == place || by_what again p.given.what
    by_next again _ = false

-- an alias without a next, or one that its own way comes back to
abbrev pub is_dead : (List ℕ → Bool) → List Placed → Placed → Bool
is_dead is_elsewhere living p = by_what p.given.what
  where
    is_nowhere : Next → Bool
    is_nowhere nowhere = true
    is_nowhere _ = false

    by_what : What → Bool
    by_what (AliasOf old) = is_nowhere (next is_elsewhere living old) || comes_to (suc (length living)) is_elsewhere living p.place old
    by_what _ = false

-- those that live when the dead ones are taken away again and again
abbrev pub living_after : ℕ → (List ℕ → Bool) → List Placed → List Placed
living_after zero is_elsewhere ps = ps
living_after (suc turns) is_elsewhere ps = living_after turns is_elsewhere (filter (λ p. not (is_dead is_elsewhere ps p)) ps)

-- Each turn takes one away at least, or no turn does.
abbrev pub living : (List ℕ → Bool) → List GivenMethod → List GivenMethod
living is_elsewhere gs = map (λ (p : Placed). p.given) (living_after (length gs) is_elsewhere (placed_from 0 gs))

-- ---- a method of a step

abbrev pub or_else : Option Method → Option Method → Option Method
or_else None other = other
or_else (Some m) other = Some m

abbrev pub is_some : Option Method → Bool
is_some None = false
is_some (Some m) = true

abbrev pub overloads_of : Option Method → List MethodType
overloads_of None = []
overloads_of (Some m) = m.overloads

-- A method, with one more declaration of its name at a step: the first that gives all overloads counts, and each that gives further
-- ones puts them before those that there are, here or behind the step. An alias is what its old name has.
abbrev pub once_more : Step → Option Method → (List ℕ → Option Method) → Option Method → GivenMethod → Option Method
once_more step from_behind old so_far g = by_what g.what
  where
    made : List MethodType → Method
    made overloads = record { overloads = overloads; visible = g.visible; owner = step.name; kind = step.kind }

    by_what : What → Option Method
    by_what (Whole overloads) = or_else so_far (Some (made overloads))
    by_what (Further overloads) = Some (made (overloads ++ overloads_of (or_else so_far from_behind)))
    by_what (AliasOf name) = or_else so_far (old name)

-- with all declarations of its name that live at the step, one after the other
abbrev pub with_all : Step → Option Method → (List ℕ → Option Method) → Option Method → List GivenMethod → Option Method
with_all step from_behind old so_far [] = so_far
with_all step from_behind old so_far (g ∷ gs) = with_all step from_behind old (once_more step from_behind old so_far g) gs

abbrev pub of_name : List ℕ → List GivenMethod → List GivenMethod
of_name name gs = filter (λ (g : GivenMethod). same_word name g.name) gs

-- What a step has of a name: by what is declared there, or else elsewhere. An alias is followed so many turns at most, which are enough.
abbrev pub at_step : ℕ → Step → (List ℕ → Option Method) → (List ℕ → Option Method) → List GivenMethod → List ℕ → Option Method
at_step zero step from_behind from_elsewhere gs name = None
at_step (suc turns) step from_behind from_elsewhere gs name =
    if_declared (of_name name gs) (with_all step (from_behind name) (at_step turns step from_behind from_elsewhere gs) None (of_name name gs))
  where
    if_declared : List GivenMethod → Option Method → Option Method
    if_declared [] declared = from_elsewhere name
    if_declared (g ∷ gs) declared = declared

-- ---- along a line

abbrev pub applied_of : List Declared → Step → Applied
applied_of all step = record { name = step.name; args = args_of step.kind }
  where
    args_of : Kind → List Ty
    args_of Instance = step.args
    args_of Singleton = map t.Var (first_params all step.name.path)

-- methods that a step has without a declaration
abbrev pub Made : Type 0
Made = Step → List ℕ → Option Method

-- the first that is made from a step on
abbrev pub first_made : Made → List Step → List ℕ → Option Method
first_made made [] name = None
first_made made (step ∷ steps) name = or_else (made step name) (first_made made steps name)

-- The method of a name by the first step that declares it.
abbrev pub declared_along : List Declared → Made → List Step → List ℕ → Option Method
declared_along all made [] name = None
declared_along all made (step ∷ steps) name =
    (let given = given_methods all (applied_of all step) step.kind in
    let behind = declared_along all made steps in
    let from_elsewhere : List ℕ → Option Method = λ other. or_else (behind other) (first_made made (step ∷ steps) other) in
    let alive = living (λ other. is_some (from_elsewhere other)) given in
    if_declared (of_name name alive) (behind name)
    (at_step (suc (length given)) step (λ other. or_else (behind other) (first_made made steps other)) from_elsewhere alive name))
  where
    if_declared : List GivenMethod → Option Method → Option Method → Option Method
    if_declared [] behind at_it = behind
    if_declared (g ∷ gs) behind at_it = at_it

-- The method of a name: by the first step that declares it, or else the first that is made.
abbrev pub along : List Declared → Made → List Step → List ℕ → Option Method
along all made steps name = or_else (declared_along all made steps name) (first_made made steps name)

-- nothing is made
abbrev pub nothing_made : Made
nothing_made step name = None

-- ---- `new`

-- an overload of `initialize` as one of `new`: with the type parameters of the class before its own variables
abbrev pub new_overload : List (List ℕ) → Ty → MethodType → MethodType
new_overload params result m = let apart = out-MethodType (all_apart_from params (out-MethodType m).vars m) in roll-MethodType (record {
  vars = params ++ apart.vars;
  required = apart.required;
  optional = apart.optional;
  rest = apart.rest;
  trailing = apart.trailing;
  keywords = apart.keywords;
  rest_keywords = apart.rest_keywords;
  block = apart.block;
  result = result;
})

-- the overloads of `new` by those of `initialize`; without it, nothing is wanted and the arguments are unknown
abbrev pub new_overloads : List (List ℕ) → Path → Option Method → List MethodType
new_overloads params path None = simple [] (t.Instance (full_name path) (map (λ var. t.Untyped) params)) ∷ []
new_overloads params path (Some m) = map (new_overload params (t.Instance (full_name path) (map t.Var params))) m.overloads

abbrev pub initialize_of : List Declared → Path → Option Method
initialize_of all path = along all nothing_made (line all path Instance).steps (codes "initialize")

-- a class has the `new` that its `initialize` gives
abbrev pub new_made : List Declared → Made
new_made all step name = if same_word name (codes "new") && is_class_itself step.kind (sort all step.name.path) then Some new else None
  where
    is_class_itself : Kind → Sort → Bool
    is_class_itself Singleton is.Class = true
    is_class_itself _ _ = false

    new : Method
    new = record {
      overloads = new_overloads (first_params all step.name.path) step.name.path (initialize_of all step.name.path);
      visible = Public;
      owner = step.name;
      kind = Singleton;
    }

-- ---- what a name has

abbrev pub made_on : List Declared → Kind → Made
made_on all Instance = nothing_made
made_on all Singleton = new_made all

-- the method of a class, a module or an interface
abbrev pub method : List Declared → Path → Kind → List ℕ → Option Method
method all path kind name = along all (made_on all kind) (line all path kind).steps name

abbrev pub first_variable : List ℕ → List GivenVariable → Option Ty
first_variable name [] = None
first_variable name (v ∷ vs) = if same_word name v.name then Some v.ty else first_variable name vs

abbrev pub variable_along : List Declared → List Step → List ℕ → Option Ty
variable_along all [] name = None
variable_along all (step ∷ steps) name = by_declared (first_variable name (given_variables all (applied_of all step) step.kind)) (variable_along all steps name)
  where
    by_declared : Option Ty → Option Ty → Option Ty
    by_declared None behind = behind
    by_declared (Some ty) behind = Some ty

-- the type of a variable of a class or a module
abbrev pub variable : List Declared → Path → Kind → List ℕ → Option Ty
variable all path kind name = variable_along all (line all path kind).steps name
