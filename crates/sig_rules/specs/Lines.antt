-- The lines of ancestors, along which methods are looked for.
use Rattle.std.specs.Prelude.{ℕ, zero, suc, ◌+◌, Bool, true, false, ◌&&◌, ◌||◌, if◌then◌else◌, List, [], ◌∷◌, ◌++◌, length, map, reverse, codes, Option, Some, None}
use Rattle.std.specs.List.{list_any, flat_map}
use Rattle.rbs_tree.specs.declared.names.TypeName.{TypeName}
use Rattle.rbs_tree.specs.declared.types.Ty.{Ty}
use Rattle.rbs_tree.specs.declared.types.Ty.TheVariants as t
use Rattle.rbs_tree.specs.declared.decls.Ref.{Ref}
use Rattle.rbs_tree.specs.declared.decls.Decl.{Decl}
use Rattle.rbs_tree.specs.declared.decls.Member.{Member}
use Rattle.rbs_tree.specs.declared.decls.Decl.TheOpen.{Decl-F, Member-F}
use Rattle.rbs_tree.specs.declared.decls.Decl.TheViews.{out-Decl, out-Member}
use Rattle.rbs_tree.specs.Substitution.{subst}
use Rattle.sig_rules.specs.declared.files.Declared.{Declared}
use Rattle.sig_rules.specs.declared.sort.Sort.{Sort}
use Rattle.sig_rules.specs.declared.sort.Sort.TheVariants as is
use Rattle.sig_rules.specs.declared.line.Kind.{Kind}
use Rattle.sig_rules.specs.declared.line.Kind.TheVariants.{Instance, Singleton}
use Rattle.sig_rules.specs.declared.line.Applied.{Applied}
use Rattle.sig_rules.specs.declared.line.Line.{Line}
use Rattle.sig_rules.specs.Declarations.{Path, same_path, full_name, entries, somes}
use Rattle.sig_rules.specs.Names.{resolve}
use Rattle.sig_rules.specs.Types.{sort, param_names, first_params, fitted_to, meant}

-- ---- what stands in declarations

-- which sorts may stand somewhere
abbrev pub is_class : Sort → Bool
is_class is.Class = true
is_class _ = false

abbrev pub is_mixin : Sort → Bool
is_mixin is.Module = true
is_mixin is.Interface = true
is_mixin _ = false

abbrev pub is_self_type : Sort → Bool
is_self_type is.Class = true
is_self_type s = is_mixin s

-- what is referred to among enclosing names and type parameters, if it is of a sort that may stand there
abbrev pub applied : List Declared → (Sort → Bool) → List TypeName → List (List ℕ) → Ref → Option Applied
applied all fits context vars r = by_path (resolve all context r.name)
  where
    by_path : Option Path → Option Applied
    by_path None = None
    by_path (Some path) = if fits (sort all path) then Some (record { name = full_name path; args = fitted_to all path (map (meant all context vars) r.args) }) else None

-- with types in place of type parameters
abbrev pub with_args : List (List ℕ) → List Ty → Applied → Applied
with_args vars args a = record { name = a.name; args = map (subst vars args) a.args }

-- a name with its own type parameters, as its first declaration that counts has them
abbrev pub itself : List Declared → Path → Applied
itself all path = record { name = full_name path; args = map t.Var (first_params all path) }

-- Those that some references of a name's declarations refer to. Each declaration may have its own names for the type parameters, which
-- stand for those of the first.
abbrev pub all_applied : List Declared → (Sort → Bool) → (Declared → List TypeName) → (Decl → List Ref) → Applied → List Applied
all_applied all fits context refs a = flat_map in_entry (entries all a.name.path)
  where
    by_first : Declared → Applied → Applied
    by_first d = with_args (param_names d.decl) (itself all a.name.path).args

    in_entry : Declared → List Applied
    in_entry d = map (λ (r : Applied). with_args (first_params all a.name.path) a.args (by_first d r)) (somes (map (applied all fits (context d) (param_names d.decl)) (refs d.decl)))

-- among which names stands what is in a declaration of this name: its own is the innermost
abbrev pub inside : Path → Declared → List TypeName
inside path d = d.context ++ full_name path ∷ []

abbrev pub outside : Declared → List TypeName
outside d = d.context

abbrev pub members : Decl → List Member
members decl = layer (out-Decl decl)
  where
    layer : Decl-F Decl Member → List Member
    layer (Decl-F.Class name params superclass members) = members
    layer (Decl-F.Module name params self_types members) = members
    layer (Decl-F.Interface name params members) = members
    layer _ = []

abbrev pub include_of : Member → List Ref
include_of m = layer (out-Member m)
  where
    layer : Member-F Decl Member → List Ref
    layer (Member-F.Include r) = r ∷ []
    layer _ = []

abbrev pub prepend_of : Member → List Ref
prepend_of m = layer (out-Member m)
  where
    layer : Member-F Decl Member → List Ref
    layer (Member-F.Prepend r) = r ∷ []
    layer _ = []

abbrev pub extend_of : Member → List Ref
extend_of m = layer (out-Member m)
  where
    layer : Member-F Decl Member → List Ref
    layer (Member-F.Extend r) = r ∷ []
    layer _ = []

abbrev pub superclass_of : Decl → List Ref
superclass_of decl = layer (out-Decl decl)
  where
    given : Option Ref → List Ref
    given None = []
    given (Some r) = r ∷ []

    layer : Decl-F Decl Member → List Ref
    layer (Decl-F.Class name params superclass members) = given superclass
    layer _ = []

abbrev pub self_types_of : Decl → List Ref
self_types_of decl = layer (out-Decl decl)
  where
    layer : Decl-F Decl Member → List Ref
    layer (Decl-F.Module name params self_types members) = self_types
    layer _ = []

-- the modules and interfaces that are mixed in by such members, last first
abbrev pub mixed_in : List Declared → (Member → List Ref) → Applied → List Applied
mixed_in all refs a = reverse (all_applied all is_mixin (inside a.name.path) (λ d. flat_map refs (members d)) a)

abbrev pub object : Path
object = codes "Object" ∷ []

abbrev pub basic_object : Path
basic_object = codes "BasicObject" ∷ []

abbrev pub plain : Path → Applied
plain path = record { name = full_name path; args = [] }

-- the superclass: the first that is named and is a class, or else `::Object`; `::BasicObject` never has one
abbrev pub superclasses : List Declared → Applied → List Applied
superclasses all a = if same_path a.name.path basic_object then [] else first_or (all_applied all is_class outside superclass_of a)
  where
    first_or : List Applied → List Applied
    first_or (s ∷ ss) = s ∷ []
    first_or [] = plain object ∷ []

-- what the self types of a module are, or else `::Object`
abbrev pub self_types : List Declared → Applied → List Applied
self_types all a = or_object (all_applied all is_self_type (inside a.name.path) self_types_of a)
  where
    or_object : List Applied → List Applied
    or_object [] = plain object ∷ []
    or_object (s ∷ ss) = s ∷ ss

-- whose lines of instances stand behind what a name itself brings
abbrev pub behind_instances : List Declared → Applied → List Applied
behind_instances all a = by_sort (sort all a.name.path)
  where
    by_sort : Sort → List Applied
    by_sort is.Class = superclasses all a
    by_sort is.Module = self_types all a
    by_sort _ = []

-- whose lines of singletons do; a singleton has no arguments, so each stands with its own type parameters
abbrev pub behind_singletons : List Declared → Applied → List Applied
behind_singletons all a = by_sort (sort all a.name.path)
  where
    by_sort : Sort → List Applied
    by_sort is.Class = map (λ (s : Applied). itself all s.name.path) (superclasses all a)
    by_sort _ = []

-- ---- lines

abbrev pub no_line : Line
no_line = record { steps = []; cut = false }

-- where a name is left out
abbrev pub left_out : Line
left_out = record { steps = []; cut = true }

abbrev pub one_step : Path → Kind → List Ty → Line
one_step path kind args = record { steps = record { name = full_name path; kind = kind; args = args } ∷ []; cut = false }

abbrev pub followed_by : Line → Line → Line
followed_by a b = record { steps = a.steps ++ b.steps; cut = a.cut || b.cut }

abbrev pub in_a_row : List Line → Line
in_a_row [] = no_line
in_a_row (line ∷ lines) = followed_by line (in_a_row lines)

-- the names with their kinds that lead from the start of a line to a place on it
abbrev pub Trail : Type 0
Trail = List (Path × Kind)

abbrev pub same_kind : Kind → Kind → Bool
same_kind Instance Instance = true
same_kind Singleton Singleton = true
same_kind _ _ = false

abbrev pub is_on : Trail → Path → Kind → Bool
is_on trail path kind = list_any (λ (p : Path × Kind). same_path p.0 path && same_kind p.1 kind) trail

-- what a module or an interface brings where it is mixed in: what it prepends, itself, and what it includes
abbrev pub brought : ℕ → List Declared → Trail → Applied → Line
brought zero all trail a = left_out
brought (suc n) all trail a = if is_on trail a.name.path Instance then left_out else
    (let further = (a.name.path, Instance) ∷ trail in
    followed_by (in_a_row (map (brought n all further) (mixed_in all prepend_of a)))
    (followed_by (one_step a.name.path Instance a.args) (in_a_row (map (brought n all further) (mixed_in all include_of a)))))

-- the line of instances: what the name itself brings, and then the line of the superclass, or those of the self types
abbrev pub instances : ℕ → List Declared → Trail → Applied → Line
instances zero all trail a = left_out
instances (suc n) all trail a = if is_on trail a.name.path Instance then left_out else
    followed_by (brought (suc n) all trail a) (in_a_row (map (instances n all ((a.name.path, Instance) ∷ trail)) (behind_instances all a)))

-- the line of a class or a module itself: it, what extends it, and then the superclass's
abbrev pub singletons : ℕ → List Declared → Trail → Applied → Line
singletons zero all trail a = left_out
singletons (suc n) all trail a = if is_on trail a.name.path Singleton then left_out else
    (let further = (a.name.path, Singleton) ∷ trail in
    followed_by (one_step a.name.path Singleton [])
    (followed_by (in_a_row (map (brought n all further) (mixed_in all extend_of a))) (in_a_row (map (singletons n all further) (behind_singletons all a)))))

-- A trail has each declared name once in each kind at most, so more turns than this change nothing.
abbrev pub turns : List Declared → ℕ
turns all = suc (length all + length all)

abbrev pub instance_line : List Declared → Path → Line
instance_line all path = instances (turns all) all [] (itself all path)

-- the class of classes, and that of modules
abbrev pub end_of_singletons : Sort → List Declared → Line
end_of_singletons is.Class all = instances (turns all) all [] (plain (codes "Class" ∷ []))
end_of_singletons is.Module all = instances (turns all) all [] (plain (codes "Module" ∷ []))
end_of_singletons _ all = no_line

-- an interface has none
abbrev pub singleton_line : List Declared → Path → Line
singleton_line all path = by_sort (sort all path)
  where
    whole : Line
    whole = followed_by (singletons (turns all) all [] (itself all path)) (end_of_singletons (sort all path) all)

    by_sort : Sort → Line
    by_sort is.Class = whole
    by_sort is.Module = whole
    by_sort _ = no_line

abbrev pub line : List Declared → Path → Kind → Line
line all path Instance = instance_line all path
line all path Singleton = singleton_line all path
