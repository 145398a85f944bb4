-- What is answered of a project's full names: lines, definitions, aliases and values. A table of methods is told by what it has of each
-- name, in whatever order it lists them.
use Rattle.std.specs.Prelude.{◌≡◌, ℕ, ◌==◌, Bool, false, if◌then◌else◌, nat_eq, List, [], ◌∷◌, ◌++◌, codes, Option, Some, None}
use Rattle.std.specs.Map.{lookup}
use Rattle.std.specs.Cmp.Lexicographic.{pointwise}
use Rattle.rbs_tree.specs.declared.types.Ty.{Ty}
use Rattle.sig_rules.specs.declared.files.Declared.{Declared}
use Rattle.sig_rules.specs.declared.sort.Sort.{Sort}
use Rattle.sig_rules.specs.declared.sort.Sort.TheVariants as is
use Rattle.sig_rules.specs.declared.line.Kind.{Kind}
use Rattle.sig_rules.specs.declared.line.Kind.TheVariants.{Instance}
use Rattle.sig_rules.specs.declared.line.Line.{Line}
use Rattle.sig_rules.specs.declared.method.Definition.{Definition}
use Rattle.sig_rules.specs.Declarations.{Path, declared_names}
use Rattle.sig_rules.specs.Names.{first_that}
use Rattle.sig_rules.specs.Types.{sort, alias, value}
use Rattle.sig_rules.specs.Lines.{line}
use Rattle.sig_rules.specs.Methods.{method, variable}

-- a full name as a text: `::` before each word of it
abbrev pub path_text : Path → List ℕ
path_text [] = []
path_text (word ∷ words) = codes "::" ++ (word ++ path_text words)

-- the line of a class, a module or an interface
abbrev pub line_of : List Declared → Path → Kind → Option Line
line_of all path kind = by_sort (sort all path)
  where
    by_sort : Sort → Option Line
    by_sort is.Class = Some (line all path kind)
    by_sort is.Module = Some (line all path kind)
    by_sort is.Interface = Some (line all path kind)
    by_sort _ = None

-- what a table has by a name
abbrev pub by_name : {V : Type 0} → List (List ℕ × V) → List ℕ → Option V
by_name entries name = lookup (pointwise nat_eq name) entries

-- a definition has the methods and variables that are found along the line, and no others
pub record Defines (all : List Declared) (path : Path) (kind : Kind) (d : Definition) : Type 0 where
  pub methods : (name : List ℕ) → by_name d.methods name ≡ method all path kind name
  pub variables : (name : List ℕ) → by_name d.variables name ≡ variable all path kind name

-- of a class or a module, and of nothing else
abbrev pub IsDefinition : List Declared → Path → Kind → Option Definition → Type 0
IsDefinition all path kind answer = by_sort (sort all path) answer
  where
    there : Option Definition → Type 0
    there None = ⊥
    there (Some d) = Defines all path kind d

    by_sort : Sort → Option Definition → Type 0
    by_sort is.Class answer = there answer
    by_sort is.Module answer = there answer
    by_sort _ answer = answer ≡ None

-- an interface's methods; it has no variables
abbrev pub IsShape : List Declared → Path → Option Definition → Type 0
IsShape all path answer = by_sort (sort all path) answer
  where
    there : Option Definition → Type 0
    there None = ⊥
    there (Some d) = Defines all path Instance d

    by_sort : Sort → Option Definition → Type 0
    by_sort is.Interface answer = there answer
    by_sort _ answer = answer ≡ None

-- the type parameters and the type of an alias
abbrev pub alias_of : List Declared → Path → Option (List (List ℕ) × Ty)
alias_of = alias

-- how a constant or a global is asked for: by `::` before each word of its full name, or by its name with the `$`
abbrev pub value_text : Path → List ℕ
value_text path = if is_global path then first_word path else path_text path
  where
    is_global : Path → Bool
    is_global ((b ∷ bs) ∷ []) = b == 36
    is_global _ = false

    first_word : Path → List ℕ
    first_word [] = []
    first_word (word ∷ words) = word

-- the type of the first declared name that is asked for so
abbrev pub value_of : List Declared → List ℕ → Option Ty
value_of all name = by_path (first_that (λ path. pointwise nat_eq name (value_text path)) (declared_names all))
  where
    by_path : Option Path → Option Ty
    by_path None = None
    by_path (Some path) = value all path
