-- What a name stands for, and which full names are asked on the way.
use Rattle.std.specs.Prelude.{ℕ, Bool, true, false, if◌then◌else◌, List, [], ◌∷◌, ◌++◌, map, reverse, Option, Some, None}
use Rattle.rbs_tree.specs.declared.names.TypeName.{TypeName}
use Rattle.rbs_tree.specs.declared.decls.Decl.{Decl}
use Rattle.rbs_tree.specs.declared.decls.Member.{Member}
use Rattle.rbs_tree.specs.declared.decls.Decl.TheOpen.{Decl-F}
use Rattle.rbs_tree.specs.declared.decls.Decl.TheViews.{out-Decl}
use Rattle.sig_rules.specs.declared.files.Declared.{Declared}
use Rattle.sig_rules.specs.Declarations.{Path, entries}

-- whether a declaration is of a class or a module
abbrev pub is_class_or_module : Decl → Bool
is_class_or_module decl = layer (out-Decl decl)
  where
    layer : Decl-F Decl Member → Bool
    layer (Decl-F.Class name params superclass members) = true
    layer (Decl-F.Module name params self_types members) = true
    layer _ = false

-- whether some declaration of the name counts
abbrev pub is_known : List Declared → Path → Bool
is_known all path = is_cons (entries all path)
  where
    is_cons : List Declared → Bool
    is_cons [] = false
    is_cons (d ∷ ds) = true

-- whether the name is of a class or a module, in which further names are looked up
abbrev pub has_inner_names : List Declared → Path → Bool
has_inner_names all path = of_first (entries all path)
  where
    of_first : List Declared → Bool
    of_first [] = false
    of_first (d ∷ ds) = is_class_or_module d.decl

-- what the first word of a name may stand for: in the enclosing names, from the innermost outwards, and last at the top
abbrev pub candidates : List TypeName → List ℕ → List Path
candidates context head = map (λ (name : TypeName). name.path ++ head ∷ []) (reverse context) ++ (head ∷ []) ∷ []

-- whether a candidate is the one: where the word is the whole name any that is known, else a class or a module
abbrev pub is_head : List Declared → Path → Path → Bool
is_head all [] candidate = is_known all candidate
is_head all (word ∷ words) candidate = has_inner_names all candidate

-- the first that passes a test
abbrev pub first_that : (Path → Bool) → List Path → Option Path
first_that test [] = None
first_that test (path ∷ paths) = if test path then Some path else first_that test paths

-- those up to and with the first that passes a test
abbrev pub up_to : (Path → Bool) → List Path → List Path
up_to test [] = []
up_to test (path ∷ paths) = path ∷ (if test path then [] else up_to test paths)

-- a name that is looked up as a whole
abbrev pub if_known : List Declared → Path → Option Path
if_known all path = if is_known all path then Some path else None

-- what a name stands for whose first word stands for this, if it does
abbrev pub with_rest : List Declared → Path → Option Path → Option Path
with_rest all rest None = None
with_rest all rest (Some head) = if_known all (head ++ rest)

abbrev pub resolve_relative : List Declared → List TypeName → Path → Option Path
resolve_relative all context [] = None
resolve_relative all context (head ∷ rest) = with_rest all rest (first_that (is_head all rest) (candidates context head))

-- the words of the full name that a name stands for among the enclosing names, of which the last is the innermost
abbrev pub resolve : List Declared → List TypeName → TypeName → Option Path
resolve all context name = if name.absolute then if_known all name.path else resolve_relative all context name.path

-- the whole name that is asked behind its first word's candidates, where it has further words
abbrev pub whole_asked : Path → Option Path → List Path
whole_asked rest None = []
whole_asked [] (Some head) = []
whole_asked (word ∷ words) (Some head) = (head ++ word ∷ words) ∷ []

abbrev pub tried_relative : List Declared → List TypeName → Path → List Path
tried_relative all context [] = []
tried_relative all context (head ∷ rest) =
    up_to (is_head all rest) (candidates context head) ++ whole_asked rest (first_that (is_head all rest) (candidates context head))

-- the full names that are asked to find what a name stands for, absent ones among them
abbrev pub tried : List Declared → List TypeName → TypeName → List Path
tried all context name = if name.absolute then name.path ∷ [] else tried_relative all context name.path
