-- Which full names the lines and the members of a name hang on.
use Rattle.std.specs.Prelude.{ℕ, if◌then◌else◌, List, [], ◌∷◌, ◌++◌, map, Option, Some, None}
use Rattle.std.specs.List.{flat_map}
use Rattle.rbs_tree.specs.declared.names.TypeName.{TypeName}
use Rattle.rbs_tree.specs.declared.types.Ty.{Ty}
use Rattle.rbs_tree.specs.declared.types.MethodType.{MethodType}
use Rattle.rbs_tree.specs.declared.types.Ty.TheOpen.{Ty-F, BlockType-F, Field-F, Keyword-F, MethodType-F, Param-F}
use Rattle.rbs_tree.specs.declared.types.Ty.TheViews.{out-MethodType}
use Rattle.rbs_tree.specs.declared.types.Ty.TheFolds.{fold-Ty, fold-MethodType}
use Rattle.rbs_tree.specs.declared.decls.Decl.{Decl}
use Rattle.rbs_tree.specs.declared.decls.Member.{Member}
use Rattle.rbs_tree.specs.declared.decls.Ref.{Ref}
use Rattle.rbs_tree.specs.declared.decls.Decl.TheOpen.{Decl-F, Member-F}
use Rattle.rbs_tree.specs.declared.decls.Decl.TheViews.{out-Decl, out-Member}
use Rattle.sig_rules.specs.declared.files.Declared.{Declared}
use Rattle.sig_rules.specs.declared.sort.Sort.{Sort}
use Rattle.sig_rules.specs.declared.sort.Sort.TheVariants as is
use Rattle.sig_rules.specs.declared.line.Kind.TheVariants.{Instance, Singleton}
use Rattle.sig_rules.specs.declared.line.Step.{Step}
use Rattle.sig_rules.specs.Declarations.{Path, entries}
use Rattle.sig_rules.specs.Names.{tried}
use Rattle.sig_rules.specs.Types.{is_variable, param_names, sort}
use Rattle.sig_rules.specs.Lines.{inside, line, members, self_types_of, superclass_of}

abbrev pub Names : Type 0
Names = List TypeName

-- ---- the names that stand in a type

abbrev pub in_row : List Names → Names
in_row [] = []
in_row (names ∷ more) = names ++ in_row more

abbrev pub if_there : Option Names → Names
if_there None = []
if_there (Some names) = names

-- a name, where it is no type parameter's
abbrev pub unless_variable : List (List ℕ) → TypeName → Names
unless_variable vars name = if is_variable vars name then [] else name ∷ []

abbrev pub names_step : List (List ℕ) → Ty-F Names Names Names Names Names Names → Names
names_step vars (Ty-F.Instance name args) = unless_variable vars name ++ in_row args
names_step vars (Ty-F.Interface name args) = name ∷ in_row args
names_step vars (Ty-F.Alias name args) = name ∷ in_row args
names_step vars (Ty-F.Singleton name) = name ∷ []
names_step vars (Ty-F.Union parts) = in_row parts
names_step vars (Ty-F.Inter parts) = in_row parts
names_step vars (Ty-F.Optional part) = part
names_step vars (Ty-F.TupleOf parts) = in_row parts
names_step vars (Ty-F.RecordOf fields) = in_row fields
names_step vars (Ty-F.ProcOf fun) = fun
names_step vars _ = []

abbrev pub in_block : BlockType-F Names Names Names Names Names Names → Names
in_block b = b.fun

abbrev pub in_field : Field-F Names Names Names Names Names Names → Names
in_field f = f.ty

abbrev pub in_keyword : Keyword-F Names Names Names Names Names Names → Names
in_keyword k = k.ty

abbrev pub in_function : MethodType-F Names Names Names Names Names Names → Names
in_function m = in_row m.required ++ (in_row m.optional ++ (if_there m.rest ++ (in_row m.trailing ++ (in_row m.keywords ++ (if_there m.rest_keywords ++ (if_there m.block ++ m.result))))))

abbrev pub in_param : Param-F Names Names Names Names Names Names → Names
in_param p = p.ty

-- the names that a type is written with, among type parameters
abbrev pub names_in : List (List ℕ) → Ty → Names
names_in vars = fold-Ty Names Names Names Names Names Names (names_step vars) in_block in_field in_keyword in_function in_param

-- those of a method type; its own variables stand before those around it
abbrev pub names_in_method : List (List ℕ) → MethodType → Names
names_in_method vars m = fold-MethodType Names Names Names Names Names Names (names_step ((out-MethodType m).vars ++ vars)) in_block in_field in_keyword in_function in_param m

abbrev pub names_in_ref : List (List ℕ) → Ref → Names
names_in_ref vars r = r.name ∷ flat_map (names_in vars) r.args

abbrev pub names_in_member : List (List ℕ) → Member → Names
names_in_member vars m = layer (out-Member m)
  where
    layer : Member-F Decl Member → Names
    layer (Member-F.Def name at side public overloads more) = flat_map (names_in_method vars) overloads
    layer (Member-F.Attr name at side public reads writes variable ty) = names_in vars ty
    layer (Member-F.Include r) = names_in_ref vars r
    layer (Member-F.Extend r) = names_in_ref vars r
    layer (Member-F.Prepend r) = names_in_ref vars r
    layer (Member-F.Variable name at scope ty) = names_in vars ty
    layer _ = []

-- ---- what is asked

-- the full names that are asked for some names among enclosing ones
abbrev pub asked : List Declared → List TypeName → Names → List Path
asked all context = flat_map (tried all context)

-- what is asked for the names in a declaration of a full name that counts; the superclass is looked up outside
abbrev pub asked_in : List Declared → Path → Declared → List Path
asked_in all path d =
    asked all d.context (flat_map (names_in_ref (param_names d.decl)) (superclass_of d.decl))
    ++ asked all (inside path d) (flat_map (names_in_ref (param_names d.decl)) (self_types_of d.decl) ++ flat_map (names_in_member (param_names d.decl)) (members d.decl))

-- the names on both lines
abbrev pub on_lines : List Declared → Path → List Path
on_lines all path = map (λ (step : Step). step.name.path) ((line all path Instance).steps ++ (line all path Singleton).steps)

-- the type of an alias, a constant or a global, with the type parameters around it
abbrev pub asked_by_type : List Declared → Declared → List Path
asked_by_type all d = layer (out-Decl d.decl)
  where
    layer : Decl-F Decl Member → List Path
    layer (Decl-F.Alias name params ty) = asked all d.context (names_in (param_names d.decl) ty)
    layer (Decl-F.Constant name ty) = asked all d.context (names_in [] ty)
    layer (Decl-F.Global name at ty) = asked all d.context (names_in [] ty)
    layer _ = []

-- The names that a class, a module or an interface hangs on: itself, those on its lines, and all that are asked for the names in the
-- declarations of these. An alias, a constant or a global hangs on itself and what is asked for its type.
abbrev pub consulted : List Declared → Path → List Path
consulted all path = by_sort (sort all path)
  where
    with_lines : List Path
    with_lines = path ∷ (on_lines all path ++ flat_map (λ name. flat_map (asked_in all name) (entries all name)) (path ∷ on_lines all path))

    by_sort : Sort → List Path
    by_sort is.Class = with_lines
    by_sort is.Module = with_lines
    by_sort is.Interface = with_lines
    by_sort _ = path ∷ flat_map (asked_by_type all) (entries all path)
