-- What declarations refer to, by the role that it has.
use Rattle.std.specs.Prelude.{ℕ, Bool, if◌then◌else◌, List, [], map, Option, Some, None}
use Rattle.std.specs.List.{flat_map}
use Rattle.rbs_tree.specs.declared.names.TypeName.{TypeName}
use Rattle.rbs_tree.specs.declared.types.Ty.{Ty}
use Rattle.rbs_tree.specs.declared.types.Ty.TheVariants as t
use Rattle.rbs_tree.specs.declared.decls.Ref.{Ref}
use Rattle.rbs_tree.specs.declared.decls.Decl.{Decl}
use Rattle.rbs_tree.specs.declared.decls.Member.{Member}
use Rattle.sig_rules.specs.declared.files.Declared.{Declared}
use Rattle.sig_rules.specs.declared.sort.Sort.{Sort}
use Rattle.sig_rules.specs.declared.line.Applied.{Applied}
use Rattle.sig_rules.specs.Declarations.{Path, somes}
use Rattle.sig_rules.specs.Names.{resolve}
use Rattle.sig_rules.specs.Types.{sort, param_names, first_params}
use Rattle.sig_rules.specs.Lines.{is_class, is_mixin, is_self_type, applied, with_args, all_applied, inside, outside, members, include_of, prepend_of, extend_of, superclass_of, self_types_of}
use Rattle.ancestors.specs.declared.applied.Parameters.{Parameters}
use Rattle.ancestors.specs.declared.applied.Scope.{Scope}
use Rattle.ancestors.specs.declared.references.Role.{Role}
use Rattle.ancestors.specs.declared.references.Role.TheVariants as role

-- which sorts may stand in a role
abbrev pub fits : Role → Sort → Bool
fits role.Superclass = is_class
fits role.SelfType = is_self_type
fits role.Include = is_mixin
fits role.Prepend = is_mixin
fits role.Extend = is_mixin

-- among which names a reference stands
abbrev pub around : Role → Path → Declared → List TypeName
around role.Superclass path = outside
around role.SelfType path = inside path
around role.Include path = inside path
around role.Prepend path = inside path
around role.Extend path = inside path

-- what a member refers to in a role
abbrev pub refs_in : Role → Member → List Ref
refs_in role.Superclass m = []
refs_in role.SelfType m = []
refs_in role.Include m = include_of m
refs_in role.Prepend m = prepend_of m
refs_in role.Extend m = extend_of m

-- what a declaration refers to in a role
abbrev pub refs_of : Role → Decl → List Ref
refs_of role.Superclass d = superclass_of d
refs_of role.SelfType d = self_types_of d
refs_of role.Include d = flat_map include_of (members d)
refs_of role.Prepend d = flat_map prepend_of (members d)
refs_of role.Extend d = flat_map extend_of (members d)

-- what is referred to in a role by a name's declarations
abbrev pub referred : List Declared → Role → Applied → List Applied
referred all role a = all_applied all (fits role) (around role a.name.path) (refs_of role) a

-- the enclosing names and the type parameters of a declaration
abbrev pub scope_of : Role → Path → Declared → Scope
scope_of role path d = record { context = around role path d; params = param_names d.decl }

-- the full name that a name stands for, if it is of a sort that fits
abbrev pub chosen : List Declared → (Sort → Bool) → List TypeName → TypeName → Option Path
chosen all fits context name = by_path (resolve all context name)
  where
    by_path : Option Path → Option Path
    by_path None = None
    by_path (Some path) = if fits (sort all path) then Some path else None

-- what is referred to in a role
abbrev pub applied_refs : List Declared → Role → Scope → List Ref → List Applied
applied_refs all role scope refs = somes (map (applied all (fits role) scope.context scope.params) refs)

-- the type parameters of a name, as its first declaration has them
abbrev pub parameters_of : List Declared → Path → Parameters
parameters_of all path = record { names = first_params all path; variables = map t.Var (first_params all path) }

-- a declaration's type parameters are replaced by those of the first, and these by arguments
abbrev pub with_both : List (List ℕ) → Parameters → List Ty → Applied → Applied
with_both params first args a = with_args first.names args (with_args params first.variables a)

-- what a declaration of a name refers to in a role
abbrev pub of_declaration : List Declared → Role → Applied → Parameters → Declared → List Applied
of_declaration all role a first d = map (with_both (param_names d.decl) first a.args) (applied_refs all role (scope_of role a.name.path d) (refs_of role d.decl))
