-- What the declarations of a class, a module or an interface give by themselves: methods and variables, one by one, in their order.
use Rattle.std.specs.Prelude.{ℕ, Bool, true, false, ◌&&◌, if◌then◌else◌, nat_eq, List, [], ◌∷◌, ◌++◌, map, codes, Option, Some, None}
use Rattle.std.specs.List.{flat_map}
use Rattle.std.specs.Cmp.Lexicographic.{pointwise}
use Rattle.rbs_tree.specs.declared.types.Ty.{Ty}
use Rattle.rbs_tree.specs.declared.types.MethodType.{MethodType}
use Rattle.rbs_tree.specs.declared.types.Ty.TheViews.{roll-MethodType}
use Rattle.rbs_tree.specs.declared.decls.Decl.{Decl}
use Rattle.rbs_tree.specs.declared.decls.Member.{Member}
use Rattle.rbs_tree.specs.declared.decls.Side.{Side}
use Rattle.rbs_tree.specs.declared.decls.Side.TheVariants as side
use Rattle.rbs_tree.specs.declared.decls.AttrVar.{AttrVar}
use Rattle.rbs_tree.specs.declared.decls.AttrVar.TheVariants as var
use Rattle.rbs_tree.specs.declared.decls.VarScope.{VarScope}
use Rattle.rbs_tree.specs.declared.decls.VarScope.TheVariants as scope
use Rattle.rbs_tree.specs.declared.decls.Decl.TheOpen.{Member-F}
use Rattle.rbs_tree.specs.declared.decls.Decl.TheViews.{out-Member}
use Rattle.rbs_tree.specs.Substitution.{subst}
use Rattle.sig_rules.specs.declared.files.Declared.{Declared}
use Rattle.sig_rules.specs.declared.given.What.{What}
use Rattle.sig_rules.specs.declared.given.What.TheVariants.{Whole, Further, AliasOf}
use Rattle.sig_rules.specs.declared.given.GivenMethod.{GivenMethod}
use Rattle.sig_rules.specs.declared.given.GivenVariable.{GivenVariable}
use Rattle.sig_rules.specs.declared.line.Applied.{Applied}
use Rattle.sig_rules.specs.declared.line.Kind.{Kind}
use Rattle.sig_rules.specs.declared.line.Kind.TheVariants.{Instance, Singleton}
use Rattle.sig_rules.specs.declared.method.Visibility.{Visibility}
use Rattle.sig_rules.specs.declared.method.Visibility.TheVariants.{Public, Private}
use Rattle.sig_rules.specs.Declarations.{entries}
use Rattle.sig_rules.specs.Types.{param_names, first_params, meant, meant_method}
use Rattle.sig_rules.specs.Lines.{inside, members, itself}
use Rattle.sig_rules.specs.Instances.{instance}

-- ---- methods

-- whether what is declared on a side is a method of this kind
abbrev pub is_on_side : Kind → Side → Bool
is_on_side Instance side.Instance = true
is_on_side Singleton side.Singleton = true
is_on_side kind side.Both = true
is_on_side _ _ = false

-- the visibility that a member declares by a word before it, or else has by its section
abbrev pub by_word : Option Bool → Visibility → Visibility
by_word None section = section
by_word (Some true) section = Public
by_word (Some false) section = Private

-- Whatever is declared, `initialize` is private, and so is the instance's method of `self?`.
abbrev pub visibility : Kind → List ℕ → Side → Visibility → Visibility
visibility Singleton name whose declared = declared
visibility Instance name side.Both declared = Private
visibility Instance name whose declared = if pointwise nat_eq name (codes "initialize") then Private else declared

-- a section that begins
abbrev pub section_behind : Visibility → Member → Visibility
section_behind section m = layer (out-Member m)
  where
    layer : Member-F Decl Member → Visibility
    layer Member-F.Public = Public
    layer Member-F.Private = Private
    layer _ = section

-- a method type of required parameters alone
abbrev pub simple : List (Option (List ℕ) × Ty) → Ty → MethodType
simple params result = roll-MethodType (record {
  vars = [];
  required = map (λ (p : Option (List ℕ) × Ty). record { ty = p.1; name = p.0 }) params;
  optional = [];
  rest = None;
  trailing = [];
  keywords = [];
  rest_keywords = None;
  block = None;
  result = result;
})

abbrev pub reader : List ℕ → Visibility → Ty → GivenMethod
reader name visible ty = record { name = name; visible = visible; what = Whole (simple [] ty ∷ []) }

abbrev pub writer : List ℕ → Visibility → Ty → GivenMethod
writer name visible ty = record { name = name ++ codes "="; visible = visible; what = Whole (simple ((Some name, ty) ∷ []) ty ∷ []) }

abbrev pub only_if : {A : Type 0} → Bool → A → List A
only_if true x = x ∷ []
only_if false x = []

-- the methods of a member of this kind, in a section
abbrev pub given_methods_of : Kind → Visibility → Member → List GivenMethod
given_methods_of kind section m = layer (out-Member m)
  where
    method : Bool → List MethodType → What
    method true overloads = Further overloads
    method false overloads = Whole overloads

    layer : Member-F Decl Member → List GivenMethod
    layer (Member-F.Def name at whose public overloads more) =
        only_if (is_on_side kind whose) (record { name = name; visible = visibility kind name whose (by_word public section); what = method more overloads })
    layer (Member-F.Attr name at whose public reads writes variable ty) =
        only_if (is_on_side kind whose && reads) (reader name (visibility kind name whose (by_word public section)) ty)
        ++ only_if (is_on_side kind whose && writes) (writer name (visibility kind (name ++ codes "=") whose (by_word public section)) ty)
    layer (Member-F.AliasOf new_name at old_name whose) = only_if (is_on_side kind whose) (record { name = new_name; visible = Public; what = AliasOf old_name })
    layer _ = []

-- the methods of the members of a declaration, which begins with a public section
abbrev pub given_methods_in : Kind → Visibility → List Member → List GivenMethod
given_methods_in kind section [] = []
given_methods_in kind section (m ∷ ms) = given_methods_of kind section m ++ given_methods_in kind (section_behind section m) ms

-- with a function of each method type
abbrev pub map_what : (MethodType → MethodType) → What → What
map_what f (Whole overloads) = Whole (map f overloads)
map_what f (Further overloads) = Further (map f overloads)
map_what f (AliasOf name) = AliasOf name

-- what a method type of a declaration means: in the first declaration's names for the type parameters, and then by the arguments
abbrev pub meant_overload : List Declared → Applied → Declared → MethodType → MethodType
meant_overload all a d m =
    instance (first_params all a.name.path) a.args (instance (param_names d.decl) (itself all a.name.path).args (meant_method all (inside a.name.path d) (param_names d.decl) m))

-- the methods of this kind that the declarations of a name give
abbrev pub given_methods : List Declared → Applied → Kind → List GivenMethod
given_methods all a kind = flat_map in_entry (entries all a.name.path)
  where
    with_meaning : Declared → GivenMethod → GivenMethod
    with_meaning d g = record { name = g.name; visible = g.visible; what = map_what (meant_overload all a d) g.what }

    in_entry : Declared → List GivenMethod
    in_entry d = map (with_meaning d) (given_methods_in kind Public (members d.decl))

-- ---- variables

-- whether a variable of a scope is seen on a side
abbrev pub is_seen : Kind → VarScope → Bool
is_seen Instance scope.Instance = true
is_seen Singleton scope.Singleton = true
is_seen kind scope.Class = true
is_seen _ _ = false

-- the name of an attribute's variable, if it has one
abbrev pub attribute_variable : List ℕ → AttrVar → Option (List ℕ)
attribute_variable name var.Same = Some (codes "@" ++ name)
attribute_variable name (var.Named other) = Some other
attribute_variable name var.Absent = None

abbrev pub given_variables_of : Kind → Member → List GivenVariable
given_variables_of kind m = layer (out-Member m)
  where
    named : Option (List ℕ) → Ty → List GivenVariable
    named None ty = []
    named (Some name) ty = record { name = name; ty = ty } ∷ []

    if_on_side : Bool → List GivenVariable → List GivenVariable
    if_on_side true vs = vs
    if_on_side false vs = []

    layer : Member-F Decl Member → List GivenVariable
    layer (Member-F.Variable name at seen ty) = only_if (is_seen kind seen) (record { name = name; ty = ty })
    layer (Member-F.Attr name at whose public reads writes variable ty) = if_on_side (is_on_side kind whose) (named (attribute_variable name variable) ty)
    layer _ = []

-- the variables of this kind that the declarations of a name give
abbrev pub given_variables : List Declared → Applied → Kind → List GivenVariable
given_variables all a kind = flat_map in_entry (entries all a.name.path)
  where
    with_meaning : Declared → GivenVariable → GivenVariable
    with_meaning d v = record { name = v.name; ty = subst (first_params all a.name.path) a.args (subst (param_names d.decl) (itself all a.name.path).args (meant all (inside a.name.path d) (param_names d.decl) v.ty)) }

    in_entry : Declared → List GivenVariable
    in_entry d = map (with_meaning d) (flat_map (given_variables_of kind) (members d.decl))
