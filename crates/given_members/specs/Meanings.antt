-- What the types in a declaration mean, for one who knows the arguments of the declared name.
use Rattle.std.specs.Prelude.{ℕ, Bool, true, false, List, [], ◌∷◌, Option, None, Some}
use Rattle.rbs_tree.specs.declared.names.TypeName.{TypeName}
use Rattle.rbs_tree.specs.declared.types.Ty.{Ty}
use Rattle.rbs_tree.specs.declared.types.MethodType.{MethodType}
use Rattle.rbs_tree.specs.declared.types.Param.{Param}
use Rattle.rbs_tree.specs.declared.types.Ty.TheViews.{roll-MethodType}
use Rattle.rbs_tree.specs.Substitution.{subst}
use Rattle.sig_rules.specs.declared.files.Declared.{Declared}
use Rattle.sig_rules.specs.declared.given.GivenMethod.{GivenMethod}
use Rattle.sig_rules.specs.declared.given.GivenVariable.{GivenVariable}
use Rattle.sig_rules.specs.declared.given.What.{What}
use Rattle.sig_rules.specs.declared.given.What.TheVariants.{Whole, Further}
use Rattle.sig_rules.specs.declared.line.Applied.{Applied}
use Rattle.sig_rules.specs.Given.{map_what}
use Rattle.sig_rules.specs.Instances.{instance}
use Rattle.sig_rules.specs.Lines.{inside, itself}
use Rattle.sig_rules.specs.Types.{first_params, meant, meant_method, param_names}

-- where a declaration of a name stands, and what stands for its type parameters
pub record Scope : Type 0 where
  pub all : List Declared
  -- the enclosing names, and the declared one as the innermost
  pub context : List TypeName
  -- the declaration's own names for the type parameters
  pub own : List (List ℕ)
  -- the names in the first declaration, and the same as types
  pub first : List (List ℕ)
  pub itself : List Ty
  pub args : List Ty

-- the scope of what stands in a declaration of a name with its arguments
abbrev pub scope_of : List Declared → Applied → Declared → Scope
scope_of all a d = record {
  all = all;
  context = inside a.name.path d;
  own = param_names d.decl;
  first = first_params all a.name.path;
  itself = (itself all a.name.path).args;
  args = a.args;
}

-- a method type with the arguments in place of the type parameters
unfoldable pub instance_in : Scope → MethodType → MethodType
instance_in s m = instance s.first s.args (instance s.own s.itself m)

-- what a method type means there
unfoldable pub method_in : Scope → MethodType → MethodType
method_in s m = instance_in s (meant_method s.all s.context s.own m)

-- what a type means before the arguments are put in
unfoldable pub meant_in : Scope → Ty → Ty
meant_in s t = meant s.all s.context s.own t

-- what a type means there
unfoldable pub ty_in : Scope → Ty → Ty
ty_in s t = subst s.first s.args (subst s.own s.itself (meant_in s t))

-- how a method with these overloads is declared, by whether `...` ends their list
abbrev pub what_of : Bool → List MethodType → What
what_of true overloads = Further overloads
what_of false overloads = Whole overloads

-- a method type of required parameters alone
abbrev pub simple_of : List Param → Ty → MethodType
simple_of required ty = roll-MethodType (record {
  vars = [];
  required = required;
  optional = [];
  rest = None;
  trailing = [];
  keywords = [];
  rest_keywords = None;
  block = None;
  result = ty;
})

-- a method with the meaning of its method types
abbrev pub with_methods : (MethodType → MethodType) → GivenMethod → GivenMethod
with_methods f g = record { name = g.name; visible = g.visible; what = map_what f g.what }

-- a variable with the meaning of its type
abbrev pub with_type : (Ty → Ty) → GivenVariable → GivenVariable
with_type f v = record { name = v.name; ty = f v.ty }

-- the variable of a name, if there is one
abbrev pub named : Option (List ℕ) → Ty → List GivenVariable
named None ty = []
named (Some name) ty = record { name = name; ty = ty } ∷ []

-- some variables, if an attribute is on their side
abbrev pub if_on_side : Bool → List GivenVariable → List GivenVariable
if_on_side true vs = vs
if_on_side false vs = []
