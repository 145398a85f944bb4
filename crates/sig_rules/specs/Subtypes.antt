-- Which types are subtypes of which in a project.
--
-- A type is a subtype of another where a derivation shows it. A derivation is a tree of steps of the rules below, of some height; a path
-- in it may unfold so many aliases and interfaces and pass to so many other classes. All types in it are normal. That one type is below
-- a second and this one below a third is no step.
use Rattle.std.specs.Prelude.{◌≡◌, ℕ, zero, suc, Bool, true, false, if◌then◌else◌, List, [], ◌∷◌, map, codes, Option, Some, None}
use Rattle.std.specs.Option.{option_map}
use Rattle.std.specs.List.{All, AllZip, Any, Contains, list_any}
use Rattle.rbs_tree.specs.declared.names.TypeName.{TypeName}
use Rattle.rbs_tree.specs.declared.types.Ty.{Ty}
use Rattle.rbs_tree.specs.declared.types.Ty.TheVariants as t
use Rattle.rbs_tree.specs.declared.types.BlockType.{BlockType}
use Rattle.rbs_tree.specs.declared.types.Field.{Field}
use Rattle.rbs_tree.specs.declared.types.Keyword.{Keyword}
use Rattle.rbs_tree.specs.declared.types.MethodType.{MethodType}
use Rattle.rbs_tree.specs.declared.types.Param.{Param}
use Rattle.rbs_tree.specs.declared.types.Ty.TheOpen.{Ty-F}
use Rattle.rbs_tree.specs.declared.types.Ty.TheViews.{out-Ty, out-Field}
use Rattle.rbs_tree.specs.declared.decls.Sign.{Sign}
use Rattle.rbs_tree.specs.declared.decls.Sign.TheVariants as sign
use Rattle.rbs_tree.specs.declared.decls.TypeParam.{TypeParam}
use Rattle.rbs_tree.specs.Substitution.{subst}
use Rattle.sig_rules.specs.declared.files.Declared.{Declared}
use Rattle.sig_rules.specs.declared.line.Kind.TheVariants.{Instance, Singleton}
use Rattle.sig_rules.specs.declared.line.Step.{Step}
use Rattle.sig_rules.specs.declared.method.Method.{Method}
use Rattle.sig_rules.specs.declared.method.Visibility.TheVariants.{Public}
use Rattle.sig_rules.specs.Declarations.{Path, entries, full_name, same_path}
use Rattle.sig_rules.specs.Types.{alias, by_sort, first_params, sort, type_params}
use Rattle.sig_rules.specs.Lines.{line}
use Rattle.sig_rules.specs.Methods.{method}
use Rattle.sig_rules.specs.Instances.{instance}
use Rattle.sig_rules.specs.Equality.{same_text}
use Rattle.sig_rules.specs.Normal.{normal, normal_method, union}
use Rattle.sig_rules.specs.Functions.{Meets}

-- ---- what stands for a type

-- the class of a name at the top
abbrev pub class_named : List ℕ → List Ty → Ty
class_named word args = t.Instance (full_name (word ∷ [])) args

-- the normal type that an alias stands for
abbrev pub unfolded : List Declared → TypeName → List Ty → Option Ty
unfolded all name args = option_map (λ (a : List (List ℕ) × Ty). normal (subst a.0 args a.1)) (alias all name.path)

abbrev pub field_type : Field → Ty
field_type f = (out-Field f).ty

-- the type of the first field with a key
abbrev pub field_of : List Field → List ℕ → Option Ty
field_of [] name = None
field_of (f ∷ fs) name = if same_text name (out-Field f).key then Some (field_type f) else field_of fs name

-- the types of fields, of equal keys the first's alone
abbrev pub field_types : List Field → List Ty
field_types = from []
  where
    from : List (List ℕ) → List Field → List Ty
    from seen [] = []
    from seen (f ∷ fs) = if list_any (same_text (out-Field f).key) seen then from seen fs else field_type f ∷ from ((out-Field f).key ∷ seen) fs

-- the class that a literal, a constant, a variable, a tuple, a record or a function has the methods of
abbrev pub class_of : Ty → Option Ty
class_of ty = layer (out-Ty ty)
  where
    layer : Ty-F Ty BlockType Field Keyword MethodType Param → Option Ty
    layer (Ty-F.IntLit value) = Some (class_named (codes "Integer") [])
    layer (Ty-F.StrLit value) = Some (class_named (codes "String") [])
    layer (Ty-F.SymLit value) = Some (class_named (codes "Symbol") [])
    layer Ty-F.True = Some (class_named (codes "TrueClass") [])
    layer Ty-F.False = Some (class_named (codes "FalseClass") [])
    layer Ty-F.Nil = Some (class_named (codes "NilClass") [])
    layer (Ty-F.Var name) = Some (class_named (codes "Object") [])
    layer (Ty-F.TupleOf parts) = Some (class_named (codes "Array") (union parts ∷ []))
    layer (Ty-F.RecordOf fields) = Some (class_named (codes "Hash") (class_named (codes "Symbol") [] ∷ union (field_types fields) ∷ []))
    layer (Ty-F.ProcOf fun) = Some (class_named (codes "Proc") [])
    layer _ = None

-- the arguments of a step of a class's line of instances, by the arguments of the class
abbrev pub args_on : List Declared → TypeName → List Ty → Step → List Ty
args_on all name args step = map (λ ty. normal (subst (first_params all name.path) args ty)) step.args

-- the type of the instances of a step
abbrev pub type_on : List Declared → Step → Ty
type_on all step = normal (by_sort (sort all step.name.path) step.name step.args)

-- the signs of a name's type parameters
abbrev pub signs : List Declared → Path → List Sign
signs all path = of_first (entries all path)
  where
    of_first : List Declared → List Sign
    of_first [] = []
    of_first (d ∷ ds) = map (λ (p : TypeParam). p.sign) (type_params d.decl)

-- ---- methods of a type

-- a method with types in place of the type parameters around it, its types normal
abbrev pub method_with : List (List ℕ) → List Ty → Method → Method
method_with params args m = record m { overloads = map (λ overload. normal_method (instance params args overload)) m.overloads }

-- the method of a type with methods: of an instance, an interface, or a class or a module itself
abbrev pub method_of : List Declared → Ty → List ℕ → Option Method
method_of all ty name = layer (out-Ty ty)
  where
    layer : Ty-F Ty BlockType Field Keyword MethodType Param → Option Method
    layer (Ty-F.Instance c args) = option_map (method_with (first_params all c.path) args) (method all c.path Instance name)
    layer (Ty-F.Interface c args) = option_map (method_with (first_params all c.path) args) (method all c.path Instance name)
    layer (Ty-F.Singleton c) = option_map (method_with [] []) (method all c.path Singleton name)
    layer _ = None

-- a type whose methods are asked for by an interface
abbrev pub has_methods : Ty → Bool
has_methods ty = layer (out-Ty ty)
  where
    layer : Ty-F Ty BlockType Field Keyword MethodType Param → Bool
    layer (Ty-F.Instance c args) = true
    layer (Ty-F.Interface c args) = true
    layer (Ty-F.Singleton c) = true
    layer _ = false

-- ---- rules

module _ (all : List Declared) where
  -- arguments meet by their parameters' signs: below, above, or both
  abbrev pub ArgsMeet : (Ty → Ty → Type 0) → List Sign → List Ty → List Ty → Type 0
  ArgsMeet Below (sign.Covariant ∷ ss) (x ∷ xs) (y ∷ ys) = Below x y × ArgsMeet Below ss xs ys
  ArgsMeet Below (sign.Contravariant ∷ ss) (x ∷ xs) (y ∷ ys) = Below y x × ArgsMeet Below ss xs ys
  ArgsMeet Below (sign.Unmarked ∷ ss) (x ∷ xs) (y ∷ ys) = Below x y × (Below y x × ArgsMeet Below ss xs ys)
  ArgsMeet Below _ _ _ = Unit {0}

  -- fields have one set of keys, and meet key by key
  pub record FieldsMeet (Below : Ty → Ty → Type 0) (own wanted : List Field) : Type 0 where
    pub keys : (name : List ℕ) → field_of wanted name ≡ None → field_of own name ≡ None
    pub types : (name : List ℕ) (ty : Ty) → field_of wanted name ≡ Some ty → (other : Ty) × ((field_of own name ≡ Some other) × Below other ty)

  -- a type has each method of an interface as a public one, each of whose wanted overloads some own one meets
  abbrev pub MethodsMeet : (Ty → Ty → Type 0) → Ty → Ty → Type 0
  MethodsMeet Below own wanted = (name : List ℕ) (w : Method) → method_of all wanted name ≡ Some w →
      (m : Method) × ((method_of all own name ≡ Some m) × ((m.visible ≡ Public) × All (λ g. Any (λ f. Below (t.ProcOf f) (t.ProcOf g)) m.overloads) w.overloads))

  -- so many passes are left behind a step from one class to another
  abbrev pub PassesLeft : TypeName → TypeName → ℕ → ℕ → Type 0
  PassesLeft c d before behind = before ≡ (if same_path c.path d.path then behind else suc behind)

  -- A step of a derivation, by the judgements below it: these have so many unfoldings and passes, and two types.
  pub data Rule (Below : ℕ → ℕ → Ty → Ty → Type 0) (u p : ℕ) (s r : Ty) : Type 0 where
    -- equal types, and those that every type is below or above
    equal : s ≡ r → Rule Below u p s r
    from_untyped : s ≡ t.Untyped → Rule Below u p s r
    to_untyped : r ≡ t.Untyped → Rule Below u p s r
    from_bot : s ≡ t.Bot → Rule Below u p s r
    to_top : r ≡ t.Top → Rule Below u p s r
    to_void : r ≡ t.Void → Rule Below u p s r
    -- an alias is what it stands for
    from_alias : (c : TypeName) (args : List Ty) (ty : Ty) (v : ℕ) → s ≡ t.Alias c args → unfolded all c args ≡ Some ty → u ≡ suc v → Below v p ty r → Rule Below u p s r
    to_alias : (c : TypeName) (args : List Ty) (ty : Ty) (v : ℕ) → r ≡ t.Alias c args → unfolded all c args ≡ Some ty → u ≡ suc v → Below v p s ty → Rule Below u p s r
    -- each member of a union, `bool` being that of `true` and `false`, and some member; the other way round of an intersection
    from_union : (parts : List Ty) → s ≡ t.Union parts → All (λ part. Below u p part r) parts → Rule Below u p s r
    from_bool : s ≡ t.Bool → Below u p t.True r → Below u p t.False r → Rule Below u p s r
    to_union : (parts : List Ty) → r ≡ t.Union parts → Any (λ part. Below u p s part) parts → Rule Below u p s r
    to_true : r ≡ t.Bool → Below u p s t.True → Rule Below u p s r
    to_false : r ≡ t.Bool → Below u p s t.False → Rule Below u p s r
    to_inter : (parts : List Ty) → r ≡ t.Inter parts → All (λ part. Below u p s part) parts → Rule Below u p s r
    from_inter : (parts : List Ty) → s ≡ t.Inter parts → Any (λ part. Below u p part r) parts → Rule Below u p s r
    -- what has the methods of a class
    by_class : (ty : Ty) → class_of s ≡ Some ty → Below u p ty r → Rule Below u p s r
    -- along the line of instances
    along : (c d : TypeName) (xs ys : List Ty) (step : Step) (q : ℕ) → s ≡ t.Instance c xs → r ≡ t.Instance d ys → Contains (line all c.path Instance).steps step →
        step.kind ≡ Instance → step.name.path ≡ d.path → PassesLeft c d p q → ArgsMeet (Below u q) (signs all d.path) (args_on all c xs step) ys → Rule Below u p s r
    -- an interface's methods
    by_methods : (c : TypeName) (args : List Ty) (v : ℕ) → r ≡ t.Interface c args → has_methods s ≡ true → u ≡ suc v → MethodsMeet (Below v p) s r → Rule Below u p s r
    -- part by part
    tuples : (xs ys : List Ty) → s ≡ t.TupleOf xs → r ≡ t.TupleOf ys → AllZip (Below u p) xs ys → Rule Below u p s r
    records : (xs ys : List Field) → s ≡ t.RecordOf xs → r ≡ t.RecordOf ys → FieldsMeet (Below u p) xs ys → Rule Below u p s r
    functions : (f g : MethodType) → s ≡ t.ProcOf f → r ≡ t.ProcOf g → Meets (Below u p) f g → Rule Below u p s r
    -- along the line of a class or a module itself
    singletons : (c d : TypeName) (step : Step) → s ≡ t.Singleton c → r ≡ t.Singleton d → Contains (line all c.path Singleton).steps step → step.kind ≡ Singleton → step.name.path ≡ d.path → Rule Below u p s r
    by_line : (c : TypeName) (step : Step) → s ≡ t.Singleton c → Contains (line all c.path Singleton).steps step → step.kind ≡ Instance → Below u p (type_on all step) r → Rule Below u p s r

  -- there is a derivation lower than this
  abbrev pub Derives : ℕ → ℕ → ℕ → Ty → Ty → Type 0
  Derives zero u p s r = ⊥
  Derives (suc height) u p s r = Rule (Derives height) u p s r

-- so many aliases and interfaces may be unfolded on a path
abbrev pub most_unfoldings : ℕ
most_unfoldings = 12

-- so often may a path pass to another class
abbrev pub most_passes : ℕ
most_passes = 128

-- A type is a subtype of another, with so many unfoldings.
abbrev pub IsSubtypeIn : List Declared → ℕ → Ty → Ty → Type 0
IsSubtypeIn all unfoldings s r = (height : ℕ) × Derives all height unfoldings most_passes (normal s) (normal r)

-- A type is a subtype of another.
abbrev pub IsSubtype : List Declared → Ty → Ty → Type 0
IsSubtype all = IsSubtypeIn all most_unfoldings
