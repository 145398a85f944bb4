-- What a call on a new object is judged by: the class that its word names, and the methods of this class and of its instances.
use Rattle.std.specs.Prelude.{ℕ, Bool, true, false, ◌&&◌, ◌==◌, is_none, List, [], ◌∷◌, length, codes, Option, None, Some, if◌then◌else◌}
use Rattle.std.specs.List.{list_all}
use Rattle.std.specs.Option.{option_map_or, option_and_then}
use Rattle.rbs_tree.specs.declared.names.TypeName.{TypeName}
use Rattle.rbs_tree.specs.declared.types.Ty.{Ty}
use Rattle.rbs_tree.specs.declared.types.Ty.TheOpen.{Ty-F}
use Rattle.rbs_tree.specs.declared.types.Ty.TheViews.{out-Ty, out-MethodType, out-Param}
use Rattle.rbs_tree.specs.declared.types.BlockType.{BlockType}
use Rattle.rbs_tree.specs.declared.types.Field.{Field}
use Rattle.rbs_tree.specs.declared.types.Keyword.{Keyword}
use Rattle.rbs_tree.specs.declared.types.MethodType.{MethodType}
use Rattle.rbs_tree.specs.declared.types.Param.{Param}
use Rattle.sig_rules.specs.declared.files.Declared.{Declared}
use Rattle.sig_rules.specs.declared.line.Kind.{Kind}
use Rattle.sig_rules.specs.declared.line.Kind.TheVariants.{Instance, Singleton}
use Rattle.sig_rules.specs.declared.method.Method.{Method}
use Rattle.sig_rules.specs.declared.method.Visibility.{Visibility}
use Rattle.sig_rules.specs.declared.method.Visibility.TheVariants as visible
use Rattle.sig_rules.specs.declared.sort.Sort.{Sort}
use Rattle.sig_rules.specs.declared.sort.Sort.TheVariants as is
use Rattle.sig_rules.specs.Declarations.{Path}
use Rattle.sig_rules.specs.Methods.{method}
use Rattle.sig_rules.specs.Names.{resolve}
use Rattle.sig_rules.specs.Types.{sort, first_params}
use Rattle.steep_run.specs.Small.{is_nil, lone_word, has_required_alone}
use Rattle.steep_run.specs.Words.{same_word}

-- ---- methods

-- whether the one word of a path is `Integer`
abbrev pub is_integer : Option (List ℕ) → Bool
is_integer word = option_map_or (same_word (codes "Integer")) word false

-- whether a type is `::Integer`
abbrev pub is_core_integer_in : Ty-F Ty BlockType Field Keyword MethodType Param → Bool
is_core_integer_in (Ty-F.Instance name args) = name.absolute && (is_integer (lone_word name.path) && is_nil args)
is_core_integer_in _ = false

abbrev pub is_core_integer : Ty → Bool
is_core_integer ty = is_core_integer_in (out-Ty ty)

-- whether a parameter's type is `::Integer`
abbrev pub wants_integer : Param → Bool
wants_integer p = is_core_integer (out-Param p).ty

-- whether an overload has no variables, no block, and no parameters but required positional ones, which are Integers
abbrev pub wants_integers_alone : MethodType → Bool
wants_integers_alone m = is_nil (out-MethodType m).vars && (has_required_alone m && list_all wants_integer (out-MethodType m).required)

-- how many Integers an overload wants, where it wants nothing else
abbrev pub integers_of : MethodType → Option ℕ
integers_of m = if wants_integers_alone m then Some (length (out-MethodType m).required) else None

-- how many the one overload wants, where there is one alone
abbrev pub integers_wanted : List MethodType → Option ℕ
integers_wanted (overload ∷ []) = integers_of overload
integers_wanted _ = None

-- whether a method is plain for so many numbers
abbrev pub is_plain_for : ℕ → Method → Bool
is_plain_for n m = option_map_or (λ wanted. wanted == n) (integers_wanted m.overloads) false

abbrev pub is_public : Visibility → Bool
is_public visible.Public = true
is_public visible.Private = false

-- a method, unless it is private
abbrev pub if_public : Method → Option Method
if_public m = if is_public m.visible then Some m else None

-- the public method of a name
abbrev pub public_method : List Declared → Path → Kind → List ℕ → Option Method
public_method all path kind name = option_and_then if_public (method all path kind name)

-- ---- classes

-- a name of one word, as it is written in a Ruby text
abbrev pub name_of : List ℕ → TypeName
name_of word = record { absolute = false; path = word ∷ []; at = record { start = 0; end = 0 } }

abbrev pub is_class : Sort → Bool
is_class is.Class = true
is_class _ = false

-- whether a full name is of a class without type parameters, with a public `new` that is plain for no numbers
abbrev pub is_made_by_new : List Declared → Path → Bool
is_made_by_new all path =
    (is_class (sort all path) && is_nil (first_params all path))
    && option_map_or (is_plain_for 0) (public_method all path Singleton (codes "new")) false

abbrev pub if_made_by_new : List Declared → Path → Option Path
if_made_by_new all path = if is_made_by_new all path then Some path else None

-- the class of the object that `new` of a word makes; nothing encloses the word
abbrev pub class_made : List Declared → List ℕ → Option Path
class_made all word = option_and_then (if_made_by_new all) (resolve all [] (name_of word))

-- ---- calls

-- whether the instances' method of a name, if they have one, is plain for so many numbers
abbrev pub accepts : List Declared → List ℕ → ℕ → Path → Bool
accepts all name n path = option_map_or (is_plain_for n) (public_method all path Instance name) true

-- whether `new` of a word makes an object, and its method of a name, if it has one, is plain for so many numbers
abbrev pub fits : List Declared → List ℕ → List ℕ → ℕ → Bool
fits all word name n = option_map_or (accepts all name n) (class_made all word) false

-- whether `new` of a word makes an object that has no public method of a name
abbrev pub lacks : List Declared → List ℕ → List ℕ → Bool
lacks all word name = option_map_or (λ path. is_none (public_method all path Instance name)) (class_made all word) false
