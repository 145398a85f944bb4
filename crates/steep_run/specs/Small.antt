-- Small signatures: classes with methods that take Integers. Whether a signature is small is told by its tree, and not by how it is
-- written.
use Rattle.std.specs.Prelude.{ℕ, Bool, true, false, not, ◌&&◌, ◌||◌, is_some, is_none, List, [], ◌∷◌, codes, Option, None, Some, if◌then◌else◌}
use Rattle.std.specs.List.{list_all, list_any}
use Rattle.std.specs.Option.{option_map_or}
use Rattle.rbs_lexer.specs.Words.{is_word}
use Rattle.rbs_tree.specs.declared.names.TypeName.{TypeName}
use Rattle.rbs_tree.specs.declared.types.Ty.{Ty}
use Rattle.rbs_tree.specs.declared.types.Ty.TheOpen.{Ty-F}
use Rattle.rbs_tree.specs.declared.types.Ty.TheViews.{out-Ty, out-MethodType, out-Param}
use Rattle.rbs_tree.specs.declared.types.BlockType.{BlockType}
use Rattle.rbs_tree.specs.declared.types.Field.{Field}
use Rattle.rbs_tree.specs.declared.types.Keyword.{Keyword}
use Rattle.rbs_tree.specs.declared.types.MethodType.{MethodType}
use Rattle.rbs_tree.specs.declared.types.Param.{Param}
use Rattle.rbs_tree.specs.declared.decls.Side.{Side}
use Rattle.rbs_tree.specs.declared.decls.Side.TheVariants as side
use Rattle.rbs_tree.specs.declared.decls.Decl.{Decl}
use Rattle.rbs_tree.specs.declared.decls.Decl.TheOpen.{Decl-F, Member-F}
use Rattle.rbs_tree.specs.declared.decls.Decl.TheViews.{out-Decl, out-Member}
use Rattle.rbs_tree.specs.declared.decls.Member.{Member}
use Rattle.sig_rules.specs.Lines.{members}
use Rattle.rbs_grammar.specs.Parse.{Tree}
use Rattle.steep_run.specs.Words.{is_upper, is_digit, begins, same_word, is_interface_name}

-- whether a list has no items
abbrev pub is_nil : {A : Type 0} → List A → Bool
is_nil [] = true
is_nil (x ∷ xs) = false

-- the word that alone is a path, if it is one word
abbrev pub lone_word : List (List ℕ) → Option (List ℕ)
lone_word (word ∷ []) = Some word
lone_word _ = None

-- the word of a name that is one word without `::` before it
abbrev pub word_of : TypeName → Option (List ℕ)
word_of name = if name.absolute then None else lone_word name.path

-- ---- types

-- the word of a type that is an instance of a class named by one word, without arguments
abbrev pub class_in : Ty-F Ty BlockType Field Keyword MethodType Param → Option (List ℕ)
class_in (Ty-F.Instance name args) = if is_nil args then word_of name else None
class_in _ = None

abbrev pub class_of : Ty → Option (List ℕ)
class_of ty = class_in (out-Ty ty)

-- whether a type is `Integer`
abbrev pub is_integer : Ty → Bool
is_integer ty = option_map_or (same_word (codes "Integer")) (class_of ty) false

-- ---- methods

-- a parameter takes an Integer, and has a name or none
abbrev pub takes_integer : Param → Bool
takes_integer p = is_integer (out-Param p).ty

-- a method type has no parameters but required positional ones, and no block
abbrev pub has_required_alone : MethodType → Bool
has_required_alone m =
    (is_nil (out-MethodType m).optional && (is_none (out-MethodType m).rest && is_nil (out-MethodType m).trailing))
    && (is_nil (out-MethodType m).keywords && (is_none (out-MethodType m).rest_keywords && is_none (out-MethodType m).block))

-- it has no variables, its parameters take Integers, and its result is an instance of a class
abbrev pub is_small_overload : MethodType → Bool
is_small_overload m =
    (is_nil (out-MethodType m).vars && has_required_alone m)
    && (list_all takes_integer (out-MethodType m).required && is_some (class_of (out-MethodType m).«result»))

abbrev pub is_small_overloads : List MethodType → Bool
is_small_overloads (overload ∷ []) = is_small_overload overload
is_small_overloads _ = false

-- whether a word begins as the name of a class or an interface
abbrev pub begins_as_type : List ℕ → Bool
begins_as_type word = begins is_upper word || is_interface_name word

-- a method's name: a word that begins neither with a digit nor as a type's name, and isn't `initialize`
abbrev pub is_method_name : List ℕ → Bool
is_method_name name = is_word name && (not (begins is_digit name) && (not (begins_as_type name) && not (same_word name (codes "initialize"))))

abbrev pub is_of_instances : Side → Bool
is_of_instances side.Instance = true
is_of_instances side.Singleton = false
is_of_instances side.Both = false

-- a member: a method of the instances, with no word of visibility, one overload and no `...`
abbrev pub is_small_in : Member-F Decl Member → Bool
is_small_in (Member-F.Def name at side public overloads more) =
    is_method_name name && (is_of_instances side && (is_none public && (is_small_overloads overloads && not more)))
is_small_in _ = false

abbrev pub is_small_member : Member → Bool
is_small_member member = is_small_in (out-Member member)

-- ---- classes

-- a declaration: a class with a name of one word, no type parameters, no superclass, and such members
abbrev pub is_class_in : Decl-F Decl Member → Bool
is_class_in (Decl-F.Class name params superclass members) =
    is_some (word_of name) && (is_nil params && (is_none superclass && list_all is_small_member members))
is_class_in _ = false

abbrev pub is_small_class : Decl → Bool
is_small_class decl = is_class_in (out-Decl decl)

-- ---- names

-- a word in front of others, if there is one
abbrev pub with_word : Option (List ℕ) → List (List ℕ) → List (List ℕ)
with_word None words = words
with_word (Some word) words = word ∷ words

-- the words that name some items, of those that have one
abbrev pub words_by : {A : Type 0} → (A → Option (List ℕ)) → List A → List (List ℕ)
words_by word [] = []
words_by word (x ∷ xs) = with_word (word x) (words_by word xs)

-- the name of a member that is a method
abbrev pub method_name_in : Member-F Decl Member → Option (List ℕ)
method_name_in (Member-F.Def name at side public overloads more) = Some name
method_name_in _ = None

abbrev pub method_name : Member → Option (List ℕ)
method_name member = method_name_in (out-Member member)

-- the one word that names a declaration that is a class
abbrev pub class_word_in : Decl-F Decl Member → Option (List ℕ)
class_word_in (Decl-F.Class name params superclass members) = word_of name
class_word_in _ = None

abbrev pub class_word : Decl → Option (List ℕ)
class_word decl = class_word_in (out-Decl decl)

-- whether no word stands twice
abbrev pub all_distinct : List (List ℕ) → Bool
all_distinct [] = true
all_distinct (word ∷ words) = not (list_any (same_word word) words) && all_distinct words

-- whether no method stands twice in a declaration
abbrev pub has_distinct_methods : Decl → Bool
has_distinct_methods decl = all_distinct (words_by method_name (members decl))

-- ---- small trees

-- a small tree: its declarations are such classes, no class stands twice, and no method twice in a class
abbrev pub is_small : Tree → Bool
is_small tree = list_all is_small_class tree && (all_distinct (words_by class_word tree) && list_all has_distinct_methods tree)
