-- The rules that count as open while they are read, sets of kinds of token, and what is known of each rule without its body.
use Rattle.std.specs.Prelude.{ℕ, Bool, true, false, ◌&&◌, ◌||◌, ◌==◌, List, [], ◌∷◌}
use Rattle.rbs_lexer.specs.declared.kind.Kind.{Kind}
use Rattle.rbs_lexer.specs.declared.kind.Kind.TheVariants as k
use Rattle.rbs_tree.specs.declared.types.Ty.{Ty}
use Rattle.rbs_tree.specs.declared.types.MethodType.{MethodType}
use Rattle.rbs_tree.specs.declared.decls.Decl.{Decl}
use Rattle.rbs_grammar.specs.declared.stage.Stage.{Stage}
use Rattle.rbs_grammar.specs.declared.stage.Stage.TheVariants as at

pub data Rule : Type 0 where
  -- a declaration
  declaration : Rule
  -- a type
  ty : Rule
  -- the parameters, the block and the result of a function
  function : Rule

-- the tree of a rule; that of a function has no variables
abbrev pub Value : Rule → Type 0
Value declaration = Decl
Value ty = Ty
Value function = MethodType

-- a set of tokens: by the kind, and by whether the token begins a line
abbrev pub Kinds : Type 0
Kinds = Kind → Bool → Bool

abbrev pub kind_number : Kind → ℕ
kind_number k.LeftParen = 0
kind_number k.RightParen = 1
kind_number k.LeftBracket = 2
kind_number k.RightBracket = 3
kind_number k.LeftBrace = 4
kind_number k.RightBrace = 5
kind_number k.Comma = 6
kind_number k.Colon = 7
kind_number k.ColonColon = 8
kind_number k.Dot = 9
kind_number k.Bar = 10
kind_number k.Ampersand = 11
kind_number k.Question = 12
kind_number k.Star = 13
kind_number k.StarStar = 14
kind_number k.Caret = 15
kind_number k.Arrow = 16
kind_number k.Equals = 17
kind_number k.Less = 18
kind_number k.Ellipsis = 19
kind_number k.Alias = 20
kind_number k.As = 21
kind_number k.AttrAccessor = 22
kind_number k.AttrReader = 23
kind_number k.AttrWriter = 24
kind_number k.Bool = 25
kind_number k.Bot = 26
kind_number k.Class = 27
kind_number k.Def = 28
kind_number k.End = 29
kind_number k.Extend = 30
kind_number k.False = 31
kind_number k.In = 32
kind_number k.Include = 33
kind_number k.Instance = 34
kind_number k.Interface = 35
kind_number k.Module = 36
kind_number k.Nil = 37
kind_number k.Out = 38
kind_number k.Prepend = 39
kind_number k.Private = 40
kind_number k.Public = 41
kind_number k.SelfWord = 42
kind_number k.Singleton = 43
kind_number k.Top = 44
kind_number k.True = 45
kind_number k.Type = 46
kind_number k.Unchecked = 47
kind_number k.Untyped = 48
kind_number k.Use = 49
kind_number k.Void = 50
kind_number k.Constant = 51
kind_number k.InterfaceName = 52
kind_number k.Word = 53
kind_number k.InstanceVariable = 54
kind_number k.ClassVariable = 55
kind_number k.Global = 56
kind_number k.Integer = 57
kind_number k.String = 58
kind_number k.Symbol = 59
kind_number k.SelfQuestion = 60
kind_number k.MethodName = 61

abbrev pub kinds : List Kind
kinds = k.LeftParen ∷ k.RightParen ∷ k.LeftBracket ∷ k.RightBracket ∷ k.LeftBrace ∷ k.RightBrace ∷ k.Comma ∷ k.Colon
    ∷ k.ColonColon ∷ k.Dot ∷ k.Bar ∷ k.Ampersand ∷ k.Question ∷ k.Star ∷ k.StarStar ∷ k.Caret
    ∷ k.Arrow ∷ k.Equals ∷ k.Less ∷ k.Ellipsis ∷ k.Alias ∷ k.As ∷ k.AttrAccessor ∷ k.AttrReader
    ∷ k.AttrWriter ∷ k.Bool ∷ k.Bot ∷ k.Class ∷ k.Def ∷ k.End ∷ k.Extend ∷ k.False
    ∷ k.In ∷ k.Include ∷ k.Instance ∷ k.Interface ∷ k.Module ∷ k.Nil ∷ k.Out ∷ k.Prepend
    ∷ k.Private ∷ k.Public ∷ k.SelfWord ∷ k.Singleton ∷ k.Top ∷ k.True ∷ k.Type ∷ k.Unchecked
    ∷ k.Untyped ∷ k.Use ∷ k.Void ∷ k.Constant ∷ k.InterfaceName ∷ k.Word ∷ k.InstanceVariable ∷ k.ClassVariable
    ∷ k.Global ∷ k.Integer ∷ k.String ∷ k.Symbol ∷ k.SelfQuestion ∷ k.MethodName ∷ []

abbrev pub every : Kinds → List Kind → Bool
every p [] = true
every p (kind ∷ more) = (p kind true && p kind false) && every p more

abbrev pub every_kind : Kinds → Bool
every_kind p = every p kinds

-- of each stage of a list
abbrev pub every_stage : (Stage → Bool) → Bool
every_stage p = p at.Open && (p at.Optional && (p at.Trailing && (p at.Keyword && p at.Done)))

-- of some stage of a list
abbrev pub some_stage : (Stage → Bool) → Bool
some_stage p = p at.Open || (p at.Optional || (p at.Trailing || (p at.Keyword || p at.Done)))

-- ---- sets of kinds

abbrev pub is : Kind → Kinds
is a b _ = kind_number a == kind_number b

abbrev pub no_kind : Kinds
no_kind _ _ = false

-- words that begin with a small letter, the words of the grammar among them
abbrev pub is_small : Kinds
is_small k.Word _ = true
is_small k.Alias _ = true
is_small k.As _ = true
is_small k.AttrAccessor _ = true
is_small k.AttrReader _ = true
is_small k.AttrWriter _ = true
is_small k.Bool _ = true
is_small k.Bot _ = true
is_small k.Class _ = true
is_small k.Def _ = true
is_small k.End _ = true
is_small k.Extend _ = true
is_small k.False _ = true
is_small k.In _ = true
is_small k.Include _ = true
is_small k.Instance _ = true
is_small k.Interface _ = true
is_small k.Module _ = true
is_small k.Nil _ = true
is_small k.Out _ = true
is_small k.Prepend _ = true
is_small k.Private _ = true
is_small k.Public _ = true
is_small k.SelfWord _ = true
is_small k.Singleton _ = true
is_small k.Top _ = true
is_small k.True _ = true
is_small k.Type _ = true
is_small k.Unchecked _ = true
is_small k.Untyped _ = true
is_small k.Use _ = true
is_small k.Void _ = true
is_small _ _ = false

-- the words that are types by themselves, and `singleton`, which begins one: no names of types
abbrev pub is_own_type : Kinds
is_own_type k.True _ = true
is_own_type k.False _ = true
is_own_type k.SelfWord _ = true
is_own_type k.Instance _ = true
is_own_type k.Class _ = true
is_own_type k.Bool _ = true
is_own_type k.Untyped _ = true
is_own_type k.Nil _ = true
is_own_type k.Top _ = true
is_own_type k.Bot _ = true
is_own_type k.Void _ = true
is_own_type k.Singleton _ = true
is_own_type _ _ = false

-- all words
abbrev pub is_word : Kinds
is_word k.Constant _ = true
is_word k.InterfaceName _ = true
is_word kind line = is_small kind line

-- what can be the name of a method, but for `self` and `self?`
abbrev pub is_other_name : Kinds
is_other_name k.SelfWord _ = false
is_other_name k.MethodName _ = true
is_other_name k.Bar _ = true
is_other_name k.Ampersand _ = true
is_other_name kind line = is_word kind line

-- what can be the name of a method
abbrev pub is_name : Kinds
is_name k.SelfWord _ = true
is_name k.SelfQuestion _ = true
is_name kind line = is_other_name kind line

-- the words of attributes
abbrev pub is_attribute : Kinds
is_attribute k.AttrReader _ = true
is_attribute k.AttrWriter _ = true
is_attribute k.AttrAccessor _ = true
is_attribute _ _ = false

-- the words of visibility
abbrev pub is_visibility : Kinds
is_visibility k.Public _ = true
is_visibility k.Private _ = true
is_visibility _ _ = false

-- the words before a mixin
abbrev pub is_mixin : Kinds
is_mixin k.Include _ = true
is_mixin k.Extend _ = true
is_mixin k.Prepend _ = true
is_mixin _ _ = false

-- those of the kinds that stand on the line of the token before
abbrev pub on_the_line : Kinds → Kinds
on_the_line p kind true = false
on_the_line p kind false = p kind false

-- ---- the rules from outside

-- the kinds that begin a rule
abbrev pub start : Rule → Kinds
start declaration k.Class _ = true
start declaration k.Module _ = true
start declaration k.Interface _ = true
start declaration k.Type _ = true
start declaration k.Constant _ = true
start declaration k.ColonColon _ = true
start declaration k.Global _ = true
start declaration _ _ = false
start ty k.LeftParen _ = true
start ty k.LeftBracket _ = true
start ty k.LeftBrace _ = true
start ty k.Caret _ = true
start ty k.Integer _ = true
start ty k.String _ = true
start ty k.Symbol _ = true
start ty k.ColonColon _ = true
start ty kind line = is_word kind line
start function k.LeftParen _ = true
start function k.Question _ = true
start function k.LeftBrace _ = true
start function k.Arrow _ = true
start function _ _ = false

-- the kinds with which a rule that could end goes on
abbrev pub after : Rule → Kinds
after declaration k.LeftBracket _ = true
after declaration k.Question _ = true
after declaration k.Bar _ = true
after declaration k.Ampersand _ = true
after declaration _ _ = false
after ty k.LeftBracket _ = true
after ty k.Question _ = true
after ty k.Bar _ = true
after ty k.Ampersand _ = true
after ty _ _ = false
after function k.LeftBracket _ = true
after function k.Question _ = true
after function _ _ = false

-- the kinds before which a rule may not end
abbrev pub bar : Rule → Kinds
bar _ k.ColonColon _ = true
bar _ _ _ = false
