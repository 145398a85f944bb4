-- Kinds of token are compared by their numbers.
use Rattle.std.proofs.Common.{◌≡◌, ◌==◌, Bool, refl, sym, ◌∙◌, ap, subst}
use denote.Enum.Bare.{sameb}
use denote.Enum.Declared.{tag_of}
use Rattle.rbs_lexer.specs.declared.kind.Kind.{Kind}
use Rattle.rbs_lexer.specs.declared.kind.Kind.TheVariants as k
use Rattle.rbs_lexer.specs.contracts.kind.Kind.{the_type}
use Rattle.rbs_grammar.specs.Rules.{kind_number}
use Rattle.rbs_parser.specs.declared.sets.Set.{Set}
use Rattle.rbs_parser.specs.declared.sets.Set.TheVariants as set
use Rattle.rbs_parser.specs.Sets.{tokens_of}

tag_is : (a : Kind) → tag_of the_type a ≡ kind_number a
tag_is k.LeftParen = refl
tag_is k.RightParen = refl
tag_is k.LeftBracket = refl
tag_is k.RightBracket = refl
tag_is k.LeftBrace = refl
tag_is k.RightBrace = refl
tag_is k.Comma = refl
tag_is k.Colon = refl
tag_is k.ColonColon = refl
tag_is k.Dot = refl
tag_is k.Bar = refl
tag_is k.Ampersand = refl
tag_is k.Question = refl
tag_is k.Star = refl
tag_is k.StarStar = refl
tag_is k.Caret = refl
tag_is k.Arrow = refl
tag_is k.Equals = refl
tag_is k.Less = refl
tag_is k.Ellipsis = refl
tag_is k.Alias = refl
tag_is k.As = refl
tag_is k.AttrAccessor = refl
tag_is k.AttrReader = refl
tag_is k.AttrWriter = refl
tag_is k.Bool = refl
tag_is k.Bot = refl
tag_is k.Class = refl
tag_is k.Def = refl
tag_is k.End = refl
tag_is k.Extend = refl
tag_is k.False = refl
tag_is k.In = refl
tag_is k.Include = refl
tag_is k.Instance = refl
tag_is k.Interface = refl
tag_is k.Module = refl
tag_is k.Nil = refl
tag_is k.Out = refl
tag_is k.Prepend = refl
tag_is k.Private = refl
tag_is k.Public = refl
tag_is k.SelfWord = refl
tag_is k.Singleton = refl
tag_is k.Top = refl
tag_is k.True = refl
tag_is k.Type = refl
tag_is k.Unchecked = refl
tag_is k.Untyped = refl
tag_is k.Use = refl
tag_is k.Void = refl
tag_is k.Constant = refl
tag_is k.InterfaceName = refl
tag_is k.Word = refl
tag_is k.InstanceVariable = refl
tag_is k.ClassVariable = refl
tag_is k.Global = refl
tag_is k.Integer = refl
tag_is k.String = refl
tag_is k.Symbol = refl
tag_is k.SelfQuestion = refl
tag_is k.MethodName = refl

pub kinds_same : (a b : Kind) → sameb the_type a b ≡ (kind_number a == kind_number b)
kinds_same a b = ap (λ n. n == tag_of the_type b) (tag_is a) ∙ ap (λ n. kind_number a == n) (tag_is b)

pub is_one : (s : Set) (one kind : Kind) (found : Bool) → s ≡ set.One one → found ≡ sameb the_type one kind → (line : Bool) → found ≡ tokens_of s kind line
is_one s one kind found e h line = subst (λ z. found ≡ tokens_of z kind line) (sym e) (h ∙ kinds_same one kind)
