-- The numbers of the kinds of tokens: each kind that a text can have has one of its own, below 128.
use Rattle.std.specs.Prelude.{ℕ}
use Rattle.ruby_lexer.specs.declared.kind.RubyKind.{RubyKind}
use Rattle.ruby_lexer.specs.declared.kind.RubyKind.TheVariants as k
use Rattle.ruby_lexer.specs.declared.kind.Keyword.{Keyword}
use Rattle.ruby_lexer.specs.declared.kind.Keyword.TheVariants as w
use Rattle.ruby_lexer.specs.declared.kind.Sign.{Sign}
use Rattle.ruby_lexer.specs.declared.kind.Sign.TheVariants as s

-- of a keyword
abbrev pub keyword_number : Keyword → ℕ
keyword_number w.Alias = 29
keyword_number w.And = 30
keyword_number w.Begin = 31
keyword_number w.Break = 32
keyword_number w.Case = 33
keyword_number w.Class = 34
keyword_number w.Def = 35
keyword_number w.Defined = 36
keyword_number w.Do = 37
keyword_number w.Else = 38
keyword_number w.Elsif = 39
keyword_number w.End = 40
keyword_number w.Ensure = 41
keyword_number w.False = 42
keyword_number w.If = 43
keyword_number w.Module = 44
keyword_number w.Next = 45
keyword_number w.Nil = 46
keyword_number w.Not = 47
keyword_number w.Or = 48
keyword_number w.Rescue = 49
keyword_number w.Return = 50
keyword_number w.SelfWord = 51
keyword_number w.Super = 52
keyword_number w.Then = 53
keyword_number w.True = 54
keyword_number w.Unless = 55
keyword_number w.Until = 56
keyword_number w.When = 57
keyword_number w.While = 58
keyword_number w.Yield = 59
keyword_number w.File = 60

-- of a sign
abbrev pub sign_number : Sign → ℕ
sign_number s.LeftParen = 61
sign_number s.RightParen = 62
sign_number s.LeftBracket = 63
sign_number s.RightBracket = 64
sign_number s.LeftBrace = 65
sign_number s.RightBrace = 66
sign_number s.Comma = 67
sign_number s.Dot = 68
sign_number s.SafeDot = 69
sign_number s.Colon = 70
sign_number s.ColonColon = 71
sign_number s.Semicolon = 72
sign_number s.Rocket = 73
sign_number s.Arrow = 74
sign_number s.Equals = 75
sign_number s.Question = 76
sign_number s.Bar = 77
sign_number s.BarBar = 78
sign_number s.Ampersand = 79
sign_number s.AmpersandAmpersand = 80
sign_number s.Bang = 81
sign_number s.Tilde = 82
sign_number s.Plus = 83
sign_number s.Minus = 84
sign_number s.Star = 85
sign_number s.Slash = 86
sign_number s.Percent = 87
sign_number s.StarStar = 88
sign_number s.EqualsEquals = 89
sign_number s.BangEquals = 90
sign_number s.EqualsEqualsEquals = 91
sign_number s.EqualsTilde = 92
sign_number s.BangTilde = 93
sign_number s.Spaceship = 94
sign_number s.Less = 95
sign_number s.LessEquals = 96
sign_number s.Greater = 97
sign_number s.GreaterEquals = 98
sign_number s.LessLess = 99
sign_number s.GreaterGreater = 100
sign_number s.Caret = 101
sign_number s.DotDot = 102
sign_number s.DotDotDot = 103

-- of a sign of two forms, where it stands before a value; no other sign has a second form
abbrev pub prefix_number : Sign → ℕ
prefix_number s.Minus = 104
prefix_number s.Plus = 105
prefix_number s.Star = 106
prefix_number s.StarStar = 107
prefix_number s.Ampersand = 108
prefix_number s.LeftBracket = 109
prefix_number s.ColonColon = 110
prefix_number s.LessLess = 111
prefix_number s.LeftBrace = 112
prefix_number other = 127

-- Of a kind of token.
abbrev pub kind_number : RubyKind → ℕ
kind_number k.Newline = 0
kind_number k.End = 1
kind_number k.Identifier = 2
kind_number k.Constant = 3
kind_number k.Label = 4
kind_number k.NamedWord = 5
kind_number k.NamedConstant = 6
kind_number k.NamedSelf = 7
kind_number k.NamedOperator = 8
kind_number k.InstanceVariable = 9
kind_number k.ClassVariable = 10
kind_number k.GlobalVariable = 11
kind_number k.Integer = 12
kind_number k.Symbol = 13
kind_number k.Assigning = 14
kind_number k.StringOpen = 15
kind_number k.StringClose = 16
kind_number k.SymbolOpen = 17
kind_number k.SymbolClose = 18
kind_number k.RegexpOpen = 19
kind_number k.RegexpClose = 20
kind_number k.HeredocOpen = 21
kind_number k.HeredocClose = 22
kind_number k.Part = 23
kind_number k.CodeOpen = 24
kind_number k.CodeClose = 25
kind_number k.WordsOpen = 26
kind_number k.Word = 27
kind_number k.WordsClose = 28
kind_number (k.Keyword word) = keyword_number word
kind_number (k.Sign sign) = sign_number sign
kind_number (k.Prefix sign) = prefix_number sign
