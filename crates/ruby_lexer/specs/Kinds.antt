-- What is asked of the token before a place, by its kind.
use Rattle.std.specs.Prelude.{Bool, true, false, ◌&&◌, if◌then◌else◌, Option, Some, None}
use Rattle.ruby_lexer.specs.declared.kind.RubyKind.{RubyKind}
use Rattle.ruby_lexer.specs.declared.kind.RubyKind.TheVariants as k
use Rattle.ruby_lexer.specs.declared.kind.Keyword.{Keyword}
use Rattle.ruby_lexer.specs.declared.kind.Keyword.TheVariants as word
use Rattle.ruby_lexer.specs.declared.kind.Sign.{Sign}
use Rattle.ruby_lexer.specs.declared.kind.Sign.TheVariants as sign
use Rattle.ruby_lexer.specs.declared.state.Alias.{Alias}
use Rattle.ruby_lexer.specs.declared.state.Alias.TheVariants as alias

-- whether there is a token, of such a kind
abbrev pub is_so : (RubyKind → Bool) → Option RubyKind → Bool
is_so p None = false
is_so p (Some kind) = p kind

-- `)`, `]` or `}`
abbrev pub closes : Sign → Bool
closes sign.RightParen = true
closes sign.RightBracket = true
closes sign.RightBrace = true
closes other = false

-- the keywords that are values
abbrev pub is_value_word : Keyword → Bool
is_value_word word.End = true
is_value_word word.SelfWord = true
is_value_word word.Nil = true
is_value_word word.True = true
is_value_word word.False = true
is_value_word other = false

-- whether a value ends with the token
unfoldable pub ends_value : RubyKind → Bool
ends_value k.Identifier = true
ends_value k.Constant = true
ends_value (k.Keyword word) = is_value_word word
ends_value k.NamedWord = true
ends_value k.NamedConstant = true
ends_value k.NamedSelf = true
ends_value k.InstanceVariable = true
ends_value k.ClassVariable = true
ends_value k.GlobalVariable = true
ends_value k.Integer = true
ends_value k.Symbol = true
ends_value (k.Sign sign) = closes sign
ends_value k.StringClose = true
ends_value k.SymbolClose = true
ends_value k.RegexpClose = true
ends_value k.HeredocClose = true
ends_value k.WordsClose = true
ends_value other = false

-- whether the token is an identifier
abbrev pub is_identifier : RubyKind → Bool
is_identifier k.Identifier = true
is_identifier k.NamedWord = true
is_identifier k.NamedSelf = true
is_identifier other = false

-- the signs of a form between two values that don't drop a line's end
abbrev pub keeps_line : Sign → Bool
keeps_line sign.RightParen = true
keeps_line sign.RightBracket = true
keeps_line sign.RightBrace = true
keeps_line sign.Colon = true
keeps_line sign.Semicolon = true
keeps_line sign.Arrow = true
keeps_line sign.Bang = true
keeps_line sign.Tilde = true
keeps_line other = false

-- `[` or `{`
abbrev pub opens_list : Sign → Bool
opens_list sign.LeftBracket = true
opens_list sign.LeftBrace = true
opens_list other = false

-- whether a line's end behind the token is no token
abbrev pub drops_line_end : RubyKind → Bool
drops_line_end k.Assigning = true
drops_line_end (k.Sign sign) = if keeps_line sign then false else true
drops_line_end (k.Prefix sign) = opens_list sign
drops_line_end other = false

-- `.`, `&.` or `::`
abbrev pub links : Sign → Bool
links sign.Dot = true
links sign.SafeDot = true
links sign.ColonColon = true
links other = false

-- `def` or `alias`
abbrev pub defines : Keyword → Bool
defines word.Def = true
defines word.Alias = true
defines other = false

-- whether a name stands behind the token
abbrev pub precedes_name : RubyKind → Bool
precedes_name (k.Sign sign) = links sign
precedes_name (k.Keyword word) = defines word
precedes_name other = false

-- whether the token is a name
abbrev pub is_name : RubyKind → Bool
is_name k.NamedWord = true
is_name k.NamedConstant = true
is_name k.NamedSelf = true
is_name k.NamedOperator = true
is_name other = false

-- whether the token is a name or a symbol
abbrev pub is_name_or_symbol : RubyKind → Bool
is_name_or_symbol k.Symbol = true
is_name_or_symbol other = is_name other

-- whether the token is this keyword
abbrev pub is_alias_word : RubyKind → Bool
is_alias_word (k.Keyword word.Alias) = true
is_alias_word other = false

abbrev pub is_class_word : RubyKind → Bool
is_class_word (k.Keyword word.Class) = true
is_class_word other = false

-- whether the token is `...`
abbrev pub is_dots : RubyKind → Bool
is_dots (k.Sign sign.DotDotDot) = true
is_dots other = false

-- whether the token is `(` or `,`
abbrev pub precedes_parameter : RubyKind → Bool
precedes_parameter (k.Sign sign.LeftParen) = true
precedes_parameter (k.Sign sign.Comma) = true
precedes_parameter other = false

-- whether the token is the end of the text
abbrev pub is_end : RubyKind → Bool
is_end k.End = true
is_end other = false

-- whether an alias's first name comes next
abbrev pub is_first : Alias → Bool
is_first alias.First = true
is_first other = false

-- whether an alias's second name comes next
abbrev pub is_second : Alias → Bool
is_second alias.Second = true
is_second other = false

-- which name of an alias comes behind the token, by which it was before it
abbrev pub alias_behind : Alias → RubyKind → Alias
alias_behind before kind = if is_alias_word kind then alias.First else (if is_first before && is_name_or_symbol kind then alias.Second else alias.Neither)
