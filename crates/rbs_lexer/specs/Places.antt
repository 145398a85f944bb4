-- Places where the name of a method may stand, by the tokens before them.
use Rattle.std.specs.Prelude.{ℕ, Bool, true, false, ◌||◌, if◌then◌else◌, List, codes, bytes_eq}
use Rattle.rbs_lexer.specs.declared.kind.Kind.{Kind}
use Rattle.rbs_lexer.specs.declared.kind.Kind.TheVariants as k
use Rattle.rbs_lexer.specs.declared.place.Place.{Place}
use Rattle.rbs_lexer.specs.declared.place.Place.TheVariants as at
use Rattle.rbs_lexer.specs.Bytes.{begins_with}

-- whether a token of this kind is a name where one may stand: words, what only a name can be, and the operators `|` and `&`
abbrev pub is_name : Kind → Bool
is_name k.LeftParen = false
is_name k.RightParen = false
is_name k.LeftBracket = false
is_name k.RightBracket = false
is_name k.LeftBrace = false
is_name k.RightBrace = false
is_name k.Comma = false
is_name k.Colon = false
is_name k.ColonColon = false
is_name k.Dot = false
is_name k.Question = false
is_name k.Star = false
is_name k.StarStar = false
is_name k.Caret = false
is_name k.Arrow = false
is_name k.Equals = false
is_name k.Less = false
is_name k.Ellipsis = false
is_name k.InstanceVariable = false
is_name k.ClassVariable = false
is_name k.Global = false
is_name k.Integer = false
is_name k.String = false
is_name k.Symbol = false
is_name _ = true

-- behind `def` and the words of attributes a name may stand, behind `alias` its new name, and behind `self` a `.`
abbrev pub behind_word : Kind → Place
behind_word k.Def = at.Name
behind_word k.AttrReader = at.Name
behind_word k.AttrWriter = at.Name
behind_word k.AttrAccessor = at.Name
behind_word k.Alias = at.NewName
behind_word k.SelfWord = at.BehindSelf
behind_word _ = at.Plain

-- a `.` leads there
abbrev pub dot_leads : Place → Kind → Place
dot_leads place k.Dot = place
dot_leads place kind = behind_word kind

-- `self` and `self?`
abbrev pub is_self : List ℕ → Bool
is_self text = bytes_eq text (codes "self") || bytes_eq text (codes "self?")

-- a name leads to one of two places, by whether it is a self
abbrev pub behind_name : Place → Place → Kind → List ℕ → Place
behind_name self other kind text = if is_name kind then (if is_self text then self else other) else behind_word kind

-- the place behind a token that stands at a place
unfoldable pub after : Place → Kind → List ℕ → Place
after at.Plain kind text = behind_word kind
after at.BehindSelf kind text = dot_leads at.Name kind
after at.Name kind text = behind_name at.BehindSelf at.Plain kind text
after at.NewName kind text = behind_name at.OldNameBehindSelf at.OldName kind text
after at.OldName kind text = behind_name at.BehindOldSelf at.Plain kind text
after at.OldNameBehindSelf k.Dot text = at.NewName
after at.OldNameBehindSelf kind text = behind_name at.BehindOldSelf at.Plain kind text
after at.BehindOldSelf kind text = dot_leads at.OldName kind

-- whether a name may stand at the place
abbrev pub has_name : Place → Bool
has_name at.Plain = false
has_name at.BehindSelf = false
has_name at.BehindOldSelf = false
has_name _ = true

-- whether a word's `=` belongs to the name: for a method or an attribute, exactly where `:` stands directly behind it
abbrev pub takes_equals : Place → List ℕ → Bool
takes_equals at.Name next = begins_with 58 next
takes_equals _ next = true
