-- What a whole run of bytes is, at a place and before what follows it: a token of some kind, or skipped, or refused. So read
-- the lexical rules of RBS's `docs/syntax.md` in this project's profile.
use Rattle.std.specs.Prelude.{ℕ, ◌^◌, ◌-◌, ◌==◌, nat_le, Bool, true, false, not, ◌&&◌, ◌||◌, if◌then◌else◌, List, [], ◌∷◌, Option, Some, None, option_map}
use Rattle.rbs_lexer.specs.declared.kind.Kind.{Kind}
use Rattle.rbs_lexer.specs.declared.kind.Kind.TheVariants as k
use Rattle.rbs_lexer.specs.declared.place.Place.{Place}
use Rattle.rbs_lexer.specs.declared.reading.Reading.{Reading}
use Rattle.rbs_lexer.specs.declared.reading.Reading.TheVariants.{Token, Skipped, Refused}
use Rattle.rbs_lexer.specs.Bytes.{begins_with_digit}
use Rattle.rbs_lexer.specs.Words.{is_word, is_marked, word_kind}
use Rattle.rbs_lexer.specs.Numbers.{is_digits, value_from}
use Rattle.rbs_lexer.specs.Quotes.{is_string, is_backquoted}
use Rattle.rbs_lexer.specs.Signs.{sign_kind, special_kind, is_operator}
use Rattle.rbs_lexer.specs.Gaps.{is_gap, annotation}
use Rattle.rbs_lexer.specs.Places.{has_name, takes_equals}

-- of what kind a run is, and of which others none: by the run and what follows it
abbrev pub Language : Type 0
Language = List ℕ → List ℕ → Option Reading

-- the first reading, or else the second
abbrev pub or_else : Option Reading → Option Reading → Option Reading
or_else None other = other
or_else (Some reading) other = Some reading

-- a run of one of two languages, of the first where it is of both
abbrev pub either : Language → Language → Language
either first second run next = or_else (first run next) (second run next)

-- a token of this kind where the run passes
abbrev pub of_kind : Kind → Bool → Option Reading
of_kind kind passes = if passes then Some (Token kind) else None

-- this byte, and behind it what passes
abbrev pub behind : ℕ → (List ℕ → Bool) → List ℕ → Bool
behind b passes [] = false
behind b passes (c ∷ run) = c == b && passes run

-- a word that doesn't begin with a digit
unfoldable pub word : Language
word run next = if not (begins_with_digit run) && is_word run then Some (Token (word_kind run)) else None

-- the reading of an integer's digits, by the greatest number that 128 bits hold
abbrev pub sized : ℕ → List ℕ → Option Reading
sized limit digits = if is_digits digits then (if nat_le (value_from 0 digits) limit then Some (Token k.Integer) else Some Refused) else None

-- digits, with a `-` or without
unfoldable pub integer : Language
integer [] next = None
integer (b ∷ run) next = if b == 45 then sized (2 ^ 127) run else sized (2 ^ 127 - 1) (b ∷ run)

-- `:` and a word, a word with a mark, an operator or a string
unfoldable pub is_symbol : List ℕ → Bool
is_symbol = behind 58 (λ run. is_word run || (is_marked true run || (is_operator run || is_string run)))

-- `@`, `@@` or `$` and a word
unfoldable pub variable : Language
variable = either (λ run next. of_kind k.InstanceVariable (behind 64 is_word run))
    (either (λ run next. of_kind k.ClassVariable (behind 64 (behind 64 is_word) run)) (λ run next. of_kind k.Global (behind 36 is_word run)))

-- blanks and comments
abbrev pub gap : Language
gap run next = if is_gap run then Some Skipped else None

-- a string
abbrev pub string : Language
string run next = of_kind k.String (is_string run)

-- a symbol
abbrev pub symbol : Language
symbol run next = of_kind k.Symbol (is_symbol run)

-- a sign
abbrev pub sign : Language
sign run next = option_map Token (sign_kind run)

-- a name that is a token of its own
abbrev pub special : Language
special run next = option_map Token (special_kind run)

-- what can stand anywhere
unfoldable pub ordinary : Language
ordinary = either gap (either annotation (either word (either integer (either string (either symbol (either variable sign))))))

-- what only the name of a method can be: a word with a mark, one that begins with a digit, an operator, a text between backquotes
unfoldable pub is_method_name : Bool → List ℕ → Bool
is_method_name equals run = is_marked equals run || ((begins_with_digit run && is_word run) || (is_operator run || is_backquoted run))

-- such a run, at a place
unfoldable pub name : Place → Language
name place run next = of_kind k.MethodName (is_method_name (takes_equals place next) run)

-- what can stand at a place: where a name may stand, its reading comes first
unfoldable pub reading : Place → Language
reading place = if has_name place then either special (either (name place) ordinary) else ordinary
