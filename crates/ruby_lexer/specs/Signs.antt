-- Signs, and which form of a sign stands at a place.
use Rattle.std.specs.Prelude.{ℕ, ◌==◌, Bool, true, false, not, ◌&&◌, ◌||◌, if◌then◌else◌, List, [], ◌∷◌, length, Option, Some, None, codes}
use Rattle.ruby_lexer.specs.declared.kind.Sign.{Sign}
use Rattle.ruby_lexer.specs.declared.kind.Sign.TheVariants as sign
use Rattle.ruby_lexer.specs.declared.signs.Meaning.{Meaning}
use Rattle.ruby_lexer.specs.declared.signs.Meaning.TheVariants as is
use Rattle.ruby_lexer.specs.declared.signs.Found.{Found}
use Rattle.ruby_lexer.specs.declared.state.State.{State}
use Rattle.ruby_lexer.specs.Characters.{has_front}
use Rattle.ruby_lexer.specs.Lines.{blank_len, line_end_len}
use Rattle.ruby_lexer.specs.Kinds.{is_so, ends_value, is_identifier}

-- the signs of three characters
abbrev pub long_signs : List (List ℕ × Meaning)
long_signs = (codes "===", is.Sign sign.EqualsEqualsEquals) ∷ (codes "<=>", is.Sign sign.Spaceship) ∷ (codes "...", is.Sign sign.DotDotDot)
    ∷ (codes "**=", is.Assigning) ∷ (codes "<<=", is.Assigning) ∷ (codes ">>=", is.Assigning) ∷ (codes "&&=", is.Assigning) ∷ (codes "||=", is.Assigning) ∷ []

-- the signs of two characters
abbrev pub double_signs : List (List ℕ × Meaning)
double_signs = (codes "&.", is.Sign sign.SafeDot) ∷ (codes "::", is.Sign sign.ColonColon) ∷ (codes "=>", is.Sign sign.Rocket) ∷ (codes "->", is.Sign sign.Arrow)
    ∷ (codes "||", is.Sign sign.BarBar) ∷ (codes "&&", is.Sign sign.AmpersandAmpersand) ∷ (codes "**", is.Sign sign.StarStar) ∷ (codes "==", is.Sign sign.EqualsEquals)
    ∷ (codes "!=", is.Sign sign.BangEquals) ∷ (codes "=~", is.Sign sign.EqualsTilde) ∷ (codes "!~", is.Sign sign.BangTilde) ∷ (codes "<=", is.Sign sign.LessEquals)
    ∷ (codes ">=", is.Sign sign.GreaterEquals) ∷ (codes "<<", is.Sign sign.LessLess) ∷ (codes ">>", is.Sign sign.GreaterGreater) ∷ (codes "..", is.Sign sign.DotDot)
    ∷ (codes "+=", is.Assigning) ∷ (codes "-=", is.Assigning) ∷ (codes "*=", is.Assigning) ∷ (codes "/=", is.Assigning) ∷ (codes "%=", is.Assigning)
    ∷ (codes "&=", is.Assigning) ∷ (codes "|=", is.Assigning) ∷ (codes "^=", is.Assigning) ∷ []

-- the signs of one character
abbrev pub single_signs : List (List ℕ × Meaning)
single_signs = (codes "(", is.Sign sign.LeftParen) ∷ (codes ")", is.Sign sign.RightParen) ∷ (codes "[", is.Sign sign.LeftBracket) ∷ (codes "]", is.Sign sign.RightBracket)
    ∷ (codes "{", is.Sign sign.LeftBrace) ∷ (codes "}", is.Sign sign.RightBrace) ∷ (codes ",", is.Sign sign.Comma) ∷ (codes ".", is.Sign sign.Dot)
    ∷ (codes ":", is.Sign sign.Colon) ∷ (codes ";", is.Sign sign.Semicolon) ∷ (codes "=", is.Sign sign.Equals) ∷ (codes "?", is.Sign sign.Question)
    ∷ (codes "|", is.Sign sign.Bar) ∷ (codes "&", is.Sign sign.Ampersand) ∷ (codes "!", is.Sign sign.Bang) ∷ (codes "~", is.Sign sign.Tilde)
    ∷ (codes "+", is.Sign sign.Plus) ∷ (codes "-", is.Sign sign.Minus) ∷ (codes "*", is.Sign sign.Star) ∷ (codes "/", is.Sign sign.Slash)
    ∷ (codes "%", is.Sign sign.Percent) ∷ (codes "<", is.Sign sign.Less) ∷ (codes ">", is.Sign sign.Greater) ∷ (codes "^", is.Sign sign.Caret) ∷ []

-- the first of these signs with which the text begins, or else another
abbrev pub first_sign : List (List ℕ × Meaning) → List ℕ → Option Found → Option Found
first_sign [] text other = other
first_sign (e ∷ es) text other = if has_front e.0 text then Some (record { meaning = e.1; len = length e.0 }) else first_sign es text other

-- whether a byte stands second in some sign
abbrev pub is_second : ℕ → Bool
is_second b = b == 61 || (b == 46 || (b == 58 || (b == 62 || (b == 60 || (b == 124 || (b == 38 || (b == 42 || b == 126)))))))

-- whether the second byte does so: else no sign has two characters or more here
abbrev pub may_be_long : List ℕ → Bool
may_be_long [] = false
may_be_long (a ∷ []) = false
may_be_long (a ∷ b ∷ more) = is_second b

-- the longest sign
unfoldable pub sign_here : List ℕ → Option Found
sign_here text = first_sign long_signs text (first_sign double_signs text (first_sign single_signs text None))

-- whether the sign is `<<`
abbrev pub is_less_less : Meaning → Bool
is_less_less (is.Sign sign.LessLess) = true
is_less_less other = false

-- how many bytes a sign has at least
abbrev pub least_len : Meaning → ℕ
least_len meaning = if is_less_less meaning then 2 else 1

-- whether the sign has a prefix form
abbrev pub has_prefix_form : Sign → Bool
has_prefix_form sign.Minus = true
has_prefix_form sign.Plus = true
has_prefix_form sign.Star = true
has_prefix_form sign.StarStar = true
has_prefix_form sign.Ampersand = true
has_prefix_form sign.LeftBracket = true
has_prefix_form sign.ColonColon = true
has_prefix_form sign.Slash = true
has_prefix_form sign.Percent = true
has_prefix_form sign.LessLess = true
has_prefix_form sign.LeftBrace = true
has_prefix_form other = false

abbrev pub is_left_bracket : Sign → Bool
is_left_bracket sign.LeftBracket = true
is_left_bracket other = false

abbrev pub is_left_brace : Sign → Bool
is_left_brace sign.LeftBrace = true
is_left_brace other = false

-- whether a blank stands behind the sign; a line's end counts as one, but not behind `[`
abbrev pub is_before_blank : Sign → List ℕ → Bool
is_before_blank sign behind = not (blank_len behind == 0) || (not (is_left_bracket sign) && not (line_end_len behind == 0))

-- whether the sign begins an argument of the identifier before it
abbrev pub begins_argument : State → Sign → List ℕ → Bool
begins_argument s sign behind = not (is_left_brace sign) && (is_so is_identifier s.last && (s.blank && not (is_before_blank sign behind)))

-- whether the sign is in prefix form, by what stands before it and behind it
unfoldable pub is_prefix : State → Sign → List ℕ → Bool
is_prefix s sign behind = has_prefix_form sign && (not (is_so ends_value s.last) || begins_argument s sign behind)
