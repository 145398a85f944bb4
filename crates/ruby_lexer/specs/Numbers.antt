-- Numbers.
use Rattle.std.specs.Prelude.{ℕ, zero, suc, ℤ, pos, negsuc, ◌+◌, ◌-◌, ◌*◌, ◌^◌, ◌==◌, nat_le, Bool, true, false, not, ◌&&◌, ◌||◌, if◌then◌else◌, List, [], ◌∷◌, length, take, drop, Option, Some, None, Result, Ok, Err, codes}
use Rattle.std.specs.Char.{digit_value, is_ascii_hexdigit}
use Rattle.ruby_lexer.specs.declared.kind.RubyKind.TheVariants as k
use Rattle.ruby_lexer.specs.declared.refusal.RubyAt.{RubyAt}
use Rattle.ruby_lexer.specs.declared.refusal.Form.{Form}
use Rattle.ruby_lexer.specs.declared.refusal.Form.TheVariants as form
use Rattle.ruby_lexer.specs.declared.token.RubyToken.{RubyToken}
use Rattle.ruby_lexer.specs.declared.token.RubyValue.TheVariants as value
use Rattle.ruby_lexer.specs.declared.state.State.{State}
use Rattle.ruby_lexer.specs.declared.numbers.Base.{Base}
use Rattle.ruby_lexer.specs.declared.numbers.Base.TheVariants as base
use Rattle.ruby_lexer.specs.Characters.{is_digit, first_is, begins, has_front, begins_word}
use Rattle.ruby_lexer.specs.Tokens.{token, refused}

abbrev pub radix : Base → ℕ
radix base.Binary = 2
radix base.Octal = 8
radix base.Decimal = 10
radix base.Hexadecimal = 16

-- the digits of a base
abbrev pub is_digit_of : Base → ℕ → Bool
is_digit_of base.Binary b = b == 48 || b == 49
is_digit_of base.Octal b = nat_le 48 b && nat_le b 55
is_digit_of base.Decimal b = is_digit b
is_digit_of base.Hexadecimal b = is_ascii_hexdigit b

-- whether a byte is a digit, or a `_` before a digit
abbrev pub goes_on : Base → ℕ → List ℕ → Bool
goes_on base b bs = is_digit_of base b || (b == 95 && first_is (is_digit_of base) bs)

abbrev pub digits_front : Base → List ℕ → ℕ
digits_front base [] = 0
digits_front base (b ∷ bs) = if goes_on base b bs then suc (digits_front base bs) else 0

-- digits with single `_` between them
abbrev pub digits_len : Base → List ℕ → ℕ
digits_len base text = if first_is (is_digit_of base) text then digits_front base text else 0

-- the number that goes on from n by a digit
abbrev pub value_on : Base → ℕ → ℕ → ℕ
value_on base n b = if is_digit_of base b then n * radix base + digit_value b else n

-- the number that goes on from n by these digits
abbrev pub value_from : Base → ℕ → List ℕ → ℕ
value_from base n [] = n
value_from base n (b ∷ bs) = value_from base (value_on base n b) bs

-- ---- fractions and suffixes

-- `.` and digits
abbrev pub point_len : List ℕ → ℕ
point_len text = if begins 46 text && first_is is_digit (drop 1 text) then suc (digits_len base.Decimal (drop 1 text)) else 0

-- `+`, `-` or nothing
abbrev pub sign_len : List ℕ → ℕ
sign_len text = if first_is (λ b. b == 43 || b == 45) text then 1 else 0

-- `e` or `E`, a sign or none, and digits
abbrev pub exponent_len : List ℕ → ℕ
exponent_len text = if first_is (λ b. b == 101 || b == 69) text
    then (let skipped = suc (sign_len (drop 1 text)) in
    let digits = digits_len base.Decimal (drop skipped text) in
    if digits == 0 then 0 else skipped + digits)
    else 0

-- what makes a decimal number a float
abbrev pub fraction_len : List ℕ → ℕ
fraction_len text = point_len text + exponent_len (drop (point_len text) text)

-- whether these letters are here, and no word character behind them
abbrev pub is_suffix : List ℕ → List ℕ → Bool
is_suffix letters text = has_front letters text && not (begins_word (drop (length letters) text))

-- the suffix here: how long it is, and the form that it makes
abbrev pub suffix : List ℕ → Option (ℕ × Form)
suffix text = if is_suffix (codes "ri") text then Some (2, form.Imaginary)
    else (if is_suffix (codes "r") text then Some (1, form.Rational)
    else (if is_suffix (codes "i") text then Some (1, form.Imaginary) else None))

-- a number of so many bytes by the suffix behind it
abbrev pub with_suffix : State → ℕ → Option (ℕ × Form) → Result RubyToken RubyAt → Result RubyToken RubyAt
with_suffix s len None plain = plain
with_suffix s len (Some suffix) plain = Err (refused s (len + suffix.0) suffix.1)

-- ---- numbers

-- how many bytes a minus takes, where there is one
abbrev pub minus_len : Bool → ℕ
minus_len true = 1
minus_len false = 0

abbrev pub negative : ℕ → ℤ
negative zero = pos 0
negative (suc n) = negsuc n

-- the integer of this size
abbrev pub signed : Bool → ℕ → ℤ
signed true n = negative n
signed false n = pos n

-- the greatest size that fits 128 bits
abbrev pub limit : Bool → ℕ
limit true = 2 ^ 127
limit false = 2 ^ 127 - 1

-- an integer of this size and so many bytes
abbrev pub sized : Bool → State → ℕ → ℕ → Result RubyToken RubyAt
sized minus s size len = if nat_le size (limit minus) then Ok (token s k.Integer (value.Integer (signed minus size)) len) else Err (refused s len form.WideInteger)

-- the integer whose digits are here, behind so many bytes
abbrev pub integer : Bool → State → Base → ℕ → List ℕ → Result RubyToken RubyAt
integer minus s base before digits = let n = digits_len base digits in
    with_suffix s (before + n) (suffix (drop n digits)) (sized minus s (value_from base 0 (take n digits)) (before + n))

-- the decimal number whose digits are here, behind so many bytes
abbrev pub decimal : Bool → State → ℕ → List ℕ → Result RubyToken RubyAt
decimal minus s before digits = let n = digits_len base.Decimal digits in
    let fraction = fraction_len (drop n digits) in
    if fraction == 0 then integer minus s base.Decimal before digits
    else with_suffix s (before + n + fraction) (suffix (drop (n + fraction) digits)) (Err (refused s (before + n + fraction) form.Float))

-- whether `0`, this letter and a digit of the base are here
abbrev pub is_based : ℕ → Base → List ℕ → Bool
is_based letter base text = begins 48 text && (begins letter (drop 1 text) && first_is (is_digit_of base) (drop 2 text))

-- the base of the number here
abbrev pub base_of : List ℕ → Base
base_of text = if is_based 120 base.Hexadecimal text then base.Hexadecimal
    else (if is_based 98 base.Binary text then base.Binary
    else (if is_based 111 base.Octal text then base.Octal else base.Decimal))

-- how many bytes stand before the digits of a base
abbrev pub prefix_len : Base → ℕ
prefix_len base.Decimal = 0
prefix_len base = 2

-- the number of a base that is here
abbrev pub number_of : Base → Bool → State → List ℕ → Result RubyToken RubyAt
number_of base.Decimal minus s digits = decimal minus s (minus_len minus) digits
number_of base minus s digits = integer minus s base (minus_len minus + 2) (drop 2 digits)

-- the number here, which has a minus before it or none; the minus, where it is, is where the lexer stands
unfoldable pub number_here : Bool → State → List ℕ → Result RubyToken RubyAt
number_here minus s digits = number_of (base_of digits) minus s digits
