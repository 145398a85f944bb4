-- Integers.
use Rattle.std.specs.Prelude.{ℕ, ◌+◌, ◌-◌, ◌*◌, ◌==◌, Bool, true, ◌&&◌, ◌||◌, if◌then◌else◌, List, [], ◌∷◌}
use Rattle.rbs_lexer.specs.Bytes.{is_digit, begins_with_digit}

-- whether a byte is a digit, or a `_` before a digit
abbrev pub goes_on : ℕ → List ℕ → Bool
goes_on b bs = is_digit b || (b == 95 && begins_with_digit bs)

-- whether each byte is so
abbrev pub all_digits : List ℕ → Bool
all_digits [] = true
all_digits (b ∷ bs) = goes_on b bs && all_digits bs

-- digits with single `_` between them
unfoldable pub is_digits : List ℕ → Bool
is_digits run = begins_with_digit run && all_digits run

-- the number that goes on from n by a digit
abbrev pub value_on : ℕ → ℕ → ℕ
value_on n b = if is_digit b then n * 10 + (b - 48) else n

-- the number that goes on from n by these digits
abbrev pub value_from : ℕ → List ℕ → ℕ
value_from n [] = n
value_from n (b ∷ bs) = value_from (value_on n b) bs
