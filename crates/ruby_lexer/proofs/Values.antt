-- The number that digits are never falls.
use Rattle.std.proofs.Common.{◌≡◌, ℕ, zero, suc, ◌+◌, ◌*◌, ◌<◌, ◌≤◌, Bool, true, false, List, [], ◌∷◌, length, drop, get_or, subst, arith}
use Rattle.std.specs.Prelude.{if◌then◌else◌}
use Rattle.std.specs.Char.{digit_value}
use Rattle.ruby_lexer.specs.declared.numbers.Base.{Base}
use Rattle.ruby_lexer.specs.declared.numbers.Base.TheVariants as base
use Rattle.ruby_lexer.specs.Numbers.{radix, is_digit_of, value_on, value_from}
use Rattle.ruby_lexer.specs.Strings.{hexadecimal_value}

-- in each base
timed : (base : Base) (n d : ℕ) → n ≤ n * radix base + d
timed base.Binary n d = omega arith
timed base.Octal n d = omega arith
timed base.Decimal n d = omega arith
timed base.Hexadecimal n d = omega arith

value_on_rises : (base : Base) (n b : ℕ) → n ≤ value_on base n b
value_on_rises base n b = go (is_digit_of base b)
  where
    go : (t : Bool) → n ≤ (if t then n * radix base + digit_value b else n)
    go true = timed base n (digit_value b)
    go false = omega arith

value_from_rises : (base : Base) (n : ℕ) (bs : List ℕ) → n ≤ value_from base n bs
value_from_rises base n [] = omega arith
value_from_rises base n (b ∷ bs) = omega (arith, value_on_rises base n b, value_from_rises base (value_on base n b) bs)

passes : (base : Base) (limit n : ℕ) (bs : List ℕ) (i : ℕ) → i < length bs → limit < value_on base n (get_or bs i 0) → limit < value_from base n (drop i bs)
passes base limit n [] i l p = absurd (omega arith)
passes base limit n (b ∷ bs) zero l p = omega (arith, value_from_rises base (value_on base n b) bs)
passes base limit n (b ∷ bs) (suc i) l p = passes base limit n bs i (omega arith) p

-- A digit with which the limit is passed tells that the number passes it.
pub past_limit : (base : Base) (limit n : ℕ) (bs : List ℕ) (i : ℕ) → i < length bs → value_from base n (drop i bs) ≡ value_from base 0 bs → limit < value_on base n (get_or bs i 0)
    → limit < value_from base 0 bs
past_limit base limit n bs i l e p = subst (λ m. limit < m) e (passes base limit n bs i l p)

-- ---- the number of a character

hexadecimal_rises : (n : ℕ) (bs : List ℕ) → n ≤ hexadecimal_value n bs
hexadecimal_rises n [] = omega arith
hexadecimal_rises n (b ∷ bs) = omega (arith, hexadecimal_rises (n * 16 + digit_value b) bs)

passes_character : (limit n : ℕ) (bs : List ℕ) (i : ℕ) → i < length bs → limit < n * 16 + digit_value (get_or bs i 0) → limit < hexadecimal_value n (drop i bs)
passes_character limit n [] i l p = absurd (omega arith)
passes_character limit n (b ∷ bs) zero l p = omega (arith, hexadecimal_rises (n * 16 + digit_value b) bs)
passes_character limit n (b ∷ bs) (suc i) l p = passes_character limit n bs i (omega arith) p

-- A digit with which the limit is passed tells that the number passes it.
pub past_character : (limit n : ℕ) (bs : List ℕ) (i : ℕ) → i < length bs → hexadecimal_value n (drop i bs) ≡ hexadecimal_value 0 bs
    → limit < n * 16 + digit_value (get_or bs i 0) → limit < hexadecimal_value 0 bs
past_character limit n bs i l e p = subst (λ m. limit < m) e (passes_character limit n bs i l p)
