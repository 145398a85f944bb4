-- Digits with which a limit is passed.
use Rattle.std.proofs.Common.{◌≡◌, ℕ, zero, suc, ◌+◌, ◌*◌, ◌<◌, ◌≤◌, Bool, true, false, List, [], ◌∷◌, length, drop, get_or, subst, arith}
use Rattle.std.specs.Prelude.{if◌then◌else◌, ◌-◌}
use Rattle.rbs_lexer.specs.Bytes.{is_digit}
use Rattle.rbs_lexer.specs.Numbers.{value_on, value_from}

value_on_rises : (n b : ℕ) → n ≤ value_on n b
value_on_rises n b = go (is_digit b)
  where
    go : (t : Bool) → n ≤ (if t then n * 10 + (b - 48) else n)
    go true = omega arith
    go false = omega arith

value_from_rises : (n : ℕ) (bs : List ℕ) → n ≤ value_from n bs
value_from_rises n [] = omega arith
value_from_rises n (b ∷ bs) = omega (arith, value_on_rises n b, value_from_rises (value_on n b) bs)

passes : (limit n : ℕ) (bs : List ℕ) (i : ℕ) → i < length bs → limit < value_on n (get_or bs i 0) → limit < value_from n (drop i bs)
passes limit n [] i l p = absurd (omega arith)
passes limit n (b ∷ bs) zero l p = omega (arith, value_from_rises (value_on n b) bs)
passes limit n (b ∷ bs) (suc i) l p = passes limit n bs i (omega arith) p

-- The number that goes on from one past the limit is past it.
pub passed : (limit n : ℕ) (bs : List ℕ) (i : ℕ) → i < length bs → value_from n (drop i bs) ≡ value_from 0 bs → limit < value_on n (get_or bs i 0) → limit < value_from 0 bs
passed limit n bs i l e p = subst (λ m. limit < m) e (passes limit n bs i l p)
