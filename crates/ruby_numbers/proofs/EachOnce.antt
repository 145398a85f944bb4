-- Numbers that are counted are each there once.
use Rattle.std.proofs.Common.{◌≡◌, ℕ, zero, suc, ◌+◌, ◌<◌, Bool, false, nat_eq, List, [], ◌∷◌, length, arith, sym, subst as along}
use Rattle.std.specs.List.{AllByRecursion, IsDistinct}
use Rattle.std.proofs.lemmas.Bool.{ne_eqb}
use Rattle.ruby_numbers.specs.Laws.{counted}

counted_above : (n from more : ℕ) → n < from → AllByRecursion (λ y. nat_eq n y ≡ false) (counted from more)
counted_above n from zero is = tt {0}
counted_above n from (suc more) is = (ne_eqb n from (λ e. omega (arith, is, e)), counted_above n (from + 1) more (omega (arith, is)))

counted_distinct : (from more : ℕ) → IsDistinct nat_eq (counted from more)
unfolding IsDistinct
counted_distinct from zero = tt {0}
counted_distinct from (suc more) = (counted_above from (from + 1) more (omega arith), counted_distinct (from + 1) more)

-- numbers that are counted
pub distinct : (xs : List ℕ) (from : ℕ) → xs ≡ counted from (length xs) → IsDistinct nat_eq xs
distinct xs from is = along (λ (ys : List ℕ). IsDistinct nat_eq ys) (sym is) (counted_distinct from (length xs))
