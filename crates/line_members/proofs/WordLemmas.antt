-- Names that are the same.
use Rattle.std.proofs.Common.{◌≡◌, ℕ, Bool, true, false, List, refl, sym}
use Rattle.std.specs.Bool.{Decides}
use Rattle.std.proofs.lemmas.Slice.Eq.{bytes_eq-Decides}
use Rattle.sig_rules.specs.Methods.{same_word}

pub word_decides : (a b : List ℕ) → Decides (same_word a b) (a ≡ b)
word_decides = bytes_eq-Decides

pub true_not_false : true ≡ false → ⊥
true_not_false is = cc

pub same_of_itself : (a : List ℕ) → same_word a a ≡ true
same_of_itself a = (word_decides a a).1 refl

-- it is the same in both orders
pub same_both_ways : (a b : List ℕ) → same_word a b ≡ same_word b a
same_both_ways a b = by_tests (same_word a b) (word_decides a b) (same_word b a) (word_decides b a)
  where
    by_tests : (x : Bool) → Decides x (a ≡ b) → (y : Bool) → Decides y (b ≡ a) → x ≡ y
    by_tests true same true same_too = refl
    by_tests true same false other = absurd (true_not_false (sym (other.1 (sym (same.0 refl)))))
    by_tests false other true same = absurd (true_not_false (sym (other.1 (sym (same.0 refl)))))
    by_tests false other false other_too = refl
