-- What holds of every number below another, computed.
use Rattle.std.proofs.Common.{◌≡◌, ℕ, zero, suc, ◌<◌, ◌==◌, Bool, true, false, not, ◌&&◌, ◌||◌, refl, ◌∙◌, ap, arith}
use Rattle.std.proofs.lemmas.Bool.Decides.{nat_tests}
use Rattle.rbs_lexer.proofs.Skipping.{both}

pub not_false : (t : Bool) → not t ≡ true → t ≡ false
not_false true h = cc
not_false false h = refl

pub implied : (s t : Bool) → (not s || t) ≡ true → s ≡ true → t ≡ true
implied true t h e = h
implied false t h e = cc

unfoldable pub every_below : ℕ → (ℕ → Bool) → Bool
every_below zero p = true
every_below (suc n) p = p n && every_below n p

is_it : (m k : ℕ) → (m == k) ≡ true → m ≡ k
is_it m k h = grind (arith, nat_tests)

is_below : (m k : ℕ) → (m == k) ≡ false → m < suc k → m < k
is_below m k h l = grind (arith, nat_tests)

next_holds : (n : ℕ) (p : ℕ → Bool) (b : ℕ) → p n ≡ true → (b < n → p b ≡ true) → b < suc n → (t : Bool) → (b == n) ≡ t → p b ≡ true
next_holds n p b h below l true e = ap p (is_it b n e) ∙ h
next_holds n p b h below l false e = below (is_below b n e l)

pub below_holds : (n : ℕ) (p : ℕ → Bool) → every_below n p ≡ true → (b : ℕ) → b < n → p b ≡ true
unfolding every_below
below_holds zero p h b l = absurd (omega arith)
below_holds (suc n) p h b l = next_holds n p b (both _ _ h).0 (below_holds n p (both _ _ h).1 b) l (b == n) refl
