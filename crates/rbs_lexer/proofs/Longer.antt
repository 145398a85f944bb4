-- The longer of several runs.
use Rattle.std.proofs.Common.{◌≡◌, ℕ, Bool, true, false, nat_lt, Option, Some, None, refl, arith}
use Rattle.std.specs.Prelude.{if◌then◌else◌}
use Rattle.std.proofs.lemmas.Bool.Decides.{nat_tests}
use Rattle.rbs_lexer.specs.declared.reading.Found.{Found}
use Rattle.rbs_lexer.specs.Finds.{longer, longer_len}

below_all : (n m k : ℕ) → nat_lt n m ≡ true → nat_lt m k ≡ true → nat_lt n k ≡ true
below_all n m k p q = grind (arith, nat_tests)

not_below_all : (n m k : ℕ) → nat_lt n m ≡ false → nat_lt m k ≡ false → nat_lt n k ≡ false
not_below_all n m k p q = grind (arith, nat_tests)

pub longer_len_assoc : (a b c : Option ℕ) → longer_len (longer_len a b) c ≡ longer_len a (longer_len b c)
longer_len_assoc None b c = refl
longer_len_assoc (Some n) None c = refl
longer_len_assoc (Some n) (Some m) None = one (nat_lt n m)
  where
    one : (t : Bool) → longer_len (if t then Some m else Some n) None ≡ (if t then Some m else Some n)
    one true = refl
    one false = refl
longer_len_assoc (Some n) (Some m) (Some k) = all (nat_lt n m) (nat_lt m k) refl refl
  where
    all : (s t : Bool) → nat_lt n m ≡ s → nat_lt m k ≡ t
        → longer_len (if s then Some m else Some n) (Some k) ≡ longer_len (Some n) (if t then Some k else Some m)
    all true true p q = rw (q, below_all n m k p q) refl
    all true false p q = rw (q, p) refl
    all false true p q = refl
    all false false p q = rw (p, not_below_all n m k p q) refl

pub longer_assoc : (a b c : Option Found) → longer (longer a b) c ≡ longer a (longer b c)
longer_assoc None b c = refl
longer_assoc (Some a) None c = refl
longer_assoc (Some a) (Some b) None = one (nat_lt a.len b.len)
  where
    one : (t : Bool) → longer (if t then Some b else Some a) None ≡ (if t then Some b else Some a)
    one true = refl
    one false = refl
longer_assoc (Some a) (Some b) (Some c) = all (nat_lt a.len b.len) (nat_lt b.len c.len) refl refl
  where
    all : (s t : Bool) → nat_lt a.len b.len ≡ s → nat_lt b.len c.len ≡ t
        → longer (if s then Some b else Some a) (Some c) ≡ longer (Some a) (if t then Some c else Some b)
    all true true p q = rw (q, below_all a.len b.len c.len p q) refl
    all true false p q = rw (q, p) refl
    all false true p q = refl
    all false false p q = rw (p, not_below_all a.len b.len c.len p q) refl
