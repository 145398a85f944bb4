-- Tables by name.
use Rattle.std.proofs.Common.{◌≡◌, Bool, true, false, List, [], ◌∷◌, ◌++◌, Some, None, cond, ap}
use Rattle.std.specs.Map.{lookup}

-- what is found behind entries among which nothing is found
pub lookup-last : {K V : Type 0} (test : K → Bool) (front : List (K × V)) (entry : K × V) → lookup test front ≡ None → test entry.0 ≡ true → lookup test (front ++ entry ∷ []) ≡ Some entry.1
lookup-last test [] entry none here = ap (λ b. cond b (Some entry.1) None) here
lookup-last test (e ∷ es) entry none here = by (test e.0) none (λ rest. lookup-last test es entry rest here)
  where
    by : (b : Bool) → cond b (Some e.1) (lookup test es) ≡ None → (lookup test es ≡ None → lookup test (es ++ entry ∷ []) ≡ Some entry.1) → cond b (Some e.1) (lookup test (es ++ entry ∷ [])) ≡ Some entry.1
    by true found rest = cc
    by false found rest = rest found
