-- So many arguments of a list, as some are dropped or added.
use Rattle.std.proofs.Common.{◌≡◌, ℕ, zero, suc, ◌<◌, List, [], ◌∷◌, ◌++◌, length, take, refl, ap, arith}
use Rattle.rbs_tree.specs.declared.types.Ty.{Ty, Untyped}
use Rattle.sig_rules.specs.Types.{fitted}

pub fitted_taken : (n : ℕ) (args : List Ty) → fitted n (take n args) ≡ fitted n args
fitted_taken zero args = refl
fitted_taken (suc n) [] = refl
fitted_taken (suc n) (arg ∷ args) = ap (λ tys. arg ∷ tys) (fitted_taken n args)

pub fitted_more : (n : ℕ) (args : List Ty) → length args < n → fitted n (args ++ Untyped ∷ []) ≡ fitted n args
fitted_more zero args short = absurd (omega arith)
fitted_more (suc n) [] short = refl
fitted_more (suc n) (arg ∷ args) short = ap (λ tys. arg ∷ tys) (fitted_more n args (omega arith))

pub fitted_whole : (n : ℕ) (args : List Ty) → length args ≡ n → fitted n args ≡ args
fitted_whole zero [] whole = refl
fitted_whole zero (arg ∷ args) whole = absurd (omega arith)
fitted_whole (suc n) [] whole = absurd (omega arith)
fitted_whole (suc n) (arg ∷ args) whole = ap (λ tys. arg ∷ tys) (fitted_whole n args (omega arith))
