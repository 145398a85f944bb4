-- The last word of a name.
use Rattle.std.proofs.Common.{◌≡◌, ℕ, suc, ◌≤◌, ◌-◌, List, [], ◌∷◌, length, slice_index_or, ap, subst, arith}
use Rattle.std.specs.Prelude.{codes, bytes_eq}
use Rattle.rbs_printer.specs.Printed.{ends_in_alias}

pub last_is_alias : (words : List (List ℕ)) (last : List ℕ) → 1 ≤ length words → last ≡ slice_index_or words (length words - 1) last
    → bytes_eq last (codes "alias") ≡ ends_in_alias words
last_is_alias [] last h e = absurd (omega arith)
last_is_alias (word ∷ []) last h e = ap (λ w. bytes_eq w (codes "alias")) e
last_is_alias (word ∷ other ∷ words) last h e =
    let place : length (word ∷ other ∷ words) - 1 ≡ suc (length (other ∷ words) - 1) = omega arith in
    last_is_alias (other ∷ words) last (omega arith) (subst (λ n. last ≡ slice_index_or (word ∷ other ∷ words) n last) place e)
