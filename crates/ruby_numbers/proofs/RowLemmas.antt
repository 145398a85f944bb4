-- One more in a row.
use Rattle.std.proofs.Common.{◌≡◌, ◌∙◌, ℕ, List, [], ◌∷◌, ◌++◌, map, sym, ap}
use Rattle.std.specs.List.{fold}
use Rattle.std.proofs.lemmas.List.{map-append}
use Rattle.std.proofs.lemmas.List.Sums.{fold-append}
use Rattle.ruby_numbers.specs.Numbers.{one_more, row_by}

pub row_next : {S T X : Type 0} (number : S → ℕ → T × ℕ) (of : X → S) (xs : List X) (x : X) (n : ℕ) (done : List T) (next : ℕ) (y : T) (behind : ℕ) → (done, next) ≡ row_by number (map of xs) n
    → y ≡ (number (of x) next).0 → behind ≡ (number (of x) next).1 → (done ++ y ∷ [], behind) ≡ row_by number (map of (xs ++ x ∷ [])) n
row_next number of xs x n done next y behind before made stands =
    (λ i. (done ++ made i ∷ [], stands i))
    ∙ ap (λ s. one_more number s (of x)) before
    ∙ sym (ap (fold (one_more number) ([], n)) (map-append of xs (x ∷ [])) ∙ fold-append (one_more number) ([], n) (map of xs) (of x ∷ []))
