-- Where nothing is given.
use Rattle.std.proofs.Common.{◌≡◌, ◌∙◌, ℕ, ◌+◌, ◌<◌, List, [], ◌∷◌, ◌++◌, length, get_or, take, sym, ap}
use Rattle.std.proofs.lemmas.List.{take_more}
use Rattle.std.proofs.lemmas.List.Concat.{flat_map-append}
use Rattle.std.specs.List.{flat_map}

-- a loop over values that have given nothing so far, one value later
pub none_next : {X B : Type 0} (f : X → List B) (xs : List X) (i : ℕ) (x : X) → i < length xs → x ≡ get_or xs i x → [] ≡ flat_map f (take i xs) → f x ≡ [] → [] ≡ flat_map f (take (i + 1) xs)
none_next f xs i x within is before none =
    let more : take (i + 1) xs ≡ take i xs ++ x ∷ [] = take_more xs i x within ∙ ap (λ y. take i xs ++ y ∷ []) (sym is) in
    sym (ap (flat_map f) more ∙ flat_map-append f (take i xs) (x ∷ []) ∙ (λ j. sym before j ++ (none j ++ [])))
