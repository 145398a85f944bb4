-- The first of some names.
use Rattle.std.proofs.Common.{◌≡◌, List, [], ◌∷◌, take, refl}
use Rattle.sig_rules.specs.declared.line.Applied.{Applied}
use Rattle.ancestors.specs.Pieces.{first_or_object, or_object}

pub first_is : (found : List Applied) → or_object (take 1 found) ≡ first_or_object found
first_is [] = refl
first_is (a ∷ found) = refl
