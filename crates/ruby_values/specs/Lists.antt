-- Lists that are taken from their front on.
use Rattle.std.specs.Prelude.{List, [], ◌∷◌, Option, Some, None}

abbrev pub front : {T : Type 0} → List T → Option T
front [] = None
front (x ∷ xs) = Some x

abbrev pub behind_front : {T : Type 0} → List T → List T
behind_front [] = []
behind_front (x ∷ xs) = xs

-- a list, an empty one where it is missing
abbrev pub listed : {T : Type 0} → Option (List T) → List T
listed None = []
listed (Some xs) = xs
