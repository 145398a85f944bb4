-- One more write behind others.
use Rattle.std.proofs.Common.{◌≡◌, ℕ, ◌+◌, ◌-◌, List, ◌++◌, Option, arith, length, take, drop, sym, ◌∙◌, take-append-drop}
use Rattle.std.proofs.lemmas.List.{drop-take, take_rest, take-take}
use Rattle.std.specs.Io.KnownBytes.{Appends}
use Rattle.std.proofs.KnownBytes.{Appends-trans}

-- the first n of what follows at
pub take_on : (at n : ℕ) (bytes : List ℕ) → take (at + n) bytes ≡ take at bytes ++ take n (drop at bytes)
take_on at n bytes =
    let front : take at (take (at + n) bytes) ≡ take at bytes = take-take at (at + n) bytes (omega arith) in
    sym (take-append-drop at (take (at + n) bytes)) ∙ rw (front, drop-take at n bytes)

pub written_on : (first middle last : Option (List ℕ)) (at n : ℕ) (bytes : List ℕ) → Appends first middle (take at bytes)
    → Appends middle last (take n (take (length bytes - at) (drop at bytes))) → Appends first last (take (at + n) bytes)
written_on first middle last at n bytes done more =
    rw (take_on at n bytes) (Appends-trans first middle last (take at bytes) (take n (drop at bytes)) done (rw (take_rest bytes at) at more))
