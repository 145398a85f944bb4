-- What a tree tells of its files: a finite map from paths to bytes, as a list of pairs.
use Rattle.std.specs.Prelude.{◌≡◌, ◌↔◌, ◌<◌, ◌≤◌, ◌+◌, ◌==◌, ◌++◌, ◌&&◌, ℕ, Bool, true, not, List, [], ◌∷◌, length, drop, map, nat_eq, if◌then◌else◌, Result, IsErrOf, Option, None, Some, Contains}
use Rattle.std.specs.List.{filter_map, list_all, list_any, take_while, starts_with}
use Rattle.std.specs.Ordering.{nat_cmp, is_lt}
use Rattle.std.specs.Cmp.Lexicographic.{pointwise, slice_cmp}
use Rattle.ports.specs.Causes.{Rose}
use Rattle.ports.specs.declared.tree.TreeFault.{TreeFault}
use Rattle.ports.specs.declared.tree.TreeFault.TheVariants.{Failed}
use Rattle.ports.specs.declared.tree.Content.{Content}
use Rattle.ports.specs.declared.tree.Content.TheVariants as content
use Rattle.ports.specs.declared.tree.Entry.{Entry}
use Rattle.ports.specs.declared.tree.Listing.{Listing}
use Rattle.ports.specs.declared.tree.Listing.TheVariants as listing

-- whether a path lies below a folder: it begins with the folder and a `/`
abbrev pub is_below : List ℕ → List ℕ → Bool
is_below folder path = starts_with nat_eq path (folder ++ 47 ∷ [])

-- whether a path may stand before another one: it is less by bytes, and the other doesn't lie below it
abbrev pub stands_before : List ℕ → List ℕ → Bool
stands_before path other = is_lt (slice_cmp nat_cmp path other) && not (is_below path other)

-- whether the paths rise strictly by bytes, and no path is a folder of another
abbrev pub is_file_map : List (List ℕ × List ℕ) → Bool
is_file_map [] = true
is_file_map (file ∷ files) = list_all (λ other. stands_before file.0 other.0) files && is_file_map files

-- the bytes at a path
abbrev pub bytes_at : List (List ℕ × List ℕ) → List ℕ → Option (List ℕ)
bytes_at [] path = None
bytes_at (file ∷ files) path = if pointwise nat_eq file.0 path then Some file.1 else bytes_at files path

-- what a read answers
abbrev pub content_of : Option (List ℕ) → Content
content_of None = content.Absent
content_of (Some bytes) = content.Found bytes

abbrev pub content_at : List (List ℕ × List ℕ) → List ℕ → Content
content_at files path = content_of (bytes_at files path)

-- the entry that a file makes in a folder above it: the name that follows the folder and its `/`, which is a folder's where more
-- stands behind that name
abbrev pub entry_below : List ℕ → List ℕ × List ℕ → Option Entry
entry_below folder file = let rest = drop (length folder + 1) file.0 in
    if is_below folder file.0 then Some (record { name = take_while (λ b. not (b == 47)) rest; folder = list_any (λ b. b == 47) rest }) else None

-- names that rise strictly by bytes
abbrev pub Rises : List (List ℕ) → Type 0
Rises [] = Unit {0}
Rises (a ∷ []) = Unit {0}
Rises (a ∷ b ∷ more) = (is_lt (slice_cmp nat_cmp a b) ≡ true) × Rises (b ∷ more)

-- the same entries, by name, and each once
pub record IsFolder (below list : List Entry) : Type 0 where
  pub some : 0 < length below
  pub rises : Rises (map (λ (e : Entry). e.name) list)
  pub same : (e : Entry) → Contains list e ↔ Contains below e

-- what a listing of a folder answers: absent exactly where no file lies below it
abbrev pub IsListing : List (List ℕ × List ℕ) → List ℕ → Listing → Type 0
IsListing files folder listing.Absent = filter_map (entry_below folder) files ≡ []
IsListing files folder (listing.Found list) = IsFolder (filter_map (entry_below folder) files) list

-- the count of faults never falls, and a call fails only where it rose
pub record HasTreeCause {T : Type 0} (before now : ℕ) (result : Result T TreeFault) : Type 0 where
  pub later : before ≤ now
  pub failed : IsErrOf result Failed → Rose before now

-- it isn't that failure
abbrev pub IsNoFailure : {T : Type 0} → Result T TreeFault → Type 0
IsNoFailure result = IsErrOf result Failed → ⊥
