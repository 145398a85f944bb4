-- What becomes of the entries of one folder.
use Rattle.std.specs.Prelude.{◌≡◌, List, [], Contains}
use Rattle.ports.specs.Tree.{IsFolder}
use Rattle.ports.specs.declared.tree.Entry.{Entry}
use Rattle.ports.specs.declared.tree.Listing.{Listing}
use Rattle.ports.specs.declared.tree.Listing.TheVariants.{Absent, Found}

-- no name stands there once as a file and once as a folder
abbrev pub HasOneKindEach : List Entry → Type 0
HasOneKindEach below = (a b : Entry) → Contains below a → Contains below b → a.name ≡ b.name → a ≡ b

-- the listing of a folder with these entries, in any order
abbrev pub IsListed : List Entry → Listing → Type 0
IsListed below Absent = below ≡ []
IsListed below (Found list) = IsFolder below list
