-- A list of texts that is printed piece by piece.
use Rattle.std.specs.Prelude.{ℕ, Bool, true, false, if◌then◌else◌, List, [], codes}
use Rattle.rbs_printer.specs.Words.{listed, behind_each}

-- what stands before the next text, by whether one stands before it
abbrev pub comma : Bool → List ℕ
comma begun = if begun then codes ", " else []

-- the next texts of a list, by whether some stand before them
abbrev pub continued : Bool → List (List ℕ) → List ℕ
continued false texts = listed texts
continued true texts = behind_each (codes ", ") texts

-- whether some texts stand before what follows
abbrev pub has_begun : Bool → List (List ℕ) → Bool
has_begun begun [] = begun
has_begun begun texts = true
