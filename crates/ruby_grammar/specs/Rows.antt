-- Rows of trees by their numbers: a list for each number says which trees they are.
use Rattle.std.specs.Prelude.{◌≡◌, ◌++◌, ℕ, List, length, slice_get, Some}
use Rattle.ruby_grammar.specs.declared.tree.Tree.{Tree}
use Rattle.ruby_grammar.specs.declared.row.Row.{Row}

-- The trees of a row.
abbrev pub At : List (List Tree) → Row → List Tree → Type 0
At lists row ts = (slice_get lists row.last ≡ Some ts) × (row.height ≡ length ts)

-- What a number stands for it stands for on.
unfoldable pub Extends : List (List Tree) → List (List Tree) → Type 0
Extends old new = (k : ℕ) (ts : List Tree) → slice_get old k ≡ Some ts → slice_get new k ≡ Some ts

-- There are trees that the row stands for.
abbrev pub IsRow : List (List Tree) → Row → Type 0
IsRow lists row = (ts : List Tree) × At lists row ts

-- The trees are behind the base in the row.
abbrev pub Holds : List (List Tree) → Row → Row → List Tree → Type 0
Holds lists base row ts = (us : List Tree) × At lists base us × At lists row (us ++ ts)

-- The trees come behind the old row's, whichever these are.
abbrev pub Grows : List (List Tree) → Row → List (List Tree) → Row → List Tree → Type 0
Grows lists old more new ts = (us : List Tree) → At lists old us → At more new (us ++ ts)
