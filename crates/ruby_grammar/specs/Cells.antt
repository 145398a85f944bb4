-- What the cells of a forest stand for.
use Rattle.std.specs.Prelude.{ℕ, zero, suc, ◌-◌, ◌++◌, ◌∷◌, [], List, drop, fold, length, slice_get, Option, Some, None}
use Rattle.ruby_grammar.specs.declared.tree.Tree.{Tree}
use Rattle.ruby_grammar.specs.declared.tree.Tree.TheVariants as tree
use Rattle.ruby_grammar.specs.declared.row.Cell.{Cell}
use Rattle.ruby_grammar.specs.declared.row.Cell.TheVariants as cell

abbrev pub or_none : Option (List Tree) → List Tree
or_none None = []
or_none (Some ts) = ts

-- the trees of a number; none, where no cell has it
abbrev pub list_at : List (List Tree) → ℕ → List Tree
list_at lists k = or_none (slice_get lists k)

-- so many at the end, or all where there are fewer
abbrev pub last_of : ℕ → List Tree → List Tree
last_of n ts = drop (length ts - n) ts

-- the cell of a number: they are numbered from 1 on
abbrev pub cell_of : List Cell → ℕ → Option Cell
cell_of cells zero = None
cell_of cells (suc k) = slice_get cells k

-- a cell's own tree, where the cells before it stand for this
abbrev pub tree_of : List (List Tree) → Cell → Tree
tree_of lists (cell.Leaf before place) = tree.Leaf place
tree_of lists (cell.Node before name first behind last count) = tree.Node name first behind (last_of count (list_at lists last))

-- the number of the row before it
abbrev pub before_of : Cell → ℕ
before_of (cell.Leaf before place) = before
before_of (cell.Node before name first behind last count) = before

-- the row that a cell ends
abbrev pub denoted : List (List Tree) → Cell → List Tree
denoted lists c = list_at lists (before_of c) ++ tree_of lists c ∷ []

abbrev pub and_one : List (List Tree) → Cell → List (List Tree)
and_one lists c = lists ++ denoted lists c ∷ []

-- What each number stands for: 0 for no trees, a cell's for the row that it ends.
unfoldable pub lists_of : List Cell → List (List Tree)
lists_of cells = fold and_one ([] ∷ []) cells
