-- A tree in memory.
use Rattle.std.specs.Prelude.{ℕ, List}
use Rattle.ports.specs.declared.calls.Calls.{Calls}
use Rattle.ports.specs.declared.memory_tree.MemTree.{MemTree}

-- its files, each a path with its bytes
abbrev pub files_of : MemTree → List (List ℕ × List ℕ)
files_of tree = tree.files

-- the calls on it, those of `list` and of `read` together
abbrev pub calls_of : MemTree → Calls
calls_of tree = tree.calls
