use Rattle.std.proofs.Common.{◌≡◌, take}
use Rattle.std.specs.List.{filter_map}
use Rattle.ports.specs.Tree.{entry_below}
use Rattle.ports.proofs.memory_tree.entries_in.Given as goal

abbrev pub invariant-loop-file : goal.invariant-loop-file
invariant-loop-file l = l.entries.items ≡ filter_map (entry_below l.folder) (take l.file-index l.files)
