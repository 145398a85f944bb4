use Rattle.std.proofs.Common.{rules}
use Rattle.ports.proofs.KindLemmas.{folder_listed}
use Rattle.ports.proofs.memory_tree.MemTreeTree.list.Goals as goal

pub returns-in-Ok-clause-listing : goal.returns-in-Ok-clause-listing
returns-in-Ok-clause-listing c =
    folder_listed c.args.folder.now c.args.self.now.files c.in-Ok.entries.items c.listing_of.result c.args.self.now.is_map (search rules) c.listing_of.ensures
