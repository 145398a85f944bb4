use Rattle.std.proofs.Common.{◌<◌, length, List, rules}
use Rattle.ports.specs.declared.tree.Entry.{Entry}
use Rattle.ports.proofs.ListingLemmas.{listed}
use Rattle.ports.proofs.listing.listing_of.Goals as goal

pub returns : goal.returns
returns c =
    let below : List Entry = c.args.entries.items in
    let some : 0 < length below = search rules in
    λ one. rw c.from_vec.ensures (listed below c.sort_unstable.new.self.items c.dedup.new.self.items some c.sort_unstable.ensures.permutation c.sort_unstable.ensures.sorted c.dedup.ensures.filtered one)
