use Rattle.std.proofs.lemmas.List.Filters.{dedup_is}
use Rattle.diagnostics.proofs.OrderLemmas.{alike, IsOrder-dedup}
use Rattle.diagnostics.proofs.ordering.order.Goals as goal

pub returns : goal.returns
returns c =
    rw (c.from_vec.ensures, dedup_is alike _ _ c.dedup.ensures.filtered, ← c.into_vec-items.ensures)
    (IsOrder-dedup _ _ c.sort_unstable.ensures.permutation c.sort_unstable.ensures.sorted)
