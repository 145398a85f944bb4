use Rattle.std.proofs.Common.{◌∙◌, sym, ap}
use Rattle.sig_rules.specs.Sorted.{paths_of}
use Rattle.sig_rules.proofs.TableLemmas.{finds_itself, sorts_view}
use Rattle.sig_rules.proofs.table.Table.of.Goals as goal

pub invariant_of-result : goal.invariant_of-result
invariant_of-result c = finds_itself _ _ _ c.in_ok-sorted.ensures.sorts (c.in_ok-places.ensures ∙ ap paths_of (c.as_slice-2.ensures ∙ sym c.in_ok-sorted.ensures.names))

pub returns-clause-all : goal.returns-clause-all
returns-clause-all c = sorts_view _ _ c.in_ok-sorted.ensures.sorts
