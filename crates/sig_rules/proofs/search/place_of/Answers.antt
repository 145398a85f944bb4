use Rattle.std.proofs.Common.{rules, ◌++◌}
use Rattle.std.proofs.lemmas.Fn.{always_returns_same}
use Rattle.rbs_tree.specs.declared.names.TypeName.{TypeName}
use Rattle.sig_rules.specs.Sorted.{path_cmp}
use Rattle.sig_rules.proofs.OrderLemmas.{searched}
use Rattle.sig_rules.proofs.search.place_of.Goals as goal

pub returns : goal.returns
returns c =
    let facts = c.binary_search_by.ensures in
    let by_path = facts.position (λ (n : TypeName). path_cmp n.path (c.args.front.now ++ c.args.back.now)) (always_returns_same _ _ _ (λ a r g called. (search rules, search rules))) in
    let found = searched _ _ _ c.requires.rising facts.bound by_path in
    rw c.ok.ensures.value (record { some = found.some; none = found.none })
