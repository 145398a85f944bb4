use Rattle.std.proofs.Common.{sym, subst}
use Rattle.std.proofs.lemmas.List.Filters.{dedup_is}
use Rattle.std.proofs.lemmas.Result.{IfOk-weaker}
use Rattle.sig_rules.specs.Declarations.{same_path}
use Rattle.sig_rules.specs.Sorted.{AreNames}
use Rattle.sig_rules.proofs.NameLemmas.{AreNames-dedup}
use Rattle.sig_rules.proofs.sorted_names.sorted_names.Goals as goal

pub returns : goal.returns
returns c =
    let kept = dedup_is same_path _ _ c.dedup.ensures.filtered in
    let names = AreNames-dedup c.args.all.now _ (rw (c.into_vec-paths.ensures, c.in_ok-declared_paths.ensures) at c.sort_unstable.ensures.permutation) c.sort_unstable.ensures.sorted in
    IfOk-weaker c.full_names.result _ _ (λ found is. subst (AreNames c.args.all.now) (sym is) (rw kept names)) c.full_names.ensures
