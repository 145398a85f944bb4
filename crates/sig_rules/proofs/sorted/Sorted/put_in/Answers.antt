use Rattle.std.proofs.Common.{◌∙◌, ◌++◌, [], ◌∷◌, List, refl, ap, length}
use Rattle.std.proofs.lemmas.List.{get_or_default}
use Rattle.std.proofs.lemmas.Result.{on_ok_weaker}
use Rattle.sig_rules.specs.declared.files.Declared.{Declared}
use Rattle.sig_rules.specs.declared.sorted.Place.TheVariants as place
use Rattle.sig_rules.proofs.SortingLemmas.{set-put_in}
use Rattle.sig_rules.proofs.sorted.Sorted.put_in.Goals as goal

pub returns : goal.returns
returns c =
    let old = c.args.self.now in
    let is = c.index_mut-counting.ensures.value in
    let there = is ∙ get_or_default old.groups.items c.args.group c.index_mut-counting.result.now [] c.requires in
    on_ok_weaker c.push-2.result
    (λ places. record {
      names = refl;
      groups = rw c.in_ok-push.ensures.ok (set-put_in old.groups.items c.args.group c.index_mut-counting.result.now c.args.declared c.requires is);
      others = refl;
      places = places ∙ ap (λ n. old.places ++ place.Counting c.args.group n ∷ []) (c.len.ensures ∙ ap (λ (g : List Declared). length g) there);
    })
    c.push-2.ensures.ok
