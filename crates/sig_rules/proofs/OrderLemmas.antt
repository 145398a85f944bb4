-- The order of names, and where a name stands among names that rise.
use Rattle.std.proofs.Common.{◌≡◌, ◌∙◌, inl, inr, ℕ, ◌<◌, ◌≤◌, false, List, length, get_or, map, slice_get, Option, Some, Result, Ok, Err, IfSome, IfNone, refl, sym, ap, subst, arith}
use Rattle.std.specs.Cmp.{IsTotalOrder, IsEquivalence, eq_by_cmp_equiv}
use Rattle.std.specs.Cmp.Lexicographic.{slice_cmp, texts_ties, lists_ties}
use Rattle.std.specs.Bool.{Decides}
use Rattle.std.specs.List.Sorted.{IsStrictlySortedBy, IsNonDecreasingBy, IsSearchInRange, IsBinarySearchResult}
use Rattle.std.specs.Option.{option_map}
use Rattle.std.specs.Result.{result_ok}
use Rattle.std.specs.Ordering.{nat_cmp, eq_by_cmp, is_eq, ordering_index, ordering_reverse}
use Rattle.std.specs.declared.cmp.Ordering.{Ordering}
use Rattle.std.specs.declared.cmp.Ordering.TheVariants.{Less, Equal, Greater}
use Rattle.std.proofs.lemmas.Bool.{cases_lt}
use Rattle.std.proofs.lemmas.Cmp.{lists_total, nat_list_cmp_total}
use Rattle.std.proofs.lemmas.List.{get_or-map, length-map}
use Rattle.std.proofs.lemmas.List.Folds.{list_any_none}
use Rattle.std.proofs.lemmas.Map.Keys.{Less-from_sorted}
use Rattle.std.proofs.lemmas.Option.{slice_get-get_or}
use Rattle.std.proofs.lemmas.Slice.Eq.{slice_eq-Decides, bytes_eq-Decides}
use Rattle.rbs_tree.specs.declared.names.TypeName.{TypeName}
use Rattle.sig_rules.specs.Declarations.{Path, same_path, full_name}
use Rattle.sig_rules.specs.Sorted.{path_cmp, paths_of, is_among}

pub path_total : IsTotalOrder path_cmp
path_total = lists_total nat_list_cmp_total

-- names are the same where the order doesn't tell them apart
pub path_ties : (a b : Path) → same_path a b ≡ eq_by_cmp path_cmp a b
path_ties = lists_ties (slice_cmp nat_cmp) texts_ties

pub path_equivalence : IsEquivalence same_path
path_equivalence = subst IsEquivalence (λ i a b. sym (path_ties a b) i) (eq_by_cmp_equiv path_total)

pub path_decides : (a b : Path) → Decides (same_path a b) (a ≡ b)
path_decides a b = slice_eq-Decides bytes_eq-Decides a b (same_path a b) refl

pub path_same : (a b : Path) → path_cmp a b ≡ Equal → a ≡ b
path_same a b tied = (path_decides a b).0 (path_ties a b ∙ ap is_eq tied)

pub path_other : (a b : Path) (o : Ordering) → path_cmp a b ≡ o → is_eq (ordering_reverse o) ≡ false → same_path b a ≡ false
path_other a b o is apart = path_ties b a ∙ ap is_eq (path_total.antisymm b a ∙ ap ordering_reverse is) ∙ apart

module _ {K : Type 0} {R : K → K → Ordering} (o : IsTotalOrder R) where
  rises_by : (x y q : K) → R x y ≡ Less → (p : Ordering) → R x q ≡ p → ordering_index p ≤ ordering_index (R y q)
  rises_by x y q below Less is = omega arith
  rises_by x y q below Equal is =
      let turned : R y q ≡ Greater = o.antisymm y q ∙ ap ordering_reverse (sym (o.congr x q y is) ∙ below) in
      rw turned (omega arith)
  rises_by x y q below Greater is =
      let under : R q x ≡ Less = o.antisymm q x ∙ ap ordering_reverse is in
      let turned : R y q ≡ Greater = o.antisymm y q ∙ ap ordering_reverse (o.trans q x y under below) in
      rw turned (omega arith)

  -- how keys that rise stand to another rises too
  comparisons_rise : {X : Type 0} (f : X → K) (xs : List X) (q : K) → IsStrictlySortedBy R (map f xs) → IsNonDecreasingBy (λ x. ordering_index (R (f x) q)) xs
  comparisons_rise f xs q rises i j d le within = elim (cases_lt i j) [
    | inl below ↦
        let within_map : j < length (map f xs) = omega (arith, length-map xs f) in
        let less = Less-from_sorted R (map f xs) i j (f d) rises below within_map in
        rises_by (f (get_or xs i d)) (f (get_or xs j d)) q (rw (get_or-map f xs i d (f d) (omega arith), get_or-map f xs j d (f d) within) at less) (R (f (get_or xs i d)) q) refl
    | inr above ↦ let same : i ≡ j = omega arith in rw same (omega arith)
  ]

-- what a binary search answers among names that rise
pub record IsFound (names : List TypeName) (path : Path) (r : Option ℕ) : Type 0 where
  pub some : IfSome r (λ at. option_map (λ (n : TypeName). n.path) (slice_get names at) ≡ Some path)
  pub none : IfNone r (is_among names path ≡ false)

pub searched : (names : List TypeName) (path : Path) (r : Result ℕ ℕ) → IsStrictlySortedBy path_cmp (paths_of names) → IsSearchInRange r (length names) → IsBinarySearchResult (λ (n : TypeName). path_cmp n.path path) names r → IsFound names path (result_ok r)
searched names path (Ok at) rising within equal =
    let there = slice_get-get_or names at (full_name path) within in
    let same = path_same (get_or names at (full_name path)).path path (equal (full_name path)) in
    record { some = rw there (ap Some same); none = tt }
searched names path (Err at) rising within parted =
    let parts = parted (comparisons_rise path_total (λ (n : TypeName). n.path) names path rising) in
    record {
      some = tt;
      none = list_any_none (same_path path) (paths_of names) (λ k d below.
          let below_names : k < length names = omega (arith, length-map names (λ (n : TypeName). n.path)) in
          let there = get_or-map (λ (n : TypeName). n.path) names k (full_name d) d below_names in
          rw there (elim (cases_lt k at) [
            | inl before ↦ path_other (get_or names k (full_name d)).path path Less (parts.0 k (full_name d) (omega arith) before) refl
            | inr behind ↦ path_other (get_or names k (full_name d)).path path Greater (parts.1 k (full_name d) behind below_names) refl
          ]));
    }
