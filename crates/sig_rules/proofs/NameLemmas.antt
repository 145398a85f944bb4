-- The names of declarations, sorted, each once.
use Rattle.std.proofs.Common.{◌≡◌, ◌∙◌, ℕ, ◌+◌, ◌<◌, Bool, true, false, List, [], ◌∷◌, ◌++◌, length, get_or, take, map, Option, Some, None, IsPermutation, IsSorted, Contains, refl, sym, ap, subst, if◌then◌else◌}
use Rattle.std.specs.Bool.{Decides}
use Rattle.std.specs.Set.{unique_keys}
use Rattle.std.specs.List.{list_any, dedup, IsDistinct}
use Rattle.std.specs.List.Sorted.{IsStrictlySortedBy}
use Rattle.std.proofs.lemmas.List.{map_more, length-map}
use Rattle.std.proofs.lemmas.List.Kept.{IsStrictlySortedBy-dedup, Contains-dedup, Contains-from_dedup}
use Rattle.std.proofs.lemmas.List.Sorted.{Contains-permutation, IsPermutation-sym}
use Rattle.std.proofs.lemmas.Map.Keys.{IsDistinct-from_sorted}
use Rattle.std.proofs.lemmas.Map.Made.{is_member-Decides, length-from_keys}
use Rattle.sig_rules.specs.declared.files.Declared.{Declared}
use Rattle.sig_rules.specs.Declarations.{Path, same_path, full_name, each_once, somes, declared_path}
use Rattle.sig_rules.specs.Sorted.{AreNames, path_cmp, paths_of}
use Rattle.sig_rules.proofs.OrderLemmas.{path_total, path_ties, path_equivalence, path_decides}

pub somes-append : {A : Type 0} (xs ys : List (Option A)) → somes (xs ++ ys) ≡ somes xs ++ somes ys
somes-append [] ys = refl
somes-append (None ∷ xs) ys = somes-append xs ys
somes-append (Some x ∷ xs) ys = ap (λ zs. x ∷ zs) (somes-append xs ys)

-- the names of declarations, one declaration later
pub paths_more : (all : List Declared) (i : ℕ) (d : Declared) → i < length all → somes (map declared_path (take (i + 1) all)) ≡ somes (map declared_path (take i all)) ++ somes (declared_path (get_or all i d) ∷ [])
paths_more all i d within = rw (map_more declared_path all i d within) (somes-append (map declared_path (take i all)) _)

-- full names have the words that they are made of
pub paths_of-full : (paths : List Path) → paths_of (map full_name paths) ≡ paths
paths_of-full [] = refl
paths_of-full (path ∷ paths) = ap (λ ps. path ∷ ps) (paths_of-full paths)

if_same : {A : Type 0} (b : Bool) (x y z : A) → y ≡ z → (if b then x else y) ≡ (if b then x else z)
if_same b x y z same = ap (λ w. if b then x else w) same

each_once-unique : (paths : List Path) → each_once paths ≡ unique_keys same_path paths
each_once-unique [] = refl
each_once-unique (path ∷ paths) = by_test (list_any (same_path path) paths) path _ _ (each_once-unique paths)
  where
    by_test : (b : Bool) (path : Path) (xs ys : List Path) → xs ≡ ys → (if b then xs else path ∷ xs) ≡ (if b then ys else path ∷ ys)
    by_test b path xs ys same = ap (λ zs. if b then zs else path ∷ zs) same

both_decide : (a b : Bool) (P Q : Type 0) → Decides a P → Decides b Q → (P → Q) → (Q → P) → a ≡ b
both_decide true true P Q p q there back = refl
both_decide false false P Q p q there back = refl
both_decide true false P Q p q there back = sym (q.1 (there (p.0 refl)))
both_decide false true P Q p q there back = p.1 (back (q.0 refl))

-- sorting paths and leaving out those that come again gives the names
pub AreNames-dedup : (all : List Declared) (sorted : List Path) → IsPermutation (somes (map declared_path all)) sorted → IsSorted path_cmp sorted → AreNames all (map full_name (dedup same_path sorted))
AreNames-dedup all sorted moved rises =
    let given = somes (map declared_path all) in
    let kept = dedup same_path sorted in
    let back = paths_of-full kept in
    let rising : IsStrictlySortedBy path_cmp kept = IsStrictlySortedBy-dedup path_total path_ties sorted rises in
    let same : (path : Path) → list_any (same_path path) kept ≡ list_any (same_path path) given =
    λ path. both_decide _ _ (Contains kept path) (Contains given path) (is_member-Decides path_decides kept path) (is_member-Decides path_decides given path)
    (λ there. Contains-permutation sorted given path (IsPermutation-sym given sorted moved) (Contains-from_dedup same_path sorted path there))
    (λ there. Contains-dedup path_equivalence (λ a b. (path_decides a b).0) sorted path (Contains-permutation given sorted path moved there))
    in
    let distinct : IsDistinct same_path kept = subst (λ e. IsDistinct e kept) (λ i a b. sym (path_ties a b) i) (IsDistinct-from_sorted path_cmp kept rising) in
    let count : length kept ≡ length (each_once given) = length-from_keys path_equivalence kept given distinct same ∙ ap (λ (xs : List Path). length xs) (sym (each_once-unique given)) in
    record {
      rising = rw back rising;
      full = ap (λ ps. map full_name ps) (sym back);
      same = λ path. rw back (same path);
      count = length-map kept full_name ∙ count;
    }
