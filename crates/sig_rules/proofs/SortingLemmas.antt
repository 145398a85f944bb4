-- One more declaration among those that are sorted.
use Rattle.std.proofs.Common.{◌≡◌, ◌≢◌, ◌∙◌, inl, inr, ℕ, zero, suc, ◌<◌, Bool, true, false, ◌||◌, List, [], ◌∷◌, ◌++◌, length, get_or, set, map, slice_get, Option, Some, None, refl, sym, ap, subst, arith}
use Rattle.std.specs.List.{slice_index_or}
use Rattle.std.specs.List.Sorted.{IsStrictlySortedBy}
use Rattle.std.specs.Option.{option_map, option_and_then}
use Rattle.std.specs.declared.cmp.Ordering.TheVariants.{Less}
use Rattle.std.proofs.lemmas.Bool.{cases_lt}
use Rattle.std.proofs.lemmas.List.{map-append, length-map, get_or_default}
use Rattle.std.proofs.lemmas.Map.Keys.{Less-from_sorted}
use Rattle.std.proofs.lemmas.Option.{slice_get-get_or, slice_get-map, slice_get_within, get_or_from_slice_get}
use Rattle.rbs_tree.specs.declared.names.TypeName.{TypeName}
use Rattle.sig_rules.specs.declared.files.Declared.{Declared}
use Rattle.sig_rules.specs.declared.sorted.Place.{Place}
use Rattle.sig_rules.specs.declared.sorted.Place.TheVariants as place
use Rattle.sig_rules.specs.declared.sorted.Sorted.{Sorted}
use Rattle.sig_rules.specs.Declarations.{Path, same_path, declares, declared_path, entries, full_name}
use Rattle.sig_rules.specs.Sorted.{HasName, PutsAside, PutsIn, Sorts, at_place, counts_beside, is_among, path_cmp, paths_of, put_in}
use Rattle.sig_rules.proofs.EntryLemmas.{declares_none, declares_own, entries_more, if_declared, with_next}
use Rattle.sig_rules.proofs.OrderLemmas.{path_equivalence, path_decides, path_other}

-- ---- lists with one item more

slice_get_more : {A : Type 0} (xs : List A) (x : A) (i : ℕ) (y : A) → slice_get xs i ≡ Some y → slice_get (xs ++ x ∷ []) i ≡ Some y
slice_get_more [] x i y is = cc
slice_get_more (z ∷ xs) x zero y is = is
slice_get_more (z ∷ xs) x (suc i) y is = slice_get_more xs x i y is

slice_get_last : {A : Type 0} (xs : List A) (x : A) → slice_get (xs ++ x ∷ []) (length xs) ≡ Some x
slice_get_last [] x = refl
slice_get_last (z ∷ xs) x = slice_get_last xs x

-- ---- places

-- what stands at a place stands there still
abbrev pub Keeps : List (List Declared) → List Declared → List (List Declared) → List Declared → Type 0
Keeps groups others groups2 others2 = (p : Place) (d : Declared) → at_place groups others p ≡ Some d → at_place groups2 others2 p ≡ Some d

all_keep : (groups groups2 : List (List Declared)) (others others2 : List Declared) → Keeps groups others groups2 others2 → (ps : List Place) (ds : List Declared) → map (at_place groups others) ps ≡ map (λ (d : Declared). Some d) ds → map (at_place groups2 others2) ps ≡ map (λ (d : Declared). Some d) ds
all_keep groups groups2 others others2 keeps [] ds same = same
all_keep groups groups2 others others2 keeps (p ∷ ps) [] same = cc
all_keep groups groups2 others others2 keeps (p ∷ ps) (d ∷ ds) same =
    let here : at_place groups others p ≡ Some d = cc in
    let rest : map (at_place groups others) ps ≡ map (λ (d : Declared). Some d) ds = cc in
    let kept = keeps p d here in
    let others_kept = all_keep groups groups2 others others2 keeps ps ds rest in
    λ i. kept i ∷ others_kept i

placed_more : (groups groups2 : List (List Declared)) (others others2 : List Declared) → Keeps groups others groups2 others2 → (ps : List Place) (ds : List Declared) (p : Place) (d : Declared) → map (at_place groups others) ps ≡ map (λ (d : Declared). Some d) ds → at_place groups2 others2 p ≡ Some d → map (at_place groups2 others2) (ps ++ p ∷ []) ≡ map (λ (d : Declared). Some d) (ds ++ d ∷ [])
placed_more groups groups2 others others2 keeps ps ds p d same there =
    let before = all_keep groups groups2 others others2 keeps ps ds same in
    map-append (at_place groups2 others2) ps (p ∷ []) ∙ (λ i. before i ++ there i ∷ []) ∙ sym (map-append (λ (d : Declared). Some d) ds (d ∷ []))

-- ---- groups with one declaration more

put_in_get : (groups : List (List Declared)) (group : ℕ) (d : Declared) (k at : ℕ) (x : Declared) → option_and_then (λ (g : List Declared). slice_get g at) (slice_get groups k) ≡ Some x → option_and_then (λ (g : List Declared). slice_get g at) (slice_get (put_in group d groups) k) ≡ Some x
put_in_get [] group d k at x is = is
put_in_get (g ∷ groups) zero d zero at x is = slice_get_more g d at x is
put_in_get (g ∷ groups) zero d (suc k) at x is = is
put_in_get (g ∷ groups) (suc group) d zero at x is = is
put_in_get (g ∷ groups) (suc group) d (suc k) at x is = put_in_get groups group d k at x is

put_in_last : (groups : List (List Declared)) (group : ℕ) (d : Declared) → group < length groups → option_and_then (λ (g : List Declared). slice_get g (length (slice_index_or groups group []))) (slice_get (put_in group d groups) group) ≡ Some d
put_in_last [] group d within = absurd (omega arith)
put_in_last (g ∷ groups) zero d within = slice_get_last g d
put_in_last (g ∷ groups) (suc group) d within = put_in_last groups group d (omega arith)

keeps_in : (groups : List (List Declared)) (others : List Declared) (group : ℕ) (d : Declared) → Keeps groups others (put_in group d groups) others
keeps_in groups others group d (place.Counting k at) x is = put_in_get groups group d k at x is
keeps_in groups others group d (place.Other at) x is = is

keeps_aside : (groups : List (List Declared)) (others : List Declared) (d : Declared) → Keeps groups others groups (others ++ d ∷ [])
keeps_aside groups others d (place.Counting k at) x is = is
keeps_aside groups others d (place.Other at) x is = slice_get_more others d at x is

map_same : (f h : TypeName → List Declared) (names : List TypeName) → ((k : ℕ) (n : TypeName) → slice_get names k ≡ Some n → h n ≡ f n) → map f names ≡ map h names
map_same f h [] same = refl
map_same f h (n ∷ names) same =
    let here = same 0 n refl in
    let rest = map_same f h names (λ k m is. same (suc k) m is) in
    λ i. sym here i ∷ rest i

put_in-map : (f h : TypeName → List Declared) (names : List TypeName) (group : ℕ) (d : Declared) → ((n : TypeName) → slice_get names group ≡ Some n → h n ≡ f n ++ d ∷ []) → ((k : ℕ) (n : TypeName) → k ≢ group → slice_get names k ≡ Some n → h n ≡ f n) → put_in group d (map f names) ≡ map h names
put_in-map f h [] group d here other = refl
put_in-map f h (n ∷ names) zero d here other =
    let first = here n refl in
    let rest = map_same f h names (λ k m is. other (suc k) m (λ same. omega arith) is) in
    λ i. sym first i ∷ rest i
put_in-map f h (n ∷ names) (suc group) d here other =
    let first = other 0 n (λ same. omega arith) refl in
    let rest = put_in-map f h names group d here (λ k m apart is. other (suc k) m (λ same. apart (omega arith)) is) in
    λ i. sym first i ∷ rest i

pub group_at : (f : TypeName → List Declared) (names : List TypeName) (group : ℕ) (n : TypeName) → slice_get names group ≡ Some n → slice_index_or (map f names) group [] ≡ f n
group_at f [] group n is = cc
group_at f (m ∷ names) zero n is = let same : m ≡ n = cc in ap f same
group_at f (m ∷ names) (suc group) n is = group_at f names group n is

-- a write of a group with one declaration more
pub set-put_in : (groups : List (List Declared)) (group : ℕ) (old : List Declared) (d : Declared) → group < length groups → old ≡ slice_index_or groups group old → set groups group (old ++ d ∷ []) ≡ put_in group d groups
set-put_in [] group old d within is = absurd (omega arith)
set-put_in (g ∷ groups) zero old d within is = ap (λ x. (x ++ d ∷ []) ∷ groups) is
set-put_in (g ∷ groups) (suc group) old d within is = ap (λ gs. g ∷ gs) (set-put_in groups group old d (omega arith) is)

-- ---- names

words_at : (names : List TypeName) (k : ℕ) (n : TypeName) (d : Path) → slice_get names k ≡ Some n → get_or (paths_of names) k d ≡ n.path
words_at names k n d is = get_or_from_slice_get (paths_of names) k n.path d (slice_get-map (λ (n : TypeName). n.path) names k ∙ ap (option_map (λ (n : TypeName). n.path)) is)

words_within : (names : List TypeName) (k : ℕ) (n : TypeName) → slice_get names k ≡ Some n → k < length (paths_of names)
words_within names k n is = slice_get_within (paths_of names) k n.path (slice_get-map (λ (n : TypeName). n.path) names k ∙ ap (option_map (λ (n : TypeName). n.path)) is)

below_apart : (names : List TypeName) (i j : ℕ) (m n : TypeName) → IsStrictlySortedBy path_cmp (paths_of names) → i < j → slice_get names i ≡ Some m → slice_get names j ≡ Some n → same_path n.path m.path ≡ false
below_apart names i j m n rising below first second =
    let less = Less-from_sorted path_cmp (paths_of names) i j m.path rising below (words_within names j n second) in
    path_other m.path n.path Less (rw (words_at names i m m.path first, words_at names j n m.path second) at less) refl

-- names at two places differ
apart : (names : List TypeName) (i j : ℕ) (m n : TypeName) → IsStrictlySortedBy path_cmp (paths_of names) → i ≢ j → slice_get names i ≡ Some m → slice_get names j ≡ Some n → same_path m.path n.path ≡ false
apart names i j m n rising differ first second = elim (cases_lt i j) [
  | inl below ↦ path_equivalence.symm m.path n.path ∙ below_apart names i j m n rising below first second
  | inr above ↦ below_apart names j i n m rising (omega (arith, differ)) second first
]

first_false : (a b : Bool) → (a || b) ≡ false → a ≡ false
first_false true b is = is
first_false false b is = refl

second_false : (a b : Bool) → (a || b) ≡ false → b ≡ false
second_false true b is = absurd cc
second_false false b is = is

-- what is not among names is none of them
none_of : (names : List TypeName) (k : ℕ) (n : TypeName) (path : Path) → slice_get names k ≡ Some n → is_among names path ≡ false → same_path path n.path ≡ false
none_of [] k n path is missing = cc
none_of (m ∷ names) zero n path is missing =
    let same : m ≡ n = cc in
    subst (λ (x : TypeName). same_path path x.path ≡ false) same (first_false (same_path path m.path) (is_among names path) missing)
none_of (m ∷ names) (suc k) n path is missing = none_of names k n path is (second_false (same_path path m.path) (is_among names path) missing)

-- ---- one declaration more

-- no declarations are sorted so
pub sorts_none : (s : Sorted) → IsStrictlySortedBy path_cmp (paths_of s.names) → s.names ≡ map full_name (paths_of s.names) → s.groups.items ≡ map (λ (n : TypeName). []) s.names → s.places ≡ [] → Sorts s []
sorts_none s rising full groups places = record {
  rising = rising;
  full = full;
  grouped = groups;
  named = λ path missing. refl;
  placed = rw places refl;
}

-- a declaration that counts
pub sorts_in : (old new : Sorted) (group : ℕ) (d : Declared) (all : List Declared) → Sorts old all → PutsIn old new group d → group < length old.names → option_map (λ (n : TypeName). n.path) (slice_get old.names group) ≡ declared_path d → counts_beside (slice_index_or old.groups.items group []) d ≡ true → Sorts new (all ++ d ∷ [])
sorts_in old new group d all sorts puts within own counts =
    let n = get_or old.names group (full_name []) in
    let there : slice_get old.names group ≡ Some n = slice_get-get_or old.names group (full_name []) within in
    let named : declared_path d ≡ Some n.path = sym own ∙ ap (option_map (λ (n : TypeName). n.path)) there in
    let before = λ (m : TypeName). entries all m.path in
    let after = λ (m : TypeName). entries (all ++ d ∷ []) m.path in
    let in_group : counts_beside (before n) d ≡ true = ap (λ g. counts_beside g d) (sym (ap (λ gs. slice_index_or gs group []) sorts.grouped ∙ group_at before old.names group n there)) ∙ counts in
    let itself : declares n.path d ≡ true = declares_own n.path n.path d named ∙ path_equivalence.refl n.path in
    let has : after n ≡ before n ++ d ∷ [] = entries_more all d n.path ∙ ap (if_declared (before n) d) itself ∙ ap (with_next (before n) d) in_group in
    let here : (m : TypeName) → slice_get old.names group ≡ Some m → after m ≡ before m ++ d ∷ [] = λ m is. let same : n ≡ m = cc in subst (λ (x : TypeName). after x ≡ before x ++ d ∷ []) same has in
    let stays : (path : Path) → same_path path n.path ≡ false → entries (all ++ d ∷ []) path ≡ entries all path = λ path differs. entries_more all d path ∙ ap (if_declared (entries all path) d) (declares_own path n.path d named ∙ differs) in
    let other : (k : ℕ) (m : TypeName) → k ≢ group → slice_get old.names k ≡ Some m → after m ≡ before m = λ k m differ is. stays m.path (apart old.names k group m n sorts.rising differ is there) in
    record {
      rising = rw puts.names sorts.rising;
      full = rw puts.names sorts.full;
      grouped = rw puts.names (puts.groups ∙ ap (put_in group d) sorts.grouped ∙ put_in-map before after old.names group d here other);
      named = λ path missing. let gone : is_among old.names path ≡ false = rw puts.names at missing in stays path (none_of old.names group n path there gone) ∙ sorts.named path gone;
      placed = rw (puts.groups, puts.others, puts.places)
          (placed_more old.groups.items (put_in group d old.groups.items) old.others old.others (keeps_in old.groups.items old.others group d) old.places all _ d sorts.placed
          (put_in_last old.groups.items group d (rw sorts.grouped (omega (arith, length-map old.names before, within)))));
    }

-- a declaration that doesn't count
sorts_aside : (old new : Sorted) (d : Declared) (all : List Declared) → Sorts old all → PutsAside old new d → ((path : Path) → entries (all ++ d ∷ []) path ≡ entries all path) → Sorts new (all ++ d ∷ [])
sorts_aside old new d all sorts puts stays = record {
  rising = rw puts.names sorts.rising;
  full = rw puts.names sorts.full;
  grouped = rw puts.names (puts.groups ∙ sorts.grouped ∙ map_same (λ (m : TypeName). entries all m.path) (λ (m : TypeName). entries (all ++ d ∷ []) m.path) old.names (λ k m is. stays m.path));
  named = λ path missing. let gone : is_among old.names path ≡ false = rw puts.names at missing in stays path ∙ sorts.named path gone;
  placed = rw (puts.groups, puts.others, puts.places)
      (placed_more old.groups.items old.groups.items old.others (old.others ++ d ∷ []) (keeps_aside old.groups.items old.others d) old.places all _ d sorts.placed (slice_get_last old.others d));
}

clash_stays : (all : List Declared) (d : Declared) (path : Path) (b : Bool) → declares path d ≡ b → (b ≡ true → counts_beside (entries all path) d ≡ false) → entries (all ++ d ∷ []) path ≡ entries all path
clash_stays all d path true is clash = entries_more all d path ∙ ap (if_declared (entries all path) d) is ∙ ap (with_next (entries all path) d) (clash refl)
clash_stays all d path false is clash = entries_more all d path ∙ ap (if_declared (entries all path) d) is

-- a clash
pub sorts_clash : (old new : Sorted) (group : ℕ) (d : Declared) (all : List Declared) → Sorts old all → PutsAside old new d → group < length old.names → option_map (λ (n : TypeName). n.path) (slice_get old.names group) ≡ declared_path d → counts_beside (slice_index_or old.groups.items group []) d ≡ false → Sorts new (all ++ d ∷ [])
sorts_clash old new group d all sorts puts within own clash =
    let n = get_or old.names group (full_name []) in
    let there : slice_get old.names group ≡ Some n = slice_get-get_or old.names group (full_name []) within in
    let named : declared_path d ≡ Some n.path = sym own ∙ ap (option_map (λ (n : TypeName). n.path)) there in
    let before = λ (m : TypeName). entries all m.path in
    let in_group : counts_beside (before n) d ≡ false = ap (λ g. counts_beside g d) (sym (ap (λ gs. slice_index_or gs group []) sorts.grouped ∙ group_at before old.names group n there)) ∙ clash in
    sorts_aside old new d all sorts puts (λ path. clash_stays all d path (declares path d) refl (λ has.
    let same : path ≡ n.path = (path_decides path n.path).0 (sym (declares_own path n.path d named) ∙ has) in
    subst (λ (p : Path). counts_beside (entries all p) d ≡ false) (sym same) in_group))

-- a declaration without a name
pub sorts_unnamed : (old new : Sorted) (d : Declared) (all : List Declared) → Sorts old all → PutsAside old new d → HasName old d → ((path : Path) → declared_path d ≡ Some path → is_among old.names path ≡ false) → Sorts new (all ++ d ∷ [])
sorts_unnamed old new d all sorts puts among missing = sorts_aside old new d all sorts puts (λ path. by_name (declared_path d) refl path)
  where
    by_name : (r : Option Path) → declared_path d ≡ r → (path : Path) → entries (all ++ d ∷ []) path ≡ entries all path
    by_name None is path = clash_stays all d path false (declares_none path d is) (λ has. cc)
    by_name (Some own) is path = let one = among own is in let other = missing own is in absurd cc

-- what is read of a group
pub counts_in : (s : Sorted) (group : ℕ) (d : Declared) (read : List Declared) → group < length s.names → length s.groups.items ≡ length s.names → read ≡ slice_index_or s.groups.items group read → counts_beside (slice_index_or s.groups.items group []) d ≡ counts_beside read d
counts_in s group d read within even is = ap (λ g. counts_beside g d) (sym (is ∙ get_or_default s.groups.items group read [] (omega (arith, within, even))))
