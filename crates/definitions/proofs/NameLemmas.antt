-- The names that are declared, each once.
use Rattle.std.proofs.Common.{◌≡◌, ◌∙◌, ℕ, zero, suc, ◌+◌, Bool, true, false, ◌||◌, List, [], ◌∷◌, ◌++◌, if◌then◌else◌, append_assoc, append-nil, filter, take, map, reverse, slice_get, Option, Some, None, refl, sym, ap, subst}
use Rattle.std.specs.List.{list_any}
use Rattle.std.proofs.lemmas.List.{reverse-append}
use Rattle.std.proofs.lemmas.List.Folds.{list_any-append}
use Rattle.std.proofs.lemmas.Map.Steps.{list_any_congr}
use Rattle.std.proofs.lemmas.Option.{slice_get_within, get_or_from_slice_get}
use Rattle.rbs_tree.specs.declared.names.TypeName.{TypeName}
use Rattle.indexmap.specs.IndexSet.{insert_key}
use Rattle.sig_rules.specs.declared.files.Declared.{Declared}
use Rattle.sig_rules.specs.Declarations.{Path, declared_names, declared_path, declares, each_once, entries, full_name, same_path, somes, without_clashes}
use Rattle.sig_rules.proofs.EntryLemmas.{declares_none, declares_own}
use Rattle.sig_rules.proofs.NameLemmas.{paths_more}
use Rattle.sig_rules.proofs.OrderLemmas.{path_equivalence}

-- ---- lists of names

-- a name that stands behind adds nothing
absorbed : (x p : Path) (ps : List Path) → list_any (same_path p) ps ≡ true → (same_path x p || list_any (same_path x) ps) ≡ list_any (same_path x) ps
absorbed x p ps is = by_test (same_path x p) refl
  where
    by_test : (b : Bool) → same_path x p ≡ b → (b || list_any (same_path x) ps) ≡ list_any (same_path x) ps
    by_test true same = sym (list_any_congr path_equivalence x p ps same ∙ is)
    by_test false same = refl

any_drop : (x p : Path) (front ps : List Path) → list_any (same_path p) ps ≡ true → list_any (same_path x) (front ++ p ∷ ps) ≡ list_any (same_path x) (front ++ ps)
any_drop x p [] ps is = absorbed x p ps is
any_drop x p (q ∷ front) ps is = ap (λ b. same_path x q || b) (any_drop x p front ps is)

if_both : (a b : Bool) (q : Path) (xs ys : List Path) → a ≡ b → xs ≡ ys → (if a then xs else q ∷ xs) ≡ (if b then ys else q ∷ ys)
if_both a b q xs ys same rest = λ i. if same i then rest i else q ∷ rest i

once_drop : (p : Path) (front ps : List Path) → list_any (same_path p) ps ≡ true → each_once (front ++ p ∷ ps) ≡ each_once (front ++ ps)
once_drop p [] ps is = ap (λ b. if b then each_once ps else p ∷ each_once ps) is
once_drop p (q ∷ front) ps is = if_both _ _ q _ _ (any_drop q p front ps is) (once_drop p front ps is)

turned : (a b : Bool) → (a || (b || false)) ≡ (b || a)
turned true true = refl
turned true false = refl
turned false true = refl
turned false false = refl

any_reversed : (p : Path) (ps : List Path) → list_any (same_path p) (reverse ps) ≡ list_any (same_path p) ps
any_reversed p [] = refl
any_reversed p (q ∷ ps) =
    ap (λ qs. list_any (same_path p) qs) (reverse-append (q ∷ []) ps)
    ∙ list_any-append (same_path p) (reverse ps) (q ∷ [])
    ∙ ap (λ b. b || (same_path p q || false)) (any_reversed p ps)
    ∙ turned (list_any (same_path p) ps) (same_path p q)

-- ---- names that are seen from the last to the first

-- the names that are left, and those that were seen behind them, are together the given ones
pub record Seen (given rest keys : List Path) : Type 0 where
  pub same : each_once (rest ++ reverse keys) ≡ each_once given
  pub once : each_once (reverse keys) ≡ reverse keys

pub seen_none : (given : List Path) → Seen given given []
seen_none given = record { same = ap each_once (append-nil given); once = refl }

pub seen_start : (given rest keys : List Path) → rest ≡ given → keys ≡ [] → Seen given rest keys
seen_start given rest keys same none = subst (λ (ks : List Path). Seen given rest ks) (sym none) (subst (λ (ps : List Path). Seen given ps []) (sym same) (seen_none given))

pub seen_more : (given rest keys : List Path) (p : Path) → Seen given (rest ++ p ∷ []) keys → Seen given rest (insert_key same_path keys p)
seen_more given rest keys p seen = by_test (list_any (same_path p) keys) refl
  where
    split : each_once (rest ++ p ∷ reverse keys) ≡ each_once given
    split = ap each_once (sym (append_assoc rest (p ∷ []) (reverse keys))) ∙ seen.same

    back : reverse (keys ++ p ∷ []) ≡ p ∷ reverse keys
    back = reverse-append keys (p ∷ [])

    by_test : (b : Bool) → list_any (same_path p) keys ≡ b → Seen given rest (if b then keys else keys ++ p ∷ [])
    by_test true is = record {
      same = sym (once_drop p rest (reverse keys) (any_reversed p keys ∙ is)) ∙ split;
      once = seen.once;
    }
    by_test false is = record {
      same = ap (λ ks. each_once (rest ++ ks)) back ∙ split;
      once =
          ap each_once back
          ∙ ap (λ b. if b then each_once (reverse keys) else p ∷ each_once (reverse keys)) (any_reversed p keys ∙ is)
          ∙ ap (λ ks. p ∷ ks) seen.once
          ∙ sym back;
    }

pub seen_next : (given old rest keys new : List Path) (p : Path) → old ≡ rest ++ p ∷ [] → new ≡ insert_key same_path keys p → Seen given old keys → Seen given rest new
seen_next given old rest keys new p left added seen = subst (Seen given rest) (sym added) (seen_more given rest keys p (subst (λ (ps : List Path). Seen given ps keys) left seen))

pub seen_all : (given keys : List Path) → Seen given [] keys → reverse keys ≡ each_once given
seen_all given keys seen = sym seen.once ∙ seen.same

-- the full name of the last of some words goes to the end
pub full_next : (list : List TypeName) (old new : List Path) (p : Path) (name : TypeName) (all : List TypeName) → name ≡ full_name p → old ≡ new ++ p ∷ [] → list ++ map full_name (reverse old) ≡ all → (list ++ name ∷ []) ++ map full_name (reverse new) ≡ all
full_next list old new p name all full is same =
    ap (λ (n : TypeName). (list ++ n ∷ []) ++ map full_name (reverse new)) full
    ∙ append_assoc list (full_name p ∷ []) (map full_name (reverse new))
    ∙ ap (λ ps. list ++ map full_name ps) (sym (reverse-append new (p ∷ [])))
    ∙ ap (λ (ps : List Path). list ++ map full_name (reverse ps)) (sym is)
    ∙ same

-- ---- names that are not declared

once_same : (x : Path) (ps : List Path) → list_any (same_path x) (each_once ps) ≡ list_any (same_path x) ps
once_same x [] = refl
once_same x (p ∷ ps) = by_test (list_any (same_path p) ps) refl (once_same x ps)
  where
    by_test : (b : Bool) → list_any (same_path p) ps ≡ b → list_any (same_path x) (each_once ps) ≡ list_any (same_path x) ps → list_any (same_path x) (if b then each_once ps else p ∷ each_once ps) ≡ (same_path x p || list_any (same_path x) ps)
    by_test true is rest = rest ∙ sym (absorbed x p ps is)
    by_test false is rest = ap (λ b. same_path x p || b) rest

or_left : (a b : Bool) → (a || b) ≡ false → a ≡ false
or_left true b is = is
or_left false b is = refl

or_right : (a b : Bool) → (a || b) ≡ false → b ≡ false
or_right true b is = absurd cc
or_right false b is = is

filtered : (test : Declared → Bool) (d : Declared) (ds : List Declared) → test d ≡ false → filter test ds ≡ [] → filter test (d ∷ ds) ≡ []
filtered test d ds other none = ap (λ b. if b then d ∷ filter test ds else filter test ds) other ∙ none

no_declaration : (path : Path) (ds : List Declared) → list_any (same_path path) (somes (map declared_path ds)) ≡ false → filter (declares path) ds ≡ []
no_declaration path [] is = refl
no_declaration path (d ∷ ds) is = by_name (declared_path d) refl is (no_declaration path ds)
  where
    by_name : (r : Option Path) → declared_path d ≡ r → list_any (same_path path) (somes (r ∷ map declared_path ds)) ≡ false → (list_any (same_path path) (somes (map declared_path ds)) ≡ false → filter (declares path) ds ≡ []) → filter (declares path) (d ∷ ds) ≡ []
    by_name None own none rest = filtered (declares path) d ds (declares_none path d own) (rest none)
    by_name (Some p) own none rest = filtered (declares path) d ds (declares_own path p d own ∙ or_left _ _ none) (rest (or_right _ _ none))

-- no declaration of it counts
pub undeclared : (all : List Declared) (path : Path) → list_any (same_path path) (declared_names all) ≡ false → entries all path ≡ []
undeclared all path is = ap without_clashes (no_declaration path all (sym (once_same path (somes (map declared_path all))) ∙ is))

-- ---- the walk over declarations

-- one declaration more
pub paths_at : (all : List Declared) (i : ℕ) (d : Declared) → slice_get all i ≡ Some d → somes (map declared_path (take (i + 1) all)) ≡ somes (map declared_path (take i all)) ++ somes (declared_path d ∷ [])
paths_at all i d is =
    paths_more all i d (slice_get_within all i d is)
    ∙ ap (λ (e : Declared). somes (map declared_path (take i all)) ++ somes (declared_path e ∷ [])) (get_or_from_slice_get all i d d is)

taken_whole : (ds : List Declared) (i : ℕ) → slice_get ds i ≡ None → take i ds ≡ ds
taken_whole [] zero none = refl
taken_whole [] (suc i) none = refl
taken_whole (d ∷ ds) zero none = absurd cc
taken_whole (d ∷ ds) (suc i) none = ap (λ xs. d ∷ xs) (taken_whole ds i none)

-- all declarations
pub paths_whole : (all : List Declared) (i : ℕ) → slice_get all i ≡ None → somes (map declared_path (take i all)) ≡ somes (map declared_path all)
paths_whole all i none = ap (λ (ds : List Declared). somes (map declared_path ds)) (taken_whole all i none)
