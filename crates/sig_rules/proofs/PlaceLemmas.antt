-- Names by their words: where each stands, and that each is new to those before it.
use Rattle.std.proofs.Common.{◌≡◌, ◌∙◌, ℕ, ◌+◌, ◌<◌, false, if◌then◌else◌, List, [], ◌∷◌, ◌++◌, length, get_or, take, map, slice_get, Option, Some, None, refl, sym, ap, is_some, IfSome, IfNone, arith}
use Rattle.std.specs.List.{list_any, position}
use Rattle.std.specs.List.Sorted.{IsStrictlySortedBy}
use Rattle.std.proofs.lemmas.List.{map_more, get_or-map, get_or-take, length-map, length-take}
use Rattle.std.proofs.lemmas.List.Folds.{list_any_none}
use Rattle.std.proofs.lemmas.List.Quantifiers.{position-Some}
use Rattle.std.proofs.lemmas.Map.Keys.{Less-from_sorted}
use Rattle.std.proofs.lemmas.Option.{slice_get-get_or}
use Rattle.std.specs.declared.cmp.Ordering.TheVariants.{Less}
use Rattle.rbs_tree.specs.declared.names.TypeName.{TypeName}
use Rattle.indexmap.specs.IndexSet.{insert_key}
use Rattle.sig_rules.specs.Declarations.{Path, same_path}
use Rattle.sig_rules.specs.Sorted.{path_cmp, paths_of}
use Rattle.sig_rules.proofs.OrderLemmas.{path_decides, path_other}

-- among names that rise, one is none of those before it
new_behind : (names : List TypeName) (i : ℕ) (name : TypeName) → IsStrictlySortedBy path_cmp (paths_of names) → i < length names → name ≡ get_or names i name → list_any (same_path name.path) (paths_of (take i names)) ≡ false
new_behind names i name rising within is =
    let words = λ (n : TypeName). n.path in
    list_any_none (same_path name.path) (paths_of (take i names)) (λ k d below.
    let short : k < length (take i names) = omega (arith, below, length-map (take i names) words) in
    let under : k < i = omega (arith, short, length-take i names) in
    let there : get_or (paths_of (take i names)) k d ≡ (get_or names k name).path = get_or-map words (take i names) k name d short ∙ ap words (get_or-take i names k name under) in
    let first : get_or (paths_of names) k d ≡ (get_or names k name).path = get_or-map words names k name d (omega (arith, under, within)) in
    let second : get_or (paths_of names) i d ≡ name.path = get_or-map words names i name d within ∙ ap words (sym is) in
    let less = Less-from_sorted path_cmp (paths_of names) k i d rising under (omega (arith, within, length-map names words)) in
    rw there (path_other (get_or names k name).path name.path Less (rw (first, second) at less) refl))

-- the next name's words are put behind those before it
pub put_next : (names : List TypeName) (i : ℕ) (name : TypeName) (keys keys2 : List Path) → IsStrictlySortedBy path_cmp (paths_of names) → i < length names → name ≡ get_or names i name → keys ≡ paths_of (take i names) → keys2 ≡ insert_key same_path keys name.path → keys2 ≡ paths_of (take (i + 1) names)
put_next names i name keys keys2 rising within is before put =
    let words = λ (n : TypeName). n.path in
    let fresh : list_any (same_path name.path) keys ≡ false = rw before (new_behind names i name rising within is) in
    put
    ∙ ap (λ b. if b then keys else keys ++ name.path ∷ []) fresh
    ∙ ap (λ ks. ks ++ name.path ∷ []) before
    ∙ sym (map_more words names i name within ∙ ap (λ (n : TypeName). paths_of (take i names) ++ n.path ∷ []) (sym is))

-- the place that was found
pub found_at : (paths : List Path) (words : Path) (r : Option ℕ) → r ≡ position (same_path words) paths → IfSome r (λ at. slice_get paths at ≡ Some words)
found_at paths words None is = tt
found_at paths words (Some at) is =
    let found = position-Some (same_path words) paths at words (sym is) in
    slice_get-get_or paths at words found.0 ∙ ap Some (sym ((path_decides words (get_or paths at words)).0 found.1))

-- no place was found
pub found_none : (paths : List Path) (words : Path) (r : Option ℕ) → is_some r ≡ list_any (same_path words) paths → IfNone r (list_any (same_path words) paths ≡ false)
found_none paths words None is = sym is
found_none paths words (Some at) is = tt
