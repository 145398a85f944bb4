-- What a table answers.
use Rattle.std.proofs.Common.{◌≡◌, ◌≢◌, ◌∙◌, ℕ, zero, suc, ◌<◌, Bool, true, false, if◌then◌else◌, ◌||◌, List, [], ◌∷◌, ◌++◌, length, map, slice_get, Option, Some, None, refl, sym, ap, subst, arith}
use Rattle.std.specs.List.{list_any, slice_index_or}
use Rattle.std.specs.Option.{option_map, option_and_then}
use Rattle.std.proofs.lemmas.Option.{slice_get-map, slice_get_within}
use Rattle.std.proofs.lemmas.List.{length-map, get_or_default}
use Rattle.rbs_tree.specs.declared.names.TypeName.{TypeName}
use Rattle.sig_rules.specs.declared.files.Declared.{Declared}
use Rattle.sig_rules.specs.declared.sorted.Place.{Place}
use Rattle.sig_rules.specs.declared.sorted.Sorted.{Sorted}
use Rattle.sig_rules.specs.Declarations.{Path, same_path, declared_path, entries, full_name, somes}
use Rattle.sig_rules.specs.Names.{is_known}
use Rattle.sig_rules.specs.Places.{Finds}
use Rattle.sig_rules.specs.Sorted.{Sorts, at_place, paths_of, whole}
use Rattle.sig_rules.proofs.OrderLemmas.{path_equivalence}
use Rattle.sig_rules.proofs.SortingLemmas.{group_at}

somes_all : (ds : List Declared) → somes (map (λ (d : Declared). Some d) ds) ≡ ds
somes_all [] = refl
somes_all (d ∷ ds) = ap (λ xs. d ∷ xs) (somes_all ds)

-- what stands at all places is all
pub sorts_view : (s : Sorted) (all : List Declared) → Sorts s all → somes (whole s) ≡ all
sorts_view s all sorts = ap (λ (xs : List (Option Declared)). somes xs) sorts.placed ∙ somes_all all

pub finds_itself : (s : Sorted) (words : List Path) (all : List Declared) → Sorts s all → words ≡ paths_of s.names → Finds s words (somes (whole s))
finds_itself s words all sorts same = record { sorts = subst (Sorts s) (sym (sorts_view s all sorts)) sorts; listed = same }

read_placed : (f : Place → Option Declared) (ps : List Place) (ds : List Declared) (i : ℕ) → map f ps ≡ map (λ (d : Declared). Some d) ds → slice_get ds i ≡ option_and_then f (slice_get ps i)
read_placed f [] [] i same = refl
read_placed f [] (d ∷ ds) i same = cc
read_placed f (p ∷ ps) [] i same = cc
read_placed f (p ∷ ps) (d ∷ ds) zero same = cc
read_placed f (p ∷ ps) (d ∷ ds) (suc i) same = read_placed f ps ds i cc

-- what stands at a declaration's place is that declaration
pub placed_at : (s : Sorted) (all : List Declared) (i : ℕ) (p : Place) → Sorts s all → slice_get s.places i ≡ Some p → at_place s.groups.items s.others p ≡ slice_get all i
placed_at s all i p sorts there =
    sym (read_placed (at_place s.groups.items s.others) s.places all i sorts.placed ∙ ap (option_and_then (at_place s.groups.items s.others)) there)

-- ---- what is found by its place

-- the name at a place has its words
at_name : (s : Sorted) (words : List Path) (all : List Declared) (at : ℕ) (path : Path) → Finds s words all → slice_get words at ≡ Some path → slice_get s.names at ≡ Some (full_name path)
at_name s words all at path finds is =
    ap (λ (ns : List TypeName). slice_get ns at) finds.sorts.full
    ∙ slice_get-map full_name (paths_of s.names) at
    ∙ ap (λ (ps : List Path). option_map full_name (slice_get ps at)) (sym finds.listed)
    ∙ ap (option_map full_name) is

-- beside it stand its declarations
pub group_within : (s : Sorted) (words : List Path) (all : List Declared) (at : ℕ) (path : Path) → Finds s words all → slice_get words at ≡ Some path → at < length s.groups.items
group_within s words all at path finds is =
    let own = λ (n : TypeName). entries all n.path in
    rw finds.sorts.grouped (omega (arith, length-map s.names own, slice_get_within s.names at (full_name path) (at_name s words all at path finds is)))

pub group_found : (s : Sorted) (words : List Path) (all : List Declared) (at : ℕ) (path : Path) (group : List Declared) → Finds s words all → slice_get words at ≡ Some path → group ≡ slice_index_or s.groups.items at group → group ≡ entries all path
group_found s words all at path group finds is read =
    let own = λ (n : TypeName). entries all n.path in
    let there = at_name s words all at path finds is in
    read
    ∙ get_or_default s.groups.items at group [] (group_within s words all at path finds is)
    ∙ ap (λ (gs : List (List Declared)). slice_index_or gs at []) finds.sorts.grouped
    ∙ group_at own s.names at (full_name path) there

-- a name without a place has no declarations
pub group_none : (s : Sorted) (words : List Path) (all : List Declared) (path : Path) → Finds s words all → list_any (same_path path) words ≡ false → entries all path ≡ []
group_none s words all path finds missing = finds.sorts.named path (ap (list_any (same_path path)) (sym finds.listed) ∙ missing)

known_by : (all : List Declared) (path : Path) (es : List Declared) → es ≡ entries all path → es ≢ [] → is_known all path ≡ true
known_by all path [] is some = absurd (some refl)
known_by all path (e ∷ es) is some = rw (← is) refl

unknown_by : (all : List Declared) (path : Path) → entries all path ≡ [] → is_known all path ≡ false
unknown_by all path is = rw is refl

-- a name that has declarations is known, and is a full name
pub full_at : (s : Sorted) (words : List Path) (all : List Declared) (at : ℕ) (path : Path) (group : List Declared) → Finds s words all → slice_get words at ≡ Some path → group ≡ slice_index_or s.groups.items at group → group ≢ [] → slice_get s.names at ≡ (if is_known all path then Some (full_name path) else None)
full_at s words all at path group finds is read some =
    at_name s words all at path finds is
    ∙ ap (λ b. if b then Some (full_name path) else None) (sym (known_by all path group (group_found s words all at path group finds is read) some))

-- a name that has none isn't
pub full_empty : (all : List Declared) (path : Path) → entries all path ≡ [] → None ≡ (if is_known all path then Some (full_name path) else None)
full_empty all path empty = ap (λ b. if b then Some (full_name path) else None) (sym (unknown_by all path empty))

-- ---- names of declarations

or_true : (a b : Bool) → b ≡ true → (a || b) ≡ true
or_true true b is = refl
or_true false b is = is

has_first : (r : Option Path) (rest : List (Option Path)) (path : Path) → r ≡ Some path → list_any (same_path path) (somes (r ∷ rest)) ≡ true
has_first None rest path is = absurd cc
has_first (Some own) rest path is =
    let same : own ≡ path = cc in
    let itself : same_path path own ≡ true = ap (same_path path) same ∙ path_equivalence.refl path in
    ap (λ b. b || list_any (same_path path) (somes rest)) itself

has_behind : (r : Option Path) (rest : List (Option Path)) (path : Path) → list_any (same_path path) (somes rest) ≡ true → list_any (same_path path) (somes (r ∷ rest)) ≡ true
has_behind None rest path is = is
has_behind (Some own) rest path is = or_true (same_path path own) (list_any (same_path path) (somes rest)) is

-- a declaration of a list has its name among the names
pub has_name : (before after : List Declared) (d : Declared) (path : Path) → declared_path d ≡ Some path → list_any (same_path path) (somes (map declared_path (before ++ d ∷ after))) ≡ true
has_name [] after d path own = has_first (declared_path d) (map declared_path after) path own
has_name (first ∷ before) after d path own = has_behind (declared_path first) (map declared_path (before ++ d ∷ after)) path (has_name before after d path own)
