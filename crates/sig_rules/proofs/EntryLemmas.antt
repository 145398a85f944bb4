-- The declarations of a name that count, one declaration later.
use Rattle.std.proofs.Common.{◌≡◌, ◌∙◌, Bool, true, false, List, [], ◌∷◌, ◌++◌, if◌then◌else◌, filter, Some, None, refl, ap, append-nil}
use Rattle.std.proofs.lemmas.List.Elements.{filter-append}
use Rattle.sig_rules.specs.declared.files.Declared.{Declared}
use Rattle.sig_rules.specs.Declarations.{Path, same_path, declares, declared_path, entries, goes_with, without_clashes}
use Rattle.sig_rules.specs.Sorted.{counts_beside}

-- those that count, with one more behind them
abbrev pub with_next : List Declared → Declared → Bool → List Declared
with_next group d true = group ++ d ∷ []
with_next group d false = group

-- those that count, with one more behind them if it has the name
abbrev pub if_declared : List Declared → Declared → Bool → List Declared
if_declared group d true = with_next group d (counts_beside group d)
if_declared group d false = group

behind_first : (first d : Declared) (kept : List Declared) (b : Bool) → (first ∷ kept ++ (if b then d ∷ [] else [])) ≡ with_next (first ∷ kept) d b
behind_first first d kept true = refl
behind_first first d kept false = ap (λ xs. first ∷ xs) (append-nil kept)

without_clashes_more : (all : List Declared) (d : Declared) → without_clashes (all ++ d ∷ []) ≡ with_next (without_clashes all) d (counts_beside (without_clashes all) d)
without_clashes_more [] d = refl
without_clashes_more (first ∷ others) d =
    let goes = λ (other : Declared). goes_with first.decl other.decl in
    ap (λ xs. first ∷ xs) (filter-append goes others (d ∷ [])) ∙ behind_first first d (filter goes others) (goes_with first.decl d.decl)

by_name : (kept : List Declared) (d : Declared) (b : Bool) → without_clashes (kept ++ (if b then d ∷ [] else [])) ≡ if_declared (without_clashes kept) d b
by_name kept d true = without_clashes_more kept d
by_name kept d false = ap without_clashes (append-nil kept)

pub entries_more : (all : List Declared) (d : Declared) (path : Path) → entries (all ++ d ∷ []) path ≡ if_declared (entries all path) d (declares path d)
entries_more all d path = ap without_clashes (filter-append (declares path) all (d ∷ [])) ∙ by_name (filter (declares path) all) d (declares path d)

-- a declaration without a name declares none
pub declares_none : (path : Path) (d : Declared) → declared_path d ≡ None → declares path d ≡ false
declares_none path d is = rw is refl

-- a declaration has no name but its own
pub declares_own : (path own : Path) (d : Declared) → declared_path d ≡ Some own → declares path d ≡ same_path path own
declares_own path own d is = rw is refl
