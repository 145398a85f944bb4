-- The values of constants and globals.
use Rattle.std.proofs.Common.{◌≡◌, ◌∙◌, ℕ, ◌+◌, ◌<◌, Bool, true, false, true≢false, List, [], ◌∷◌, ◌++◌, if◌then◌else◌, length, get_or, take, Option, Some, None, is_some, refl, sym, ap, subst}
use Rattle.std.specs.Map.{lookup}
use Rattle.std.specs.Option.{option_map}
use Rattle.std.specs.Cmp.Lexicographic.{nat_list_eq_equiv}
use Rattle.std.proofs.lemmas.List.{map_more}
use Rattle.rbs_tree.specs.declared.names.TypeName.{TypeName}
use Rattle.std.proofs.lemmas.Slice.Eq.{bytes_eq-Decides}
use Rattle.rbs_tree.specs.declared.types.Ty.{Ty}
use Rattle.sig_rules.specs.declared.files.Declared.{Declared}
use Rattle.sig_rules.specs.Declarations.{Path, declared_names}
use Rattle.sig_rules.specs.Methods.{same_word}
use Rattle.sig_rules.specs.Names.{first_that}
use Rattle.sig_rules.specs.Sorted.{paths_of}
use Rattle.sig_rules.specs.Types.{value}
use Rattle.sig_rules.specs.Worlds.{value_of, value_text}
use Rattle.definitions.specs.Tables.{HoldsValues, Puts}

abbrev first_or : Option Path → Bool → Path → Option Path
first_or (Some q) b p = Some q
first_or None b p = if b then Some p else None

first_more : (test : Path → Bool) (paths : List Path) (p : Path) → first_that test (paths ++ p ∷ []) ≡ first_or (first_that test paths) (test p) p
first_more test [] p = refl
first_more test (q ∷ paths) p = by_test (test q) (first_more test paths p)
  where
    by_test : (b : Bool) → first_that test (paths ++ p ∷ []) ≡ first_or (first_that test paths) (test p) p → (if b then Some q else first_that test (paths ++ p ∷ [])) ≡ first_or (if b then Some q else first_that test paths) (test p) p
    by_test true rest = refl
    by_test false rest = rest

word_decides : (a b : List ℕ) → same_word a b ≡ true → a ≡ b
word_decides a b same = (bytes_eq-Decides a b).0 same

stays : (v : Path → Option Ty) (o : Option Path) (p : Path) → is_some (option_map v o) ≡ true → (b : Bool) → option_map v (first_or o b p) ≡ option_map v o
stays v None p some b = absurd (true≢false (sym some))
stays v (Some q) p some b = refl

other_stays : (o : Option Path) (p : Path) → first_or o false p ≡ o
other_stays None p = refl
other_stays (Some q) p = refl

-- one name more, whose text has a value already
pub values_there : (all : List Declared) (p : Path) (table : List (List ℕ × Option Ty)) → is_some (lookup (same_word (value_text p)) table) ≡ true → (paths : List Path) → HoldsValues all paths table → HoldsValues all (paths ++ p ∷ []) table
values_there all p table some paths holds name = by_test (same_word name (value_text p)) refl
  where
    o : Option Path
    o = first_that (λ path. same_word name (value_text path)) paths

    more : option_map (value all) (first_that (λ path. same_word name (value_text path)) (paths ++ p ∷ [])) ≡ option_map (value all) (first_or o (same_word name (value_text p)) p)
    more = ap (option_map (value all)) (first_more (λ path. same_word name (value_text path)) paths p)

    by_test : (b : Bool) → same_word name (value_text p) ≡ b → lookup (same_word name) table ≡ option_map (value all) (first_that (λ path. same_word name (value_text path)) (paths ++ p ∷ []))
    by_test true same =
        let own : is_some (lookup (same_word name) table) ≡ true = ap (λ t. is_some (lookup (same_word t) table)) (word_decides name (value_text p) same) ∙ some in
        holds name ∙ sym (stays (value all) o p (ap is_some (sym (holds name)) ∙ own) (same_word name (value_text p))) ∙ sym more
    by_test false other =
        holds name ∙ ap (option_map (value all)) (sym (ap (λ b. first_or o b p) other ∙ other_stays o p)) ∙ sym more

comes_new : (v : Path → Option Ty) (o : Option Path) (p : Path) → is_some (option_map v o) ≡ false → option_map v (first_or o true p) ≡ Some (v p)
comes_new v None p none = refl
comes_new v (Some q) p none = absurd (true≢false none)

-- one name more, whose text is new
pub values_new : (all : List Declared) (p : Path) (old new : List (List ℕ × Option Ty)) → is_some (lookup (same_word (value_text p)) old) ≡ false → Puts same_word old new (value_text p) (value all p) → (paths : List Path) → HoldsValues all paths old → HoldsValues all (paths ++ p ∷ []) new
values_new all p old new none puts paths holds name = by_test (same_word name (value_text p)) refl
  where
    o : Option Path
    o = first_that (λ path. same_word name (value_text path)) paths

    more : option_map (value all) (first_that (λ path. same_word name (value_text path)) (paths ++ p ∷ [])) ≡ option_map (value all) (first_or o (same_word name (value_text p)) p)
    more = ap (option_map (value all)) (first_more (λ path. same_word name (value_text path)) paths p)

    there : lookup (same_word name) new ≡ (if same_word name (value_text p) then Some (value all p) else lookup (same_word name) old)
    there = puts name ∙ ap (λ b. if b then Some (value all p) else lookup (same_word name) old) (nat_list_eq_equiv.symm (value_text p) name)

    by_test : (b : Bool) → same_word name (value_text p) ≡ b → lookup (same_word name) new ≡ option_map (value all) (first_that (λ path. same_word name (value_text path)) (paths ++ p ∷ []))
    by_test true same =
        let absent : is_some (lookup (same_word name) old) ≡ false = ap (λ t. is_some (lookup (same_word t) old)) (word_decides name (value_text p) same) ∙ none in
        there
        ∙ ap (λ b. if b then Some (value all p) else lookup (same_word name) old) same
        ∙ sym (comes_new (value all) o p (ap is_some (sym (holds name)) ∙ absent))
        ∙ ap (λ b. option_map (value all) (first_or o b p)) (sym same)
        ∙ sym more
    by_test false other =
        there
        ∙ ap (λ b. if b then Some (value all p) else lookup (same_word name) old) other
        ∙ holds name
        ∙ ap (option_map (value all)) (sym (ap (λ b. first_or o b p) other ∙ other_stays o p))
        ∙ sym more

pub values_put : (all : List Declared) (p : Path) (old new : List (List ℕ × Option Ty)) (key : List ℕ) (v : Option Ty) → key ≡ value_text p → v ≡ value all p → is_some (lookup (same_word key) old) ≡ false → Puts same_word old new key v → (paths : List Path) → HoldsValues all paths old → HoldsValues all (paths ++ p ∷ []) new
values_put all p old new key v key_is value_is none puts =
    values_new all p old new
    (ap (λ t. is_some (lookup (same_word t) old)) (sym key_is) ∙ none)
    (subst (λ x. Puts same_word old new (value_text p) x) value_is (subst (λ t. Puts same_word old new t v) key_is puts))

-- what a loop over names has, one name later
pub values_next : (all : List Declared) (list : List TypeName) (i : ℕ) (name : TypeName) (old new : List (List ℕ × Option Ty)) → i < length list → name ≡ get_or list i name → HoldsValues all (paths_of (take i list)) old → ((paths : List Path) → HoldsValues all paths old → HoldsValues all (paths ++ name.path ∷ []) new) → HoldsValues all (paths_of (take (i + 1) list)) new
values_next all list i name old new within same holds puts =
    let more : paths_of (take (i + 1) list) ≡ paths_of (take i list) ++ name.path ∷ [] =
    map_more (λ (n : TypeName). n.path) list i name within ∙ ap (λ (n : TypeName). paths_of (take i list) ++ n.path ∷ []) (sym same)
    in
    subst (λ ps. HoldsValues all ps new) (sym more) (puts (paths_of (take i list)) holds)

-- the value that is found, if there is one
abbrev pub found_value : Option (Option Ty) → Option Ty
found_value None = None
found_value (Some found) = found

pub value_found : (all : List Declared) (name : List ℕ) (table : List (List ℕ × Option Ty)) → HoldsValues all (declared_names all) table → found_value (lookup (same_word name) table) ≡ value_of all name
value_found all name table holds = by_first (first_that (λ path. same_word name (value_text path)) (declared_names all)) refl
  where
    by_first : (o : Option Path) → first_that (λ path. same_word name (value_text path)) (declared_names all) ≡ o → found_value (lookup (same_word name) table) ≡ value_of all name
    by_first None is = ap found_value (holds name ∙ ap (option_map (value all)) is) ∙ sym (rw is refl)
    by_first (Some path) is = ap found_value (holds name ∙ ap (option_map (value all)) is) ∙ sym (rw is refl)
