-- In a map of files each name below a folder is that of a file or of a folder, and not of both.
use Rattle.std.proofs.Common.{◌≡◌, ℕ, zero, suc, ◌+◌, ◌==◌, List, [], ◌∷◌, ◌++◌, Bool, true, false, not, if◌then◌else◌, Option, None, Some, Contains, ◌⊎◌, inl, inr, ⊎_elim, refl, sym, ap, ◌∙◌, subst, arith, length, drop}
use Rattle.std.proofs.lemmas.Bool.{and_parts, eqb-true, cases_Bool, eq-eqb}
use Rattle.std.proofs.lemmas.Cmp.{nat_cmp_total, tied_itself}
use Rattle.std.proofs.lemmas.List.Sums.{take_while-cons}
use Rattle.std.specs.List.{cons_option, filter_map, list_all, list_any, take_while}
use Rattle.ports.specs.Listing.{HasOneKindEach, IsListed}
use Rattle.ports.specs.Tree.{is_below, stands_before, is_file_map, entry_below, IsFolder, IsListing}
use Rattle.ports.specs.declared.tree.Entry.{Entry}
use Rattle.ports.specs.declared.tree.Listing.{Listing}
use Rattle.ports.specs.declared.tree.Listing.TheVariants as listing
use Rattle.ports.proofs.PathLemmas.{below_parts}

-- whether a byte is a `/`
abbrev is_slash : ℕ → Bool
is_slash b = b == 47

-- the name that the rest of a path begins with
abbrev name_of : List ℕ → List ℕ
name_of rest = take_while (λ b. not (is_slash b)) rest

-- whether more stands behind that name
abbrev is_folder : List ℕ → Bool
is_folder rest = list_any is_slash rest

-- the same first byte tells nothing
stands_before-cons : (b : ℕ) (path other : List ℕ) → stands_before (b ∷ path) (b ∷ other) ≡ stands_before path other
stands_before-cons b path other = rw (tied_itself nat_cmp_total b, eq-eqb b b refl) refl

-- the same front tells nothing
stands_before-append : (front path other : List ℕ) → stands_before (front ++ path) (front ++ other) ≡ stands_before path other
stands_before-append [] path other = refl
stands_before-append (b ∷ front) path other = stands_before-cons b (front ++ path) (front ++ other) ∙ stands_before-append front path other

-- no name stands before a `/`
name-slash : (b : ℕ) (rest : List ℕ) → is_slash b ≡ true → name_of (b ∷ rest) ≡ []
name-slash b rest is = take_while-cons (λ b. not (is_slash b)) b rest ∙ rw is refl

-- any other byte belongs to the name
name-other : (b : ℕ) (rest : List ℕ) → is_slash b ≡ false → name_of (b ∷ rest) ≡ b ∷ name_of rest
name-other b rest is = take_while-cons (λ b. not (is_slash b)) b rest ∙ rw is refl

-- where the first path ends, the other one has a name of its own
one_kind-nil : (b : ℕ) (other : List ℕ) (slash : (is_slash b ≡ true) ⊎ (is_slash b ≡ false)) → stands_before [] (b ∷ other) ≡ true → name_of [] ≡ name_of (b ∷ other) → is_folder [] ≡ is_folder (b ∷ other)
one_kind-nil b other (inl is) before same = absurd (let at_slash : stands_before [] (47 ∷ other) ≡ true = subst (λ x. stands_before [] (x ∷ other) ≡ true) (eqb-true b 47 is) before in cc)
one_kind-nil b other (inr is) before same = absurd (let names : [] ≡ b ∷ name_of other = same ∙ name-other b other is in cc)

-- where both go on
one_kind-cons : (a : ℕ) (path : List ℕ) (b : ℕ) (other : List ℕ) → (is_slash a ≡ true) ⊎ (is_slash a ≡ false) → (is_slash b ≡ true) ⊎ (is_slash b ≡ false) → stands_before (a ∷ path) (b ∷ other) ≡ true
    → name_of (a ∷ path) ≡ name_of (b ∷ other) → (stands_before path other ≡ true → name_of path ≡ name_of other → is_folder path ≡ is_folder other) → is_folder (a ∷ path) ≡ is_folder (b ∷ other)
one_kind-cons a path b other (inl p) (inl q) before same more = rw (p, q) refl
one_kind-cons a path b other (inl p) (inr q) before same more = absurd (let names : [] ≡ b ∷ name_of other = sym (name-slash a path p) ∙ same ∙ name-other b other q in cc)
one_kind-cons a path b other (inr p) (inl q) before same more = absurd (let names : a ∷ name_of path ≡ [] = sym (name-other a path p) ∙ same ∙ name-slash b other q in cc)
one_kind-cons a path b other (inr p) (inr q) before same more =
    let names : a ∷ name_of path ≡ b ∷ name_of other = sym (name-other a path p) ∙ same ∙ name-other b other q in
    let byte : b ≡ a = cc in
    let rest : stands_before path other ≡ true = sym (stands_before-cons a path other) ∙ subst (λ x. stands_before (a ∷ path) (x ∷ other) ≡ true) byte before in
    rw (p, q) (more rest cc)

-- rests with one name, of which one path stands before the other, are both of files or both of folders
one_kind : (path other : List ℕ) → stands_before path other ≡ true → name_of path ≡ name_of other → is_folder path ≡ is_folder other
one_kind [] [] before same = refl
one_kind [] (b ∷ other) before same = one_kind-nil b other (cases_Bool (is_slash b)) before same
one_kind (a ∷ path) [] before same = cc
one_kind (a ∷ path) (b ∷ other) before same = one_kind-cons a path b other (cases_Bool (is_slash a)) (cases_Bool (is_slash b)) before same (one_kind path other)

-- what it tells that a file makes an entry
entry_parts : (below : Bool) (made entry : Entry) → (if below then Some made else None) ≡ Some entry → (below ≡ true) × (made ≡ entry)
entry_parts true made entry is = (refl, cc)
entry_parts false made entry is = cc

-- the rest of a path below a folder
abbrev rest_of : List ℕ → List ℕ → List ℕ
rest_of folder path = drop (length folder + 1) path

-- the entry that such a rest gives
abbrev entry_at : List ℕ → Entry
entry_at rest = record { name = name_of rest; folder = is_folder rest }

-- two entries with one name are equal, where one's file stands before the other's
same_entry : (folder : List ℕ) (file other : List ℕ × List ℕ) (a b : Entry) → stands_before file.0 other.0 ≡ true → entry_below folder file ≡ Some a → entry_below folder other ≡ Some b → a.name ≡ b.name → a ≡ b
same_entry folder file other a b before at_a at_b same =
    let one = entry_parts (is_below folder file.0) (entry_at (rest_of folder file.0)) a at_a in
    let two = entry_parts (is_below folder other.0) (entry_at (rest_of folder other.0)) b at_b in
    let rests : stands_before (rest_of folder file.0) (rest_of folder other.0) ≡ true =
    sym (stands_before-append (folder ++ 47 ∷ []) (rest_of folder file.0) (rest_of folder other.0))
    ∙ (λ i. stands_before (sym (below_parts folder file.0 one.0) i) (sym (below_parts folder other.0 two.0) i)) ∙ before in
    let names : name_of (rest_of folder file.0) ≡ name_of (rest_of folder other.0) = ap (λ (e : Entry). e.name) one.1 ∙ same ∙ sym (ap (λ (e : Entry). e.name) two.1) in
    let kinds : is_folder (rest_of folder file.0) ≡ is_folder (rest_of folder other.0) = one_kind (rest_of folder file.0) (rest_of folder other.0) rests names in
    sym one.1 ∙ (λ i. record { name = names i; folder = kinds i }) ∙ two.1

-- an entry that is made first or by the others
made : (first : Option Entry) (others : List Entry) (e : Entry) → Contains (cons_option first others) e → (first ≡ Some e) ⊎ Contains others e
made None others e has = inr has
made (Some x) others e (zero, within, is) = inl (ap Some is)
made (Some x) others e (suc k, within, is) = inr (k, omega arith, is)

-- the entry of a file, and one of the files that it stands before
same_among : (folder : List ℕ) (file : List ℕ × List ℕ) (files : List (List ℕ × List ℕ)) → list_all (λ other. stands_before file.0 other.0) files ≡ true
    → (a b : Entry) → entry_below folder file ≡ Some a → Contains (filter_map (entry_below folder) files) b → a.name ≡ b.name → a ≡ b
same_among folder file [] before a b at_a has same = absurd (omega (arith, has.1))
same_among folder file (other ∷ files) before a b at_a has same =
    let parts = and_parts (stands_before file.0 other.0) (list_all (λ other. stands_before file.0 other.0) files) before in
    ⊎_elim (λ at_b. same_entry folder file other a b parts.0 at_a at_b same) (λ more. same_among folder file files parts.1 a b at_a more same)
    (made (entry_below folder other) (filter_map (entry_below folder) files) b has)

-- no name below a folder is that of a file and of a folder
pub has_one_kind_each : (folder : List ℕ) (files : List (List ℕ × List ℕ)) → is_file_map files ≡ true → HasOneKindEach (filter_map (entry_below folder) files)
has_one_kind_each folder [] is a b has_a has_b same = absurd (omega (arith, has_a.1))
has_one_kind_each folder (file ∷ files) is a b has_a has_b same =
    let parts = and_parts (list_all (λ other. stands_before file.0 other.0) files) (is_file_map files) is in
    let others : List Entry = filter_map (entry_below folder) files in
    ⊎_elim
    (λ at_a. ⊎_elim (λ at_b. cc) (λ more_b. same_among folder file files parts.0 a b at_a more_b same) (made (entry_below folder file) others b has_b))
    (λ more_a. ⊎_elim (λ at_b. sym (same_among folder file files parts.0 b a at_b more_a (sym same))) (λ more_b. has_one_kind_each folder files parts.1 a b more_a more_b same)
    (made (entry_below folder file) others b has_b))
    (made (entry_below folder file) others a has_a)

-- the listing of the entries that a map of files makes in a folder is the folder's
pub folder_listed : (folder : List ℕ) (files : List (List ℕ × List ℕ)) (entries : List Entry) (listing : Listing) → is_file_map files ≡ true → entries ≡ filter_map (entry_below folder) files
    → (HasOneKindEach entries → IsListed entries listing) → IsListing files folder listing
folder_listed folder files entries listing.Absent is from listed = sym from ∙ listed (rw from (has_one_kind_each folder files is))
folder_listed folder files entries (listing.Found list) is from listed = subst (λ es. IsFolder es list) from (listed (rw from (has_one_kind_each folder files is)))
