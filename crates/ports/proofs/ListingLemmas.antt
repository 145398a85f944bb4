-- Entries that are sorted and kept once are the listing of their folder.
use Rattle.std.proofs.Common.{◌≡◌, ◌<◌, ◌==◌, List, [], ◌∷◌, Bool, true, false, ◌&&◌, Ordering, Less, Equal, Greater, is_lt, nat_cmp, Contains, IsPermutation, IsSorted, refl, sym, ◌∙◌, subst, arith, length, map}
use Rattle.std.proofs.lemmas.Bool.{and_parts}
use Rattle.std.proofs.lemmas.Cmp.{on_total, then_total, on_equiv, and_equiv, nat_list_cmp_total, nat_list_eq_equiv, tied_itself}
use Rattle.std.proofs.lemmas.List.Elements.{Contains-append_right}
use Rattle.std.proofs.lemmas.List.Filters.{dedup_is}
use Rattle.std.proofs.lemmas.List.Kept.{Contains-dedup, Contains-from_dedup, IsStrictlySortedBy-dedup}
use Rattle.std.proofs.lemmas.List.Sorted.{Contains-permutation, IsPermutation-sym}
use Rattle.std.proofs.lemmas.Map.Keys.{sorted_head, sorted_tail}
use Rattle.std.proofs.lemmas.Map.Lookups.{exact_bytes}
use Rattle.std.proofs.lemmas.Map.Text.{is_eq-slice_cmp}
use Rattle.std.proofs.lemmas.Slice.Eq.{bytes_eq-Decides}
use Rattle.std.specs.Bool.{beq}
use Rattle.std.specs.Cmp.{bool_cmp_total, bool_eq_equiv, booleans_Decides, IsTotalOrder, IsEquivalence}
use Rattle.std.specs.Cmp.Lexicographic.{pointwise, slice_cmp}
use Rattle.std.specs.List.{dedup}
use Rattle.std.specs.List.Retain.{IsFiltered, DiffersFromLast}
use Rattle.std.specs.List.Sorted.{IsStrictlySortedBy}
use Rattle.std.specs.Ordering.{ordering_then, bool_cmp, is_eq, eq_by_cmp}
use Rattle.ports.specs.Listing.{HasOneKindEach}
use Rattle.ports.specs.Tree.{IsFolder, Rises}
use Rattle.ports.specs.declared.tree.Entry.{Entry}

-- the order of entries: by name, and a file before a folder
abbrev pub entry_cmp : Entry → Entry → Ordering
entry_cmp a b = ordering_then (slice_cmp nat_cmp a.name b.name) (bool_cmp a.folder b.folder)

entry_cmp_total : IsTotalOrder entry_cmp
entry_cmp_total = then_total (on_total (λ (e : Entry). e.name) nat_list_cmp_total) (on_total (λ (e : Entry). e.folder) bool_cmp_total)

-- an entry whose name isn't that of another is before it by name alone
by_name : (names kinds : Ordering) → ordering_then names kinds ≡ Less → (names ≡ Equal → ⊥) → is_lt names ≡ true
by_name Less kinds less apart = refl
by_name Equal kinds less apart = absurd (apart refl)
by_name Greater kinds less apart = cc

-- entries that are strictly in order have names that rise
rises : (below list : List Entry) → HasOneKindEach below → ((e : Entry) → Contains list e → Contains below e) → IsStrictlySortedBy entry_cmp list → Rises (map (λ (e : Entry). e.name) list)
rises below [] one among sorted = tt
rises below (a ∷ []) one among sorted = tt
rises below (a ∷ b ∷ more) one among sorted =
    let less : entry_cmp a b ≡ Less = (sorted_head entry_cmp a (b ∷ more) sorted).0 in
    let a_below : Contains below a = among a (0, omega arith, refl) in
    let b_below : Contains below b = among b (1, omega arith, refl) in (
      by_name (slice_cmp nat_cmp a.name b.name) (bool_cmp a.folder b.folder) less
          (λ tie. let same : a ≡ b = one a b a_below b_below (exact_bytes a.name b.name tie) in
          let itself : entry_cmp a b ≡ Equal = subst (λ e. entry_cmp a e ≡ Equal) same (tied_itself entry_cmp_total a) in cc),
      rises below (b ∷ more) one (λ e h. among e (Contains-append_right (a ∷ []) (b ∷ more) e h)) (sorted_tail entry_cmp a (b ∷ more) sorted),
    )

-- the equality of entries
abbrev pub entry_eq : Entry → Entry → Bool
entry_eq a b = pointwise ◌==◌ a.name b.name && beq a.folder b.folder

entry_eq_equiv : IsEquivalence entry_eq
entry_eq_equiv = and_equiv (on_equiv (λ (e : Entry). e.name) nat_list_eq_equiv) (on_equiv (λ (e : Entry). e.folder) bool_eq_equiv)

-- two entries tie where both their parts do
is_eq-then : (names kinds : Ordering) → is_eq (ordering_then names kinds) ≡ (is_eq names && is_eq kinds)
is_eq-then Less kinds = refl
is_eq-then Equal kinds = refl
is_eq-then Greater kinds = refl

is_eq-bool_cmp : (a b : Bool) → is_eq (bool_cmp a b) ≡ beq a b
is_eq-bool_cmp false false = refl
is_eq-bool_cmp false true = refl
is_eq-bool_cmp true false = refl
is_eq-bool_cmp true true = refl

-- the equality and the order agree
ties : (a b : Entry) → entry_eq a b ≡ eq_by_cmp entry_cmp a b
ties a b = sym (is_eq-then (slice_cmp nat_cmp a.name b.name) (bool_cmp a.folder b.folder) ∙ (λ i. is_eq-slice_cmp a.name b.name i && is_eq-bool_cmp a.folder b.folder i))

-- entries that are equal by `==` are the same
same : (a b : Entry) → entry_eq a b ≡ true → a ≡ b
same a b e =
    let parts = and_parts (pointwise ◌==◌ a.name b.name) (beq a.folder b.folder) e in
    let name : a.name ≡ b.name = (bytes_eq-Decides a.name b.name).0 parts.0 in
    let folder : a.folder ≡ b.folder = (booleans_Decides a.folder b.folder).0 parts.1 in λ i. record { name = name i; folder = folder i }

-- the entries that are left when each is kept once after a sort
pub listed : (below sorted list : List Entry) → 0 < length below → IsPermutation below sorted → IsSorted entry_cmp sorted → IsFiltered (DiffersFromLast entry_eq) [] sorted list → HasOneKindEach below → IsFolder below list
listed below sorted list some moved order kept one =
    let once : list ≡ dedup entry_eq sorted = dedup_is entry_eq sorted list kept in
    let strict : IsStrictlySortedBy entry_cmp list = rw once (IsStrictlySortedBy-dedup entry_cmp_total ties sorted order) in
    let from : (e : Entry) → Contains list e → Contains below e = λ e h. Contains-permutation sorted below e (IsPermutation-sym below sorted moved) (Contains-from_dedup entry_eq sorted e (subst (λ es. Contains es e) once h)) in
    let to : (e : Entry) → Contains below e → Contains list e = λ e h. subst (λ es. Contains es e) (sym once) (Contains-dedup entry_eq_equiv same sorted e (Contains-permutation below sorted e moved h)) in
    record { some = some; rises = rises below list one from strict; same = λ e. (from e, to e) }
