-- The derived comparisons of diagnostics are those of `diagnostic_cmp`. Sorting by them gives the order of a list, of which there is one.
use Rattle.std.proofs.Common.{◌≡◌, Bool, true, ◌&&◌, ◌==◌, nat_eq, List, IsPermutation, IsSorted, refl, sym, ap, subst, ◌∙◌, eqb-true}
use Rattle.std.proofs.lemmas.Cmp.{then_total, on_total, nat_cmp_total}
use Rattle.std.proofs.lemmas.List.Kept.{IsStrictlySortedBy-dedup, Contains-dedup, Contains-from_dedup}
use Rattle.std.proofs.lemmas.List.Sorted.{Contains-permutation, IsPermutation-sym}
use Rattle.std.specs.Cmp.{IsTotalOrder, IsEquivalence, first_so, second_so, both_tied, unsigned_ties, eq_by_cmp_equiv}
use Rattle.std.specs.Cmp.Lexicographic.{pointwise, slice_cmp, on_texts, texts_ties, bytes_decides}
use Rattle.std.specs.List.{dedup}
use Rattle.std.specs.Ordering.{nat_cmp, ordering_then, eq_by_cmp, is_eq}
use Rattle.std.specs.declared.cmp.Ordering.{Ordering}
use Rattle.std.specs.declared.cmp.Ordering.TheVariants.{Less, Equal, Greater}
use Rattle.diagnostics.proofs.CodeLemmas.{same_code}
use Rattle.diagnostics.proofs.RisingLemmas.{one_rising}
use Rattle.diagnostics.specs.Codes.{code_name}
use Rattle.diagnostics.specs.Order.{diagnostic_cmp, IsOrder}
use Rattle.diagnostics.specs.declared.diagnostic.Diagnostic.{Diagnostic}

-- what the derived `==` computes
abbrev pub alike : Diagnostic → Diagnostic → Bool
alike a b =
    let spans = (a.span.start == b.span.start) && (a.span.end == b.span.end) in
    let names = pointwise nat_eq (code_name a.code) (code_name b.code) in
    spans && (names && (pointwise nat_eq a.message b.message && (a.severity == b.severity)))

-- what the derived `cmp` computes
abbrev pub by_parts : Diagnostic → Diagnostic → Ordering
by_parts a b =
    let spans = ordering_then (nat_cmp a.span.start b.span.start) (nat_cmp a.span.end b.span.end) in
    let names = slice_cmp nat_cmp (code_name a.code) (code_name b.code) in
    let messages = slice_cmp nat_cmp a.message b.message in
    ordering_then spans (ordering_then names (ordering_then messages (nat_cmp a.severity b.severity)))

ordering_then-assoc : (p q r : Ordering) → ordering_then (ordering_then p q) r ≡ ordering_then p (ordering_then q r)
ordering_then-assoc Less q r = refl
ordering_then-assoc Equal q r = refl
ordering_then-assoc Greater q r = refl

by_parts-diagnostic_cmp : (a b : Diagnostic) → by_parts a b ≡ diagnostic_cmp a b
by_parts-diagnostic_cmp a b = ordering_then-assoc (nat_cmp a.span.start b.span.start) (nat_cmp a.span.end b.span.end) _

pub diagnostic_cmp_total : IsTotalOrder diagnostic_cmp
diagnostic_cmp_total =
    let texts = then_total (on_texts (λ (d : Diagnostic). code_name d.code)) (then_total (on_texts (λ d. d.message)) (on_total (λ d. d.severity) nat_cmp_total)) in
    then_total (on_total (λ d. d.span.start) nat_cmp_total) (then_total (on_total (λ d. d.span.end) nat_cmp_total) texts)

-- what is alike is what the order does not tell apart
alike-tied : (a b : Diagnostic) → alike a b ≡ eq_by_cmp diagnostic_cmp a b
alike-tied a b =
    both_tied _ _ (ordering_then (nat_cmp a.span.start b.span.start) (nat_cmp a.span.end b.span.end)) _
    (both_tied _ _ _ _ (unsigned_ties a.span.start b.span.start) (unsigned_ties a.span.end b.span.end))
    (both_tied _ _ _ _ (texts_ties (code_name a.code) (code_name b.code)) (both_tied _ _ _ _ (texts_ties a.message b.message) (unsigned_ties a.severity b.severity)))
    ∙ ap is_eq (by_parts-diagnostic_cmp a b)

alike-same : (a b : Diagnostic) → alike a b ≡ true → a ≡ b
alike-same a b e =
    let spans = first_so _ _ e in
    let rest = second_so _ _ e in
    let texts = second_so _ _ rest in
    let start = eqb-true a.span.start b.span.start (first_so _ _ spans) in
    let end = eqb-true a.span.end b.span.end (second_so _ _ spans) in
    let code = same_code a.code b.code (first_so _ _ rest) in
    let message = (bytes_decides a.message b.message).0 (first_so _ _ texts) in
    let severity = eqb-true a.severity b.severity (second_so _ _ texts) in
    λ i. record { span = record { start = start i; end = end i }; code = code i; message = message i; severity = severity i }

alike-equivalence : IsEquivalence alike
alike-equivalence = subst IsEquivalence (λ i a b. sym (alike-tied a b) i) (eq_by_cmp_equiv diagnostic_cmp_total)

-- sorting, and then leaving out what is alike, gives the order
pub IsOrder-dedup : (list sorted : List Diagnostic) → IsPermutation list sorted → IsSorted by_parts sorted → IsOrder list (dedup alike sorted)
IsOrder-dedup list sorted moved rises = record {
  rises = IsStrictlySortedBy-dedup diagnostic_cmp_total alike-tied sorted (subst (λ cmp. IsSorted cmp sorted) (λ i a b. by_parts-diagnostic_cmp a b i) rises);
  same = λ d. (
    λ kept. Contains-permutation sorted list d (IsPermutation-sym list sorted moved) (Contains-from_dedup alike sorted d kept),
    λ given. Contains-dedup alike-equivalence alike-same sorted d (Contains-permutation list sorted d moved given),
  );
}

-- a list has one order
pub IsOrder-unique : (list xs ys : List Diagnostic) → IsOrder list xs → IsOrder list ys → xs ≡ ys
IsOrder-unique list xs ys a b = one_rising diagnostic_cmp_total xs ys a.rises b.rises (λ d at. (b.same d).1 ((a.same d).0 at)) (λ d at. (a.same d).1 ((b.same d).0 at))
