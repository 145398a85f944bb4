-- A list that rises by a total order is told by its elements.
use Rattle.std.proofs.Common.{◌≡◌, ℕ, List, [], ◌∷◌, Contains, refl, sym, ap, subst, ◌∙◌, arith, ◌<◌, zero, suc, length, get_or, ◌⊎◌, ⊎_elim, inl, inr}
use Rattle.std.proofs.lemmas.Cmp.{tied_itself}
use Rattle.std.proofs.lemmas.List.Elements.{All-contains, Contains-append_right}
use Rattle.std.proofs.lemmas.Map.Keys.{sorted_tail}
use Rattle.std.proofs.lemmas.Map.Made.{Contains-tail}
use Rattle.std.proofs.lemmas.Map.Views.{All-after_first}
use Rattle.std.specs.Cmp.{IsTotalOrder}
use Rattle.std.specs.List.Sorted.{IsStrictlySortedBy}
use Rattle.std.specs.Ordering.{ordering_reverse}
use Rattle.std.specs.declared.cmp.Ordering.{Ordering}
use Rattle.std.specs.declared.cmp.Ordering.TheVariants.{Less, Equal, Greater}

-- an element is the first or behind it
Contains-cons_cases : {K : Type 0} (x d : K) (xs : List K) (at : ℕ) → at < length (x ∷ xs) → get_or (x ∷ xs) at d ≡ d → (x ≡ d) ⊎ Contains xs d
Contains-cons_cases x d xs zero within is = inl is
Contains-cons_cases x d xs (suc at) within is = inr (at, omega arith, is)

module _ {K : Type 0} {R : K → K → Ordering} (o : IsTotalOrder R) where
  -- an element behind the first is greater than it
  above_first : (x d : K) (xs : List K) → IsStrictlySortedBy R (x ∷ xs) → Contains xs d → R x d ≡ Less
  above_first x d xs rises at = All-contains (λ y. R x y ≡ Less) xs d (All-after_first R x xs rises) at

  -- the firsts of two lists with the same elements are the same
  same_first : (x y : K) (xs ys : List K) → IsStrictlySortedBy R (x ∷ xs) → IsStrictlySortedBy R (y ∷ ys) → Contains (y ∷ ys) x → Contains (x ∷ xs) y → x ≡ y
  same_first x y xs ys rises climbs at from =
      ⊎_elim sym (λ behind. ⊎_elim (λ same. same)
      (λ follows.
      let above : R x y ≡ Less = above_first x y xs rises follows in
      let below : R y x ≡ Less = above_first y x ys climbs behind in
      let turned : R x y ≡ Greater = o.antisymm x y ∙ ap ordering_reverse below in
      cc)
      (Contains-cons_cases x y xs from.0 from.1 from.2)) (Contains-cons_cases y x ys at.0 at.1 at.2)

  -- what is behind the first of one list is behind the same first of another
  without_first : (x : K) (xs ys : List K) → IsStrictlySortedBy R (x ∷ xs) → ((d : K) → Contains (x ∷ xs) d → Contains (x ∷ ys) d) → (d : K) → Contains xs d → Contains ys d
  without_first x xs ys rises kept d at =
      Contains-tail x ys d
      (λ same.
      let above : R x d ≡ Less = above_first x d xs rises at in
      let itself : R x d ≡ Equal = subst (λ e. R x e ≡ Equal) same (tied_itself o x) in
      cc)
      (kept d (Contains-append_right (x ∷ []) xs d at))

  -- two lists that rise with the same elements are the same
  pub one_rising : (xs ys : List K) → IsStrictlySortedBy R xs → IsStrictlySortedBy R ys → ((d : K) → Contains xs d → Contains ys d) → ((d : K) → Contains ys d → Contains xs d) → xs ≡ ys
  one_rising [] [] rises climbs kept given = refl
  one_rising [] (y ∷ ys) rises climbs kept given = absurd (let at = given y (0, omega arith, refl) in omega (arith, at.1))
  one_rising (x ∷ xs) [] rises climbs kept given = absurd (let at = kept x (0, omega arith, refl) in omega (arith, at.1))
  one_rising (x ∷ xs) (y ∷ ys) rises climbs kept given =
      let same = same_first x y xs ys rises climbs (kept x (0, omega arith, refl)) (given y (0, omega arith, refl)) in
      let rest = one_rising xs ys (sorted_tail R x xs rises) (sorted_tail R y ys climbs)
      (without_first x xs ys rises (λ d at. subst (λ z. Contains (z ∷ ys) d) (sym same) (kept d at)))
      (without_first y ys xs climbs (λ d at. subst (λ z. Contains (z ∷ xs) d) same (given d at))) in
      λ i. same i ∷ rest i
