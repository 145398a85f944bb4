-- What the declarations of a name give.
use Rattle.std.proofs.Common.{◌≡◌, ◌∙◌, ℕ, suc, true, true≢false, List, [], ◌∷◌, Option, Some, None, refl, sym, ap}
use Rattle.sig_rules.specs.declared.given.GivenMethod.{GivenMethod}
use Rattle.sig_rules.specs.declared.given.What.{What}
use Rattle.sig_rules.specs.declared.given.What.TheVariants.{Whole, Further, AliasOf}
use Rattle.sig_rules.specs.declared.line.Step.{Step}
use Rattle.sig_rules.specs.declared.method.Method.{Method}
use Rattle.sig_rules.specs.Methods.{Made, at_step, is_some, of_name, once_more, with_all}
use Rattle.method_steps.specs.Gathering.{wanted}
use Rattle.method_steps.specs.Steps.{elsewhere}

some_of : (o : Option Method) → is_some o ≡ true → (m : Method) × (o ≡ Some m)
some_of None there = absurd (true≢false (sym there))
some_of (Some m) there = (m, refl)

module _ (step : Step) where
  some_more : (from_behind : Option Method) (old : List ℕ → Option Method) (m : Method) (g : GivenMethod) (what : What) → (n : Method) × (once_more step from_behind old (Some m) (record g { what = what }) ≡ Some n)
  some_more from_behind old m g (Whole overloads) = (m, refl)
  some_more from_behind old m g (Further overloads) = (_, refl)
  some_more from_behind old m g (AliasOf name) = (m, refl)

  -- where there is a method, nothing but it counts
  pub same_more : (from_behind other_behind : Option Method) (old other : List ℕ → Option Method) (m : Method) (g : GivenMethod) (what : What) → once_more step from_behind old (Some m) (record g { what = what }) ≡ once_more step other_behind other (Some m) (record g { what = what })
  same_more from_behind other_behind old other m g (Whole overloads) = refl
  same_more from_behind other_behind old other m g (Further overloads) = refl
  same_more from_behind other_behind old other m g (AliasOf name) = refl

  some_all : (from_behind : Option Method) (old : List ℕ → Option Method) (m : Method) (gs : List GivenMethod) → is_some (with_all step from_behind old (Some m) gs) ≡ true
  some_all from_behind old m [] = refl
  some_all from_behind old m (g ∷ gs) =
      let next = some_more from_behind old m g g.what in
      ap (λ o. is_some (with_all step from_behind old o gs)) next.1 ∙ some_all from_behind old next.0 gs

  same_all : (from_behind : Option Method) (old other : List ℕ → Option Method) (m : Method) (gs : List GivenMethod) → with_all step from_behind old (Some m) gs ≡ with_all step from_behind other (Some m) gs
  same_all from_behind old other m [] = refl
  same_all from_behind old other m (g ∷ gs) =
      let next = some_more from_behind old m g g.what in
      ap (λ o. with_all step from_behind old o gs) next.1
      ∙ same_all from_behind old other next.0 gs
      ∙ ap (λ o. with_all step from_behind other o gs) (sym next.1 ∙ same_more from_behind from_behind old other m g g.what)

  -- only the name that is wanted first counts, if it has a method
  all_by_first : (from_behind : Option Method) (old other : List ℕ → Option Method) (g : GivenMethod) (gs : List GivenMethod) (what : What)
      → ((name : List ℕ) → wanted (record g { what = what } ∷ gs) ≡ Some name → (old name ≡ other name) × (is_some (other name) ≡ true))
      → (with_all step from_behind old None (record g { what = what } ∷ gs) ≡ with_all step from_behind other None (record g { what = what } ∷ gs)) × (is_some (with_all step from_behind other None (record g { what = what } ∷ gs)) ≡ true)
  all_by_first from_behind old other g gs (Whole overloads) agree = (same_all from_behind old other _ gs, some_all from_behind other _ gs)
  all_by_first from_behind old other g gs (Further overloads) agree = (same_all from_behind old other _ gs, some_all from_behind other _ gs)
  all_by_first from_behind old other g gs (AliasOf name) agree =
      let both = agree name refl in
      let there = some_of (other name) both.1 in (
        ap (λ o. with_all step from_behind old o gs) (both.0 ∙ there.1)
            ∙ same_all from_behind old other there.0 gs
            ∙ ap (λ o. with_all step from_behind other o gs) (sym there.1),
        ap (λ o. is_some (with_all step from_behind other o gs)) there.1 ∙ some_all from_behind other there.0 gs,
      )

  pub with_all_by_first : (from_behind : Option Method) (old other : List ℕ → Option Method) (g : GivenMethod) (gs : List GivenMethod)
      → ((name : List ℕ) → wanted (g ∷ gs) ≡ Some name → (old name ≡ other name) × (is_some (other name) ≡ true))
      → (with_all step from_behind old None (g ∷ gs) ≡ with_all step from_behind other None (g ∷ gs)) × (is_some (with_all step from_behind other None (g ∷ gs)) ≡ true)
  with_all_by_first from_behind old other g gs agree = all_by_first from_behind old other g gs g.what agree

  -- ---- one declaration after the other

  -- what is there so far, by a table that has changed only if there is something
  next_same : (made : Made) (rest steps : List Step) (before found : List ℕ → Option Method) (name : List ℕ) (so_far : Option Method) (g : GivenMethod) → (so_far ≡ None → found ≡ before)
      → once_more step (elsewhere made rest found name) (elsewhere made steps found) so_far g ≡ once_more step (elsewhere made rest before name) (elsewhere made steps before) so_far g
  next_same made rest steps before found name None g kept = ap (λ f. once_more step (elsewhere made rest f name) (elsewhere made steps f) None g) (kept refl)
  next_same made rest steps before found name (Some m) g kept = same_more (elsewhere made rest found name) (elsewhere made rest before name) (elsewhere made steps found) (elsewhere made steps before) m g g.what

  -- with one more of them, the others give the same
  pub next_so_far : (made : Made) (rest steps : List Step) (before found : List ℕ → Option Method) (name : List ℕ) (so_far next all : Option Method) (g : GivenMethod) (others gs : List GivenMethod)
      → (so_far ≡ None → found ≡ before) → next ≡ once_more step (elsewhere made rest found name) (elsewhere made steps found) so_far g → others ≡ g ∷ gs
      → with_all step (elsewhere made rest before name) (elsewhere made steps before) so_far others ≡ all
      → with_all step (elsewhere made rest before name) (elsewhere made steps before) next gs ≡ all
  next_so_far made rest steps before found name so_far next all g others gs kept more is whole =
      ap (λ o. with_all step (elsewhere made rest before name) (elsewhere made steps before) o gs) (more ∙ next_same made rest steps before found name so_far g kept)
      ∙ ap (λ xs. with_all step (elsewhere made rest before name) (elsewhere made steps before) so_far xs) (sym is)
      ∙ whole

  pub nothing_before : (made : Made) (rest steps : List Step) (found : List ℕ → Option Method) (name : List ℕ) (so_far next : Option Method) (g : GivenMethod)
      → next ≡ once_more step (elsewhere made rest found name) (elsewhere made steps found) so_far g → next ≡ None → so_far ≡ None
  nothing_before made rest steps found name None next g more none = refl
  nothing_before made rest steps found name (Some m) next g more none =
      let some = some_more (elsewhere made rest found name) (elsewhere made steps found) m g g.what in
      let both : None ≡ Some some.0 = sym none ∙ more ∙ some.1 in
      absurd (cc)

  -- ---- what a step has of a name

  pub at_step-elsewhere : (turns : ℕ) (from_behind from_elsewhere : List ℕ → Option Method) (gs : List GivenMethod) (name : List ℕ) → of_name name gs ≡ [] → at_step (suc turns) step from_behind from_elsewhere gs name ≡ from_elsewhere name
  at_step-elsewhere turns from_behind from_elsewhere gs name none = rw none refl

  pub at_step-declared : (turns : ℕ) (from_behind from_elsewhere : List ℕ → Option Method) (gs : List GivenMethod) (name : List ℕ) (g : GivenMethod) (more : List GivenMethod) → of_name name gs ≡ g ∷ more
      → at_step (suc turns) step from_behind from_elsewhere gs name ≡ with_all step (from_behind name) (at_step turns step from_behind from_elsewhere gs) None (g ∷ more)
  at_step-declared turns from_behind from_elsewhere gs name g more declared = rw declared refl
