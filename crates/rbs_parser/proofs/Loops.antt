-- A loop that reads the items of a list and keeps those that it has found in a list of its own.
--
-- With a sign between the items, over `separated by g` or over `each (behind by g)`: the code is
-- `let first = item()?; all.push(first)?; while cursor.eat(Set::One(by)) { let next = item()?; all.push(next)?; }`.
-- The invariant is `read (read_in n) rule l.fn.cursor ≡ with_rest n by g l.all l.cursor`, the measure `length l.cursor`. The answers cite
-- `begin_rest` (before the loop, and where the first item is refused), `step_rest` (behind an item, and where one is refused), `end_rest`
-- and `smaller_rest`, as those of `types/Types/types` do. Where the first item is passed in, over `map_value (prepend first) (each (behind by g))`,
-- `begin_behind` stands for `begin_rest`, as in `types/Types/more_opts`; `one_item` and `some_items` tie such a loop to `separated by g`.
-- `ok` says that `behind by g` is fine: refl, `unfolding` the rules in it.
--
-- With no sign, over `each g`: the code is `while begins_item(cursor) { let next = item()?; all.push(next)?; }`. The invariant is
-- `read (read_in n) (each g) l.fn.cursor ≡ with_more n g l.all l.cursor`; the answers cite `begin_more`, `step_more`, `end_more` and `smaller_more`.
-- `ok` says that g is fine, `some` that it isn't empty.
use Rattle.std.proofs.Common.{◌≡◌, ◌<◌, true, false, List, [], ◌∷◌, ◌++◌, length, Ok, Err, refl, sym, ◌∙◌, ap, append_assoc}
use Rattle.std.proofs.lemmas.List.{append-nil}
use Rattle.rbs_lexer.specs.Tokens.{Token}
use Rattle.rbs_lexer.specs.declared.kind.Kind.{Kind}
use Rattle.rbs_grammar.specs.Rules.{is}
use Rattle.rbs_grammar.specs.Grammar.{Grammar, fine, empty, first, begins, Outcome, Reader, then_read, pure, read_token, read_both, read_all, read}
use Rattle.rbs_grammar.specs.Parts.{same, second_of, prepend, behind, map_value, each, separated}
use Rattle.rbs_grammar.specs.Levels.{Room, read_in}
use Rattle.rbs_parser.specs.Reading.{after}
use Rattle.rbs_grammar.proofs.Acts.{token_ok, if_true, if_false}
use Rattle.rbs_grammar.proofs.Rows.{Shrinks, one_more, no_more}
use Rattle.rbs_grammar.proofs.Levels.{grammar_shrinks}

-- ---- with a sign between the items

-- The items that the loop has, with those that are still to be read.
unfoldable pub with_rest : {A : Type 0} → Room → Kind → Grammar A → List A → List Token → Outcome (List A)
with_rest n by g found ts = then_read (read_all (is by) (read (read_in n) (behind by g)) ts) (λ xs rest. Ok (found ++ xs, rest))

after_is : (by : Kind) (t : Token) (ts : List Token) → begins (is by) (t ∷ ts) ≡ true → after (is by) (t ∷ ts) ≡ ts
unfolding after
after_is by t ts h = if_true _ _ _ h

-- Behind a sign, what is read after it.
pub after_read : {A : Type 0} (by : Kind) (p : Reader A) (ts : List Token) → begins (is by) ts ≡ true → read_both second_of (read_token (is by) same) p ts ≡ then_read (p (after (is by) ts)) (pure same)
after_read by p [] h = cc
after_read {A = A} by p (t ∷ ts) h =
    ap (λ (o : Outcome Token). then_read o (λ x mid. then_read (p mid) (pure (second_of x)))) (token_ok (is by) same t ts h)
    ∙ go (p ts) ∙ ap (λ (l : List Token). then_read (p l) (pure same)) (sym (after_is by t ts h))
  where
    go : (o : Outcome A) → then_read o (pure (second_of t)) ≡ then_read o (pure same)
    go (Ok r) = refl
    go (Err e) = refl

module _ {A : Type 0} (n : Room) (by : Kind) (g : Grammar A) (ok : fine (behind by g) ≡ true) where
  shorter : Shrinks (read (read_in n) (behind by g))
  shorter = grammar_shrinks n A (behind by g) ok refl

  then_all : (x : A) (o : Outcome (List A)) → then_read (then_read o (pure same)) (pure (prepend x)) ≡ then_read o (λ xs rest. Ok ((x ∷ []) ++ xs, rest))
  then_all x (Ok r) = refl
  then_all x (Err e) = refl

  pub begin_rest : (ts : List Token) → read (read_in n) (separated by g) ts ≡ then_read (read (read_in n) g ts) (λ x mid. with_rest n by g (x ∷ []) mid)
  unfolding with_rest
  begin_rest ts = outer (read (read_in n) g ts)
    where
      outer : (o : Outcome A) → then_read o (λ x mid. then_read (then_read (read_all (is by) (read (read_in n) (behind by g)) mid) (pure same)) (pure (prepend x))) ≡ then_read o (λ x mid. with_rest n by g (x ∷ []) mid)
      outer (Ok r) = then_all r.0 (read_all (is by) (read (read_in n) (behind by g)) r.1)
      outer (Err e) = refl

  pub begin_behind : (x : A) (ts : List Token) → read (read_in n) (map_value (prepend x) (each (behind by g))) ts ≡ with_rest n by g (x ∷ []) ts
  unfolding with_rest
  begin_behind x ts = go (read_all (is by) (read (read_in n) (behind by g)) ts)
    where
      go : (o : Outcome (List A)) → then_read (then_read o (pure same)) (λ xs mid. then_read (Ok (tt {0}, mid)) (pure (λ _. prepend x xs))) ≡ then_read o (λ xs rest. Ok ((x ∷ []) ++ xs, rest))
      go (Ok r) = refl
      go (Err e) = refl

  pub step_rest : (found : List A) (ts : List Token) → true ≡ begins (is by) ts → with_rest n by g found ts ≡ then_read (read (read_in n) g (after (is by) ts)) (λ x mid. with_rest n by g (found ++ x ∷ []) mid)
  unfolding with_rest
  step_rest found ts b = ap (λ o. then_read o (λ xs rest. Ok (found ++ xs, rest))) (one_more (is by) (read (read_in n) (behind by g)) shorter ts (sym b) ∙ ap (λ o. then_read o (λ x mid. then_read (read_all (is by) (read (read_in n) (behind by g)) mid) (pure (◌∷◌ x)))) (after_read by (read (read_in n) g) ts (sym b)))
      ∙ outer (read (read_in n) g (after (is by) ts))
    where
      inner : (x : A) (o : Outcome (List A)) → then_read (then_read o (pure (◌∷◌ x))) (λ xs rest. Ok (found ++ xs, rest)) ≡ then_read o (λ xs rest. Ok ((found ++ x ∷ []) ++ xs, rest))
      inner x (Ok r) = ap (λ l. Ok (l, r.1)) (sym (append_assoc found (x ∷ []) r.0))
      inner x (Err e) = refl

      outer : (o : Outcome A) → then_read (then_read (then_read o (pure same)) (λ x mid. then_read (read_all (is by) (read (read_in n) (behind by g)) mid) (pure (◌∷◌ x)))) (λ xs rest. Ok (found ++ xs, rest)) ≡ then_read o (λ x mid. with_rest n by g (found ++ x ∷ []) mid)
      outer (Ok r) = inner r.0 (read_all (is by) (read (read_in n) (behind by g)) r.1)
      outer (Err e) = refl

  end_rest_here : (found : List A) (ts : List Token) → false ≡ begins (is by) ts → with_rest n by g found ts ≡ Ok (found, ts)
  unfolding with_rest
  end_rest_here found ts b = ap (λ o. then_read o (λ xs rest. Ok (found ++ xs, rest))) (no_more (is by) (read (read_in n) (behind by g)) shorter ts (sym b)) ∙ ap (λ l. Ok (l, ts)) (append-nil found)

  pub end_rest : (found : List A) (ts at : List Token) → false ≡ begins (is by) ts → at ≡ after (is by) ts → with_rest n by g found ts ≡ Ok (found, at)
  unfolding after
  end_rest found ts at b e = end_rest_here found ts b ∙ ap (λ l. Ok (found, l)) (sym (e ∙ if_false _ _ _ (sym b)))

  pub smaller_rest : (ts at mid : List Token) (x : A) → true ≡ begins (is by) ts → at ≡ after (is by) ts → read (read_in n) g at ≡ Ok (x, mid) → length mid < length ts
  smaller_rest ts at mid x b a e = shorter ts mid x (after_read by (read (read_in n) g) ts (sym b) ∙ ap (λ o. then_read o (pure same)) (ap (read (read_in n) g) (sym a) ∙ e))

  -- The first item alone, where no sign follows it.
  pub one_item : {B : Type 0} (f : List A → B) (x : A) (ts mid : List Token) → read (read_in n) g ts ≡ Ok (x, mid) → false ≡ begins (is by) mid → read (read_in n) (map_value f (separated by g)) ts ≡ Ok (f (x ∷ []), mid)
  one_item {B = B} f x ts mid e b = ap mapped (begin_rest ts ∙ ap (λ o. then_read o (λ x mid. with_rest n by g (x ∷ []) mid)) e ∙ end_rest_here (x ∷ []) mid b)
    where
      mapped : Outcome (List A) → Outcome B
      mapped o = then_read o (λ xs rest. then_read (Ok (tt {0}, rest)) (pure (λ _. f xs)))

  -- Two items or more, where a sign follows the first: of those the function makes what h makes.
  pub some_items : {B : Type 0} (f h : List A → B) → ((x y : A) (zs : List A) → f (x ∷ y ∷ zs) ≡ h (x ∷ y ∷ zs)) → (x : A) (ts mid : List Token) → read (read_in n) g ts ≡ Ok (x, mid) → true ≡ begins (is by) mid
      → read (read_in n) (map_value f (separated by g)) ts ≡ then_read (read (read_in n) (map_value (prepend x) (each (behind by g))) mid) (pure h)
  unfolding with_rest
  some_items {B = B} f h same_on x ts mid e b =
      ap (mapped f) (begin_rest ts ∙ ap (λ o. then_read o (λ x mid. with_rest n by g (x ∷ []) mid)) e ∙ step_rest (x ∷ []) mid b)
      ∙ outer (read (read_in n) g (after (is by) mid))
      ∙ ap (mapped h) (sym (step_rest (x ∷ []) mid b) ∙ sym (begin_behind x mid))
      ∙ last (read (read_in n) (map_value (prepend x) (each (behind by g))) mid)
    where
      mapped : (List A → B) → Outcome (List A) → Outcome B
      mapped f o = then_read o (λ xs rest. then_read (Ok (tt {0}, rest)) (pure (λ _. f xs)))

      inner : (y : A) (o : Outcome (List A)) → mapped f (then_read o (λ xs rest. Ok (x ∷ y ∷ xs, rest))) ≡ mapped h (then_read o (λ xs rest. Ok (x ∷ y ∷ xs, rest)))
      inner y (Ok r) = ap (λ z. Ok (z, r.1)) (same_on x y r.0)
      inner y (Err e) = refl

      outer : (o : Outcome A) → mapped f (then_read o (λ y rest. with_rest n by g (x ∷ y ∷ []) rest)) ≡ mapped h (then_read o (λ y rest. with_rest n by g (x ∷ y ∷ []) rest))
      outer (Ok r) = inner r.0 (read_all (is by) (read (read_in n) (behind by g)) r.1)
      outer (Err e) = refl

      last : (o : Outcome (List A)) → mapped h o ≡ then_read o (pure h)
      last (Ok r) = refl
      last (Err e) = refl

-- ---- with no sign

-- The items that the loop has, with those that are still to be read.
unfoldable pub with_more : {A : Type 0} → Room → Grammar A → List A → List Token → Outcome (List A)
with_more n g found ts = then_read (read_all (first g) (read (read_in n) g) ts) (λ xs rest. Ok (found ++ xs, rest))

module _ {A : Type 0} (n : Room) (g : Grammar A) (ok : fine g ≡ true) (some : empty g ≡ false) where
  shorter_item : Shrinks (read (read_in n) g)
  shorter_item = grammar_shrinks n A g ok some

  pub begin_more : (ts : List Token) → read (read_in n) (each g) ts ≡ with_more n g [] ts
  unfolding with_more
  begin_more ts = go (read_all (first g) (read (read_in n) g) ts)
    where
      go : (o : Outcome (List A)) → then_read o (pure same) ≡ then_read o (λ xs rest. Ok ([] ++ xs, rest))
      go (Ok r) = refl
      go (Err e) = refl

  pub step_more : (found : List A) (ts : List Token) → true ≡ begins (first g) ts → with_more n g found ts ≡ then_read (read (read_in n) g ts) (λ x mid. with_more n g (found ++ x ∷ []) mid)
  unfolding with_more
  step_more found ts b = ap (λ o. then_read o (λ xs rest. Ok (found ++ xs, rest))) (one_more (first g) (read (read_in n) g) shorter_item ts (sym b)) ∙ outer (read (read_in n) g ts)
    where
      inner : (x : A) (o : Outcome (List A)) → then_read (then_read o (pure (◌∷◌ x))) (λ xs rest. Ok (found ++ xs, rest)) ≡ then_read o (λ xs rest. Ok ((found ++ x ∷ []) ++ xs, rest))
      inner x (Ok r) = ap (λ l. Ok (l, r.1)) (sym (append_assoc found (x ∷ []) r.0))
      inner x (Err e) = refl

      outer : (o : Outcome A) → then_read (then_read o (λ x mid. then_read (read_all (first g) (read (read_in n) g) mid) (pure (◌∷◌ x)))) (λ xs rest. Ok (found ++ xs, rest)) ≡ then_read o (λ x mid. with_more n g (found ++ x ∷ []) mid)
      outer (Ok r) = inner r.0 (read_all (first g) (read (read_in n) g) r.1)
      outer (Err e) = refl

  pub end_more : (found : List A) (ts : List Token) → false ≡ begins (first g) ts → with_more n g found ts ≡ Ok (found, ts)
  unfolding with_more
  end_more found ts b = ap (λ o. then_read o (λ xs rest. Ok (found ++ xs, rest))) (no_more (first g) (read (read_in n) g) shorter_item ts (sym b)) ∙ ap (λ l. Ok (l, ts)) (append-nil found)

  pub smaller_more : (ts mid : List Token) (x : A) → read (read_in n) g ts ≡ Ok (x, mid) → length mid < length ts
  smaller_more ts mid x e = shorter_item ts mid x e
