-- A loop that reads the items of a chain after the first, each of which leads to a stage, and keeps what it has found in one value.
--
-- The code is `let (first, mut stage) = first_item()?; let mut found = start(first); while leads(stage) { let (x, next) = item(stage)?; found.put(x)?; stage = next; }`,
-- over a grammar `chain f a leads item`. `more found xs` is what comes of it where the items xs are still to be put to it:
-- `more found (x ∷ xs) ≡ more (put found x) xs` and `f (x ∷ xs) ≡ more (start x) xs`. For a plain list `more found xs = f (found ++ xs)`.
-- The invariant is `read (read_in n) rule l.fn.cursor ≡ with_stages n more leads item l.found l.stage l.cursor`, the measure `length l.cursor`.
-- The answers cite `begin_stages` (before the loop and where the first item is refused), `step_stages` (behind an item and where one is
-- refused), `end_stages` and `smaller_stages`. `ok` and `some` say that each item is fine and takes a token: refl, by stage if need be.
use Rattle.std.proofs.Common.{◌≡◌, ◌<◌, true, false, List, [], ◌∷◌, length, Ok, Err, refl, sym, ◌∙◌, ap}
use Rattle.rbs_lexer.specs.Tokens.{Token}
use Rattle.rbs_grammar.specs.declared.stage.Stage.{Stage}
use Rattle.rbs_grammar.specs.Rules.{Kinds}
use Rattle.rbs_grammar.specs.Grammar.{Grammar, chain, fine, empty, begins, Outcome, then_read, pure, read_stages, read}
use Rattle.rbs_grammar.specs.Levels.{Room, read_in}
use Rattle.rbs_grammar.proofs.Rows.{Shrinks}
use Rattle.rbs_grammar.proofs.Chains.{one_stage, no_stage}
use Rattle.rbs_grammar.proofs.Levels.{grammar_shrinks}

-- What comes of what is found so far, with the items that are still to be read from a stage on.
unfoldable pub with_stages : {A B C : Type 0} → Room → (C → List A → B) → (Stage → Kinds) → (Stage → Grammar (A × Stage)) → C → Stage → List Token → Outcome B
with_stages n more leads item found s ts = then_read (read_stages leads (λ s. read (read_in n) (item s)) s ts) (λ xs rest. Ok (more found xs, rest))

module _ {A B C : Type 0} (n : Room) (f : List A → B) (a : Grammar (A × Stage)) (leads : Stage → Kinds) (item : Stage → Grammar (A × Stage))
    (start : A → C) (put : C → A → C) (more : C → List A → B) where
  pub begin_stages : ((x : A) (xs : List A) → f (x ∷ xs) ≡ more (start x) xs) → (ts : List Token)
      → read (read_in n) (chain f a leads item) ts ≡ then_read (read (read_in n) a ts) (λ x mid. with_stages n more leads item (start x.0) x.1 mid)
  unfolding with_stages
  begin_stages h ts = outer (read (read_in n) a ts)
    where
      inner : (x : A) (o : Outcome (List A)) → then_read o (pure (λ xs. f (x ∷ xs))) ≡ then_read o (λ xs rest. Ok (more (start x) xs, rest))
      inner x (Ok r) = ap (λ y. Ok (y, r.1)) (h x r.0)
      inner x (Err e) = refl

      outer : (o : Outcome (A × Stage)) → then_read o (λ x mid. then_read (read_stages leads (λ s. read (read_in n) (item s)) x.1 mid) (pure (λ xs. f (x.0 ∷ xs)))) ≡ then_read o (λ x mid. with_stages n more leads item (start x.0) x.1 mid)
      outer (Ok r) = inner r.0.0 (read_stages leads (λ s. read (read_in n) (item s)) r.0.1 r.1)
      outer (Err e) = refl

  module _ (ok : (s : Stage) → fine (item s) ≡ true) (some : (s : Stage) → empty (item s) ≡ false) where
    shorter : (s : Stage) → Shrinks (read (read_in n) (item s))
    shorter s = grammar_shrinks n (A × Stage) (item s) (ok s) (some s)

    pub step_stages : ((c : C) (x : A) (xs : List A) → more c (x ∷ xs) ≡ more (put c x) xs) → (found : C) (s : Stage) (ts : List Token) → true ≡ begins (leads s) ts
        → with_stages n more leads item found s ts ≡ then_read (read (read_in n) (item s) ts) (λ x mid. with_stages n more leads item (put found x.0) x.1 mid)
    unfolding with_stages
    step_stages h found s ts b = ap (λ o. then_read o (λ xs rest. Ok (more found xs, rest))) (one_stage leads (λ s. read (read_in n) (item s)) shorter s ts (sym b)) ∙ outer (read (read_in n) (item s) ts)
      where
        inner : (x : A) (o : Outcome (List A)) → then_read (then_read o (pure (◌∷◌ x))) (λ xs rest. Ok (more found xs, rest)) ≡ then_read o (λ xs rest. Ok (more (put found x) xs, rest))
        inner x (Ok r) = ap (λ y. Ok (y, r.1)) (h found x r.0)
        inner x (Err e) = refl

        outer : (o : Outcome (A × Stage)) → then_read (then_read o (λ x mid. then_read (read_stages leads (λ s. read (read_in n) (item s)) x.1 mid) (pure (◌∷◌ x.0)))) (λ xs rest. Ok (more found xs, rest)) ≡ then_read o (λ x mid. with_stages n more leads item (put found x.0) x.1 mid)
        outer (Ok r) = inner r.0.0 (read_stages leads (λ s. read (read_in n) (item s)) r.0.1 r.1)
        outer (Err e) = refl

    pub end_stages : (found : C) (s : Stage) (ts : List Token) → false ≡ begins (leads s) ts → with_stages n more leads item found s ts ≡ Ok (more found [], ts)
    unfolding with_stages
    end_stages found s ts b = ap (λ o. then_read o (λ xs rest. Ok (more found xs, rest))) (no_stage leads (λ s. read (read_in n) (item s)) shorter s ts (sym b))

    pub smaller_stages : (s : Stage) (ts mid : List Token) (x : A × Stage) → read (read_in n) (item s) ts ≡ Ok (x, mid) → length mid < length ts
    smaller_stages s ts mid x e = shorter s ts mid x e
