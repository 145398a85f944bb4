-- A loop that reads the items of a row, and keeps what it has found in one value.
--
-- The code is `let mut found = start; while cursor.sees(..) { let x = item()?; found.put(x)?; }`, over a grammar `map_value f (each item)`.
-- `more found xs` is what comes of it where the items xs are still to be put to it: `more found (x ∷ xs) ≡ more (put found x) xs` and
-- `f xs ≡ more start xs`. The invariant is `read (read_in n) rule l.fn.cursor ≡ with_each n more item l.found l.cursor`.
use Rattle.std.proofs.Common.{◌≡◌, ◌<◌, true, false, List, [], ◌∷◌, length, Ok, Err, refl, sym, ◌∙◌, ap}
use Rattle.rbs_lexer.specs.Tokens.{Token}
use Rattle.rbs_grammar.specs.Grammar.{Grammar, fine, empty, first, begins, Outcome, then_read, pure, read_all, read}
use Rattle.rbs_grammar.specs.Levels.{Room, read_in}
use Rattle.rbs_grammar.specs.Parts.{map_value, each}
use Rattle.rbs_grammar.proofs.Rows.{Shrinks, one_more, no_more}
use Rattle.rbs_grammar.proofs.Levels.{grammar_shrinks}

-- What comes of what is found so far, with the items that are still to be read.
unfoldable pub with_each : {A B C : Type 0} → Room → (C → List A → B) → Grammar A → C → List Token → Outcome B
with_each n more item found ts = then_read (read_all (first item) (read (read_in n) item) ts) (λ xs rest. Ok (more found xs, rest))

module _ {A B C : Type 0} (n : Room) (f : List A → B) (item : Grammar A) (start : C) (put : C → A → C) (more : C → List A → B) where
  pub begin_each : ((xs : List A) → f xs ≡ more start xs) → (ts : List Token) → read (read_in n) (map_value f (each item)) ts ≡ with_each n more item start ts
  unfolding with_each
  begin_each h ts = go (read_all (first item) (read (read_in n) item) ts)
    where
      go : (o : Outcome (List A)) → then_read (then_read o (λ xs rest. Ok (xs, rest))) (λ xs rest. Ok (f xs, rest)) ≡ then_read o (λ xs rest. Ok (more start xs, rest))
      go (Ok r) = ap (λ y. Ok (y, r.1)) (h r.0)
      go (Err e) = refl

  module _ (ok : fine item ≡ true) (some : empty item ≡ false) where
    shorter : Shrinks (read (read_in n) item)
    shorter = grammar_shrinks n A item ok some

    pub step_each : ((c : C) (x : A) (xs : List A) → more c (x ∷ xs) ≡ more (put c x) xs) → (found : C) (ts : List Token) → true ≡ begins (first item) ts
        → with_each n more item found ts ≡ then_read (read (read_in n) item ts) (λ x mid. with_each n more item (put found x) mid)
    unfolding with_each
    step_each h found ts b = ap (λ o. then_read o (λ xs rest. Ok (more found xs, rest))) (one_more (first item) (read (read_in n) item) shorter ts (sym b)) ∙ outer (read (read_in n) item ts)
      where
        inner : (x : A) (o : Outcome (List A)) → then_read (then_read o (pure (◌∷◌ x))) (λ xs rest. Ok (more found xs, rest)) ≡ then_read o (λ xs rest. Ok (more (put found x) xs, rest))
        inner x (Ok r) = ap (λ y. Ok (y, r.1)) (h found x r.0)
        inner x (Err e) = refl

        outer : (o : Outcome A) → then_read (then_read o (λ x mid. then_read (read_all (first item) (read (read_in n) item) mid) (pure (◌∷◌ x)))) (λ xs rest. Ok (more found xs, rest)) ≡ then_read o (λ x mid. with_each n more item (put found x) mid)
        outer (Ok r) = inner r.0 (read_all (first item) (read (read_in n) item) r.1)
        outer (Err e) = refl

    pub end_each : (found : C) (ts : List Token) → false ≡ begins (first item) ts → with_each n more item found ts ≡ Ok (more found [], ts)
    unfolding with_each
    end_each found ts b = ap (λ o. then_read o (λ xs rest. Ok (more found xs, rest))) (no_more (first item) (read (read_in n) item) shorter ts (sym b))

    pub smaller_each : (ts mid : List Token) (x : A) → read (read_in n) item ts ≡ Ok (x, mid) → length mid < length ts
    smaller_each ts mid x e = shorter ts mid x e
