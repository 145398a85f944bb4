-- Any number of items in a row.
use Rattle.std.proofs.Common.{◌≡◌, inl, inr, ℕ, zero, suc, ◌<◌, ◌≤◌, Bool, true, false, if◌then◌else◌, List, [], ◌∷◌, ◌++◌, length, Result, Ok, Err, refl, sym, ◌∙◌, ap, subst, arith}
use Rattle.std.proofs.lemmas.List.{length-append}
use Rattle.rbs_lexer.specs.Tokens.{Token}
use Rattle.rbs_grammar.specs.Rules.{Kinds}
use Rattle.rbs_grammar.specs.Grammar.{Way, Row, seq_way, begins, Fault, Outcome, Reader, then_read, pure, read_both, read_row, read_all}
use Rattle.rbs_grammar.proofs.Heads.{true≢false}
use Rattle.rbs_grammar.proofs.Front.{Fronts, Begun}
use Rattle.rbs_grammar.proofs.Acts.{alike_begins, alike_from, if_true, if_false, Got, Acts, Acting, Made, Within, both_last, both_stuck}

-- Each item takes a token.
abbrev pub Shrinks : {A : Type 0} → Reader A → Type 0
Shrinks {A = A} p = (ts mid : List Token) (x : A) → p ts ≡ Ok (x, mid) → length mid < length ts

took_some : (k : Kinds) (u : List Token) → Begun k false (u ++ []) [] → 0 < length u
took_some k [] (inl h) = absurd (true≢false false h refl)
took_some k [] (inr h) = absurd (true≢false false h.1 refl)
took_some k (t ∷ u) h = omega arith

got_shorter : {A : Type 0} (p : Reader A) (S : Way A) (k b : Kinds) → Fronts S k false → (ts mid : List Token) (x : A) → Got p S b ts x mid → length mid < length ts
got_shorter p S k b fr ts mid x a =
    let some = took_some k a.took (fr (a.took ++ []) [] x (a.spelled [] (inr refl))) in
    let e = ap length a.was in
    omega (arith, length-append a.took mid, some, e)

pub ok_same : {X : Type 0} (a b : X) → ◌≡◌ {A = Result X (Fault × List Token)} (Ok a) (Ok b) → a ≡ b
ok_same a b h = cc

shrinks_from : {A : Type 0} (p : Reader A) (S L : Way A) (k b : Kinds) → Fronts S k false → (ts mid : List Token) (x : A) (o : Outcome A) → Acts p S L b ts o → o ≡ Ok (x, mid) → length mid < length ts
shrinks_from p S L k b fr ts mid x (Ok r) a e = got_shorter p S k b fr ts mid x (subst (λ z. Got p S b ts z.0 z.1) (ok_same r (x, mid) e) a)
shrinks_from p S L k b fr ts mid x (Err r) a e = cc

pub shrinks : {A : Type 0} (p : Reader A) (S L : Way A) (k b : Kinds) → Fronts S k false → Acting p S L b → Shrinks p
shrinks p S L k b fr a ts mid x e = shrinks_from p S L k b fr ts mid x (p ts) (a ts) e

module _ {A : Type 0} (k : Kinds) (p : Reader A) (shorter : Shrinks p) where
  -- The bound on the turns doesn't matter.
  enough : (n m : ℕ) (ts : List Token) → length ts ≤ n → length ts ≤ m → read_row k p n ts ≡ read_row k p m ts
  enough zero zero ts a b = refl
  enough zero (suc m) [] a b = refl
  enough zero (suc m) (t ∷ ts) a b = absurd (omega arith)
  enough (suc n) zero [] a b = refl
  enough (suc n) zero (t ∷ ts) a b = absurd (omega arith)
  enough (suc n) (suc m) ts a b = ap (λ o. if begins k ts then o else Ok ([], ts)) (same_after (p ts) (λ x mid e. enough n m mid (omega (arith, shorter ts mid x e)) (omega (arith, shorter ts mid x e))))
    where
      same_after : (o : Outcome A) → ((x : A) (mid : List Token) → o ≡ Ok (x, mid) → read_row k p n mid ≡ read_row k p m mid) → then_read o (λ x mid. then_read (read_row k p n mid) (pure (◌∷◌ x))) ≡ then_read o (λ x mid. then_read (read_row k p m mid) (pure (◌∷◌ x)))
      same_after (Ok r) h = ap (λ o. then_read o (pure (◌∷◌ r.0))) (h r.0 r.1 refl)
      same_after (Err e) h = refl

  pub unroll : (ts : List Token) → read_all k p ts ≡ (if begins k ts then read_both ◌∷◌ p (read_all k p) ts else Ok ([], ts))
  unroll [] = refl
  unroll (t ∷ ts) = ap (λ o. if k t.kind t.begins_line then o else Ok ([], t ∷ ts)) (same_after (p (t ∷ ts)) (λ x mid e. enough (length ts) (length mid) mid (omega (arith, shorter (t ∷ ts) mid x e)) (omega arith)))
    where
      same_after : (o : Outcome A) → ((x : A) (mid : List Token) → o ≡ Ok (x, mid) → read_row k p (length ts) mid ≡ read_all k p mid) → then_read o (λ x mid. then_read (read_row k p (length ts) mid) (pure (◌∷◌ x))) ≡ then_read o (λ x mid. then_read (read_all k p mid) (pure (◌∷◌ x)))
      same_after (Ok r) h = ap (λ o. then_read o (pure (◌∷◌ r.0))) (h r.0 r.1 refl)
      same_after (Err e) h = refl

  pub one_more : (ts : List Token) → begins k ts ≡ true → read_all k p ts ≡ read_both ◌∷◌ p (read_all k p) ts
  one_more ts e = unroll ts ∙ if_true _ _ _ e

  pub no_more : (ts : List Token) → begins k ts ≡ false → read_all k p ts ≡ Ok ([], ts)
  no_more ts e = unroll ts ∙ if_false _ _ _ e

  module _ (S L : Way A) (b : Kinds) (grows : Within S L) where
    row_of : (W : Way A) (ts rest : List Token) (xs : List A) → seq_way ◌∷◌ W (Row W) ts rest xs → Row W ts rest xs
    row_of W ts rest xs s = let made : Row W ts rest (s.0 ∷ s.1) = (s.2, s.3, s.4) in subst (λ l. Row W ts rest l) s.5 made

    cons_from : (ts : List Token) → begins k ts ≡ true → (o : Outcome (List A)) → Acts (read_both ◌∷◌ p (read_all k p)) (seq_way ◌∷◌ S (Row S)) (seq_way ◌∷◌ L (Row L)) b ts o → Acts (read_all k p) (Row S) (Row L) b ts o
    cons_from ts e (Ok r) a = record {
      took = a.took;
      was = a.was;
      again = λ m h. one_more (a.took ++ m) (alike_begins k ts (a.took ++ m) (alike_from ts a.took r.1 m a.was h) ∙ e) ∙ a.again m h;
      spelled = λ m h. row_of S (a.took ++ m) m r.0 (a.spelled m h);
    }
    cons_from ts e (Err r) a = record {
      took = a.took;
      was = a.was;
      again = λ y m h. one_more (a.took ++ m) (alike_begins k ts (a.took ++ m) (alike_from ts a.took r.1 m a.was h) ∙ e) ∙ a.again y m h;
      to_come = a.to_come;
      value = a.value;
      could = λ m c. row_of L (a.took ++ (a.to_come ++ m)) m a.value (a.could m c);
    }

    none_acts : (ts : List Token) → begins k ts ≡ false → Acts (read_all k p) (Row S) (Row L) b ts (Ok ([], ts))
    none_acts ts e = record {
      took = [];
      was = refl;
      again = λ m h. no_more m (alike_begins k ts m h ∙ e);
      spelled = λ m h. refl;
    }

    no_items : Made (Row L) b k true
    no_items = record { word = []; value = []; spelled = λ m c. refl; led = tt; blank = λ z. refl }

    nothing_before : (m : List Token) → begins b m ≡ false → begins b (no_items.word ++ m) ≡ false
    unfolding no_items
    nothing_before m c = c

    -- The items after the first are fewer tokens.
    items_from : (ts : List Token) (o : Outcome A) → p ts ≡ o → Acts p S L b ts o
        → ((mid : List Token) → length mid < length ts → Acts (read_all k p) (Row S) (Row L) b mid (read_all k p mid))
        → Acts (read_both ◌∷◌ p (read_all k p)) (seq_way ◌∷◌ S (Row S)) (seq_way ◌∷◌ L (Row L)) b ts (then_read o (λ x mid. then_read (read_all k p mid) (pure (◌∷◌ x))))
    items_from ts (Ok r) e a more = both_last ◌∷◌ p (read_all k p) S L (Row S) (Row L) b b b k true grows no_items (λ m c. c) nothing_before (λ mid y z m c. c) ts r.1 r.0 (read_all k p r.1) refl a (more r.1 (shorter ts r.1 r.0 e))
    items_from ts (Err r) e a more = both_stuck ◌∷◌ p (read_all k p) S L (Row S) (Row L) b b b k true grows no_items (λ m c. c) nothing_before (λ mid y z m c. c) ts r a

    by_test : Acting p S L b → (ts : List Token) → ((mid : List Token) → length mid < length ts → Acts (read_all k p) (Row S) (Row L) b mid (read_all k p mid)) → (t : Bool) → begins k ts ≡ t
        → Acts (read_all k p) (Row S) (Row L) b ts (if t then read_both ◌∷◌ p (read_all k p) ts else Ok ([], ts))
    by_test a ts more true e = cons_from ts e (read_both ◌∷◌ p (read_all k p) ts) (items_from ts (p ts) refl (a ts) more)
    by_test a ts more false e = none_acts ts e

    all_bounded : Acting p S L b → (n : ℕ) (ts : List Token) → length ts < n → Acts (read_all k p) (Row S) (Row L) b ts (read_all k p ts)
    all_bounded a zero ts h = absurd (omega arith)
    all_bounded a (suc n) ts h = subst (λ o. Acts (read_all k p) (Row S) (Row L) b ts o) (sym (unroll ts)) (by_test a ts (λ mid less. all_bounded a n mid (omega arith)) (begins k ts) refl)

    pub all_acts : Acting p S L b → Acting (read_all k p) (Row S) (Row L) b
    all_acts a ts = all_bounded a (suc (length ts)) ts (omega arith)
