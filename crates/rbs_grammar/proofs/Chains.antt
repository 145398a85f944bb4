-- Items of several kinds, each of which leads to a stage.
use Rattle.std.proofs.Common.{◌≡◌, inl, inr, ℕ, zero, suc, ◌<◌, ◌≤◌, Bool, true, false, if◌then◌else◌, List, [], ◌∷◌, ◌++◌, length, Ok, Err, refl, sym, ◌∙◌, ap, subst, append_assoc, arith}
use Rattle.rbs_lexer.specs.Tokens.{Token}
use Rattle.rbs_grammar.specs.declared.stage.Stage.{Stage}
use Rattle.rbs_grammar.specs.Rules.{Kinds}
use Rattle.rbs_grammar.specs.Grammar.{Way, Chain, chain_way, begins, Fault, Outcome, Reader, then_read, pure, read_chain, read_stages}
use Rattle.rbs_grammar.proofs.Acts.{Fit, fit_step, fit_some, not_shorter, still_clear, alike_begins, alike_from, if_true, if_false, Got, Stuck, Acts, Acting, Within}
use Rattle.rbs_grammar.proofs.Rows.{Shrinks}

-- an item, and then a chain from the stage that it leads to
abbrev pub then_stages : {A : Type 0} → (Stage → Reader (List A)) → Outcome (A × Stage) → Outcome (List A)
then_stages c o = then_read o (λ x mid. then_read (c x.1 mid) (pure (◌∷◌ x.0)))

-- a first item, and then a chain from the stage that it leads to
abbrev pub lead_stages : {A B : Type 0} → (List A → B) → (Stage → Reader (List A)) → Outcome (A × Stage) → Outcome B
lead_stages f c o = then_read o (λ x mid. then_read (c x.1 mid) (pure (λ xs. f (x.0 ∷ xs))))

pub led_ok : {A B : Type 0} (f : List A → B) (c : Stage → Reader (List A)) (o : Outcome (A × Stage)) (mid rest : List Token) (x : A × Stage) (xs : List A) → o ≡ Ok (x, mid) → c x.1 mid ≡ Ok (xs, rest) → lead_stages f c o ≡ Ok (f (x.0 ∷ xs), rest)
led_ok f c o mid rest x xs a b = ap (lead_stages f c) a ∙ ap (λ o. then_read o (pure (λ xs. f (x.0 ∷ xs)))) b

pub led_first : {A B : Type 0} (f : List A → B) (c : Stage → Reader (List A)) (o : Outcome (A × Stage)) (e : Fault × List Token) → o ≡ Err e → lead_stages f c o ≡ Err e
led_first f c o e a = ap (lead_stages f c) a

pub led_second : {A B : Type 0} (f : List A → B) (c : Stage → Reader (List A)) (o : Outcome (A × Stage)) (mid : List Token) (x : A × Stage) (e : Fault × List Token) → o ≡ Ok (x, mid) → c x.1 mid ≡ Err e → lead_stages f c o ≡ Err e
led_second f c o mid x e a b = ap (lead_stages f c) a ∙ ap (λ o. then_read o (pure (λ xs. f (x.0 ∷ xs)))) b

same_stages : {A : Type 0} (c d : Stage → Reader (List A)) (o : Outcome (A × Stage)) → ((x : A × Stage) (mid : List Token) → o ≡ Ok (x, mid) → c x.1 mid ≡ d x.1 mid) → then_stages c o ≡ then_stages d o
same_stages c d (Ok r) h = ap (λ o. then_read o (pure (◌∷◌ r.0.0))) (h r.0 r.1 refl)
same_stages c d (Err e) h = refl

module _ {A : Type 0} (k : Stage → Kinds) (p : Stage → Reader (A × Stage)) (shorter : (s : Stage) → Shrinks (p s)) where
  -- The bound on the turns doesn't matter.
  enough_stages : (n m : ℕ) (s : Stage) (ts : List Token) → length ts ≤ n → length ts ≤ m → read_chain k p n s ts ≡ read_chain k p m s ts
  enough_stages zero zero s ts a b = refl
  enough_stages zero (suc m) s [] a b = refl
  enough_stages zero (suc m) s (t ∷ ts) a b = absurd (omega arith)
  enough_stages (suc n) zero s [] a b = refl
  enough_stages (suc n) zero s (t ∷ ts) a b = absurd (omega arith)
  enough_stages (suc n) (suc m) s ts a b = ap (λ o. if begins (k s) ts then o else Ok ([], ts))
      (same_stages (read_chain k p n) (read_chain k p m) (p s ts) (λ x mid e. enough_stages n m x.1 mid (omega (arith, shorter s ts mid x e)) (omega (arith, shorter s ts mid x e))))

  pub unroll_stages : (s : Stage) (ts : List Token) → read_stages k p s ts ≡ (if begins (k s) ts then then_stages (read_stages k p) (p s ts) else Ok ([], ts))
  unroll_stages s [] = refl
  unroll_stages s (t ∷ ts) = ap (λ o. if k s t.kind t.begins_line then o else Ok ([], t ∷ ts))
      (same_stages (read_chain k p (length ts)) (read_stages k p) (p s (t ∷ ts)) (λ x mid e. enough_stages (length ts) (length mid) x.1 mid (omega (arith, shorter s (t ∷ ts) mid x e)) (omega arith)))

  pub one_stage : (s : Stage) (ts : List Token) → begins (k s) ts ≡ true → read_stages k p s ts ≡ then_stages (read_stages k p) (p s ts)
  one_stage s ts e = unroll_stages s ts ∙ if_true _ _ _ e

  pub no_stage : (s : Stage) (ts : List Token) → begins (k s) ts ≡ false → read_stages k p s ts ≡ Ok ([], ts)
  no_stage s ts e = unroll_stages s ts ∙ if_false _ _ _ e

  pub stage_ok : (s : Stage) (ts mid rest : List Token) (x : A × Stage) (xs : List A) → begins (k s) ts ≡ true → p s ts ≡ Ok (x, mid) → read_stages k p x.1 mid ≡ Ok (xs, rest) → read_stages k p s ts ≡ Ok (x.0 ∷ xs, rest)
  stage_ok s ts mid rest x xs h a b = one_stage s ts h ∙ ap (then_stages (read_stages k p)) a ∙ ap (λ o. then_read o (pure (◌∷◌ x.0))) b

  pub stage_first : (s : Stage) (ts : List Token) (e : Fault × List Token) → begins (k s) ts ≡ true → p s ts ≡ Err e → read_stages k p s ts ≡ Err e
  stage_first s ts e h a = one_stage s ts h ∙ ap (then_stages (read_stages k p)) a

  pub stage_second : (s : Stage) (ts mid : List Token) (x : A × Stage) (e : Fault × List Token) → begins (k s) ts ≡ true → p s ts ≡ Ok (x, mid) → read_stages k p x.1 mid ≡ Err e → read_stages k p s ts ≡ Err e
  stage_second s ts mid x e h a b = one_stage s ts h ∙ ap (then_stages (read_stages k p)) a ∙ ap (λ o. then_read o (pure (◌∷◌ x.0))) b

  -- What took a token begins as it did, whatever follows.
  taken : (s : Stage) (ts mid u : List Token) → length mid < length ts → ts ≡ u ++ mid → begins (k s) ts ≡ true → (l : List Token) → begins (k s) (u ++ l) ≡ true
  taken s ts mid [] less e h l = absurd (not_shorter ts mid e less)
  taken s ts mid (t ∷ v) less e h l = subst (λ w. begins (k s) w ≡ true) e h

  module _ (S L : Stage → Way (A × Stage)) (b : Stage → Kinds) (bar : Kinds) (grows : (s : Stage) → Within (S s) (L s))
      (lead_clear : (s : Stage) (m : List Token) → begins bar m ≡ false → begins (k s) m ≡ false)
      (item_clear : (s : Stage) (m : List Token) → begins bar m ≡ false → begins (b s) m ≡ false) where
    fit_item : (s : Stage) (rest m : List Token) → Fit bar rest m → Fit (b s) rest m
    fit_item s rest m (inl h) = inl h
    fit_item s rest m (inr c) = inr (item_clear s m c)

    fit_lead : (s : Stage) (rest m : List Token) → Fit bar rest m → Fit (k s) rest m
    fit_lead s rest m (inl h) = inl h
    fit_lead s rest m (inr c) = inr (lead_clear s m c)

    chain_ended : (s : Stage) (ts : List Token) → begins (k s) ts ≡ false → Acts (read_stages k p s) (Chain k S s) (Chain k L s) bar ts (Ok ([], ts))
    chain_ended s ts e = record {
      took = [];
      was = refl;
      again = λ m h. no_stage s m (alike_begins (k s) ts m h ∙ e);
      spelled = λ m h. (refl, still_clear (k s) ts m (fit_lead s ts m h) e);
    }

    -- Stuck in an item with no token of it taken, the list could end before it.
    item_stuck : (s : Stage) (ts : List Token) → begins (k s) ts ≡ true → (e : Fault × List Token) → (a : Stuck (p s) (L s) (b s) ts e.0 e.1) (u : List Token) → a.took ≡ u → Stuck (read_stages k p s) (Chain k L s) bar ts e.0 e.1
    item_stuck s ts h e a [] i = record {
      took = [];
      was = whole;
      again = λ y m g. stage_first s m (e.0, m) (alike_begins (k s) ts m (alike_from ts [] e.1 m whole g) ∙ h) (subst (λ w. p s (w ++ m) ≡ Err (e.0, m)) i (a.again y m g));
      to_come = [];
      value = [];
      could = λ m c. (refl, lead_clear s m c);
    }
      where
        whole : ts ≡ e.1
        whole = a.was ∙ ap (λ w. w ++ e.1) i
    item_stuck s ts h e a (t ∷ v) i = record {
      took = a.took;
      was = a.was;
      again = λ y m g. stage_first s (a.took ++ m) (e.0, m) (begun m) (a.again y m g);
      to_come = a.to_come;
      value = a.value.0 ∷ [];
      could = λ m c. (begun (a.to_come ++ m), (a.value.1, m, a.could m (item_clear s m c), (refl, lead_clear a.value.1 m c)));
    }
      where
        begun : (l : List Token) → begins (k s) (a.took ++ l) ≡ true
        begun l = subst (λ w. begins (k s) (w ++ l) ≡ true) (sym i) (subst (λ w. begins (k s) w ≡ true) (a.was ∙ ap (λ w. w ++ e.1) i) h)

    took_then : (s : Stage) (ts mid rest : List Token) (x : A × Stage) (u : List Token) → (a : Got (p s) (S s) (b s) ts x mid) → mid ≡ u ++ rest → ts ≡ (a.took ++ u) ++ rest
    took_then s ts mid rest x u a e = a.was ∙ ap (λ l. a.took ++ l) e ∙ sym (append_assoc a.took u rest)

    chain_got : (s : Stage) (ts mid : List Token) (x : A × Stage) → begins (k s) ts ≡ true → length mid < length ts → (a : Got (p s) (S s) (b s) ts x mid) → (r : List A × List Token) → (c : Got (read_stages k p x.1) (Chain k S x.1) bar mid r.0 r.1)
        → Got (read_stages k p s) (Chain k S s) bar ts (x.0 ∷ r.0) r.1
    chain_got s ts mid x h less a r c = record {
      took = a.took ++ c.took;
      was = took_then s ts mid r.1 x c.took a c.was;
      again = λ m g. ap (read_stages k p s) (append_assoc a.took c.took m) ∙ stage_ok s (a.took ++ (c.took ++ m)) (c.took ++ m) m x r.0 (taken s ts mid a.took less a.was h (c.took ++ m)) (a.again (c.took ++ m) (alike_from mid c.took r.1 m c.was g)) (c.again m g);
      spelled = λ m g. subst (λ l. Chain k S s l m (x.0 ∷ r.0)) (sym (append_assoc a.took c.took m))
          (taken s ts mid a.took less a.was h (c.took ++ m), (x.1, c.took ++ m, a.spelled (c.took ++ m) (fit_step (b s) mid c.took r.1 m c.was (fit_item s r.1 m g)), c.spelled m g));
    }

    -- Stuck behind an item, where no further token is taken the list could end there.
    chain_stuck : (s : Stage) (ts mid : List Token) (x : A × Stage) → begins (k s) ts ≡ true → length mid < length ts → (a : Got (p s) (S s) (b s) ts x mid) → (e : Fault × List Token) → (c : Stuck (read_stages k p x.1) (Chain k L x.1) bar mid e.0 e.1) (u : List Token) → c.took ≡ u
        → Stuck (read_stages k p s) (Chain k L s) bar ts e.0 e.1
    chain_stuck s ts mid x h less a e c [] i = record {
      took = a.took;
      was = a.was ∙ ap (λ l. a.took ++ l) whole;
      again = λ y m g. stage_second s (a.took ++ m) m x (e.0, m) (taken s ts mid a.took less a.was h m) (a.again m (alike_from mid [] e.1 m whole g)) (subst (λ u. read_stages k p x.1 (u ++ m) ≡ Err (e.0, m)) i (c.again y m g));
      to_come = [];
      value = x.0 ∷ [];
      could = λ m g. (taken s ts mid a.took less a.was h m, (x.1, m, grows s _ _ _ (a.spelled m (inr (item_clear s m g))), (refl, lead_clear x.1 m g)));
    }
      where
        whole : mid ≡ e.1
        whole = c.was ∙ ap (λ u. u ++ e.1) i
    chain_stuck s ts mid x h less a e c (t ∷ v) i = record {
      took = a.took ++ c.took;
      was = took_then s ts mid e.1 x c.took a c.was;
      again = λ y m g. ap (read_stages k p s) (append_assoc a.took c.took m) ∙ stage_second s (a.took ++ (c.took ++ m)) (c.took ++ m) x (e.0, m) (taken s ts mid a.took less a.was h (c.took ++ m)) (a.again (c.took ++ m) (alike_from mid c.took e.1 m c.was g)) (c.again y m g);
      to_come = c.to_come;
      value = x.0 ∷ c.value;
      could = λ m g. subst (λ l. Chain k L s l m (x.0 ∷ c.value)) (sym (append_assoc a.took c.took (c.to_come ++ m)))
          (taken s ts mid a.took less a.was h (c.took ++ (c.to_come ++ m)), (x.1, c.took ++ (c.to_come ++ m), grows s _ _ _ (a.spelled (c.took ++ (c.to_come ++ m)) (fit_some (b s) mid c.took e.1 (c.to_come ++ m) t v c.was i)), c.could m g));
    }

    chain_last : (s : Stage) (ts mid : List Token) (x : A × Stage) → begins (k s) ts ≡ true → length mid < length ts → Got (p s) (S s) (b s) ts x mid → (o : Outcome (List A)) → Acts (read_stages k p x.1) (Chain k S x.1) (Chain k L x.1) bar mid o
        → Acts (read_stages k p s) (Chain k S s) (Chain k L s) bar ts (then_read o (pure (◌∷◌ x.0)))
    chain_last s ts mid x h less a (Ok r) c = chain_got s ts mid x h less a r c
    chain_last s ts mid x h less a (Err e) c = chain_stuck s ts mid x h less a e c c.took refl

    -- The items after the first are fewer tokens.
    chain_from : (s : Stage) (ts : List Token) → begins (k s) ts ≡ true → (o : Outcome (A × Stage)) → p s ts ≡ o → Acts (p s) (S s) (L s) (b s) ts o
        → ((next : Stage) (mid : List Token) → length mid < length ts → Acts (read_stages k p next) (Chain k S next) (Chain k L next) bar mid (read_stages k p next mid))
        → Acts (read_stages k p s) (Chain k S s) (Chain k L s) bar ts (then_stages (read_stages k p) o)
    chain_from s ts h (Ok r) e a more = chain_last s ts r.1 r.0 h (shorter s ts r.1 r.0 e) a (read_stages k p r.0.1 r.1) (more r.0.1 r.1 (shorter s ts r.1 r.0 e))
    chain_from s ts h (Err r) e a more = item_stuck s ts h r a a.took refl

    chain_by_test : ((s : Stage) → Acting (p s) (S s) (L s) (b s)) → (s : Stage) (ts : List Token) → ((next : Stage) (mid : List Token) → length mid < length ts → Acts (read_stages k p next) (Chain k S next) (Chain k L next) bar mid (read_stages k p next mid))
        → (t : Bool) → begins (k s) ts ≡ t → Acts (read_stages k p s) (Chain k S s) (Chain k L s) bar ts (if t then then_stages (read_stages k p) (p s ts) else Ok ([], ts))
    chain_by_test a s ts more true e = chain_from s ts e (p s ts) refl (a s ts) more
    chain_by_test a s ts more false e = chain_ended s ts e

    chain_bounded : ((s : Stage) → Acting (p s) (S s) (L s) (b s)) → (n : ℕ) (s : Stage) (ts : List Token) → length ts < n → Acts (read_stages k p s) (Chain k S s) (Chain k L s) bar ts (read_stages k p s ts)
    chain_bounded a zero s ts h = absurd (omega arith)
    chain_bounded a (suc n) s ts h = subst (λ o. Acts (read_stages k p s) (Chain k S s) (Chain k L s) bar ts o) (sym (unroll_stages s ts)) (chain_by_test a s ts (λ next mid less. chain_bounded a n next mid (omega arith)) (begins (k s) ts) refl)

    pub chain_acts : ((s : Stage) → Acting (p s) (S s) (L s) (b s)) → (s : Stage) → Acting (read_stages k p s) (Chain k S s) (Chain k L s) bar
    chain_acts a s ts = chain_bounded a (suc (length ts)) s ts (omega arith)

    -- ---- a first item, and then a chain

    module _ {B : Type 0} (f : List A → B) (q : Reader (A × Stage)) (T M : Way (A × Stage)) (kq : Kinds) (first_grows : Within T M)
        (first_clear : (m : List Token) → begins bar m ≡ false → begins kq m ≡ false) where
      abbrev pub led : Reader B
      led ts = lead_stages f (read_stages k p) (q ts)

      fit_begin : (rest m : List Token) → Fit bar rest m → Fit kq rest m
      fit_begin rest m (inl h) = inl h
      fit_begin rest m (inr c) = inr (first_clear m c)

      led_took : (ts mid rest : List Token) (x : A × Stage) (u : List Token) → (a : Got q T kq ts x mid) → mid ≡ u ++ rest → ts ≡ (a.took ++ u) ++ rest
      led_took ts mid rest x u a e = a.was ∙ ap (λ l. a.took ++ l) e ∙ sym (append_assoc a.took u rest)

      led_got : (ts mid : List Token) (x : A × Stage) → (a : Got q T kq ts x mid) → (r : List A × List Token) → (c : Got (read_stages k p x.1) (Chain k S x.1) bar mid r.0 r.1) → Got led (chain_way f T k S) bar ts (f (x.0 ∷ r.0)) r.1
      led_got ts mid x a r c = record {
        took = a.took ++ c.took;
        was = led_took ts mid r.1 x c.took a c.was;
        again = λ m g. ap led (append_assoc a.took c.took m) ∙ led_ok f (read_stages k p) (q (a.took ++ (c.took ++ m))) (c.took ++ m) m x r.0 (a.again (c.took ++ m) (alike_from mid c.took r.1 m c.was g)) (c.again m g);
        spelled = λ m g. (x.0, x.1, c.took ++ m, r.0, subst (λ l. T l (c.took ++ m) x) (sym (append_assoc a.took c.took m)) (a.spelled (c.took ++ m) (fit_step kq mid c.took r.1 m c.was (fit_begin r.1 m g))), c.spelled m g, refl);
      }

      led_stuck : (ts mid : List Token) (x : A × Stage) → (a : Got q T kq ts x mid) → (e : Fault × List Token) → (c : Stuck (read_stages k p x.1) (Chain k L x.1) bar mid e.0 e.1) (u : List Token) → c.took ≡ u → Stuck led (chain_way f M k L) bar ts e.0 e.1
      led_stuck ts mid x a e c [] i = record {
        took = a.took;
        was = a.was ∙ ap (λ l. a.took ++ l) whole;
        again = λ y m g. led_second f (read_stages k p) (q (a.took ++ m)) m x (e.0, m) (a.again m (alike_from mid [] e.1 m whole g)) (subst (λ u. read_stages k p x.1 (u ++ m) ≡ Err (e.0, m)) i (c.again y m g));
        to_come = [];
        value = f (x.0 ∷ []);
        could = λ m g. (x.0, x.1, m, [], first_grows _ _ _ (a.spelled m (inr (first_clear m g))), (refl, lead_clear x.1 m g), refl);
      }
        where
          whole : mid ≡ e.1
          whole = c.was ∙ ap (λ u. u ++ e.1) i
      led_stuck ts mid x a e c (t ∷ v) i = record {
        took = a.took ++ c.took;
        was = led_took ts mid e.1 x c.took a c.was;
        again = λ y m g. ap led (append_assoc a.took c.took m) ∙ led_second f (read_stages k p) (q (a.took ++ (c.took ++ m))) (c.took ++ m) x (e.0, m) (a.again (c.took ++ m) (alike_from mid c.took e.1 m c.was g)) (c.again y m g);
        to_come = c.to_come;
        value = f (x.0 ∷ c.value);
        could = λ m g. (x.0, x.1, c.took ++ (c.to_come ++ m), c.value, subst (λ l. M l (c.took ++ (c.to_come ++ m)) x) (sym (append_assoc a.took c.took (c.to_come ++ m))) (first_grows _ _ _ (a.spelled (c.took ++ (c.to_come ++ m)) (fit_some kq mid c.took e.1 (c.to_come ++ m) t v c.was i))), c.could m g, refl);
      }

      led_last : (ts mid : List Token) (x : A × Stage) → Got q T kq ts x mid → (o : Outcome (List A)) → Acts (read_stages k p x.1) (Chain k S x.1) (Chain k L x.1) bar mid o
          → Acts led (chain_way f T k S) (chain_way f M k L) bar ts (then_read o (pure (λ xs. f (x.0 ∷ xs))))
      led_last ts mid x a (Ok r) c = led_got ts mid x a r c
      led_last ts mid x a (Err e) c = led_stuck ts mid x a e c c.took refl

      led_from : ((s : Stage) → Acting (read_stages k p s) (Chain k S s) (Chain k L s) bar) → (ts : List Token) (o : Outcome (A × Stage)) → Acts q T M kq ts o → Acts led (chain_way f T k S) (chain_way f M k L) bar ts (lead_stages f (read_stages k p) o)
      led_from more ts (Ok r) a = led_last ts r.1 r.0 a (read_stages k p r.0.1 r.1) (more r.0.1 r.1)
      led_from more ts (Err e) a = record {
        took = a.took;
        was = a.was;
        again = λ y m g. led_first f (read_stages k p) (q (a.took ++ m)) (e.0, m) (a.again y m g);
        to_come = a.to_come;
        value = f (a.value.0 ∷ []);
        could = λ m g. (a.value.0, a.value.1, m, [], a.could m (first_clear m g), (refl, lead_clear a.value.1 m g), refl);
      }

      pub led_acts : Acting q T M kq → ((s : Stage) → Acting (p s) (S s) (L s) (b s)) → Acting led (chain_way f T k S) (chain_way f M k L) bar
      led_acts a h ts = led_from (chain_acts h) ts (q ts) (a ts)
