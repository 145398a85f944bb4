-- What a reader takes, what it would do before other tokens, and what could come where it is stuck.
use Rattle.std.proofs.Common.{◌≡◌, ◌⊎◌, inl, inr, ◌<◌, Bool, true, false, ◌||◌, ◌&&◌, if◌then◌else◌, List, [], ◌∷◌, ◌++◌, length, Ok, Err, refl, sym, ◌∙◌, ap, subst, append_assoc, arith}
use Rattle.rbs_lexer.specs.Tokens.{Token}
use Rattle.rbs_lexer.specs.declared.kind.Kind.{Kind}
use Rattle.rbs_grammar.specs.Rules.{Kinds}
use Rattle.rbs_grammar.specs.Grammar.{Way, tok_way, seq_way, map_way, prefer_way, ahead_way, begins, begins_two, read_behind_two, apart, Fault, syntax, Outcome, Reader, then_read, pure, read_token, read_both}
use Rattle.rbs_grammar.proofs.Heads.{apart_begins, clear_left, clear_right, clear_if, true≢false, and_left, and_right, and_both, two_clear}

-- ---- lists that begin alike

abbrev pub Alike : List Token → List Token → Type 0
Alike [] [] = Unit {0}
Alike [] (s ∷ m) = ⊥
Alike (t ∷ r) [] = ⊥
Alike (t ∷ r) (s ∷ m) = t ≡ s

pub alike_begins : (k : Kinds) (r m : List Token) → Alike r m → begins k m ≡ begins k r
alike_begins k [] [] h = refl
alike_begins k [] (s ∷ m) h = absurd h
alike_begins k (t ∷ r) [] h = absurd h
alike_begins k (t ∷ r) (s ∷ m) h = ap (λ x. k x.kind x.begins_line) (sym h)

alike_after : (u r m : List Token) → Alike r m → Alike (u ++ r) (u ++ m)
alike_after [] r m h = h
alike_after (t ∷ u) r m h = refl

pub alike_from : (ts u r m : List Token) → ts ≡ u ++ r → Alike r m → Alike ts (u ++ m)
alike_from ts u r m e h = subst (λ l. Alike l (u ++ m)) (sym e) (alike_after u r m h)

-- ---- steps of readers

pub both_ok : {A B C : Type 0} (f : A → B → C) (p : Reader A) (q : Reader B) (ts mid rest : List Token) (x : A) (y : B) → p ts ≡ Ok (x, mid) → q mid ≡ Ok (y, rest) → read_both f p q ts ≡ Ok (f x y, rest)
both_ok f p q ts mid rest x y a b = ap (λ o. then_read o (λ x mid. then_read (q mid) (pure (f x)))) a ∙ ap (λ o. then_read o (pure (f x))) b

pub both_first : {A B C : Type 0} (f : A → B → C) (p : Reader A) (q : Reader B) (ts : List Token) (e : Fault × List Token) → p ts ≡ Err e → read_both f p q ts ≡ Err e
both_first f p q ts e a = ap (λ o. then_read o (λ x mid. then_read (q mid) (pure (f x)))) a

pub both_second : {A B C : Type 0} (f : A → B → C) (p : Reader A) (q : Reader B) (ts mid : List Token) (x : A) (e : Fault × List Token) → p ts ≡ Ok (x, mid) → q mid ≡ Err e → read_both f p q ts ≡ Err e
both_second f p q ts mid x e a b = ap (λ o. then_read o (λ x mid. then_read (q mid) (pure (f x)))) a ∙ ap (λ o. then_read o (pure (f x))) b

pub if_true : {X : Type 0} (b : Bool) (x y : X) → b ≡ true → (if b then x else y) ≡ x
if_true true x y h = refl
if_true false x y h = cc

pub if_false : {X : Type 0} (b : Bool) (x y : X) → b ≡ false → (if b then x else y) ≡ y
if_false false x y h = refl
if_false true x y h = cc

-- ---- what may follow

-- The same token follows, or one that isn't barred.
abbrev pub Fit : Kinds → List Token → List Token → Type 0
Fit k rest m = Alike rest m ⊎ (begins k m ≡ false)

pub fit_step : (k : Kinds) (mid u rest m : List Token) → mid ≡ u ++ rest → Fit k rest m → Fit k mid (u ++ m)
fit_step k mid [] rest m e (inl h) = inl (alike_from mid [] rest m e h)
fit_step k mid [] rest m e (inr c) = inr c
fit_step k mid (t ∷ u) rest m e h = inl (subst (λ l. Alike l (t ∷ u ++ m)) (sym e) refl)

pub fit_some : (k : Kinds) (mid u rest m : List Token) (t : Token) (v : List Token) → mid ≡ u ++ rest → u ≡ t ∷ v → Fit k mid (u ++ m)
fit_some k mid u rest m t v e i = inl (subst (λ w. Alike mid (w ++ m)) (sym i) (subst (λ l. Alike l (t ∷ v ++ m)) (sym (e ∙ ap (λ w. w ++ rest) i)) refl))

fit_left : (p q : Kinds) (rest m : List Token) → Fit (λ c l. p c l || q c l) rest m → Fit p rest m
fit_left p q rest m (inl h) = inl h
fit_left p q rest m (inr c) = inr (clear_left p q m c)

fit_right : (p q : Kinds) (rest m : List Token) → Fit (λ c l. p c l || q c l) rest m → Fit q rest m
fit_right p q rest m (inl h) = inl h
fit_right p q rest m (inr c) = inr (clear_right p q m c)

-- ---- what a reader did

-- It took some tokens. Before any list that begins as the rest does, it takes them again, and they spell the value.
pub record Got {A : Type 0} (p : Reader A) (S : Way A) (k : Kinds) (ts : List Token) (x : A) (rest : List Token) : Type 0 where
  pub took : List Token
  pub was : ts ≡ took ++ rest
  pub again : (m : List Token) → Alike rest m → p (took ++ m) ≡ Ok (x, m)
  pub spelled : (m : List Token) → Fit k rest m → S (took ++ m) m x

-- It took some tokens, which some others could follow. A syntax fault stands there again before any list that begins as the rest does.
pub record Stuck {A : Type 0} (p : Reader A) (L : Way A) (k : Kinds) (ts : List Token) (e : Fault) (rest : List Token) : Type 0 where
  pub took : List Token
  pub was : ts ≡ took ++ rest
  pub again : e ≡ syntax → (m : List Token) → Alike rest m → p (took ++ m) ≡ Err (e, m)
  pub to_come : List Token
  pub value : A
  pub could : (m : List Token) → begins k m ≡ false → L (took ++ (to_come ++ m)) m value

abbrev pub Acts : {A : Type 0} → Reader A → Way A → Way A → Kinds → List Token → Outcome A → Type 0
Acts p S L k ts (Ok q) = Got p S k ts q.0 q.1
Acts p S L k ts (Err e) = Stuck p L k ts e.0 e.1

abbrev pub Acting : {A : Type 0} → Reader A → Way A → Way A → Kinds → Type 0
Acting p S L k = (ts : List Token) → Acts p S L k ts (p ts)

-- Some tokens spell a value, whatever follows.
abbrev pub Led : Kinds → List Token → Type 0
Led l [] = Unit {0}
Led l (t ∷ w) = l t.kind t.begins_line ≡ true

pub record Made {A : Type 0} (L : Way A) (k l : Kinds) (e : Bool) : Type 0 where
  pub word : List Token
  pub value : A
  pub spelled : (m : List Token) → begins k m ≡ false → L (word ++ m) m value
  pub led : Led l word
  pub blank : word ≡ [] → e ≡ true

abbrev pub Within : {A : Type 0} → Way A → Way A → Type 0
Within {A = A} S L = (ts rest : List Token) (x : A) → S ts rest x → L ts rest x

-- An example of a second part, and what follows it, may follow the first.
clear_example : (k j l : Kinds) (e : Bool) (w m : List Token) → apart k l ≡ true → Led l w → (w ≡ [] → e ≡ true) → begins (λ c y. j c y || (e && k c y)) m ≡ false → begins k (w ++ m) ≡ false
clear_example k j l e [] m a h b c = clear_if e k m (b refl) (clear_right j (λ c y. e && k c y) m c)
clear_example k j l e (t ∷ w) m a h b c = apart_begins k l a (t ∷ w) h

pub made_clear : {A : Type 0} (M : Way A) (k j l : Kinds) (e : Bool) → apart k l ≡ true → (y : Made M j l e) (m : List Token) → begins (λ c y. j c y || (e && k c y)) m ≡ false → begins k (y.word ++ m) ≡ false
made_clear M k j l e a y m c = clear_example k j l e y.word m a y.led y.blank c

-- ---- no token

pub eps_acts : {A : Type 0} (a : A) (k : Kinds) → Acting (λ ts. Ok (a, ts)) (λ ts rest x. (ts ≡ rest) × (a ≡ x)) (λ ts rest x. (ts ≡ rest) × (a ≡ x)) k
eps_acts a k ts = record { took = []; was = refl; again = λ m h. refl; spelled = λ m f. (refl, refl) }

-- ---- one token

unfoldable pub sample : Kind → Token
sample k = record { kind = k; text = []; at = record { start = 0; end = 0 }; begins_line = false }

pub token_ok : {A : Type 0} (p : Kinds) (f : Token → A) (t : Token) (m : List Token) → p t.kind t.begins_line ≡ true → read_token p f (t ∷ m) ≡ Ok (f t, m)
token_ok p f t m h = if_true (p t.kind t.begins_line) (Ok (f t, m)) (Err (syntax, t ∷ m)) h

pub token_err : {A : Type 0} (p : Kinds) (f : Token → A) (t : Token) (m : List Token) → p t.kind t.begins_line ≡ false → read_token p f (t ∷ m) ≡ Err (syntax, t ∷ m)
token_err p f t m h = if_false (p t.kind t.begins_line) (Ok (f t, m)) (Err (syntax, t ∷ m)) h

token_again : {A : Type 0} (p : Kinds) (f : Token → A) (t : Token) (r m : List Token) → p t.kind t.begins_line ≡ false → Alike (t ∷ r) m → read_token p f m ≡ Err (syntax, m)
token_again p f t r [] h a = absurd a
token_again p f t r (s ∷ m) h a = token_err p f s m (ap (λ x. p x.kind x.begins_line) (sym a) ∙ h)

none_again : {A : Type 0} (p : Kinds) (f : Token → A) (m : List Token) → Alike [] m → read_token p f m ≡ Err (syntax, m)
none_again p f [] a = refl
none_again p f (s ∷ m) a = absurd a

pub sample_spells : {A : Type 0} (p : Kinds) (k : Kind) (f : Token → A) → p k false ≡ true → (m : List Token) → tok_way p f (sample k ∷ m) m (f (sample k))
unfolding sample
sample_spells p k f h m = (sample k, refl, h, refl)

pub token_acts : {A : Type 0} (p : Kinds) (k : Kind) (f : Token → A) (b : Kinds) → p k false ≡ true → Acting (read_token p f) (tok_way p f) (tok_way p f) b
token_acts p k f b h [] = record { took = []; was = refl; again = λ y m a. none_again p f m a; to_come = sample k ∷ []; value = f (sample k); could = λ m c. sample_spells p k f h m }
token_acts p k f b h (t ∷ ts) = by_test (p t.kind t.begins_line) refl
  where
    by_test : (z : Bool) → p t.kind t.begins_line ≡ z → Acts (read_token p f) (tok_way p f) (tok_way p f) b (t ∷ ts) (if z then Ok (f t, ts) else Err (syntax, t ∷ ts))
    by_test true e = record { took = t ∷ []; was = refl; again = λ m a. token_ok p f t m e; spelled = λ m a. (t, refl, e, refl) }
    by_test false e = record { took = []; was = refl; again = λ y m a. token_again p f t ts m e a; to_come = sample k ∷ []; value = f (sample k); could = λ m c. sample_spells p k f h m }

-- ---- one after the other

abbrev pub both_bars : Kinds → Kinds → Kinds
both_bars j k = λ c l. j c l || k c l

module _ {A B C : Type 0} (f : A → B → C) (p : Reader A) (q : Reader B) (S L : Way A) (T M : Way B) (k j bar l : Kinds) (d : Bool) (grows : Within S L) (made : Made M j l d)
    (second_clear : (m : List Token) → begins bar m ≡ false → begins j m ≡ false)
    (before_made : (m : List Token) → begins bar m ≡ false → begins k (made.word ++ m) ≡ false)
    (nothing_clear : (mid : List Token) (y : B) → q mid ≡ Ok (y, mid) → (m : List Token) → begins bar m ≡ false → begins k m ≡ false) where
  took_both : (ts mid rest : List Token) (x : A) (u : List Token) → (a : Got p S k ts x mid) → mid ≡ u ++ rest → ts ≡ (a.took ++ u) ++ rest
  took_both ts mid rest x u a e = a.was ∙ ap (λ l. a.took ++ l) e ∙ sym (append_assoc a.took u rest)

  fit_last : (rest m : List Token) → Fit bar rest m → Fit j rest m
  fit_last rest m (inl h) = inl h
  fit_last rest m (inr c) = inr (second_clear m c)

  -- Where the second took nothing, what may not follow the first may not follow both.
  fit_nothing : (mid rest : List Token) (y : B) → q mid ≡ Ok (y, rest) → mid ≡ rest → (m : List Token) → Fit bar rest m → Fit k mid m
  fit_nothing mid rest y z e m (inl h) = inl (alike_from mid [] rest m e h)
  fit_nothing mid rest y z e m (inr c) = inr (nothing_clear mid y (z ∙ ap (λ l. Ok (y, l)) (sym e)) m c)

  last_got : (ts mid : List Token) (x : A) (r : B × List Token) → q mid ≡ Ok r → (a : Got p S k ts x mid) (b : Got q T j mid r.0 r.1) (u : List Token) → b.took ≡ u → Got (read_both f p q) (seq_way f S T) bar ts (f x r.0) r.1
  last_got ts mid x r z a b [] i = record {
    took = a.took;
    was = a.was ∙ ap (λ l. a.took ++ l) whole;
    again = λ m h. both_ok f p q (a.took ++ m) m m x r.0 (a.again m (alike_from mid [] r.1 m whole h)) (subst (λ u. q (u ++ m) ≡ Ok (r.0, m)) i (b.again m h));
    spelled = λ m h. (x, r.0, m, a.spelled m (fit_nothing mid r.1 r.0 z whole m h), subst (λ u. T (u ++ m) m r.0) i (b.spelled m (fit_last r.1 m h)), refl);
  }
    where
      whole : mid ≡ r.1
      whole = b.was ∙ ap (λ u. u ++ r.1) i
  last_got ts mid x r z a b (t ∷ v) i = record {
    took = a.took ++ b.took;
    was = took_both ts mid r.1 x b.took a b.was;
    again = λ m h. ap (read_both f p q) (append_assoc a.took b.took m) ∙ both_ok f p q (a.took ++ (b.took ++ m)) (b.took ++ m) m x r.0 (a.again (b.took ++ m) (alike_from mid b.took r.1 m b.was h)) (b.again m h);
    spelled = λ m h. (x, r.0, b.took ++ m, subst (λ l. S l (b.took ++ m) x) (sym (append_assoc a.took b.took m)) (a.spelled (b.took ++ m) (fit_some k mid b.took r.1 m t v b.was i)), b.spelled m (fit_last r.1 m h), refl);
  }

  last_fault : (ts mid : List Token) (x : A) (e : Fault × List Token) → (a : Got p S k ts x mid) (b : Stuck q M j mid e.0 e.1) (u : List Token) → b.took ≡ u → Stuck (read_both f p q) (seq_way f L M) bar ts e.0 e.1
  last_fault ts mid x e a b [] z = record {
    took = a.took;
    was = a.was ∙ ap (λ l. a.took ++ l) (b.was ∙ ap (λ u. u ++ e.1) z);
    again = λ y m h. both_second f p q (a.took ++ m) m x (e.0, m) (a.again m (alike_from mid [] e.1 m (b.was ∙ ap (λ u. u ++ e.1) z) h)) (subst (λ u. q (u ++ m) ≡ Err (e.0, m)) z (b.again y m h));
    to_come = made.word;
    value = f x made.value;
    could = λ m c. (x, made.value, made.word ++ m, grows _ _ _ (a.spelled (made.word ++ m) (inr (before_made m c))), made.spelled m (second_clear m c), refl);
  }
  last_fault ts mid x e a b (t ∷ v) z = record {
    took = a.took ++ b.took;
    was = took_both ts mid e.1 x b.took a b.was;
    again = λ y m h. ap (read_both f p q) (append_assoc a.took b.took m) ∙ both_second f p q (a.took ++ (b.took ++ m)) (b.took ++ m) x (e.0, m) (a.again (b.took ++ m) (alike_from mid b.took e.1 m b.was h)) (b.again y m h);
    to_come = b.to_come;
    value = f x b.value;
    could = λ m c. (x, b.value, b.took ++ (b.to_come ++ m), grows _ _ _ (subst (λ l. S l (b.took ++ (b.to_come ++ m)) x) (sym (append_assoc a.took b.took (b.to_come ++ m))) (a.spelled (b.took ++ (b.to_come ++ m)) (fit_some k mid b.took e.1 (b.to_come ++ m) t v b.was z))), b.could m (second_clear m c), refl);
  }

  pub both_last : (ts mid : List Token) (x : A) (o : Outcome B) → q mid ≡ o → Got p S k ts x mid → Acts q T M j mid o → Acts (read_both f p q) (seq_way f S T) (seq_way f L M) bar ts (then_read o (pure (f x)))
  both_last ts mid x (Ok r) z a b = last_got ts mid x r z a b b.took refl
  both_last ts mid x (Err e) z a b = last_fault ts mid x e a b b.took refl

  pub both_stuck : (ts : List Token) (e : Fault × List Token) → Stuck p L k ts e.0 e.1 → Stuck (read_both f p q) (seq_way f L M) bar ts e.0 e.1
  both_stuck ts e a = record {
    took = a.took;
    was = a.was;
    again = λ y m h. both_first f p q (a.took ++ m) (e.0, m) (a.again y m h);
    to_come = a.to_come ++ made.word;
    value = f a.value made.value;
    could = λ m c. (a.value, made.value, made.word ++ m, subst (λ l. L (a.took ++ l) (made.word ++ m) a.value) (sym (append_assoc a.to_come made.word m)) (a.could (made.word ++ m) (before_made m c)), made.spelled m (second_clear m c), refl);
  }

  both_from : Acting q T M j → (ts : List Token) (o : Outcome A) → Acts p S L k ts o → Acts (read_both f p q) (seq_way f S T) (seq_way f L M) bar ts (then_read o (λ x mid. then_read (q mid) (pure (f x))))
  both_from b ts (Ok r) a = both_last ts r.1 r.0 (q r.1) refl a (b r.1)
  both_from b ts (Err e) a = both_stuck ts e a

  pub both_acts : Acting p S L k → Acting q T M j → Acting (read_both f p q) (seq_way f S T) (seq_way f L M) bar
  both_acts a b ts = both_from b ts (p ts) (a ts)

-- ---- a function of the value

module _ {A B : Type 0} (f : A → B) (p : Reader A) (S L : Way A) (k : Kinds) where
  map_from : (ts : List Token) (o : Outcome A) → Acts p S L k ts o → Acts (λ l. then_read (p l) (pure f)) (map_way f S) (map_way f L) k ts (then_read o (pure f))
  map_from ts (Ok r) a = record {
    took = a.took;
    was = a.was;
    again = λ m h. ap (λ o. then_read o (pure f)) (a.again m h);
    spelled = λ m h. (r.0, a.spelled m h, refl);
  }
  map_from ts (Err e) a = record {
    took = a.took;
    was = a.was;
    again = λ y m h. ap (λ o. then_read o (pure f)) (a.again y m h);
    to_come = a.to_come;
    value = f a.value;
    could = λ m c. (a.value, a.could m c, refl);
  }

  pub map_acts : Acting p S L k → Acting (λ l. then_read (p l) (pure f)) (map_way f S) (map_way f L) k
  map_acts a ts = map_from ts (p ts) (a ts)

-- ---- either

module _ {A : Type 0} (c : Kinds) (p q : Reader A) (S L T M : Way A) (k j : Kinds) where
  abbrev pub either_way : Way A → Way A → Way A
  either_way X Y ts rest x = X ts rest x ⊎ Y ts rest x

  abbrev pub choose : Reader A
  choose ts = if begins c ts then p ts else q ts

  first_from : (ts : List Token) → begins c ts ≡ true → (o : Outcome A) → Acts p S L k ts o → Acts choose (either_way S T) (either_way L M) (both_bars k j) ts o
  first_from ts e (Ok r) a = record {
    took = a.took;
    was = a.was;
    again = λ m h. if_true _ _ _ (alike_begins c ts (a.took ++ m) (alike_from ts a.took r.1 m a.was h) ∙ e) ∙ a.again m h;
    spelled = λ m h. inl (a.spelled m (fit_left k j r.1 m h));
  }
  first_from ts e (Err r) a = record {
    took = a.took;
    was = a.was;
    again = λ y m h. if_true _ _ _ (alike_begins c ts (a.took ++ m) (alike_from ts a.took r.1 m a.was h) ∙ e) ∙ a.again y m h;
    to_come = a.to_come;
    value = a.value;
    could = λ m h. inl (a.could m (clear_left k j m h));
  }

  second_from : (ts : List Token) → begins c ts ≡ false → (o : Outcome A) → Acts q T M j ts o → Acts choose (either_way S T) (either_way L M) (both_bars k j) ts o
  second_from ts e (Ok r) a = record {
    took = a.took;
    was = a.was;
    again = λ m h. if_false _ _ _ (alike_begins c ts (a.took ++ m) (alike_from ts a.took r.1 m a.was h) ∙ e) ∙ a.again m h;
    spelled = λ m h. inr (a.spelled m (fit_right k j r.1 m h));
  }
  second_from ts e (Err r) a = record {
    took = a.took;
    was = a.was;
    again = λ y m h. if_false _ _ _ (alike_begins c ts (a.took ++ m) (alike_from ts a.took r.1 m a.was h) ∙ e) ∙ a.again y m h;
    to_come = a.to_come;
    value = a.value;
    could = λ m h. inr (a.could m (clear_right k j m h));
  }

  by_choice : Acting p S L k → Acting q T M j → (ts : List Token) (b : Bool) → begins c ts ≡ b → Acts choose (either_way S T) (either_way L M) (both_bars k j) ts (if b then p ts else q ts)
  by_choice a d ts true e = first_from ts e (p ts) (a ts)
  by_choice a d ts false e = second_from ts e (q ts) (d ts)

  pub choose_acts : Acting p S L k → Acting q T M j → Acting choose (either_way S T) (either_way L M) (both_bars k j)
  choose_acts a d ts = by_choice a d ts (begins c ts) refl

-- ---- the first where it comes, else the second

module _ {A : Type 0} (c : Kinds) (p q : Reader A) (S L T M : Way A) (k j l : Kinds) (d : Bool) (made : Made L k l d) where
  abbrev pub prefer_bars : Kinds
  prefer_bars z y = c z y || (k z y || j z y)

  clear_took : (ts u rest m : List Token) → ts ≡ u ++ rest → begins c ts ≡ false → Fit c rest m → begins c (u ++ m) ≡ false
  clear_took ts u rest m e h f = go (fit_step c ts u rest m e f)
    where
      go : Fit c ts (u ++ m) → begins c (u ++ m) ≡ false
      go (inl a) = alike_begins c ts (u ++ m) a ∙ h
      go (inr a) = a

  prefer_first : (ts : List Token) → begins c ts ≡ true → (o : Outcome A) → Acts p S L k ts o → Acts (choose c p q S L T M k j) (prefer_way c S T) (prefer_way c L M) prefer_bars ts o
  prefer_first ts e (Ok r) a = record {
    took = a.took;
    was = a.was;
    again = λ m h. if_true _ _ _ (alike_begins c ts (a.took ++ m) (alike_from ts a.took r.1 m a.was h) ∙ e) ∙ a.again m h;
    spelled = λ m h. inl (a.spelled m (fit_left k j r.1 m (fit_right c (both_bars k j) r.1 m h)));
  }
  prefer_first ts e (Err r) a = record {
    took = a.took;
    was = a.was;
    again = λ y m h. if_true _ _ _ (alike_begins c ts (a.took ++ m) (alike_from ts a.took r.1 m a.was h) ∙ e) ∙ a.again y m h;
    to_come = a.to_come;
    value = a.value;
    could = λ m h. inl (a.could m (clear_left k j m (clear_right c (both_bars k j) m h)));
  }

  second_fault : (ts : List Token) → begins c ts ≡ false → (r : Fault × List Token) → (a : Stuck q M j ts r.0 r.1) (u : List Token) → a.took ≡ u → Stuck (choose c p q S L T M k j) (prefer_way c L M) prefer_bars ts r.0 r.1
  second_fault ts e r a [] z = record {
    took = [];
    was = a.was ∙ ap (λ u. u ++ r.1) z;
    again = λ y m h. if_false _ _ _ (alike_begins c ts m (alike_from ts [] r.1 m (a.was ∙ ap (λ u. u ++ r.1) z) h) ∙ e) ∙ subst (λ u. q (u ++ m) ≡ Err (r.0, m)) z (a.again y m h);
    to_come = made.word;
    value = made.value;
    could = λ m h. inl (made.spelled m (clear_left k j m (clear_right c (both_bars k j) m h)));
  }
  second_fault ts e r a (t ∷ v) z = record {
    took = a.took;
    was = a.was;
    again = λ y m h. if_false _ _ _ (alike_begins c ts (a.took ++ m) (alike_from ts a.took r.1 m a.was h) ∙ e) ∙ a.again y m h;
    to_come = a.to_come;
    value = a.value;
    could = λ m h. inr (a.could m (clear_right k j m (clear_right c (both_bars k j) m h)), still (a.to_come ++ m) (fit_some c ts a.took r.1 (a.to_come ++ m) t v a.was z));
  }
    where
      still : (m : List Token) → Fit c ts (a.took ++ m) → begins c (a.took ++ m) ≡ false
      still m (inl f) = alike_begins c ts (a.took ++ m) f ∙ e
      still m (inr f) = f

  prefer_second : (ts : List Token) → begins c ts ≡ false → (o : Outcome A) → Acts q T M j ts o → Acts (choose c p q S L T M k j) (prefer_way c S T) (prefer_way c L M) prefer_bars ts o
  prefer_second ts e (Ok r) a = record {
    took = a.took;
    was = a.was;
    again = λ m h. if_false _ _ _ (alike_begins c ts (a.took ++ m) (alike_from ts a.took r.1 m a.was h) ∙ e) ∙ a.again m h;
    spelled = λ m h. inr (a.spelled m (fit_right k j r.1 m (fit_right c (both_bars k j) r.1 m h)), clear_took ts a.took r.1 m a.was e (fit_left c (both_bars k j) r.1 m h));
  }
  prefer_second ts e (Err r) a = second_fault ts e r a a.took refl

  prefer_choice : Acting p S L k → Acting q T M j → (ts : List Token) (b : Bool) → begins c ts ≡ b → Acts (choose c p q S L T M k j) (prefer_way c S T) (prefer_way c L M) prefer_bars ts (if b then p ts else q ts)
  prefer_choice a z ts true e = prefer_first ts e (p ts) (a ts)
  prefer_choice a z ts false e = prefer_second ts e (q ts) (z ts)

  pub prefer_acts : Acting p S L k → Acting q T M j → Acting (choose c p q S L T M k j) (prefer_way c S T) (prefer_way c L M) prefer_bars
  prefer_acts a z ts = prefer_choice a z ts (begins c ts) refl

-- ---- two tokens and the first, else the second

pub still_clear : (k : Kinds) (rest m : List Token) → Fit k rest m → begins k rest ≡ false → begins k m ≡ false
still_clear k rest m (inl h) c = alike_begins k rest m h ∙ c
still_clear k rest m (inr h) c = h

and_second : (a b c : Bool) → (a && b) ≡ false → (b ≡ false → c ≡ false) → (a && c) ≡ false
and_second true b c h i = i h
and_second false b c h i = refl

-- Behind a token, the same token or one that isn't barred doesn't make it begin so.
two_fit : (p q : Kinds) (t : Token) (v rest m : List Token) → begins_two p q (t ∷ (v ++ rest)) ≡ false → Fit q rest m → begins_two p q (t ∷ (v ++ m)) ≡ false
two_fit p q t v rest m e h = and_second (p t.kind t.begins_line) (begins q (v ++ rest)) (begins q (v ++ m)) e (still_clear q (v ++ rest) (v ++ m) (fit_step q (v ++ rest) v rest m refl h))

pub not_shorter : (ts at : List Token) → ts ≡ at → length at < length ts → ⊥
not_shorter ts at e h = let i = ap length e in omega arith

module _ {A B : Type 0} (f : Token → A → B) (c : Kinds) (j : Kind) (n : Kinds) (k : Kind) (p : Reader A) (q : Reader B) (S L : Way A) (T M : Way B) (ka kb l : Kinds) (d : Bool)
    (one_named : c j false ≡ true) (two_named : n k false ≡ true) (made : Made L ka l d)
    (shorter : (ts rest : List Token) (x : B) → q ts ≡ Ok (x, rest) → length rest < length ts)
    (begun : (ts at : List Token) → begins c ts ≡ true → q ts ≡ Err (syntax, at) → length at < length ts) where
  abbrev pub ahead_bars : Kinds
  ahead_bars z y = n z y || (ka z y || kb z y)

  abbrev pub look : Reader B
  look ts = if begins_two c n ts then read_behind_two f p ts else q ts

  fit_first : (rest m : List Token) → Fit ahead_bars rest m → Fit ka rest m
  fit_first rest m h = fit_left ka kb rest m (fit_right n (both_bars ka kb) rest m h)

  fit_second : (rest m : List Token) → Fit ahead_bars rest m → Fit kb rest m
  fit_second rest m h = fit_right ka kb rest m (fit_right n (both_bars ka kb) rest m h)

  clear_first : (m : List Token) → begins ahead_bars m ≡ false → begins ka m ≡ false
  clear_first m h = clear_left ka kb m (clear_right n (both_bars ka kb) m h)

  clear_second : (m : List Token) → begins ahead_bars m ≡ false → begins kb m ≡ false
  clear_second m h = clear_right ka kb m (clear_right n (both_bars ka kb) m h)

  behind_from : (t u : Token) (mid : List Token) → c t.kind t.begins_line ≡ true → n u.kind u.begins_line ≡ true → (o : Outcome A) → Acts p S L ka mid o
      → Acts look (ahead_way f c n S T) (ahead_way f c n L M) ahead_bars (t ∷ u ∷ mid) (then_read o (pure (f t)))
  behind_from t u mid h i (Ok r) a = record {
    took = t ∷ u ∷ a.took;
    was = ap (λ w. t ∷ u ∷ w) a.was;
    again = λ m g. if_true _ _ _ (and_both _ _ h i) ∙ ap (λ o. then_read o (pure (f t))) (a.again m g);
    spelled = λ m g. inl (t, u, a.took ++ m, r.0, refl, h, i, a.spelled m (fit_first r.1 m g), refl);
  }
  behind_from t u mid h i (Err r) a = record {
    took = t ∷ u ∷ a.took;
    was = ap (λ w. t ∷ u ∷ w) a.was;
    again = λ y m g. if_true _ _ _ (and_both _ _ h i) ∙ ap (λ o. then_read o (pure (f t))) (a.again y m g);
    to_come = a.to_come;
    value = f t a.value;
    could = λ m g. inl (t, u, a.took ++ (a.to_come ++ m), a.value, refl, h, i, a.could m (clear_first m g), refl);
  }

  ahead_first : Acting p S L ka → (ts : List Token) → begins_two c n ts ≡ true → Acts look (ahead_way f c n S T) (ahead_way f c n L M) ahead_bars ts (read_behind_two f p ts)
  ahead_first a [] e = absurd (true≢false false e refl)
  ahead_first a (t ∷ []) e = absurd (true≢false false (and_right (c t.kind t.begins_line) false e) refl)
  ahead_first a (t ∷ u ∷ mid) e = behind_from t u mid (and_left _ _ e) (and_right _ _ e) (p mid) (a mid)

  second_got : (ts : List Token) → begins_two c n ts ≡ false → (r : B × List Token) → q ts ≡ Ok r → (a : Got q T kb ts r.0 r.1) (w : List Token) → a.took ≡ w → Got look (ahead_way f c n S T) ahead_bars ts r.0 r.1
  second_got ts e r z a [] i = absurd (not_shorter ts r.1 (a.was ∙ ap (λ w. w ++ r.1) i) (shorter ts r.1 r.0 z))
  second_got ts e r z a (t ∷ v) i = record {
    took = t ∷ v;
    was = whole;
    again = λ m g. if_false _ _ _ (two_fit c n t v r.1 m apart_there (inl g)) ∙ subst (λ w. q (w ++ m) ≡ Ok (r.0, m)) i (a.again m g);
    spelled = λ m g. inr (subst (λ w. T (w ++ m) m r.0) i (a.spelled m (fit_second r.1 m g)), two_fit c n t v r.1 m apart_there (fit_left n (both_bars ka kb) r.1 m g));
  }
    where
      whole : ts ≡ t ∷ v ++ r.1
      whole = a.was ∙ ap (λ w. w ++ r.1) i

      apart_there : begins_two c n (t ∷ (v ++ r.1)) ≡ false
      apart_there = subst (λ w. begins_two c n w ≡ false) whole e

  -- A syntax fault with no token taken stands before no token of the first kinds.
  not_begun : (ts at : List Token) (s : Fault) → q ts ≡ Err (s, at) → ts ≡ at → s ≡ syntax → (b : Bool) → begins c ts ≡ b → b ≡ false
  not_begun ts at s z w y true h = absurd (not_shorter ts at w (begun ts at h (subst (λ o. q ts ≡ Err (o, at)) y z)))
  not_begun ts at s z w y false h = refl

  before_any : (ts : List Token) → begins_two c n ts ≡ false → (r : Fault × List Token) → q ts ≡ Err r → (a : Stuck q M kb ts r.0 r.1) → a.took ≡ [] → Stuck look (ahead_way f c n L M) ahead_bars ts r.0 r.1
  unfolding sample
  before_any ts e r z a i = record {
    took = [];
    was = whole;
    again = λ y m g. if_false _ _ _ (two_clear c n m (alike_begins c ts m (alike_from ts [] r.1 m whole g) ∙ not_begun ts r.1 r.0 z whole y (begins c ts) refl)) ∙ subst (λ w. q (w ++ m) ≡ Err (r.0, m)) i (a.again y m g);
    to_come = sample j ∷ sample k ∷ made.word;
    value = f (sample j) made.value;
    could = λ m g. inl (sample j, sample k, made.word ++ m, made.value, refl, one_named, two_named, made.spelled m (clear_first m g), refl);
  }
    where
      whole : ts ≡ r.1
      whole = a.was ∙ ap (λ w. w ++ r.1) i

  behind_one : (t : Token) (ts : List Token) → begins_two c n ts ≡ false → (r : Fault × List Token) → (a : Stuck q M kb ts r.0 r.1) → a.took ≡ t ∷ [] → (b : Bool) → c t.kind t.begins_line ≡ b → Stuck look (ahead_way f c n L M) ahead_bars ts r.0 r.1
  unfolding sample
  behind_one t ts e r a i true h = record {
    took = t ∷ [];
    was = a.was ∙ ap (λ w. w ++ r.1) i;
    again = λ y m g. if_false _ _ _ (two_fit c n t [] r.1 m (subst (λ w. begins_two c n w ≡ false) (a.was ∙ ap (λ w. w ++ r.1) i) e) (inl g)) ∙ subst (λ w. q (w ++ m) ≡ Err (r.0, m)) i (a.again y m g);
    to_come = sample k ∷ made.word;
    value = f t made.value;
    could = λ m g. inl (t, sample k, made.word ++ m, made.value, refl, h, two_named, made.spelled m (clear_first m g), refl);
  }
  behind_one t ts e r a i false h = record {
    took = t ∷ [];
    was = a.was ∙ ap (λ w. w ++ r.1) i;
    again = λ y m g. if_false _ _ _ (two_clear c n (t ∷ m) h) ∙ subst (λ w. q (w ++ m) ≡ Err (r.0, m)) i (a.again y m g);
    to_come = a.to_come;
    value = a.value;
    could = λ m g. inr (subst (λ w. M (w ++ (a.to_come ++ m)) m a.value) i (a.could m (clear_second m g)), two_clear c n (t ∷ (a.to_come ++ m)) h);
  }

  behind_more : (t u : Token) (v ts : List Token) → begins_two c n ts ≡ false → (r : Fault × List Token) → (a : Stuck q M kb ts r.0 r.1) → a.took ≡ t ∷ u ∷ v → Stuck look (ahead_way f c n L M) ahead_bars ts r.0 r.1
  behind_more t u v ts e r a i = record {
    took = t ∷ u ∷ v;
    was = whole;
    again = λ y m g. if_false _ _ _ apart_there ∙ subst (λ w. q (w ++ m) ≡ Err (r.0, m)) i (a.again y m g);
    to_come = a.to_come;
    value = a.value;
    could = λ m g. inr (subst (λ w. M (w ++ (a.to_come ++ m)) m a.value) i (a.could m (clear_second m g)), apart_there);
  }
    where
      whole : ts ≡ t ∷ u ∷ v ++ r.1
      whole = a.was ∙ ap (λ w. w ++ r.1) i

      apart_there : (c t.kind t.begins_line && n u.kind u.begins_line) ≡ false
      apart_there = subst (λ w. begins_two c n w ≡ false) whole e

  second_stuck : (ts : List Token) → begins_two c n ts ≡ false → (r : Fault × List Token) → q ts ≡ Err r → (a : Stuck q M kb ts r.0 r.1) (w : List Token) → a.took ≡ w → Stuck look (ahead_way f c n L M) ahead_bars ts r.0 r.1
  second_stuck ts e r z a [] i = before_any ts e r z a i
  second_stuck ts e r z a (t ∷ []) i = behind_one t ts e r a i (c t.kind t.begins_line) refl
  second_stuck ts e r z a (t ∷ u ∷ v) i = behind_more t u v ts e r a i

  ahead_second : (ts : List Token) → begins_two c n ts ≡ false → (o : Outcome B) → q ts ≡ o → Acts q T M kb ts o → Acts look (ahead_way f c n S T) (ahead_way f c n L M) ahead_bars ts o
  ahead_second ts e (Ok r) z a = second_got ts e r z a a.took refl
  ahead_second ts e (Err r) z a = second_stuck ts e r z a a.took refl

  ahead_choice : Acting p S L ka → Acting q T M kb → (ts : List Token) (b : Bool) → begins_two c n ts ≡ b → Acts look (ahead_way f c n S T) (ahead_way f c n L M) ahead_bars ts (if b then read_behind_two f p ts else q ts)
  ahead_choice a z ts true e = ahead_first a ts e
  ahead_choice a z ts false e = ahead_second ts e (q ts) refl (z ts)

  pub ahead_acts : Acting p S L ka → Acting q T M kb → Acting look (ahead_way f c n S T) (ahead_way f c n L M) ahead_bars
  ahead_acts a z ts = ahead_choice a z ts (begins_two c n ts) refl
