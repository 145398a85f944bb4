-- The reader says that one rule too many opens exactly where it does.
use Rattle.std.proofs.Common.{◌≡◌, inl, inr, ℕ, zero, suc, ◌<◌, Bool, true, false, if◌then◌else◌, List, [], ◌∷◌, length, Result, Ok, Err, refl, sym, ◌∙◌, ap, subst, arith}
use Rattle.rbs_lexer.specs.Tokens.{Token}
use Rattle.rbs_grammar.specs.declared.stage.Stage.{Stage}
use Rattle.rbs_grammar.specs.Rules.{Rule, Value, Kinds, start, after}
use Rattle.rbs_grammar.specs.Grammar.{Grammar, eps, tok, seq, alt, star, prefer, ahead, chain, call, Way, Row, Reach, spells, Place, no_place, seq_place, either_place, place_clear, star_place, ahead_place, chain_place, opens, empty, joined, first, more, begins, begins_two, fine, apart, covers, Fault, syntax, deep, Outcome, Reader, then_read, pure, read_token, read_both, read_all, read_behind_two, read_stages, read}
use Rattle.rbs_grammar.proofs.Heads.{true≢false, and_both, covers_begins, stages_begin, and_left, and_right, not_true, apart_begins, begins_or_left, begins_or_right, joined_left, joined_right}
use Rattle.rbs_grammar.proofs.Front.{Fronts, Begun, front, row_front, leads, ahead_fine, chain_fine, stage_fine}
use Rattle.rbs_grammar.proofs.Acts.{if_true, if_false, both_first, both_second}
use Rattle.rbs_grammar.proofs.Rows.{Shrinks, unroll, one_more}
use Rattle.rbs_grammar.proofs.Chains.{then_stages, lead_stages, led_first, led_second, unroll_stages, stage_first, stage_second}
use Rattle.rbs_grammar.proofs.Exact.{full_front, Completes, complete, begins_some}

-- ---- it opens at a first token

abbrev pub OpensFirst : Place → Kinds → Type 0
OpensFirst P k = (ts at : List Token) → P ts at → begins k ts ≡ true

seq_opens_first : {A : Type 0} (S : Way A) (P Q : Place) (k q : Kinds) (e : Bool) → Fronts S k e → OpensFirst P k → OpensFirst Q q → OpensFirst (seq_place S P Q) (joined e k q)
seq_opens_first S P Q k q e fr a b ts at (inl h) = joined_left e k q ts (a ts at h)
seq_opens_first S P Q k q e fr a b ts at (inr h) = go (fr ts h.1 h.0 h.2)
  where
    go : Begun k e ts h.1 → begins (joined e k q) ts ≡ true
    go (inl i) = joined_left e k q ts i
    go (inr i) = joined_right e k q ts i.1 (subst (λ l. begins q l ≡ true) (sym i.0) (b h.1 at h.3))

star_opens_first : {A : Type 0} (S : Way A) (P : Place) (k : Kinds) (e : Bool) → Fronts S k e → OpensFirst P k → OpensFirst (star_place S P) k
star_opens_first S P k e fr a ts at h = go (row_front S k e fr ts h.1 h.0 h.2)
  where
    go : Begun k true ts h.1 → begins k ts ≡ true
    go (inl i) = i
    go (inr i) = subst (λ l. begins k l ≡ true) (sym i.0) (a h.1 at h.3)

ahead_opens_first : (P Q : Place) (c n k : Kinds) → covers c k ≡ true → OpensFirst Q k → OpensFirst (ahead_place c n P Q) k
ahead_opens_first P Q c n k h b ts at (inl i) = covers_begins c k h ts (subst (λ l. begins c l ≡ true) (sym i.3) i.4)
ahead_opens_first P Q c n k h b ts at (inr i) = b ts at i.0

chain_opens_first : {A : Type 0} (T : Way (A × Stage)) (Q : Place) (k : Stage → Kinds) (S : Stage → Way (A × Stage)) (P : Stage → Place) (c : Kinds) → Fronts T c false → OpensFirst Q c → OpensFirst (chain_place T Q k S P) c
chain_opens_first T Q k S P c fr b ts at (inl h) = b ts at h
chain_opens_first T Q k S P c fr b ts at (inr h) = begins_some c ts h.2 (fr ts h.2 (h.0, h.1) h.4)

module _ (d : (r : Rule) → Way (Value r)) (o : Rule → Place)
    (opening : (r : Rule) (ts rest : List Token) (v : Value r) → d r ts rest v → begins (start r) ts ≡ true)
    (opens_rule : (r : Rule) → OpensFirst (o r) (start r)) where
  pub opens_first : {A : Type 0} (g : Grammar A) → fine g ≡ true → OpensFirst (opens d o g) (first g)
  opens_first (eps a) ok = λ ts at h. absurd h
  opens_first (tok q k f) ok = λ ts at h. absurd h
  opens_first (seq f a b) ok = seq_opens_first (spells d a) (opens d o a) (opens d o b) (first a) (first b) (empty a) (front d opening a (and_left _ _ (and_left _ _ (and_left _ _ ok)))) (opens_first a (and_left _ _ (and_left _ _ (and_left _ _ ok)))) (opens_first b (and_right _ _ (and_left _ _ (and_left _ _ ok))))
  opens_first (alt a b) ok = λ ts at. elim [
    | inl h ↦ begins_or_left (first a) (first b) ts (opens_first a (and_left _ _ (and_left _ _ (and_left _ _ ok))) ts at h)
    | inr h ↦ begins_or_right (first a) (first b) ts (opens_first b (and_right _ _ (and_left _ _ (and_left _ _ ok))) ts at h)
  ]
  opens_first (star f a) ok = star_opens_first (spells d a) (opens d o a) (first a) (empty a) (front d opening a (and_left _ _ (and_left _ _ ok))) (opens_first a (and_left _ _ (and_left _ _ ok)))
  opens_first (prefer a b) ok = λ ts at. elim [
    | inl h ↦ begins_or_left (first a) (first b) ts (opens_first a (and_left _ _ (and_left _ _ ok)) ts at h)
    | inr h ↦ begins_or_right (first a) (first b) ts (opens_first b (and_right _ _ (and_left _ _ ok)) ts at h.0)
  ]
  opens_first (ahead f c j n k a b) ok = ahead_opens_first (opens d o a) (opens d o b) c n (first b) (ahead_fine f c j n k a b ok).5 (opens_first b (ahead_fine f c j n k a b ok).1)
  opens_first (chain f a k item) ok = chain_opens_first (spells d a) (opens d o a) k (λ s. spells d (item s)) (λ s. opens d o (item s)) (first a) (full_front d opening a (chain_fine f a k item ok).0 (chain_fine f a k item ok).1) (opens_first a (chain_fine f a k item ok).0)
  opens_first (call r f) ok = opens_rule r

-- ---- where it opens the reader says so

abbrev pub Tells : {A : Type 0} → Place → Reader A → Type 0
Tells P p = (ts at : List Token) → P ts at → p ts ≡ Err (deep, at)

seq_tells : {A B C : Type 0} (f : A → B → C) (S : Way A) (P Q : Place) (k q : Kinds) (p : Reader A) (b : Reader B) → apart k q ≡ true → OpensFirst Q q → Completes S k p → Tells P p → Tells Q b → Tells (seq_place S P Q) (read_both f p b)
seq_tells f S P Q k q p b ap_ first_ cp tp tb ts at (inl h) = both_first f p b ts (deep, at) (tp ts at h)
seq_tells f S P Q k q p b ap_ first_ cp tp tb ts at (inr h) =
    both_second f p b ts h.1 h.0 (deep, at) (cp ts h.1 h.0 h.2 (apart_begins k q ap_ h.1 (first_ h.1 at h.3))) (tb h.1 at h.3)

either_tells : {A : Type 0} (P Q : Place) (k q : Kinds) (a b : Reader A) → apart k q ≡ true → OpensFirst P k → OpensFirst Q q → Tells P a → Tells Q b → Tells (either_place P Q) (λ ts. if begins k ts then a ts else b ts)
either_tells P Q k q a b ap_ fp fq ta tb ts at (inl h) = if_true _ _ _ (fp ts at h) ∙ ta ts at h
either_tells P Q k q a b ap_ fp fq ta tb ts at (inr h) = if_false _ _ _ (apart_begins k q ap_ ts (fq ts at h)) ∙ tb ts at h

prefer_tells : {A : Type 0} (P Q : Place) (k : Kinds) (a b : Reader A) → OpensFirst P k → Tells P a → Tells Q b → Tells (either_place P (place_clear k Q)) (λ ts. if begins k ts then a ts else b ts)
prefer_tells P Q k a b fp ta tb ts at (inl h) = if_true _ _ _ (fp ts at h) ∙ ta ts at h
prefer_tells P Q k a b fp ta tb ts at (inr h) = if_false _ _ _ h.1 ∙ tb ts at h.0

row_tells : {A : Type 0} (S : Way A) (P : Place) (k m : Kinds) (p : Reader A) → Shrinks p → apart m k ≡ true → Fronts S k false → OpensFirst P k → Completes S m p → Tells P p
    → (xs : List A) (ts mid at : List Token) → Row S ts mid xs → P mid at → read_all k p ts ≡ Err (deep, at)
row_tells S P k m p sh ap_ fr fp cp tp [] ts mid at r h =
    let here : P ts at = subst (λ l. P l at) (sym r) h in
    one_more k p sh ts (fp ts at here) ∙ both_first ◌∷◌ p (read_all k p) ts (deep, at) (tp ts at here)
row_tells S P k m p sh ap_ fr fp cp tp (x ∷ xs) ts mid at r h =
    one_more k p sh ts (begins_some k ts r.0 (fr ts r.0 x r.1))
    ∙ both_second ◌∷◌ p (read_all k p) ts r.0 x (deep, at) (cp ts r.0 x r.1 (before (row_front S k false fr r.0 mid xs r.2))) (row_tells S P k m p sh ap_ fr fp cp tp xs r.0 mid at r.2 h)
  where
    before : Begun k true r.0 mid → begins m r.0 ≡ false
    before (inl i) = apart_begins m k ap_ r.0 i
    before (inr i) = apart_begins m k ap_ r.0 (subst (λ l. begins k l ≡ true) (sym i.0) (fp mid at h))

ahead_tells : {A B : Type 0} (f : Token → A → B) (P Q : Place) (c n : Kinds) (a : Reader A) (b : Reader B) → Tells P a → Tells Q b → Tells (ahead_place c n P Q) (λ ts. if begins_two c n ts then read_behind_two f a ts else b ts)
ahead_tells f P Q c n a b ta tb ts at (inl h) = ap (λ l. if begins_two c n l then read_behind_two f a l else b l) h.3 ∙ if_true _ _ _ (and_both _ _ h.4 h.5) ∙ ap (λ o. then_read o (pure (f h.0))) (ta h.2 at h.6)
ahead_tells f P Q c n a b ta tb ts at (inr h) = if_false _ _ _ h.1 ∙ tb ts at h.0

reach_begins : {A : Type 0} (k : Stage → Kinds) (S : Stage → Way (A × Stage)) (P : Stage → Place) (s : Stage) (xs : List A) (ts at : List Token) → Reach k S P s xs ts at → begins (k s) ts ≡ true
reach_begins k S P s [] ts at h = h.0
reach_begins k S P s (x ∷ xs) ts at h = h.0

before_reach : {A : Type 0} (k : Stage → Kinds) (S : Stage → Way (A × Stage)) (P : Stage → Place) (m : Kinds) (s : Stage) (xs : List A) (ts at : List Token) → apart m (leads k) ≡ true → Reach k S P s xs ts at → begins m ts ≡ false
before_reach k S P m s xs ts at ap_ h = apart_begins m (leads k) ap_ ts (stages_begin k s ts (reach_begins k S P s xs ts at h))

module _ {A : Type 0} (k m : Stage → Kinds) (S : Stage → Way (A × Stage)) (P : Stage → Place) (p : Stage → Reader (A × Stage)) (sh : (s : Stage) → Shrinks (p s))
    (ap_ : (s : Stage) → apart (m s) (leads k) ≡ true) (cp : (s : Stage) → Completes (S s) (m s) (p s)) (tp : (s : Stage) → Tells (P s) (p s)) where
  reach_tells : (xs : List A) (s : Stage) (ts at : List Token) → Reach k S P s xs ts at → read_stages k p s ts ≡ Err (deep, at)
  reach_tells [] s ts at h = stage_first k p sh s ts (deep, at) h.0 (tp s ts at h.1)
  reach_tells (x ∷ xs) s ts at h = stage_second k p sh s ts h.1.1 (x, h.1.0) (deep, at) h.0
      (cp s ts h.1.1 (x, h.1.0) h.1.2 (before_reach k S P (m s) h.1.0 xs h.1.1 at (ap_ s) h.1.3)) (reach_tells xs h.1.0 h.1.1 at h.1.3)

  chain_tells : {B : Type 0} (f : List A → B) (T : Way (A × Stage)) (Q : Place) (c : Kinds) (q : Reader (A × Stage)) → apart c (leads k) ≡ true → Completes T c q → Tells Q q → Tells (chain_place T Q k S P) (λ ts. lead_stages f (read_stages k p) (q ts))
  chain_tells f T Q c q apart_first cq tq ts at (inl h) = led_first f (read_stages k p) (q ts) (deep, at) (tq ts at h)
  chain_tells f T Q c q apart_first cq tq ts at (inr h) = led_second f (read_stages k p) (q ts) h.2 (h.0, h.1) (deep, at)
      (cq ts h.2 (h.0, h.1) h.4 (before_reach k S P c h.1 h.3 h.2 at apart_first h.5)) (reach_tells h.3 h.1 h.2 at h.5)

map_tells : {A B : Type 0} (f : A → B) (P : Place) (p : Reader A) → Tells P p → Tells P (λ ts. then_read (p ts) (pure f))
map_tells f P p h ts at i = ap (λ o. then_read o (pure f)) (h ts at i)

module _ (d : (r : Rule) → Way (Value r)) (o : Rule → Place) (p : (r : Rule) → Reader (Value r))
    (opening : (r : Rule) (ts rest : List Token) (v : Value r) → d r ts rest v → begins (start r) ts ≡ true)
    (opens_rule : (r : Rule) → OpensFirst (o r) (start r))
    (shorter : (A : Type 0) (a : Grammar A) → fine a ≡ true → empty a ≡ false → Shrinks (read p a))
    (complete_rule : (r : Rule) → Completes (d r) (after r) (p r))
    (tells_rule : (r : Rule) → Tells (o r) (p r)) where
  pub tells : {A : Type 0} (g : Grammar A) → fine g ≡ true → Tells (opens d o g) (read p g)
  tells (eps a) ok = λ ts at h. absurd h
  tells (tok q k f) ok = λ ts at h. absurd h
  tells (seq f a b) ok = seq_tells f (spells d a) (opens d o a) (opens d o b) (more a) (first b) (read p a) (read p b) (and_right _ _ ok) (opens_first d o opening opens_rule b (and_right _ _ (and_left _ _ (and_left _ _ ok))))
      (complete d p opening shorter complete_rule a (and_left _ _ (and_left _ _ (and_left _ _ ok)))) (tells a (and_left _ _ (and_left _ _ (and_left _ _ ok)))) (tells b (and_right _ _ (and_left _ _ (and_left _ _ ok))))
  tells (alt a b) ok = either_tells (opens d o a) (opens d o b) (first a) (first b) (read p a) (read p b) (and_right _ _ ok) (opens_first d o opening opens_rule a (and_left _ _ (and_left _ _ (and_left _ _ ok)))) (opens_first d o opening opens_rule b (and_right _ _ (and_left _ _ (and_left _ _ ok))))
      (tells a (and_left _ _ (and_left _ _ (and_left _ _ ok)))) (tells b (and_right _ _ (and_left _ _ (and_left _ _ ok))))
  tells (star f a) ok = λ ts at h. ap (λ v. then_read v (pure f))
      (row_tells (spells d a) (opens d o a) (first a) (more a) (read p a) (shorter _ a (and_left _ _ (and_left _ _ ok)) (not_true _ (and_right _ _ (and_left _ _ ok)))) (and_right _ _ ok)
      (full_front d opening a (and_left _ _ (and_left _ _ ok)) (not_true _ (and_right _ _ (and_left _ _ ok)))) (opens_first d o opening opens_rule a (and_left _ _ (and_left _ _ ok))) (complete d p opening shorter complete_rule a (and_left _ _ (and_left _ _ ok))) (tells a (and_left _ _ (and_left _ _ ok)))
      h.0 ts h.1 at h.2 h.3)
  tells (prefer a b) ok = prefer_tells (opens d o a) (opens d o b) (first a) (read p a) (read p b) (opens_first d o opening opens_rule a (and_left _ _ (and_left _ _ ok))) (tells a (and_left _ _ (and_left _ _ ok))) (tells b (and_right _ _ (and_left _ _ ok)))
  tells (ahead f c j n k a b) ok = ahead_tells f (opens d o a) (opens d o b) c n (read p a) (read p b) (tells a (ahead_fine f c j n k a b ok).0) (tells b (ahead_fine f c j n k a b ok).1)
  tells (chain f a k item) ok = chain_tells k (λ s. more (item s)) (λ s. spells d (item s)) (λ s. opens d o (item s)) (λ s. read p (item s)) (λ s. shorter _ (item s) (stage_fine k item (chain_fine f a k item ok).3 s).0 (stage_fine k item (chain_fine f a k item ok).3 s).1)
      (λ s. (stage_fine k item (chain_fine f a k item ok).3 s).3) (λ s. complete d p opening shorter complete_rule (item s) (stage_fine k item (chain_fine f a k item ok).3 s).0) (λ s. tells (item s) (stage_fine k item (chain_fine f a k item ok).3 s).0)
      f (spells d a) (opens d o a) (more a) (read p a) (chain_fine f a k item ok).2 (complete d p opening shorter complete_rule a (chain_fine f a k item ok).0) (tells a (chain_fine f a k item ok).0)
  tells (call r f) ok = map_tells f (o r) (p r) (tells_rule r)

-- ---- where the reader says so it opens

abbrev pub Told : {A : Type 0} → Place → Outcome A → List Token → Type 0
Told P o ts = (at : List Token) → o ≡ Err (deep, at) → P ts at

abbrev pub TellsTruly : {A : Type 0} → Reader A → Place → Type 0
TellsTruly p P = (ts : List Token) → Told P (p ts) ts

abbrev pub Sound : {A : Type 0} → Reader A → Way A → Type 0
Sound {A = A} p S = (ts rest : List Token) (x : A) → p ts ≡ Ok (x, rest) → S ts rest x

pub err_same : {X : Type 0} (a b : Fault × List Token) → ◌≡◌ {A = Result X (Fault × List Token)} (Err a) (Err b) → a ≡ b
err_same a b h = cc

map_truly : {A B : Type 0} (f : A → B) (p : Reader A) (P : Place) → TellsTruly p P → TellsTruly (λ ts. then_read (p ts) (pure f)) P
map_truly f p P h ts = go (p ts) (h ts)
  where
    go : (o : Outcome _) → Told P o ts → Told P (then_read o (pure f)) ts
    go (Ok r) i at e = cc
    go (Err r) i at e = i at (ap Err (err_same r (deep, at) e))

last_truly : {A B C : Type 0} (f : A → B → C) (S : Way A) (P Q : Place) (ts mid : List Token) (x : A) → S ts mid x → (o : Outcome B) → Told Q o mid → Told (seq_place S P Q) (then_read o (pure (f x))) ts
last_truly f S P Q ts mid x s (Ok r) h at e = cc
last_truly f S P Q ts mid x s (Err r) h at e = inr (x, mid, s, h at (ap Err (err_same r (deep, at) e)))

both_truly : {A B C : Type 0} (f : A → B → C) (S : Way A) (P Q : Place) (p : Reader A) (q : Reader B) (ts : List Token) → Sound p S → Told P (p ts) ts → ((mid : List Token) (x : A) → p ts ≡ Ok (x, mid) → Told Q (q mid) mid) → Told (seq_place S P Q) (read_both f p q ts) ts
both_truly f S P Q p q ts sp tp tq = go (p ts) refl tp
  where
    go : (o : Outcome _) → p ts ≡ o → Told P o ts → Told (seq_place S P Q) (then_read o (λ x mid. then_read (q mid) (pure (f x)))) ts
    go (Ok r) e i = last_truly f S P Q ts r.1 r.0 (sp ts r.1 r.0 e) (q r.1) (tq r.1 r.0 e)
    go (Err r) e i = λ at e'. inl (i at (ap Err (err_same r (deep, at) e')))

module _ {A : Type 0} (S : Way A) (P : Place) (k : Kinds) (p : Reader A) (sh : Shrinks p) (sp : Sound p S) (tp : TellsTruly p P) where
  abbrev InRow : Place
  InRow ts at = (xs : List A) × (mid : List Token) × (Row S ts mid xs) × (P mid at)

  in_row : (ts at : List Token) → seq_place S P InRow ts at → InRow ts at
  in_row ts at (inl h) = ([], ts, refl, h)
  in_row ts at (inr h) = (h.0 ∷ h.3.0, h.3.1, (h.1, h.2, h.3.2), h.3.3)

  by_test : (ts : List Token) → Told (seq_place S P InRow) (read_both ◌∷◌ p (read_all k p) ts) ts → (b : Bool) → Told InRow (if b then read_both ◌∷◌ p (read_all k p) ts else Ok ([], ts)) ts
  by_test ts h true at e = in_row ts at (h at e)
  by_test ts h false at e = cc

  row_bounded : (n : ℕ) (ts : List Token) → length ts < n → Told InRow (read_all k p ts) ts
  row_bounded zero ts h = absurd (omega arith)
  row_bounded (suc n) ts h = subst (λ o. Told InRow o ts) (sym (unroll k p sh ts))
      (by_test ts (both_truly ◌∷◌ S P InRow p (read_all k p) ts sp (tp ts) (λ mid x e. row_bounded n mid (omega (arith, sh ts mid x e)))) (begins k ts))

  pub row_truly : TellsTruly (read_all k p) (star_place S P)
  row_truly ts = row_bounded (suc (length ts)) ts (omega arith)

fault_back : {A B : Type 0} (f : A → B) (o : Outcome A) (e : Fault × List Token) → then_read o (pure f) ≡ Err e → o ≡ Err e
fault_back f (Ok r) e h = cc
fault_back f (Err r) e h = ap Err (err_same r e h)

ahead_truly : {A B : Type 0} (f : Token → A → B) (P Q : Place) (c n : Kinds) (a : Reader A) (b : Reader B) (ts : List Token) → TellsTruly a P → Told Q (b ts) ts → (z : Bool) → begins_two c n ts ≡ z → Told (ahead_place c n P Q) (if z then read_behind_two f a ts else b ts) ts
ahead_truly f P Q c n a b [] ta tb true z at e = absurd (true≢false false z refl)
ahead_truly f P Q c n a b (t ∷ []) ta tb true z at e = absurd (true≢false false (and_right (c t.kind t.begins_line) false z) refl)
ahead_truly f P Q c n a b (t ∷ u ∷ ts) ta tb true z at e = inl (t, u, ts, refl, and_left _ _ z, and_right _ _ z, ta ts at (fault_back (f t) (a ts) (deep, at) e))
ahead_truly f P Q c n a b ts ta tb false z at e = inr (tb at e, z)

module _ {A : Type 0} (k : Stage → Kinds) (S : Stage → Way (A × Stage)) (P : Stage → Place) (p : Stage → Reader (A × Stage)) (sh : (s : Stage) → Shrinks (p s))
    (sp : (s : Stage) → Sound (p s) (S s)) (tp : (s : Stage) → TellsTruly (p s) (P s)) where
  abbrev Reached : Stage → Place
  Reached s ts at = (xs : List A) × Reach k S P s xs ts at

  after_item : (s : Stage) (ts : List Token) → begins (k s) ts ≡ true → ((next : Stage) (mid : List Token) → length mid < length ts → Told (Reached next) (read_stages k p next mid) mid)
      → (o : Outcome (A × Stage)) → p s ts ≡ o → Told (Reached s) (then_stages (read_stages k p) o) ts
  after_item s ts h next (Ok r) z at e = let y = next r.0.1 r.1 (sh s ts r.1 r.0 z) at (fault_back (◌∷◌ r.0.0) (read_stages k p r.0.1 r.1) (deep, at) e) in (r.0.0 ∷ y.0, (h, (r.0.1, r.1, sp s ts r.1 r.0 z, y.1)))
  after_item s ts h next (Err r) z at e = ([], (h, tp s ts at (z ∙ ap Err (err_same r (deep, at) e))))

  stage_by_test : (s : Stage) (ts : List Token) → ((next : Stage) (mid : List Token) → length mid < length ts → Told (Reached next) (read_stages k p next mid) mid)
      → (b : Bool) → begins (k s) ts ≡ b → Told (Reached s) (if b then then_stages (read_stages k p) (p s ts) else Ok ([], ts)) ts
  stage_by_test s ts next true h = after_item s ts h next (p s ts) refl
  stage_by_test s ts next false h = λ at e. cc

  stages_bounded : (n : ℕ) (s : Stage) (ts : List Token) → length ts < n → Told (Reached s) (read_stages k p s ts) ts
  stages_bounded zero s ts h = absurd (omega arith)
  stages_bounded (suc n) s ts h = subst (λ o. Told (Reached s) o ts) (sym (unroll_stages k p sh s ts)) (stage_by_test s ts (λ next mid less. stages_bounded n next mid (omega arith)) (begins (k s) ts) refl)

  chain_truly : {B : Type 0} (f : List A → B) (T : Way (A × Stage)) (Q : Place) (q : Reader (A × Stage)) → Sound q T → TellsTruly q Q → TellsTruly (λ ts. lead_stages f (read_stages k p) (q ts)) (chain_place T Q k S P)
  chain_truly f T Q q sq tq ts = go (q ts) refl
    where
      go : (o : Outcome (A × Stage)) → q ts ≡ o → Told (chain_place T Q k S P) (lead_stages f (read_stages k p) o) ts
      go (Ok r) z at e = let y = stages_bounded (suc (length r.1)) r.0.1 r.1 (omega arith) at (fault_back (λ xs. f (r.0.0 ∷ xs)) (read_stages k p r.0.1 r.1) (deep, at) e) in inr (r.0.0, r.0.1, r.1, y.0, sq ts r.1 r.0 z, y.1)
      go (Err r) z at e = inl (tq ts at (z ∙ ap Err (err_same r (deep, at) e)))

prefer_truly : {A : Type 0} (P Q : Place) (k : Kinds) (ts : List Token) (o u : Outcome A) (b : Bool) → begins k ts ≡ b → Told P o ts → Told Q u ts → Told (either_place P (place_clear k Q)) (if b then o else u) ts
prefer_truly P Q k ts o u true z h i at e = inl (h at e)
prefer_truly P Q k ts o u false z h i at e = inr (i at e, z)

if_truly : {A : Type 0} (P Q : Place) (b : Bool) (o u : Outcome A) (ts : List Token) → Told P o ts → Told Q u ts → Told (either_place P Q) (if b then o else u) ts
if_truly P Q true o u ts h i at e = inl (h at e)
if_truly P Q false o u ts h i at e = inr (i at e)

pub syntax≢deep : syntax ≡ deep → ⊥
syntax≢deep e = cc

pub no_deep : {X : Type 0} (ts at : List Token) → ◌≡◌ {A = Result X (Fault × List Token)} (Err (syntax, ts)) (Err (deep, at)) → ⊥
no_deep ts at e = syntax≢deep (ap (λ r. r.0) (err_same (syntax, ts) (deep, at) e))

token_truly : {A : Type 0} (q : Kinds) (f : Token → A) → TellsTruly (read_token q f) no_place
token_truly q f [] = λ at e. no_deep [] at e
token_truly q f (t ∷ ts) = go (q t.kind t.begins_line)
  where
    go : (b : Bool) → Told no_place (if b then Ok (f t, ts) else Err (syntax, t ∷ ts)) (t ∷ ts)
    go true at e = cc
    go false at e = no_deep (t ∷ ts) at e

module _ (d : (r : Rule) → Way (Value r)) (o : Rule → Place) (p : (r : Rule) → Reader (Value r))
    (shorter : (A : Type 0) (a : Grammar A) → fine a ≡ true → empty a ≡ false → Shrinks (read p a))
    (sound : (A : Type 0) (a : Grammar A) → fine a ≡ true → Sound (read p a) (spells d a))
    (truly_rule : (r : Rule) → TellsTruly (p r) (o r)) where
  pub truly : {A : Type 0} (g : Grammar A) → fine g ≡ true → TellsTruly (read p g) (opens d o g)
  truly (eps a) ok = λ ts at e. cc
  truly (tok q k f) ok = token_truly q f
  truly (seq f a b) ok = λ ts. both_truly f (spells d a) (opens d o a) (opens d o b) (read p a) (read p b) ts (sound _ a (and_left _ _ (and_left _ _ (and_left _ _ ok)))) (truly a (and_left _ _ (and_left _ _ (and_left _ _ ok))) ts) (λ mid x e. truly b (and_right _ _ (and_left _ _ (and_left _ _ ok))) mid)
  truly (alt a b) ok = λ ts. if_truly (opens d o a) (opens d o b) (begins (first a) ts) (read p a ts) (read p b ts) ts (truly a (and_left _ _ (and_left _ _ (and_left _ _ ok))) ts) (truly b (and_right _ _ (and_left _ _ (and_left _ _ ok))) ts)
  truly (star f a) ok = map_truly f (read_all (first a) (read p a)) (star_place (spells d a) (opens d o a))
      (row_truly (spells d a) (opens d o a) (first a) (read p a) (shorter _ a (and_left _ _ (and_left _ _ ok)) (not_true _ (and_right _ _ (and_left _ _ ok)))) (sound _ a (and_left _ _ (and_left _ _ ok))) (truly a (and_left _ _ (and_left _ _ ok))))
  truly (prefer a b) ok = λ ts. prefer_truly (opens d o a) (opens d o b) (first a) ts (read p a ts) (read p b ts) (begins (first a) ts) refl (truly a (and_left _ _ (and_left _ _ ok)) ts) (truly b (and_right _ _ (and_left _ _ ok)) ts)
  truly (ahead f c j n k a b) ok = λ ts. ahead_truly f (opens d o a) (opens d o b) c n (read p a) (read p b) ts (truly a (ahead_fine f c j n k a b ok).0) (truly b (ahead_fine f c j n k a b ok).1 ts) (begins_two c n ts) refl
  truly (chain f a k item) ok = chain_truly k (λ s. spells d (item s)) (λ s. opens d o (item s)) (λ s. read p (item s)) (λ s. shorter _ (item s) (stage_fine k item (chain_fine f a k item ok).3 s).0 (stage_fine k item (chain_fine f a k item ok).3 s).1)
      (λ s. sound _ (item s) (stage_fine k item (chain_fine f a k item ok).3 s).0) (λ s. truly (item s) (stage_fine k item (chain_fine f a k item ok).3 s).0)
      f (spells d a) (opens d o a) (read p a) (sound _ a (chain_fine f a k item ok).0) (truly a (chain_fine f a k item ok).0)
  truly (call r f) ok = map_truly f (p r) (o r) (truly_rule r)
