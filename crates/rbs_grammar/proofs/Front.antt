-- What a grammar spells begins with one of its first tokens, or is empty.
use Rattle.std.proofs.Common.{◌≡◌, ◌⊎◌, inl, inr, Bool, true, false, not, ◌||◌, ◌&&◌, List, [], ◌∷◌, refl, sym, ◌∙◌, subst}
use Rattle.rbs_lexer.specs.Tokens.{Token}
use Rattle.rbs_lexer.specs.declared.kind.Kind.{Kind}
use Rattle.rbs_grammar.specs.declared.stage.Stage.{Stage}
use Rattle.rbs_grammar.specs.Rules.{Rule, Value, Kinds, some_stage, every_stage, start}
use Rattle.rbs_grammar.specs.Grammar.{Grammar, eps, tok, seq, alt, star, prefer, ahead, chain, call, Way, Row, Chain, tok_way, seq_way, ahead_way, chain_way, spells, empty, joined, first, more, fine, apart, covers, begins}
use Rattle.rbs_grammar.proofs.Heads.{true≢false, or_left, or_right, stage_at, not_true, and_left, and_right, and_both, covers_begins, begins_or_left, begins_or_right, joined_left, joined_right}

abbrev pub Begun : Kinds → Bool → List Token → List Token → Type 0
Begun p e ts rest = (begins p ts ≡ true) ⊎ ((ts ≡ rest) × (e ≡ true))

abbrev pub Fronts : {A : Type 0} → Way A → Kinds → Bool → Type 0
Fronts {A = A} S p e = (ts rest : List Token) (x : A) → S ts rest x → Begun p e ts rest

tok_front : {A : Type 0} (p : Kinds) (f : Token → A) → Fronts (tok_way p f) p false
tok_front p f ts rest x s = inl (subst (λ l. begins p l ≡ true) (sym s.1) s.2)

seq_begun : (p q : Kinds) (e d : Bool) (ts mid rest : List Token) → Begun p e ts mid → Begun q d mid rest → Begun (joined e p q) (e && d) ts rest
seq_begun p q e d ts mid rest (inl h) _ = inl (joined_left e p q ts h)
seq_begun p q e d ts mid rest (inr h) (inl i) = inl (joined_right e p q ts h.1 (subst (λ l. begins q l ≡ true) (sym h.0) i))
seq_begun p q e d ts mid rest (inr h) (inr i) = inr (h.0 ∙ i.0, and_both e d h.1 i.1)

seq_front : {A B C : Type 0} (f : A → B → C) (S : Way A) (T : Way B) (p q : Kinds) (e d : Bool) → Fronts S p e → Fronts T q d → Fronts (seq_way f S T) (joined e p q) (e && d)
seq_front f S T p q e d a b ts rest z s = seq_begun p q e d ts s.2 rest (a ts s.2 s.0 s.3) (b s.2 rest s.1 s.4)

or_begun_left : (p q : Kinds) (e d : Bool) (ts rest : List Token) → Begun p e ts rest → Begun (λ k l. p k l || q k l) (e || d) ts rest
or_begun_left p q e d ts rest (inl h) = inl (begins_or_left p q ts h)
or_begun_left p q e d ts rest (inr h) = inr (h.0, or_left e d h.1)

or_begun_right : (p q : Kinds) (e d : Bool) (ts rest : List Token) → Begun q d ts rest → Begun (λ k l. p k l || q k l) (e || d) ts rest
or_begun_right p q e d ts rest (inl h) = inl (begins_or_right p q ts h)
or_begun_right p q e d ts rest (inr h) = inr (h.0, or_right e d h.1)

row_step : (p : Kinds) (e : Bool) (ts mid rest : List Token) → Begun p e ts mid → Begun p true mid rest → Begun p true ts rest
row_step p e ts mid rest (inl h) _ = inl h
row_step p e ts mid rest (inr h) (inl i) = inl (subst (λ l. begins p l ≡ true) (sym h.0) i)
row_step p e ts mid rest (inr h) (inr i) = inr (h.0 ∙ i.0, refl)

pub row_front : {A : Type 0} (S : Way A) (p : Kinds) (e : Bool) → Fronts S p e → Fronts (Row S) p true
row_front S p e a ts rest [] r = inr (r, refl)
row_front S p e a ts rest (x ∷ xs) r = row_step p e ts r.0 rest (a ts r.0 x r.1) (row_front S p e a r.0 rest xs r.2)

ahead_front : {A B : Type 0} (f : Token → A → B) (p q k : Kinds) (e : Bool) (S : Way A) (T : Way B) → covers p k ≡ true → Fronts T k e → Fronts (ahead_way f p q S T) k e
ahead_front f p q k e S T h b ts rest x (inl s) = inl (covers_begins p k h ts (subst (λ l. begins p l ≡ true) (sym s.4) s.5))
ahead_front f p q k e S T h b ts rest x (inr s) = b ts rest x s.0

pub chain_front : {A : Type 0} (k : Stage → Kinds) (S : Stage → Way (A × Stage)) (s : Stage) → Fronts (Chain k S s) (k s) true
chain_front k S s ts rest [] r = inr (r.0, refl)
chain_front k S s ts rest (x ∷ xs) r = inl r.0

chain_begun : {A B : Type 0} (f : List A → B) (k : Stage → Kinds) (q : Kinds) (e : Bool) (T : Way (A × Stage)) (S : Stage → Way (A × Stage)) → e ≡ false → Fronts T q e → Fronts (chain_way f T k S) q e
chain_begun f k q e T S n a ts rest z w = go (a ts w.2 (w.0, w.1) w.4)
  where
    go : Begun q e ts w.2 → Begun q e ts rest
    go (inl h) = inl h
    go (inr h) = absurd (true≢false e h.1 n)

-- ---- what is asked of the parts of a grammar

six_parts : (a b n j k c : Bool) → (a && b && not n && j && k && c) ≡ true → (a ≡ true) × (b ≡ true) × (n ≡ false) × (j ≡ true) × (k ≡ true) × (c ≡ true)
six_parts a b n j k c h = (
  and_left _ _ (and_left _ _ (and_left _ _ (and_left _ _ (and_left _ _ h)))),
  and_right _ _ (and_left _ _ (and_left _ _ (and_left _ _ (and_left _ _ h)))),
  not_true _ (and_right _ _ (and_left _ _ (and_left _ _ (and_left _ _ h)))),
  and_right _ _ (and_left _ _ (and_left _ _ h)),
  and_right _ _ (and_left _ _ h),
  and_right _ _ h,
)

pub ahead_fine : {A B : Type 0} (f : Token → A → B) (p : Kinds) (j : Kind) (q : Kinds) (k : Kind) (a : Grammar A) (b : Grammar B) → fine (ahead f p j q k a b) ≡ true
    → (fine a ≡ true) × (fine b ≡ true) × (empty b ≡ false) × (p j false ≡ true) × (q k false ≡ true) × (covers p (first b) ≡ true)
ahead_fine f p j q k a b ok = six_parts (fine a) (fine b) (empty b) (p j false) (q k false) (covers p (first b)) ok

four_parts : (a n c d : Bool) → (a && not n && c && d) ≡ true → (a ≡ true) × (n ≡ false) × (c ≡ true) × (d ≡ true)
four_parts a n c d h = (and_left _ _ (and_left _ _ (and_left _ _ h)), not_true _ (and_right _ _ (and_left _ _ (and_left _ _ h))), and_right _ _ (and_left _ _ h), and_right _ _ h)

-- that begin an item at some stage
abbrev pub leads : (Stage → Kinds) → Kinds
leads k c l = some_stage (λ s. k s c l)

abbrev pub item_fine : {A : Type 0} → (Stage → Kinds) → (Stage → Grammar (A × Stage)) → Stage → Bool
item_fine k item s = fine (item s) && not (empty (item s)) && covers (k s) (first (item s)) && apart (more (item s)) (leads k)

pub chain_fine : {A B : Type 0} (f : List A → B) (a : Grammar (A × Stage)) (k : Stage → Kinds) (item : Stage → Grammar (A × Stage)) → fine (chain f a k item) ≡ true
    → (fine a ≡ true) × (empty a ≡ false) × (apart (more a) (leads k) ≡ true) × (every_stage (item_fine k item) ≡ true)
chain_fine f a k item ok = four_parts (fine a) (empty a) (apart (more a) (leads k)) (every_stage (item_fine k item)) ok

pub stage_fine : {A : Type 0} (k : Stage → Kinds) (item : Stage → Grammar (A × Stage)) → every_stage (item_fine k item) ≡ true
    → (s : Stage) → (fine (item s) ≡ true) × (empty (item s) ≡ false) × (covers (k s) (first (item s)) ≡ true) × (apart (more (item s)) (leads k) ≡ true)
stage_fine k item ok s = four_parts (fine (item s)) (empty (item s)) (covers (k s) (first (item s))) (apart (more (item s)) (leads k)) (stage_at (item_fine k item) ok s)

module _ (d : (r : Rule) → Way (Value r)) (opens : (r : Rule) (ts rest : List Token) (v : Value r) → d r ts rest v → begins (start r) ts ≡ true) where
  pub front : {A : Type 0} (g : Grammar A) → fine g ≡ true → Fronts (spells d g) (first g) (empty g)
  front (eps a) ok = λ ts rest x s. inr (s.0, refl)
  front (tok p k f) ok = tok_front p f
  front (seq f a b) ok = seq_front f (spells d a) (spells d b) (first a) (first b) (empty a) (empty b) (front a (and_left _ _ (and_left _ _ (and_left _ _ ok)))) (front b (and_right _ _ (and_left _ _ (and_left _ _ ok))))
  front (alt a b) ok = λ ts rest x. elim [
    | inl s ↦ or_begun_left (first a) (first b) (empty a) (empty b) ts rest (front a (and_left _ _ (and_left _ _ (and_left _ _ ok))) ts rest x s)
    | inr s ↦ or_begun_right (first a) (first b) (empty a) (empty b) ts rest (front b (and_right _ _ (and_left _ _ (and_left _ _ ok))) ts rest x s)
  ]
  front (star f a) ok = λ ts rest z s. row_front (spells d a) (first a) (empty a) (front a (and_left _ _ (and_left _ _ ok))) ts rest s.0 s.1
  front (prefer a b) ok = λ ts rest x. elim [
    | inl s ↦ or_begun_left (first a) (first b) (empty a) (empty b) ts rest (front a (and_left _ _ (and_left _ _ ok)) ts rest x s)
    | inr s ↦ or_begun_right (first a) (first b) (empty a) (empty b) ts rest (front b (and_right _ _ (and_left _ _ ok)) ts rest x s.0)
  ]
  front (ahead f p j q k a b) ok = ahead_front f p q (first b) (empty b) (spells d a) (spells d b) (ahead_fine f p j q k a b ok).5 (front b (ahead_fine f p j q k a b ok).1)
  front (chain f a k item) ok = chain_begun f k (first a) (empty a) (spells d a) (λ s. spells d (item s)) (chain_fine f a k item ok).1 (front a (chain_fine f a k item ok).0)
  front (call r f) ok = λ ts rest z s. inl (opens r ts rest s.0 s.1)
