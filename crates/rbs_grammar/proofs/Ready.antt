-- What a grammar begins with it takes: before one of its first tokens a syntax fault stands behind a token at least.
use Rattle.std.proofs.Common.{◌≡◌, ℕ, zero, suc, ◌<◌, Bool, true, false, not, if◌then◌else◌, ◌||◌, List, [], ◌∷◌, length, Ok, Err, refl, sym, subst, arith}
use Rattle.rbs_lexer.specs.Tokens.{Token}
use Rattle.rbs_grammar.specs.declared.stage.Stage.{Stage}
use Rattle.rbs_grammar.specs.Rules.{Rule, Value, Kinds, start}
use Rattle.rbs_grammar.specs.Grammar.{Grammar, eps, tok, seq, alt, star, prefer, ahead, chain, call, empty, first, joined, begins, begins_two, fine, covers, Fault, syntax, deep, Outcome, Reader, then_read, pure, read_token, read_both, read_row, read_all, read_behind_two, read_chain, read_stages, read}
use Rattle.rbs_grammar.proofs.Heads.{and_left, and_right, true≢false, covers_begins}
use Rattle.rbs_grammar.proofs.Front.{ahead_fine, chain_fine, stage_fine}
use Rattle.rbs_grammar.proofs.Lengths.{Less}
use Rattle.rbs_grammar.proofs.Chains.{then_stages, lead_stages}
use Rattle.rbs_grammar.proofs.Idle.{Idle, idle}

abbrev pub FaultBehind : Bool → Fault → ℕ → ℕ → Type 0
FaultBehind e syntax m n = Less e m n
FaultBehind e deep m n = Unit {0}

-- An end or a syntax fault stands at fewer tokens, or at as many at most.
abbrev pub Behind : {A : Type 0} → Bool → Outcome A → ℕ → Type 0
Behind e (Ok r) n = Less e (length r.1) n
Behind e (Err r) n = FaultBehind e r.0 (length r.1) n

-- Where a token of these kinds comes next, at fewer.
abbrev pub Ready : {A : Type 0} → Reader A → Kinds → Type 0
Ready p k = (ts : List Token) → Behind (not (begins k ts)) (p ts) (length ts)

same_less : (n : ℕ) → Less true n n
same_less n = omega arith

less_weaker : (e : Bool) (m n : ℕ) → Less e m n → Less true m n
less_weaker true m n h = h
less_weaker false m n h = omega arith

less_any : (e : Bool) (m n : ℕ) → Less false m n → Less e m n
less_any true m n h = omega arith
less_any false m n h = h

less_through : (e : Bool) (k m n : ℕ) → Less true k m → Less e m n → Less e k n
less_through true k m n a b = omega arith
less_through false k m n a b = omega arith

pub behind_weaker : {A : Type 0} (e : Bool) (o : Outcome A) (n : ℕ) → Behind e o n → Behind true o n
behind_weaker e (Ok r) n h = less_weaker e (length r.1) n h
behind_weaker e (Err (syntax, at)) n h = less_weaker e (length at) n h
behind_weaker e (Err (deep, at)) n h = tt

pub behind_any : {A : Type 0} (e : Bool) (o : Outcome A) (n : ℕ) → Behind false o n → Behind e o n
behind_any e (Ok r) n h = less_any e (length r.1) n h
behind_any e (Err (syntax, at)) n h = less_any e (length at) n h
behind_any e (Err (deep, at)) n h = tt

behind_through : {A : Type 0} (e : Bool) (o : Outcome A) (m n : ℕ) → Behind true o m → Less e m n → Behind e o n
behind_through e (Ok r) m n a b = less_through e (length r.1) m n a b
behind_through e (Err (syntax, at)) m n a b = less_through e (length at) m n a b
behind_through e (Err (deep, at)) m n a b = tt

then_behind : {A B : Type 0} (e : Bool) (o : Outcome A) (n : ℕ) (c : A → List Token → Outcome B) → Behind e o n → ((x : A) (mid : List Token) → Behind true (c x mid) (length mid)) → Behind e (then_read o c) n
then_behind e (Ok r) n c a b = behind_through e (c r.0 r.1) (length r.1) n (b r.0 r.1) a
then_behind e (Err r) n c a b = a

map_behind : {A B : Type 0} (f : A → B) (e : Bool) (o : Outcome A) (n : ℕ) → Behind e o n → Behind e (then_read o (pure f)) n
map_behind f e (Ok r) n h = h
map_behind f e (Err r) n h = h

if_behind : {A : Type 0} (e : Bool) (b : Bool) (o u : Outcome A) (n : ℕ) → Behind e o n → Behind e u n → Behind e (if b then o else u) n
if_behind e true o u n h i = h
if_behind e false o u n h i = i

pub ready_any : {A : Type 0} (p : Reader A) (k : Kinds) → Ready p k → (ts : List Token) → Behind true (p ts) (length ts)
ready_any p k h ts = behind_weaker (not (begins k ts)) (p ts) (length ts) (h ts)

pub ready_begun : {A : Type 0} (p : Reader A) (k : Kinds) → Ready p k → (ts : List Token) → begins k ts ≡ true → Behind false (p ts) (length ts)
ready_begun p k h ts e = subst (λ b. Behind (not b) (p ts) (length ts)) e (h ts)

-- It holds for fewer kinds too.
pub ready_narrower : {A : Type 0} (p : Reader A) (j k : Kinds) → covers j k ≡ true → Ready p k → Ready p j
ready_narrower p j k c h ts = go (begins j ts) refl
  where
    go : (b : Bool) → begins j ts ≡ b → Behind (not b) (p ts) (length ts)
    go true e = ready_begun p k h ts (covers_begins j k c ts e)
    go false e = ready_any p k h ts

pub begun_syntax : {A : Type 0} (p : Reader A) (k : Kinds) → Ready p k → (ts at : List Token) → begins k ts ≡ true → p ts ≡ Err (syntax, at) → length at < length ts
begun_syntax p k h ts at e z = subst (λ o. Behind false o (length ts)) z (ready_begun p k h ts e)

-- ---- one for each constructor

none_ready : {A : Type 0} (a : A) → Ready (λ ts. Ok (a, ts)) (λ k l. false)
none_ready a [] = same_less 0
none_ready a (t ∷ ts) = same_less (suc (length ts))

token_ready : {A : Type 0} (q : Kinds) (f : Token → A) → Ready (read_token q f) q
token_ready q f [] = same_less 0
token_ready q f (t ∷ ts) = go (q t.kind t.begins_line)
  where
    go : (b : Bool) → Behind (not b) (if b then Ok (f t, ts) else Err (syntax, t ∷ ts)) (suc (length ts))
    go true = omega arith
    go false = same_less (suc (length ts))

both_behind : {A B C : Type 0} (e : Bool) (f : A → B → C) (p : Reader A) (b : Reader B) (q : Kinds) → Ready b q → (ts : List Token) → Behind e (p ts) (length ts) → Behind e (read_both f p b ts) (length ts)
both_behind e f p b q h ts a = then_behind e (p ts) (length ts) (λ x mid. then_read (b mid) (pure (f x))) a (λ x mid. map_behind (f x) true (b mid) (length mid) (ready_any b q h mid))

or_false : (a b : Bool) → a ≡ false → (a || b) ≡ b
or_false true b h = cc
or_false false b h = refl

begins_second : (k q : Kinds) (ts : List Token) → begins k ts ≡ false → begins (λ c l. k c l || q c l) ts ≡ begins q ts
begins_second k q [] h = refl
begins_second k q (t ∷ ts) h = or_false (k t.kind t.begins_line) (q t.kind t.begins_line) h

or_behind : {A : Type 0} (k q : Kinds) (ts : List Token) (o : Outcome A) → begins k ts ≡ false → Behind (not (begins q ts)) o (length ts) → Behind (not (begins (λ c l. k c l || q c l) ts)) o (length ts)
or_behind k q ts o e h = subst (λ b. Behind (not b) o (length ts)) (sym (begins_second k q ts e)) h

seq_ready : {A B C : Type 0} (f : A → B → C) (p : Reader A) (b : Reader B) (k q : Kinds) (e : Bool) → Idle p k e → Ready p k → Ready b q → Ready (read_both f p b) (joined e k q)
seq_ready f p b k q false i g h ts = both_behind (not (begins k ts)) f p b q h ts (g ts)
seq_ready f p b k q true i g h ts = go (begins k ts) refl
  where
    go : (z : Bool) → begins k ts ≡ z → Behind (not (begins (λ c l. k c l || q c l) ts)) (read_both f p b ts) (length ts)
    go true e = behind_any (not (begins (λ c l. k c l || q c l) ts)) (read_both f p b ts) (length ts) (both_behind false f p b q h ts (ready_begun p k g ts e))
    go false e = let x = i ts e in subst (λ o. Behind (not (begins (λ c l. k c l || q c l) ts)) (then_read o (λ x mid. then_read (b mid) (pure (f x)))) (length ts)) (sym x.1)
        (or_behind k q ts (then_read (b ts) (pure (f x.0))) e (map_behind (f x.0) (not (begins q ts)) (b ts) (length ts) (h ts)))

either_ready : {A : Type 0} (k q : Kinds) (a b : Reader A) → Ready a k → Ready b q → Ready (λ ts. if begins k ts then a ts else b ts) (λ c l. k c l || q c l)
either_ready k q a b g h ts = go (begins k ts) refl
  where
    go : (z : Bool) → begins k ts ≡ z → Behind (not (begins (λ c l. k c l || q c l) ts)) (if z then a ts else b ts) (length ts)
    go true e = behind_any (not (begins (λ c l. k c l || q c l) ts)) (a ts) (length ts) (ready_begun a k g ts e)
    go false e = or_behind k q ts (b ts) e (h ts)

row_behind : {A : Type 0} (k : Kinds) (p : Reader A) → Ready p k → (n : ℕ) (ts : List Token) → Behind true (read_row k p n ts) (length ts)
row_behind k p h zero ts = same_less (length ts)
row_behind k p h (suc n) ts = if_behind true (begins k ts) (read_both ◌∷◌ p (read_row k p n) ts) (Ok ([], ts)) (length ts)
    (then_behind true (p ts) (length ts) (λ x mid. then_read (read_row k p n mid) (pure (◌∷◌ x))) (ready_any p k h ts) (λ x mid. map_behind (◌∷◌ x) true (read_row k p n mid) (length mid) (row_behind k p h n mid))) (same_less (length ts))

row_ready : {A : Type 0} (k : Kinds) (p : Reader A) → Ready p k → Ready (read_all k p) k
row_ready k p h [] = same_less 0
row_ready k p h (t ∷ ts) = go (k t.kind t.begins_line) refl
  where
    go : (z : Bool) → k t.kind t.begins_line ≡ z → Behind (not z) (if z then read_both ◌∷◌ p (read_row k p (length ts)) (t ∷ ts) else Ok ([], t ∷ ts)) (suc (length ts))
    go true e = then_behind false (p (t ∷ ts)) (suc (length ts)) (λ x mid. then_read (read_row k p (length ts) mid) (pure (◌∷◌ x))) (ready_begun p k h (t ∷ ts) e) (λ x mid. map_behind (◌∷◌ x) true (read_row k p (length ts) mid) (length mid) (row_behind k p h (length ts) mid))
    go false e = same_less (suc (length ts))

behind_two_behind : {A B : Type 0} (f : Token → A → B) (c n k : Kinds) (p : Reader A) → Ready p k → (ts : List Token) → begins_two c n ts ≡ true → Behind false (read_behind_two f p ts) (length ts)
behind_two_behind f c n k p h [] e = absurd (true≢false false e refl)
behind_two_behind f c n k p h (t ∷ []) e = absurd (true≢false false (and_right (c t.kind t.begins_line) false e) refl)
behind_two_behind f c n k p h (t ∷ u ∷ ts) e = map_behind (f t) false (p ts) (suc (suc (length ts))) (behind_through false (p ts) (length ts) (suc (suc (length ts))) (ready_any p k h ts) (omega arith))

ahead_ready : {A B : Type 0} (f : Token → A → B) (c n j k : Kinds) (a : Reader A) (b : Reader B) → Ready a j → Ready b k → Ready (λ ts. if begins_two c n ts then read_behind_two f a ts else b ts) k
ahead_ready f c n j k a b g h ts = go (begins_two c n ts) refl
  where
    go : (z : Bool) → begins_two c n ts ≡ z → Behind (not (begins k ts)) (if z then read_behind_two f a ts else b ts) (length ts)
    go true e = behind_any (not (begins k ts)) (read_behind_two f a ts) (length ts) (behind_two_behind f c n j a g ts e)
    go false e = h ts

stage_behind : {A B : Type 0} (f : List A → B) (e : Bool) (c : Stage → Reader (List A)) (o : Outcome (A × Stage)) (n : ℕ) → Behind e o n → ((s : Stage) (mid : List Token) → Behind true (c s mid) (length mid)) → Behind e (lead_stages f c o) n
stage_behind f e c o n a b = then_behind e o n (λ x mid. then_read (c x.1 mid) (pure (λ xs. f (x.0 ∷ xs)))) a (λ x mid. map_behind (λ xs. f (x.0 ∷ xs)) true (c x.1 mid) (length mid) (b x.1 mid))

chain_behind : {A : Type 0} (k j : Stage → Kinds) (p : Stage → Reader (A × Stage)) → ((s : Stage) → Ready (p s) (j s)) → (n : ℕ) (s : Stage) (ts : List Token) → Behind true (read_chain k p n s ts) (length ts)
chain_behind k j p h zero s ts = same_less (length ts)
chain_behind k j p h (suc n) s ts = if_behind true (begins (k s) ts) (then_stages (read_chain k p n) (p s ts)) (Ok ([], ts)) (length ts)
    (stage_behind (λ xs. xs) true (read_chain k p n) (p s ts) (length ts) (ready_any (p s) (j s) (h s) ts) (chain_behind k j p h n)) (same_less (length ts))

chain_ready : {A B : Type 0} (f : List A → B) (q : Reader (A × Stage)) (c : Kinds) (k j : Stage → Kinds) (p : Stage → Reader (A × Stage)) → Ready q c → ((s : Stage) → Ready (p s) (j s)) → Ready (λ ts. lead_stages f (read_stages k p) (q ts)) c
chain_ready f q c k j p g h ts = stage_behind f (not (begins c ts)) (read_stages k p) (q ts) (length ts) (g ts) (λ s mid. chain_behind k j p h (length mid) s mid)

map_ready : {A B : Type 0} (f : A → B) (p : Reader A) (k : Kinds) → Ready p k → Ready (λ ts. then_read (p ts) (pure f)) k
map_ready f p k h ts = map_behind f (not (begins k ts)) (p ts) (length ts) (h ts)

module _ (p : (r : Rule) → Reader (Value r)) (idle_rule : (r : Rule) → Idle (p r) (start r) false) (ready_rule : (r : Rule) → Ready (p r) (start r)) where
  pub ready : {A : Type 0} (g : Grammar A) → fine g ≡ true → Ready (read p g) (first g)
  ready (eps a) ok = none_ready a
  ready (tok q k f) ok = token_ready q f
  ready (seq f a b) ok = seq_ready f (read p a) (read p b) (first a) (first b) (empty a) (idle p idle_rule a (and_left _ _ (and_left _ _ (and_left _ _ ok)))) (ready a (and_left _ _ (and_left _ _ (and_left _ _ ok)))) (ready b (and_right _ _ (and_left _ _ (and_left _ _ ok))))
  ready (alt a b) ok = either_ready (first a) (first b) (read p a) (read p b) (ready a (and_left _ _ (and_left _ _ (and_left _ _ ok)))) (ready b (and_right _ _ (and_left _ _ (and_left _ _ ok))))
  ready (star f a) ok = map_ready f (read_all (first a) (read p a)) (first a) (row_ready (first a) (read p a) (ready a (and_left _ _ (and_left _ _ ok))))
  ready (prefer a b) ok = either_ready (first a) (first b) (read p a) (read p b) (ready a (and_left _ _ (and_left _ _ ok))) (ready b (and_right _ _ (and_left _ _ ok)))
  ready (ahead f c j n k a b) ok = ahead_ready f c n (first a) (first b) (read p a) (read p b) (ready a (ahead_fine f c j n k a b ok).0) (ready b (ahead_fine f c j n k a b ok).1)
  ready (chain f a k item) ok = chain_ready f (read p a) (first a) k (λ s. first (item s)) (λ s. read p (item s)) (ready a (chain_fine f a k item ok).0) (λ s. ready (item s) (stage_fine k item (chain_fine f a k item ok).3 s).0)
  ready (call r f) ok = map_ready f (p r) (start r) (ready_rule r)
