-- What is read leaves fewer tokens, or as many where it may be empty.
use Rattle.std.proofs.Common.{◌≡◌, ℕ, zero, suc, ◌<◌, ◌≤◌, Bool, true, false, if◌then◌else◌, ◌&&◌, ◌||◌, List, [], ◌∷◌, length, Ok, Err, refl, subst, arith}
use Rattle.rbs_lexer.specs.Tokens.{Token}
use Rattle.rbs_grammar.specs.declared.stage.Stage.{Stage}
use Rattle.rbs_grammar.specs.Rules.{Rule, Value, Kinds}
use Rattle.rbs_grammar.specs.Grammar.{Grammar, eps, tok, seq, alt, star, prefer, ahead, chain, call, empty, first, begins, begins_two, fine, syntax, Outcome, Reader, then_read, pure, read_token, read_both, read_row, read_all, read_behind_two, read_chain, read_stages, read}
use Rattle.rbs_grammar.proofs.Heads.{and_left, and_right, not_true}
use Rattle.rbs_grammar.proofs.Front.{ahead_fine, chain_fine, stage_fine}
use Rattle.rbs_grammar.proofs.Rows.{ok_same, Shrinks}
use Rattle.rbs_grammar.proofs.Chains.{then_stages, lead_stages}

abbrev pub Less : Bool → ℕ → ℕ → Type 0
Less true n m = n ≤ m
Less false n m = n < m

abbrev pub Left : {A : Type 0} → Bool → Outcome A → ℕ → Type 0
Left e (Ok r) n = Less e (length r.1) n
Left e (Err r) n = Unit {0}

abbrev pub Shortens : {A : Type 0} → Bool → Reader A → Type 0
Shortens e p = (ts : List Token) → Left e (p ts) (length ts)

less_both : (e d : Bool) (n m k : ℕ) → Less e m k → Less d n m → Less (e && d) n k
less_both true true n m k a b = omega arith
less_both true false n m k a b = omega arith
less_both false true n m k a b = omega arith
less_both false false n m k a b = omega arith

map_left : {A B : Type 0} (f : A → B) (e : Bool) (o : Outcome A) (n : ℕ) → Left e o n → Left e (then_read o (pure f)) n
map_left f e (Ok r) n h = h
map_left f e (Err r) n h = tt

last_left : {A B C : Type 0} (f : A → B → C) (e d : Bool) (x : A) (m k : ℕ) (o : Outcome B) → Less e m k → Left d o m → Left (e && d) (then_read o (pure (f x))) k
last_left f e d x m k (Ok r) a b = less_both e d (length r.1) m k a b
last_left f e d x m k (Err r) a b = tt

both_left : {A B C : Type 0} (f : A → B → C) (e d : Bool) (q : Reader B) (k : ℕ) (o : Outcome A) → Left e o k → Shortens d q → Left (e && d) (then_read o (λ x mid. then_read (q mid) (pure (f x)))) k
both_left f e d q k (Ok r) a b = last_left f e d r.0 (length r.1) k (q r.1) a (b r.1)
both_left f e d q k (Err r) a b = tt

if_left : {A : Type 0} (e d : Bool) (t : Bool) (o u : Outcome A) (n : ℕ) → Left e o n → Left d u n → Left (e || d) (if t then o else u) n
if_left e d true (Ok r) u n h i = less_or e d (length r.1) n h
  where
    less_or : (e d : Bool) (m n : ℕ) → Less e m n → Less (e || d) m n
    less_or true d m n h = h
    less_or false true m n h = omega arith
    less_or false false m n h = h
if_left e d true (Err r) u n h i = tt
if_left e d false o (Ok r) n h i = less_or e d (length r.1) n i
  where
    less_or : (e d : Bool) (m n : ℕ) → Less d m n → Less (e || d) m n
    less_or true true m n h = h
    less_or true false m n h = omega arith
    less_or false d m n h = h
if_left e d false o (Err r) n h i = tt

token_left : {A : Type 0} (q : Kinds) (f : Token → A) → Shortens false (read_token q f)
token_left q f [] = tt
token_left q f (t ∷ ts) = go (q t.kind t.begins_line)
  where
    go : (b : Bool) → Left false (if b then Ok (f t, ts) else Err (syntax, t ∷ ts)) (suc (length ts))
    go true = omega arith
    go false = tt

same_left : {A : Type 0} (x : A) (ts : List Token) → Left true (Ok (x, ts)) (length ts)
same_left x ts = let h : length ts ≤ length ts = omega arith in h

row_left : {A : Type 0} (k : Kinds) (p : Reader A) → Shortens false p → (n : ℕ) → Shortens true (read_row k p n)
row_left {A = A} k p h zero ts = same_left {A = List A} [] ts
row_left {A = A} k p h (suc n) ts = if_left false true (begins k ts) (read_both ◌∷◌ p (read_row k p n) ts) (Ok ([], ts)) (length ts) (both_left ◌∷◌ false true (read_row k p n) (length ts) (p ts) (h ts) (row_left k p h n)) (same_left {A = List A} [] ts)

behind_left : {A B : Type 0} (f : Token → A → B) (e : Bool) (p : Reader A) → Shortens e p → Shortens false (read_behind_two f p)
behind_left f e p h [] = tt
behind_left f e p h (t ∷ []) = tt
behind_left {A = A} f e p h (t ∷ u ∷ ts) = go e (p ts) (h ts)
  where
    go : (e : Bool) (o : Outcome A) → Left e o (length ts) → Left false (then_read o (pure (f t))) (suc (suc (length ts)))
    go true (Ok r) h = omega arith
    go false (Ok r) h = omega arith
    go e (Err r) h = tt

less_end : (e : Bool) (n m k : ℕ) → Less e m k → Less true n m → Less e n k
less_end true n m k a b = omega arith
less_end false n m k a b = omega arith

end_left : {A B : Type 0} (f : A → B) (e : Bool) (m k : ℕ) (o : Outcome A) → Less e m k → Left true o m → Left e (then_read o (pure f)) k
end_left f e m k (Ok r) a b = less_end e (length r.1) m k a b
end_left f e m k (Err r) a b = tt

stage_left : {A B : Type 0} (f : List A → B) (e : Bool) (c : Stage → Reader (List A)) (n : ℕ) (o : Outcome (A × Stage)) → Left e o n → ((s : Stage) → Shortens true (c s)) → Left e (lead_stages f c o) n
stage_left f e c n (Ok r) a b = end_left (λ xs. f (r.0.0 ∷ xs)) e (length r.1) n (c r.0.1 r.1) a (b r.0.1 r.1)
stage_left f e c n (Err r) a b = tt

chain_left : {A : Type 0} (k : Stage → Kinds) (p : Stage → Reader (A × Stage)) → ((s : Stage) → Shortens false (p s)) → (n : ℕ) (s : Stage) → Shortens true (read_chain k p n s)
chain_left {A = A} k p h zero s ts = same_left {A = List A} [] ts
chain_left {A = A} k p h (suc n) s ts = if_left false true (begins (k s) ts) (then_stages (read_chain k p n) (p s ts)) (Ok ([], ts)) (length ts) (stage_left (λ xs. xs) false (read_chain k p n) (length ts) (p s ts) (h s ts) (chain_left k p h n)) (same_left {A = List A} [] ts)

pub shortens : (p : (r : Rule) → Reader (Value r)) → ((r : Rule) → Shortens false (p r)) → {A : Type 0} (g : Grammar A) → fine g ≡ true → Shortens (empty g) (read p g)
shortens p h (eps a) ok = same_left a
shortens p h (tok q k f) ok = token_left q f
shortens p h (seq f a b) ok = λ ts. both_left f (empty a) (empty b) (read p b) (length ts) (read p a ts) (shortens p h a (and_left _ _ (and_left _ _ (and_left _ _ ok))) ts) (shortens p h b (and_right _ _ (and_left _ _ (and_left _ _ ok))))
shortens p h (alt a b) ok = λ ts. if_left (empty a) (empty b) (begins (first a) ts) (read p a ts) (read p b ts) (length ts) (shortens p h a (and_left _ _ (and_left _ _ (and_left _ _ ok))) ts) (shortens p h b (and_right _ _ (and_left _ _ (and_left _ _ ok))) ts)
shortens p h (star f a) ok = λ ts. map_left f true (read_all (first a) (read p a) ts) (length ts) (row_left (first a) (read p a) (subst (λ e. Shortens e (read p a)) (not_true _ (and_right _ _ (and_left _ _ ok))) (shortens p h a (and_left _ _ (and_left _ _ ok)))) _ ts)
shortens p h (prefer a b) ok = λ ts. if_left (empty a) (empty b) (begins (first a) ts) (read p a ts) (read p b ts) (length ts) (shortens p h a (and_left _ _ (and_left _ _ ok)) ts) (shortens p h b (and_right _ _ (and_left _ _ ok)) ts)
shortens p h (ahead f c j n k a b) ok = λ ts. if_left false (empty b) (begins_two c n ts) (read_behind_two f (read p a) ts) (read p b ts) (length ts) (behind_left f (empty a) (read p a) (shortens p h a (ahead_fine f c j n k a b ok).0) ts) (shortens p h b (ahead_fine f c j n k a b ok).1 ts)
shortens p h (chain f a k item) ok = λ ts. stage_left f (empty a) (read_stages k (λ s. read p (item s))) (length ts) (read p a ts) (shortens p h a (chain_fine f a k item ok).0 ts)
    (λ s mid. chain_left k (λ s. read p (item s)) (λ s. subst (λ e. Shortens e (read p (item s))) (stage_fine k item (chain_fine f a k item ok).3 s).1 (shortens p h (item s) (stage_fine k item (chain_fine f a k item ok).3 s).0)) (length mid) s mid)
shortens p h (call r f) ok = λ ts. map_left f false (p r ts) (length ts) (h r ts)

left_ok : {A : Type 0} (n : ℕ) (o : Outcome A) (x : A) (mid : List Token) → Left false o n → o ≡ Ok (x, mid) → length mid < n
left_ok n (Ok r) x mid h e = subst (λ z. length z.1 < n) (ok_same r (x, mid) e) h
left_ok n (Err r) x mid h e = cc

pub takes_nothing : {A : Type 0} (e : Bool) (p : Reader A) → Shortens e p → (ts : List Token) (x : A) → p ts ≡ Ok (x, ts) → e ≡ true
takes_nothing true p h ts x z = refl
takes_nothing false p h ts x z = absurd (not_less (length ts) (left_ok (length ts) (p ts) x ts (h ts) z))
  where
    not_less : (n : ℕ) → n < n → ⊥
    not_less n h = omega arith

pub full_shrinks : (p : (r : Rule) → Reader (Value r)) → ((r : Rule) → Shortens false (p r)) → (A : Type 0) (g : Grammar A) → fine g ≡ true → empty g ≡ false → Shrinks (read p g)
full_shrinks p h A g ok n ts mid x e = left_ok (length ts) (read p g ts) x mid (subst (λ b. Shortens b (read p g)) n (shortens p h g ok) ts) e
