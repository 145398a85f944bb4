-- More room changes no tree and no syntax fault.
use Rattle.std.proofs.Common.{◌≡◌, ℕ, zero, suc, Bool, true, false, if◌then◌else◌, List, [], ◌∷◌, Ok, Err, refl, sym, ap, subst}
use Rattle.rbs_lexer.specs.Tokens.{Token}
use Rattle.rbs_grammar.specs.declared.stage.Stage.{Stage}
use Rattle.rbs_grammar.specs.Rules.{Rule, Value, Kinds}
use Rattle.rbs_grammar.specs.Grammar.{Grammar, eps, tok, seq, alt, star, prefer, ahead, chain, call, first, begins, begins_two, Fault, syntax, deep, Outcome, Reader, then_read, pure, read_token, read_both, read_row, read_all, read_behind_two, read_chain, read_stages, read}

abbrev pub SameFault : {A : Type 0} → Fault → List Token → Outcome A → Type 0
SameFault syntax at o = o ≡ Err (syntax, at)
SameFault deep at o = Unit {0}

abbrev pub Same : {A : Type 0} → Outcome A → Outcome A → Type 0
Same (Ok r) o = o ≡ Ok r
Same (Err e) o = SameFault e.0 e.1 o

abbrev pub Staying : {A : Type 0} → Reader A → Reader A → Type 0
Staying p q = (ts : List Token) → Same (p ts) (q ts)

pub same_self : {A : Type 0} (o : Outcome A) → Same o o
same_self (Ok r) = refl
same_self (Err (syntax, at)) = refl
same_self (Err (deep, at)) = tt

fault_stays : {A B : Type 0} (e : Fault) (at : List Token) (o : Outcome A) (k : A → List Token → Outcome B) → SameFault e at o → SameFault e at (then_read o k)
fault_stays syntax at o k h = ap (λ v. then_read v k) h
fault_stays deep at o k h = tt

then_same : {A B : Type 0} (o u : Outcome A) (j k : A → List Token → Outcome B) → Same o u → ((x : A) (mid : List Token) → Same (j x mid) (k x mid)) → Same (then_read o j) (then_read u k)
then_same (Ok r) u j k h more = subst (λ v. Same (j r.0 r.1) (then_read v k)) (sym h) (more r.0 r.1)
then_same (Err e) u j k h more = fault_stays e.0 e.1 u k h

pure_same : {A B : Type 0} (f : A → B) (x : A) (mid : List Token) → Same (pure f x mid) (pure f x mid)
pure_same f x mid = refl

both_same : {A B C : Type 0} (f : A → B → C) (p p' : Reader A) (q q' : Reader B) → Staying p p' → Staying q q' → Staying (read_both f p q) (read_both f p' q')
both_same f p p' q q' a b ts = then_same (p ts) (p' ts) _ _ (a ts) (λ x mid. then_same (q mid) (q' mid) (pure (f x)) (pure (f x)) (b mid) (pure_same (f x)))

if_same : {A : Type 0} (b : Bool) (o o' u u' : Outcome A) → Same o o' → Same u u' → Same (if b then o else u) (if b then o' else u')
if_same true o o' u u' h i = h
if_same false o o' u u' h i = i

row_same : {A : Type 0} (k : Kinds) (p p' : Reader A) → Staying p p' → (n : ℕ) → Staying (read_row k p n) (read_row k p' n)
row_same k p p' h zero ts = refl
row_same k p p' h (suc n) ts = if_same (begins k ts) _ _ _ _ (both_same ◌∷◌ p p' (read_row k p n) (read_row k p' n) h (row_same k p p' h n) ts) refl

behind_same : {A B : Type 0} (f : Token → A → B) (p p' : Reader A) → Staying p p' → Staying (read_behind_two f p) (read_behind_two f p')
behind_same f p p' h [] = refl
behind_same f p p' h (t ∷ []) = refl
behind_same f p p' h (t ∷ u ∷ ts) = then_same (p ts) (p' ts) (pure (f t)) (pure (f t)) (h ts) (pure_same (f t))

chain_same : {A : Type 0} (k : Stage → Kinds) (p p' : Stage → Reader (A × Stage)) → ((s : Stage) → Staying (p s) (p' s)) → (n : ℕ) (s : Stage) → Staying (read_chain k p n s) (read_chain k p' n s)
chain_same k p p' h zero s ts = refl
chain_same k p p' h (suc n) s ts = if_same (begins (k s) ts) _ _ _ _
    (then_same (p s ts) (p' s ts) _ _ (h s ts) (λ x mid. then_same (read_chain k p n x.1 mid) (read_chain k p' n x.1 mid) (pure (◌∷◌ x.0)) (pure (◌∷◌ x.0)) (chain_same k p p' h n x.1 mid) (pure_same (◌∷◌ x.0)))) refl

pub stays : (p q : (r : Rule) → Reader (Value r)) → ((r : Rule) → Staying (p r) (q r)) → {A : Type 0} (g : Grammar A) → Staying (read p g) (read q g)
stays p q h (eps a) = λ ts. refl
stays p q h (tok k c f) = λ ts. same_self (read_token k f ts)
stays p q h (seq f a b) = both_same f (read p a) (read q a) (read p b) (read q b) (stays p q h a) (stays p q h b)
stays p q h (alt a b) = λ ts. if_same (begins (first a) ts) _ _ _ _ (stays p q h a ts) (stays p q h b ts)
stays p q h (star f a) = λ ts. then_same (read_all (first a) (read p a) ts) (read_all (first a) (read q a) ts) (pure f) (pure f) (row_same (first a) (read p a) (read q a) (stays p q h a) _ ts) (pure_same f)
stays p q h (prefer a b) = λ ts. if_same (begins (first a) ts) _ _ _ _ (stays p q h a ts) (stays p q h b ts)
stays p q h (ahead f c j n k a b) = λ ts. if_same (begins_two c n ts) _ _ _ _ (behind_same f (read p a) (read q a) (stays p q h a) ts) (stays p q h b ts)
stays p q h (chain f a k item) = λ ts. then_same (read p a ts) (read q a ts) _ _ (stays p q h a ts)
    (λ x mid. then_same (read_stages k (λ s. read p (item s)) x.1 mid) (read_stages k (λ s. read q (item s)) x.1 mid) (pure (λ xs. f (x.0 ∷ xs))) (pure (λ xs. f (x.0 ∷ xs)))
    (chain_same k (λ s. read p (item s)) (λ s. read q (item s)) (λ s. stays p q h (item s)) _ x.1 mid) (pure_same (λ xs. f (x.0 ∷ xs))))
stays p q h (call r f) = λ ts. then_same (p r ts) (q r ts) (pure f) (pure f) (h r ts) (pure_same f)
