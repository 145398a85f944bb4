-- Before a token that doesn't begin it, a grammar reads nothing: it is empty, or that is a syntax fault there.
use Rattle.std.proofs.Common.{◌≡◌, ℕ, zero, suc, Bool, true, false, if◌then◌else◌, ◌||◌, ◌&&◌, List, [], ◌∷◌, Ok, Err, refl, sym, ap, subst}
use Rattle.rbs_lexer.specs.Tokens.{Token}
use Rattle.rbs_grammar.specs.declared.stage.Stage.{Stage}
use Rattle.rbs_grammar.specs.Rules.{Rule, Value, Kinds, start}
use Rattle.rbs_grammar.specs.Grammar.{Grammar, eps, tok, seq, alt, star, prefer, ahead, chain, call, empty, first, begins, fine, syntax, Outcome, Reader, then_read, pure, read_token, read_both, read_row, read_stages, read}
use Rattle.rbs_grammar.proofs.Heads.{and_left, and_right, not_true, clear_left, clear_right, joined_clear_left, joined_clear_right, two_clear, covers_clear}
use Rattle.rbs_grammar.proofs.Front.{ahead_fine, chain_fine}
use Rattle.rbs_grammar.proofs.Chains.{lead_stages}
use Rattle.rbs_grammar.proofs.Acts.{if_false, token_err, both_ok, both_first, both_second}

abbrev pub IdleBy : {A : Type 0} → Bool → Outcome A → List Token → Type 0
IdleBy {A = A} true o ts = (x : A) × (o ≡ Ok (x, ts))
IdleBy false o ts = o ≡ Err (syntax, ts)

abbrev pub Idle : {A : Type 0} → Reader A → Kinds → Bool → Type 0
Idle p k e = (ts : List Token) → begins k ts ≡ false → IdleBy e (p ts) ts

token_idle : {A : Type 0} (q : Kinds) (f : Token → A) → Idle (read_token q f) q false
token_idle q f [] h = refl
token_idle q f (t ∷ ts) h = token_err q f t ts h

both_idle : {A B C : Type 0} (f : A → B → C) (p : Reader A) (b : Reader B) (e d : Bool) (ts : List Token) → IdleBy e (p ts) ts → (e ≡ true → IdleBy d (b ts) ts) → IdleBy (e && d) (read_both f p b ts) ts
both_idle f p b false d ts h i = both_first f p b ts (syntax, ts) h
both_idle f p b true false ts h i = both_second f p b ts ts h.0 (syntax, ts) h.1 (i refl)
both_idle f p b true true ts h i = let j = i refl in (f h.0 j.0, both_ok f p b ts ts ts h.0 j.0 h.1 j.1)

map_idle : {A B : Type 0} (f : A → B) (e : Bool) (o : Outcome A) (ts : List Token) → IdleBy e o ts → IdleBy e (then_read o (pure f)) ts
map_idle f true o ts h = (f h.0, ap (λ v. then_read v (pure f)) h.1)
map_idle f false o ts h = ap (λ v. then_read v (pure f)) h

row_idle : {A : Type 0} (k : Kinds) (p : Reader A) (n : ℕ) (ts : List Token) → begins k ts ≡ false → read_row k p n ts ≡ Ok ([], ts)
row_idle k p zero ts h = refl
row_idle k p (suc n) ts h = if_false _ _ _ h

led_idle : {A B : Type 0} (f : List A → B) (c : Stage → Reader (List A)) (e : Bool) (o : Outcome (A × Stage)) (ts : List Token) → e ≡ false → IdleBy e o ts → IdleBy e (lead_stages f c o) ts
led_idle f c true o ts n h = cc
led_idle f c false o ts n h = ap (lead_stages f c) h

either_idle : {A : Type 0} (k q : Kinds) (a b : Reader A) (e d : Bool) → e ≡ false → Idle b q d → Idle (λ ts. if begins k ts then a ts else b ts) (λ c l. k c l || q c l) (e || d)
either_idle k q a b true d n h ts c = cc
either_idle k q a b false d n h ts c = subst (λ o. IdleBy d o ts) (sym (if_false _ _ _ (clear_left k q ts c))) (h ts (clear_right k q ts c))

pub idle : (p : (r : Rule) → Reader (Value r)) → ((r : Rule) → Idle (p r) (start r) false) → {A : Type 0} (g : Grammar A) → fine g ≡ true → Idle (read p g) (first g) (empty g)
idle p h (eps a) ok = λ ts c. (a, refl)
idle p h (tok q k f) ok = token_idle q f
idle p h (seq f a b) ok = λ ts c. both_idle f (read p a) (read p b) (empty a) (empty b) ts (idle p h a (and_left _ _ (and_left _ _ (and_left _ _ ok))) ts (joined_clear_left (empty a) (first a) (first b) ts c))
    (λ e. idle p h b (and_right _ _ (and_left _ _ (and_left _ _ ok))) ts (joined_clear_right (empty a) (first a) (first b) ts e c))
idle p h (alt a b) ok = either_idle (first a) (first b) (read p a) (read p b) (empty a) (empty b) (not_true _ (and_right _ _ (and_left _ _ ok))) (idle p h b (and_right _ _ (and_left _ _ (and_left _ _ ok))))
idle p h (star f a) ok = λ ts c. (f [], ap (λ o. then_read o (pure f)) (row_idle (first a) (read p a) _ ts c))
idle p h (prefer a b) ok = either_idle (first a) (first b) (read p a) (read p b) (empty a) (empty b) (not_true _ (and_right _ _ ok)) (idle p h b (and_right _ _ (and_left _ _ ok)))
idle p h (ahead f c j n k a b) ok = λ ts z. subst (λ o. IdleBy (empty b) o ts) (sym (if_false _ _ _ (two_clear c n ts (covers_clear c (first b) (ahead_fine f c j n k a b ok).5 ts z)))) (idle p h b (ahead_fine f c j n k a b ok).1 ts z)
idle p h (chain f a k item) ok = λ ts c. led_idle f (read_stages k (λ s. read p (item s))) (empty a) (read p a ts) ts (chain_fine f a k item ok).1 (idle p h a (chain_fine f a k item ok).0 ts c)
idle p h (call r f) ok = λ ts c. map_idle f false (p r ts) ts (h r ts c)
