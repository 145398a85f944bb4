-- What is spelled is read, a rule opens where the reader says so, and more room changes no other answer.
use Rattle.std.proofs.Common.{◌≡◌, ◌⊎◌, inl, inr, Bool, true, false, if◌then◌else◌, ◌||◌, ◌&&◌, List, [], ◌∷◌, ◌++◌, Ok, refl, sym, ◌∙◌, ap, subst, append_assoc}
use Rattle.rbs_lexer.specs.Tokens.{Token}
use Rattle.rbs_lexer.specs.declared.kind.Kind.{Kind}
use Rattle.rbs_grammar.specs.declared.stage.Stage.{Stage}
use Rattle.rbs_grammar.specs.Rules.{Rule, Value, Kinds, some_stage, start, after, bar}
use Rattle.rbs_grammar.specs.Grammar.{Grammar, eps, tok, seq, alt, star, prefer, ahead, chain, call, Way, Row, Chain, tok_way, seq_way, star_way, chain_way, prefer_way, ahead_way, spells, empty, joined, first, more, barred, lead, begins, begins_two, fine, apart, Reader, then_read, pure, read_token, read_both, read_all, read_behind_two, read_stages, read}
use Rattle.rbs_grammar.proofs.Heads.{or_left, or_right, and_both, and_left, and_right, not_true, true≢false, apart_begins, clear_left, clear_right, clear_if, stages_clear, stages_begin}
use Rattle.rbs_grammar.proofs.Front.{Fronts, Begun, front, row_front, chain_front, ahead_fine, chain_fine, stage_fine, leads}
use Rattle.rbs_grammar.proofs.Acts.{if_true, if_false, both_ok, token_ok, Acting, Made, Led, Within, made_clear, sample, sample_spells, eps_acts, token_acts, both_acts, map_acts, prefer_acts, choose_acts, ahead_acts}
use Rattle.rbs_grammar.proofs.Rows.{Shrinks, one_more, no_more, all_acts}
use Rattle.rbs_grammar.proofs.Chains.{lead_stages, led_ok, no_stage, stage_ok, led_acts}
use Rattle.rbs_grammar.proofs.Lengths.{Shortens, shortens, takes_nothing, full_shrinks}
use Rattle.rbs_grammar.proofs.Idle.{Idle}
use Rattle.rbs_grammar.proofs.Ready.{Ready, ready, ready_narrower, begun_syntax}

-- ---- more of each rule is more of a grammar

row_grows : {A : Type 0} (S L : Way A) → Within S L → Within (Row S) (Row L)
row_grows S L h ts rest [] r = r
row_grows S L h ts rest (x ∷ xs) r = (r.0, h ts r.0 x r.1, row_grows S L h r.0 rest xs r.2)

chain_grows : {A : Type 0} (k : Stage → Kinds) (S L : Stage → Way (A × Stage)) → ((s : Stage) → Within (S s) (L s)) → (xs : List A) (s : Stage) (ts rest : List Token) → Chain k S s ts rest xs → Chain k L s ts rest xs
chain_grows k S L h [] s ts rest r = r
chain_grows k S L h (x ∷ xs) s ts rest r = (r.0, (r.1.0, r.1.1, h s ts r.1.1 (x, r.1.0) r.1.2, chain_grows k S L h xs r.1.0 r.1.1 rest r.1.3))

pub grows : (d e : (r : Rule) → Way (Value r)) → ((r : Rule) → Within (d r) (e r)) → {A : Type 0} (g : Grammar A) → Within (spells d g) (spells e g)
grows d e h (eps a) = λ ts rest x s. s
grows d e h (tok p k f) = λ ts rest x s. s
grows d e h (seq f a b) = λ ts rest x s. (s.0, s.1, s.2, grows d e h a ts s.2 s.0 s.3, grows d e h b s.2 rest s.1 s.4, s.5)
grows d e h (alt a b) = λ ts rest x. elim [ inl s ↦ inl (grows d e h a ts rest x s) | inr s ↦ inr (grows d e h b ts rest x s) ]
grows d e h (star f a) = λ ts rest x s. (s.0, row_grows (spells d a) (spells e a) (grows d e h a) ts rest s.0 s.1, s.2)
grows d e h (prefer a b) = λ ts rest x. elim [ inl s ↦ inl (grows d e h a ts rest x s) | inr s ↦ inr (grows d e h b ts rest x s.0, s.1) ]
grows d e h (ahead f c j n k a b) = λ ts rest x. elim [
  | inl s ↦ inl (s.0, s.1, s.2, s.3, s.4, s.5, s.6, grows d e h a s.2 rest s.3 s.7, s.8)
  | inr s ↦ inr (grows d e h b ts rest x s.0, s.1)
]
grows d e h (chain f a k item) = λ ts rest x w. (w.0, w.1, w.2, w.3, grows d e h a ts w.2 (w.0, w.1) w.4, chain_grows k (λ s. spells d (item s)) (λ s. spells e (item s)) (λ s. grows d e h (item s)) w.3 w.1 w.2 rest w.5, w.6)
grows d e h (call r f) = λ ts rest x s. (s.0, h r ts rest s.0 s.1, s.2)

-- ---- a grammar spells something

left_nil : (u v : List Token) → u ++ v ≡ [] → u ≡ []
left_nil [] v h = refl
left_nil (t ∷ u) v h = cc

right_nil : (u v : List Token) → u ++ v ≡ [] → v ≡ []
right_nil [] v h = h
right_nil (t ∷ u) v h = cc

joined_second : (e : Bool) (p q : Kinds) (k : Kind) (l : Bool) → e ≡ true → q k l ≡ true → joined e p q k l ≡ true
joined_second true p q k l z h = or_right (p k l) (q k l) h
joined_second false p q k l z h = cc

joined_first : (e : Bool) (p q : Kinds) (k : Kind) (l : Bool) → p k l ≡ true → joined e p q k l ≡ true
joined_first true p q k l h = or_left (p k l) (q k l) h
joined_first false p q k l h = h

led_both : (e : Bool) (p q : Kinds) (u v : List Token) → (u ≡ [] → e ≡ true) → Led p u → Led q v → Led (joined e p q) (u ++ v)
led_both e p q [] [] z a b = tt
led_both e p q [] (t ∷ v) z a b = joined_second e p q t.kind t.begins_line (z refl) b
led_both e p q (t ∷ u) v z a b = joined_first e p q t.kind t.begins_line a

-- the kinds that may not follow a first item, or begin or follow an item at any stage
abbrev chain_bars : Kinds → (Stage → Kinds) → (Stage → Kinds) → Kinds
chain_bars a k b c l = a c l || some_stage (λ s. k s c l || b s c l)

first_item_clear : (a : Kinds) (k b : Stage → Kinds) (m : List Token) → begins (chain_bars a k b) m ≡ false → begins a m ≡ false
first_item_clear a k b m h = clear_left a (λ c l. some_stage (λ s. k s c l || b s c l)) m h

stage_clear : (a : Kinds) (k b : Stage → Kinds) (s : Stage) (m : List Token) → begins (chain_bars a k b) m ≡ false → begins (λ c l. k s c l || b s c l) m ≡ false
stage_clear a k b s m h = stages_clear (λ s c l. k s c l || b s c l) m (clear_right a (λ c l. some_stage (λ s. k s c l || b s c l)) m h) s

stage_lead_clear : (a : Kinds) (k b : Stage → Kinds) (s : Stage) (m : List Token) → begins (chain_bars a k b) m ≡ false → begins (k s) m ≡ false
stage_lead_clear a k b s m h = clear_left (k s) (b s) m (stage_clear a k b s m h)

stage_item_clear : (a : Kinds) (k b : Stage → Kinds) (s : Stage) (m : List Token) → begins (chain_bars a k b) m ≡ false → begins (b s) m ≡ false
stage_item_clear a k b s m h = clear_right (k s) (b s) m (stage_clear a k b s m h)

pub made : (e : (r : Rule) → Way (Value r)) → ((r : Rule) → Made (e r) (bar r) (start r) false) → {A : Type 0} (g : Grammar A) → fine g ≡ true → Made (spells e g) (barred g) (lead g) (empty g)
unfolding sample
made e h (eps a) ok = record { word = []; value = a; spelled = λ m c. (refl, refl); led = tt; blank = λ z. refl }
made e h (tok p k f) ok = record { word = sample k ∷ []; value = f (sample k); spelled = λ m c. sample_spells p k f ok m; led = ok; blank = λ z. cc }
made e h (seq f a b) ok = join (made e h a (and_left _ _ (and_left _ _ (and_left _ _ ok)))) (made e h b (and_right _ _ (and_left _ _ (and_left _ _ ok)))) (and_right _ _ (and_left _ _ ok))
  where
    join : Made (spells e a) (barred a) (lead a) (empty a) → Made (spells e b) (barred b) (lead b) (empty b) → apart (barred a) (lead b) ≡ true → Made (spells e (seq f a b)) (barred (seq f a b)) (lead (seq f a b)) (empty (seq f a b))
    join x y ab = record {
      word = x.word ++ y.word;
      value = f x.value y.value;
      spelled = λ m c. (x.value, y.value, y.word ++ m, subst (λ l. spells e a l (y.word ++ m) x.value) (sym (append_assoc x.word y.word m)) (x.spelled (y.word ++ m) (made_clear (spells e b) (barred a) (barred b) (lead b) (empty b) ab y m c)), y.spelled m (clear_left (barred b) (λ k l. empty b && barred a k l) m c), refl);
      led = led_both (empty a) (lead a) (lead b) x.word y.word x.blank x.led y.led;
      blank = λ z. and_both (empty a) (empty b) (x.blank (left_nil x.word y.word z)) (y.blank (right_nil x.word y.word z));
    }
made e h (alt a b) ok = left (made e h a (and_left _ _ (and_left _ _ (and_left _ _ ok))))
  where
    left : Made (spells e a) (barred a) (lead a) (empty a) → Made (spells e (alt a b)) (barred (alt a b)) (lead (alt a b)) (empty (alt a b))
    left x = record { word = x.word; value = x.value; spelled = λ m c. inl (x.spelled m (clear_left (barred a) (barred b) m c)); led = x.led; blank = λ z. or_left (empty a) (empty b) (x.blank z) }
made e h (star f a) ok = record { word = []; value = f []; spelled = λ m c. ([], refl, refl); led = tt; blank = λ z. refl }
made e h (prefer a b) ok = left (made e h a (and_left _ _ (and_left _ _ ok)))
  where
    left : Made (spells e a) (barred a) (lead a) (empty a) → Made (spells e (prefer a b)) (barred (prefer a b)) (lead (prefer a b)) (empty (prefer a b))
    left x = record { word = x.word; value = x.value; spelled = λ m c. inl (x.spelled m (clear_left (barred a) (barred b) m (clear_right (first a) (λ k l. barred a k l || barred b k l) m c))); led = x.led; blank = λ z. or_left (empty a) (empty b) (x.blank z) }
made e h (ahead f c j n k a b) ok = behind (made e h a (ahead_fine f c j n k a b ok).0) (ahead_fine f c j n k a b ok).3 (ahead_fine f c j n k a b ok).4
  where
    behind : Made (spells e a) (barred a) (lead a) (empty a) → c j false ≡ true → n k false ≡ true → Made (spells e (ahead f c j n k a b)) (barred (ahead f c j n k a b)) (lead (ahead f c j n k a b)) (empty (ahead f c j n k a b))
    behind x one_named two_named = record {
      word = sample j ∷ sample k ∷ x.word;
      value = f (sample j) x.value;
      spelled = λ m g. inl (sample j, sample k, x.word ++ m, x.value, refl, one_named, two_named, x.spelled m (clear_left (barred a) (barred b) m (clear_right n (λ z y. barred a z y || barred b z y) m g)), refl);
      led = one_named;
      blank = λ z. cc;
    }
made e h (chain f a k item) ok = ended (made e h a (chain_fine f a k item ok).0)
  where
    ended : Made (spells e a) (barred a) (lead a) (empty a) → Made (spells e (chain f a k item)) (barred (chain f a k item)) (lead (chain f a k item)) (empty (chain f a k item))
    ended x = record {
      word = x.word;
      value = f (x.value.0 ∷ []);
      spelled = λ m c. (x.value.0, x.value.1, m, [], x.spelled m (first_item_clear (barred a) k (λ s. barred (item s)) m c), (refl, stage_lead_clear (barred a) k (λ s. barred (item s)) x.value.1 m c), refl);
      led = x.led;
      blank = x.blank;
    }
made e h (call r f) ok = record { word = (h r).word; value = f (h r).value; spelled = λ m c. ((h r).value, (h r).spelled m c, refl); led = (h r).led; blank = (h r).blank }

-- A grammar that isn't empty begins with one of its first tokens.
pub full_front : (d : (r : Rule) → Way (Value r)) → ((r : Rule) (ts rest : List Token) (v : Value r) → d r ts rest v → begins (start r) ts ≡ true)
    → {A : Type 0} (g : Grammar A) → fine g ≡ true → empty g ≡ false → Fronts (spells d g) (first g) false
full_front d opening g ok n = subst (λ b. Fronts (spells d g) (first g) b) n (front d opening g ok)

-- ---- what a reader did

module _ (d e : (r : Rule) → Way (Value r)) (p : (r : Rule) → Reader (Value r))
    (within : (r : Rule) → Within (d r) (e r)) (some : (r : Rule) → Made (e r) (bar r) (start r) false)
    (shorter : (r : Rule) → Shortens false (p r))
    (idle_rule : (r : Rule) → Idle (p r) (start r) false) (ready_rule : (r : Rule) → Ready (p r) (start r))
    (acting_rule : (r : Rule) → Acting (p r) (d r) (e r) (bar r)) where
  pub acting : {A : Type 0} (g : Grammar A) → fine g ≡ true → Acting (read p g) (spells d g) (spells e g) (barred g)
  acting (eps a) ok = eps_acts a (λ k l. false)
  acting (tok q k f) ok = token_acts q k f (λ k l. false) ok
  acting (seq f a b) ok = both_acts f (read p a) (read p b) (spells d a) (spells e a) (spells d b) (spells e b) (barred a) (barred b) (barred (seq f a b)) (lead b) (empty b) (grows d e within a) (made e some b (and_right _ _ (and_left _ _ (and_left _ _ ok))))
      (λ m c. clear_left (barred b) (λ k l. empty b && barred a k l) m c)
      (made_clear (spells e b) (barred a) (barred b) (lead b) (empty b) (and_right _ _ (and_left _ _ ok)) (made e some b (and_right _ _ (and_left _ _ (and_left _ _ ok)))))
      (λ mid y z m c. clear_if (empty b) (barred a) m (takes_nothing (empty b) (read p b) (shortens p shorter b (and_right _ _ (and_left _ _ (and_left _ _ ok)))) mid y z) (clear_right (barred b) (λ k l. empty b && barred a k l) m c))
      (acting a (and_left _ _ (and_left _ _ (and_left _ _ ok)))) (acting b (and_right _ _ (and_left _ _ (and_left _ _ ok))))
  acting (alt a b) ok = choose_acts (first a) (read p a) (read p b) (spells d a) (spells e a) (spells d b) (spells e b) (barred a) (barred b) (acting a (and_left _ _ (and_left _ _ (and_left _ _ ok)))) (acting b (and_right _ _ (and_left _ _ (and_left _ _ ok))))
  acting (star f a) ok = map_acts f (read_all (first a) (read p a)) (Row (spells d a)) (Row (spells e a)) (barred a)
      (all_acts (first a) (read p a) (full_shrinks p shorter _ a (and_left _ _ (and_left _ _ ok)) (not_true _ (and_right _ _ (and_left _ _ ok)))) (spells d a) (spells e a) (barred a) (grows d e within a) (acting a (and_left _ _ (and_left _ _ ok))))
  acting (prefer a b) ok = prefer_acts (first a) (read p a) (read p b) (spells d a) (spells e a) (spells d b) (spells e b) (barred a) (barred b) (lead a) (empty a) (made e some a (and_left _ _ (and_left _ _ ok))) (acting a (and_left _ _ (and_left _ _ ok))) (acting b (and_right _ _ (and_left _ _ ok)))
  acting (ahead f c j n k a b) ok = let o = ahead_fine f c j n k a b ok in
      ahead_acts f c j n k (read p a) (read p b) (spells d a) (spells e a) (spells d b) (spells e b) (barred a) (barred b) (lead a) (empty a) o.3 o.4 (made e some a o.0)
      (full_shrinks p shorter _ b o.1 o.2) (begun_syntax (read p b) c (ready_narrower (read p b) c (first b) o.5 (ready p idle_rule ready_rule b o.1)))
      (acting a (ahead_fine f c j n k a b ok).0) (acting b (ahead_fine f c j n k a b ok).1)
  acting (chain f a k item) ok = led_acts k (λ s. read p (item s)) (λ s. full_shrinks p shorter _ (item s) (stage_fine k item (chain_fine f a k item ok).3 s).0 (stage_fine k item (chain_fine f a k item ok).3 s).1)
      (λ s. spells d (item s)) (λ s. spells e (item s)) (λ s. barred (item s)) (barred (chain f a k item)) (λ s. grows d e within (item s)) (stage_lead_clear (barred a) k (λ s. barred (item s))) (stage_item_clear (barred a) k (λ s. barred (item s)))
      f (read p a) (spells d a) (spells e a) (barred a) (grows d e within a) (first_item_clear (barred a) k (λ s. barred (item s))) (acting a (chain_fine f a k item ok).0) (λ s. acting (item s) (stage_fine k item (chain_fine f a k item ok).3 s).0)
  acting (call r f) ok = map_acts f (p r) (d r) (e r) (bar r) (acting_rule r)

-- ---- what is spelled is read

abbrev pub Completes : {A : Type 0} → Way A → Kinds → Reader A → Type 0
Completes {A = A} S k p = (ts rest : List Token) (x : A) → S ts rest x → begins k rest ≡ false → p ts ≡ Ok (x, rest)

token_complete : {A : Type 0} (q : Kinds) (f : Token → A) (k : Kinds) → Completes (tok_way q f) k (read_token q f)
token_complete q f k ts rest x s _ = ap (read_token q f) s.1 ∙ token_ok q f s.0 rest s.2 ∙ ap (λ v. Ok (v, rest)) s.3

-- What comes before a part that begins with none of these ends clear of them.
pub clear_before : (k q : Kinds) (e : Bool) (mid rest : List Token) → apart k q ≡ true → Begun q e mid rest → begins (λ c l. e && k c l) rest ≡ false → begins k mid ≡ false
clear_before k q e mid rest ap_ (inl h) c = apart_begins k q ap_ mid h
clear_before k q e mid rest ap_ (inr h) c = subst (λ l. begins k l ≡ false) (sym h.0) (clear_if e k rest h.1 c)

both_complete : {A B C : Type 0} (f : A → B → C) (S : Way A) (T : Way B) (k m q : Kinds) (e : Bool) (a : Reader A) (b : Reader B)
    → apart k q ≡ true → Fronts T q e → Completes S k a → Completes T m b → Completes (seq_way f S T) (λ c l. m c l || (e && k c l)) (read_both f a b)
both_complete f S T k m q e a b ap_ fr ca cb ts rest z s c =
    both_ok f a b ts s.2 rest s.0 s.1
    (ca ts s.2 s.0 s.3 (clear_before k q e s.2 rest ap_ (fr s.2 rest s.1 s.4) (clear_right m (λ x l. e && k x l) rest c)))
    (cb s.2 rest s.1 s.4 (clear_left m (λ x l. e && k x l) rest c))
    ∙ ap (λ v. Ok (v, rest)) s.5

row_complete : {A : Type 0} (S : Way A) (k m : Kinds) (p : Reader A) → Shrinks p → apart m k ≡ true → Fronts S k false → Completes S m p → Completes (Row S) (λ c l. k c l || m c l) (read_all k p)
row_complete S k m p sh ap_ fr cp ts rest [] s c = no_more k p sh ts (subst (λ l. begins k l ≡ false) (sym s) (clear_left k m rest c)) ∙ ap (λ l. Ok ([], l)) s
row_complete S k m p sh ap_ fr cp ts rest (x ∷ xs) s c =
    one_more k p sh ts (some (fr ts s.0 x s.1))
    ∙ both_ok ◌∷◌ p (read_all k p) ts s.0 rest x xs (cp ts s.0 x s.1 (before (row_front S k false fr s.0 rest xs s.2))) (row_complete S k m p sh ap_ fr cp s.0 rest xs s.2 c)
  where
    some : Begun k false ts s.0 → begins k ts ≡ true
    some (inl h) = h
    some (inr h) = absurd (true≢false false h.1 refl)

    before : Begun k true s.0 rest → begins m s.0 ≡ false
    before (inl h) = apart_begins m k ap_ s.0 h
    before (inr h) = subst (λ l. begins m l ≡ false) (sym h.0) (clear_right k m rest c)

pub begins_some : (k : Kinds) (ts rest : List Token) → Begun k false ts rest → begins k ts ≡ true
begins_some k ts rest (inl h) = h
begins_some k ts rest (inr h) = absurd (true≢false false h.1 refl)

-- Clear of what goes on in the first, in the second, or in the first in place of the second.
three_left : (k m q : Kinds) (ts : List Token) → begins (λ c l. k c l || m c l || q c l) ts ≡ false → begins k ts ≡ false
three_left k m q ts h = clear_left k m ts (clear_left (λ c l. k c l || m c l) q ts h)

three_middle : (k m q : Kinds) (ts : List Token) → begins (λ c l. k c l || m c l || q c l) ts ≡ false → begins m ts ≡ false
three_middle k m q ts h = clear_right k m ts (clear_left (λ c l. k c l || m c l) q ts h)

three_right : (k m q : Kinds) (ts : List Token) → begins (λ c l. k c l || m c l || q c l) ts ≡ false → begins q ts ≡ false
three_right k m q ts h = clear_right (λ c l. k c l || m c l) q ts h

either_complete : {A : Type 0} (S T : Way A) (k m q r : Kinds) (e : Bool) (a b : Reader A) → apart q r ≡ true → Fronts S q false → Fronts T r e → Completes S k a → Completes T m b
    → Completes (λ ts rest x. S ts rest x ⊎ T ts rest x) (λ c l. k c l || m c l || (e && q c l)) (λ ts. if begins q ts then a ts else b ts)
either_complete S T k m q r e a b ap_ fs ft ca cb ts rest x (inl s) c =
    if_true _ _ _ (begins_some q ts rest (fs ts rest x s)) ∙ ca ts rest x s (three_left k m (λ z l. e && q z l) rest c)
either_complete S T k m q r e a b ap_ fs ft ca cb ts rest x (inr s) c =
    if_false _ _ _ (clear_before q r e ts rest ap_ (ft ts rest x s) (three_right k m (λ z l. e && q z l) rest c)) ∙ cb ts rest x s (three_middle k m (λ z l. e && q z l) rest c)

prefer_complete : {A : Type 0} (S T : Way A) (k m q : Kinds) (a b : Reader A) → Fronts S q false → Completes S k a → Completes T m b → Completes (prefer_way q S T) (λ c l. k c l || m c l) (λ ts. if begins q ts then a ts else b ts)
prefer_complete S T k m q a b fs ca cb ts rest x (inl s) c = if_true _ _ _ (begins_some q ts rest (fs ts rest x s)) ∙ ca ts rest x s (clear_left k m rest c)
prefer_complete S T k m q a b fs ca cb ts rest x (inr s) c = if_false _ _ _ s.1 ∙ cb ts rest x s.0 (clear_right k m rest c)

ahead_complete : {A B : Type 0} (f : Token → A → B) (c n : Kinds) (S : Way A) (T : Way B) (k m : Kinds) (a : Reader A) (b : Reader B) → Completes S k a → Completes T m b → Completes (ahead_way f c n S T) (λ z l. k z l || m z l) (λ ts. if begins_two c n ts then read_behind_two f a ts else b ts)
ahead_complete f c n S T k m a b ca cb ts rest x (inl s) h =
    ap (λ l. if begins_two c n l then read_behind_two f a l else b l) s.4 ∙ if_true _ _ _ (and_both _ _ s.5 s.6) ∙ ap (λ o. then_read o (pure (f s.0))) (ca s.2 rest s.3 s.7 (clear_left k m rest h)) ∙ ap (λ v. Ok (v, rest)) s.8
ahead_complete f c n S T k m a b ca cb ts rest x (inr s) h = if_false _ _ _ s.1 ∙ cb ts rest x s.0 (clear_right k m rest h)

-- What comes before a chain ends clear of what goes on in an item.
pub before_chain : {A : Type 0} (k : Stage → Kinds) (S : Stage → Way (A × Stage)) (m : Kinds) (next : Stage) (mid rest : List Token) (xs : List A) → apart m (leads k) ≡ true → Chain k S next mid rest xs → begins m rest ≡ false → begins m mid ≡ false
before_chain k S m next mid rest xs ap_ r c = go (chain_front k S next mid rest xs r)
  where
    go : Begun (k next) true mid rest → begins m mid ≡ false
    go (inl h) = apart_begins m (leads k) ap_ mid (stages_begin k next mid h)
    go (inr h) = subst (λ l. begins m l ≡ false) (sym h.0) c

module _ {A : Type 0} (k m : Stage → Kinds) (S : Stage → Way (A × Stage)) (p : Stage → Reader (A × Stage)) (sh : (s : Stage) → Shrinks (p s))
    (ap_ : (s : Stage) → apart (m s) (leads k) ≡ true) (cp : (s : Stage) → Completes (S s) (m s) (p s)) where
  chain_reads : (xs : List A) (s : Stage) (ts rest : List Token) → Chain k S s ts rest xs → begins (leads m) rest ≡ false → read_stages k p s ts ≡ Ok (xs, rest)
  chain_reads [] s ts rest r c = no_stage k p sh s ts r.1 ∙ ap (λ l. Ok ([], l)) r.0
  chain_reads (x ∷ xs) s ts rest r c = stage_ok k p sh s ts r.1.1 rest (x, r.1.0) xs r.0
      (cp s ts r.1.1 (x, r.1.0) r.1.2 (before_chain k S (m s) r.1.0 r.1.1 rest xs (ap_ s) r.1.3 (stages_clear m rest c s))) (chain_reads xs r.1.0 r.1.1 rest r.1.3 c)

  pub chain_complete : {B : Type 0} (f : List A → B) (T : Way (A × Stage)) (c : Kinds) (q : Reader (A × Stage)) → apart c (leads k) ≡ true → Completes T c q
      → Completes (chain_way f T k S) (λ y l. c y l || leads m y l) (λ ts. lead_stages f (read_stages k p) (q ts))
  chain_complete f T c q apart_first cq ts rest z w h =
      led_ok f (read_stages k p) (q ts) w.2 rest (w.0, w.1) w.3
      (cq ts w.2 (w.0, w.1) w.4 (before_chain k S c w.1 w.2 rest w.3 apart_first w.5 (clear_left c (leads m) rest h)))
      (chain_reads w.3 w.1 w.2 rest w.5 (clear_right c (leads m) rest h))
      ∙ ap (λ v. Ok (v, rest)) w.6

star_complete : {A B : Type 0} (f : List A → B) (S : Way A) (k m : Kinds) (p : Reader A) → Completes (Row S) (λ c l. k c l || m c l) (read_all k p) → Completes (star_way f S) (λ c l. k c l || m c l) (λ ts. then_read (read_all k p ts) (pure f))
star_complete f S k m p h ts rest z s c = ap (λ o. then_read o (pure f)) (h ts rest s.0 s.1 c) ∙ ap (λ v. Ok (v, rest)) s.2

module _ (d : (r : Rule) → Way (Value r)) (p : (r : Rule) → Reader (Value r))
    (opening : (r : Rule) (ts rest : List Token) (v : Value r) → d r ts rest v → begins (start r) ts ≡ true)
    (shorter : (A : Type 0) (a : Grammar A) → fine a ≡ true → empty a ≡ false → Shrinks (read p a))
    (complete_rule : (r : Rule) → Completes (d r) (after r) (p r)) where
  pub complete : {A : Type 0} (g : Grammar A) → fine g ≡ true → Completes (spells d g) (more g) (read p g)
  complete (eps a) ok = λ ts rest x s c. ap (λ v. Ok (v, ts)) s.1 ∙ ap (λ l. Ok (x, l)) s.0
  complete (tok q k f) ok = token_complete q f (λ c l. false)
  complete (seq f a b) ok = both_complete f (spells d a) (spells d b) (more a) (more b) (first b) (empty b) (read p a) (read p b) (and_right _ _ ok) (front d opening b (and_right _ _ (and_left _ _ (and_left _ _ ok)))) (complete a (and_left _ _ (and_left _ _ (and_left _ _ ok)))) (complete b (and_right _ _ (and_left _ _ (and_left _ _ ok))))
  complete (alt a b) ok = either_complete (spells d a) (spells d b) (more a) (more b) (first a) (first b) (empty b) (read p a) (read p b) (and_right _ _ ok) (full_front d opening a (and_left _ _ (and_left _ _ (and_left _ _ ok))) (not_true _ (and_right _ _ (and_left _ _ ok)))) (front d opening b (and_right _ _ (and_left _ _ (and_left _ _ ok)))) (complete a (and_left _ _ (and_left _ _ (and_left _ _ ok)))) (complete b (and_right _ _ (and_left _ _ (and_left _ _ ok))))
  complete (star f a) ok = star_complete f (spells d a) (first a) (more a) (read p a) (row_complete (spells d a) (first a) (more a) (read p a) (shorter _ a (and_left _ _ (and_left _ _ ok)) (not_true _ (and_right _ _ (and_left _ _ ok)))) (and_right _ _ ok) (full_front d opening a (and_left _ _ (and_left _ _ ok)) (not_true _ (and_right _ _ (and_left _ _ ok)))) (complete a (and_left _ _ (and_left _ _ ok))))
  complete (prefer a b) ok = prefer_complete (spells d a) (spells d b) (more a) (more b) (first a) (read p a) (read p b) (full_front d opening a (and_left _ _ (and_left _ _ ok)) (not_true _ (and_right _ _ ok))) (complete a (and_left _ _ (and_left _ _ ok))) (complete b (and_right _ _ (and_left _ _ ok)))
  complete (ahead f c j n k a b) ok = ahead_complete f c n (spells d a) (spells d b) (more a) (more b) (read p a) (read p b) (complete a (ahead_fine f c j n k a b ok).0) (complete b (ahead_fine f c j n k a b ok).1)
  complete (chain f a k item) ok = chain_complete k (λ s. more (item s)) (λ s. spells d (item s)) (λ s. read p (item s)) (λ s. shorter _ (item s) (stage_fine k item (chain_fine f a k item ok).3 s).0 (stage_fine k item (chain_fine f a k item ok).3 s).1)
      (λ s. (stage_fine k item (chain_fine f a k item ok).3 s).3) (λ s. complete (item s) (stage_fine k item (chain_fine f a k item ok).3 s).0) f (spells d a) (more a) (read p a) (chain_fine f a k item ok).2 (complete a (chain_fine f a k item ok).0)
  complete (call r f) ok = λ ts rest z s c. ap (λ o. then_read o (pure f)) (complete_rule r ts rest s.0 s.1 c) ∙ ap (λ v. Ok (v, rest)) s.2
