-- The laws of the grammar's rules, by the room that is left.
use Rattle.std.proofs.Common.{◌≡◌, ◌⊎◌, inl, inr, ℕ, Bool, true, false, not, if◌then◌else◌, List, [], ◌∷◌, length, Ok, Err, arith, refl, sym, ◌∙◌, ap, subst}
use Rattle.std.proofs.lemmas.List.{append-nil}
use Rattle.rbs_lexer.specs.Tokens.{Token}
use Rattle.rbs_grammar.specs.Rules.{Rule, Value, Kinds, start, after, bar}
use Rattle.rbs_grammar.specs.Grammar.{Grammar, Way, spells, opens, empty, first, more, barred, lead, covers, begins, fine, syntax, deep, Outcome, Reader, read}
use Rattle.rbs_grammar.specs.Declarations.{body}
use Rattle.rbs_grammar.specs.Levels.{Room, full, room, by_rule, spell, open_at, reads, spell_in, open_in, read_in}
use Rattle.rbs_grammar.proofs.Acts.{Alike, Fit, alike_begins, Got, Acts, Acting, Made, Led, Within}
use Rattle.rbs_grammar.proofs.Rows.{ok_same, Shrinks}
use Rattle.rbs_grammar.proofs.Lengths.{Less, Shortens, shortens, full_shrinks}
use Rattle.rbs_grammar.proofs.Exact.{grows, made, full_front, acting, Completes, complete}
use Rattle.rbs_grammar.proofs.Opens.{OpensFirst, opens_first, Tells, tells, Told, TellsTruly, truly, Sound, no_deep, err_same}
use Rattle.rbs_grammar.proofs.Idle.{IdleBy, Idle, idle}
use Rattle.rbs_grammar.proofs.Ready.{Behind as BehindBy, Ready, ready, ready_narrower}
use Rattle.rbs_grammar.proofs.Heads.{covers_begins, covers_clear}
use Rattle.rbs_grammar.proofs.Rules.{body_fine, body_full, body_start, body_starts, body_after, body_bar, body_lead, least, word, word_tree, any_tree, word_led, word_some, word_reads}
use Rattle.rbs_grammar.proofs.ByRule.{by_each, by_two, by_three, Law, law_behind, law_where}

-- ---- how a rule begins

abbrev pub BeginsRight : (r : Rule) → Way (Value r) → Type 0
BeginsRight r S = (ts rest : List Token) (v : Value r) → S ts rest v → begins (start r) ts ≡ true

body_begins : (d : (r : Rule) → Way (Value r)) → ((r : Rule) → BeginsRight r (d r)) → (r : Rule) → BeginsRight r (spells d (body r))
body_begins d h r ts rest v s = covers_begins (first (body r)) (start r) (body_start r) ts (by_body (full_front d h (body r) (body_fine r) (body_full r) ts rest v s))
  where
    by_body : (begins (first (body r)) ts ≡ true) ⊎ ((ts ≡ rest) × (false ≡ true)) → begins (first (body r)) ts ≡ true
    by_body (inl h) = h
    by_body (inr h) = cc

abbrev begins_law : Law
begins_law r S o p = BeginsRight r S

pub spell_begins : (n : Room) (r : Rule) → BeginsRight r (spell n r)
unfolding spell
spell_begins = law_behind begins_law (λ r ts rest v s. absurd s) (λ n. body_begins (spell_in n))

pub spell_in_begins : (n : Room) (r : Rule) → BeginsRight r (spell_in n r)
spell_in_begins = law_where begins_law spell_begins

-- ---- what is read leaves fewer tokens

abbrev shortens_law : Law
shortens_law r S o p = Shortens false p

pub level_shortens : (n : Room) (r : Rule) → Shortens false (reads n r)
unfolding reads
level_shortens = law_behind shortens_law (λ r ts. tt) (λ n h r. subst (λ e. Shortens e (read (read_in n) (body r))) (body_full r) (shortens (read_in n) h (body r) (body_fine r)))

pub room_shortens : (n : Room) (r : Rule) → Shortens false (read_in n r)
room_shortens = law_where shortens_law level_shortens

pub grammar_shrinks : (n : Room) (A : Type 0) (g : Grammar A) → fine g ≡ true → empty g ≡ false → Shrinks (read (read_in n) g)
grammar_shrinks n A g ok some = full_shrinks (read_in n) (room_shortens n) A g ok some

-- ---- before a token that doesn't begin a rule, it is a syntax fault there

abbrev idle_law : Law
idle_law r S o p = Idle p (start r) false

pub level_idle : (n : Room) (r : Rule) → Idle (reads n r) (start r) false
unfolding reads
level_idle = law_behind idle_law (λ r ts c. ap (λ b. Err (if b then deep else syntax, ts)) c)
    (λ n h r ts c. subst (λ b. IdleBy b (read (read_in n) (body r) ts) ts) (body_full r) (idle (read_in n) h (body r) (body_fine r) ts (covers_clear (first (body r)) (start r) (body_start r) ts c)))

pub room_idle : (n : Room) (r : Rule) → Idle (read_in n r) (start r) false
room_idle = law_where idle_law level_idle

-- ---- before a token that begins a rule, a syntax fault stands behind it

full_ready : (r : Rule) → Ready (reads full r) (start r)
unfolding reads
full_ready r ts = go (begins (start r) ts)
  where
    go : (b : Bool) → BehindBy {A = Value r} (not b) (Err (if b then deep else syntax, ts)) (length ts)
    go true = tt
    go false = as_many (length ts)
      where
        as_many : (n : ℕ) → Less true n n
        as_many n = omega arith

abbrev ready_law : Law
ready_law r S o p = Ready p (start r)

pub level_ready : (n : Room) (r : Rule) → Ready (reads n r) (start r)
level_ready = law_behind ready_law full_ready
    (λ n h r. ready_narrower (read (read_in n) (body r)) (start r) (first (body r)) (body_starts r) (ready (read_in n) (room_idle n) h (body r) (body_fine r)))

pub room_ready : (n : Room) (r : Rule) → Ready (read_in n r) (start r)
room_ready = law_where ready_law level_ready

-- ---- wider bars

fit_wider : (k j : Kinds) → covers k j ≡ true → (rest m : List Token) → Fit j rest m → Fit k rest m
fit_wider k j h rest m (inl a) = inl a
fit_wider k j h rest m (inr c) = inr (covers_clear k j h m c)

acts_wider : {A : Type 0} (p : Reader A) (S L : Way A) (k j : Kinds) → covers k j ≡ true → (ts : List Token) (o : Outcome A) → Acts p S L k ts o → Acts p S L j ts o
acts_wider p S L k j h ts (Ok r) a = record { took = a.took; was = a.was; again = a.again; spelled = λ m f. a.spelled m (fit_wider k j h r.1 m f) }
acts_wider p S L k j h ts (Err e) a = record { took = a.took; was = a.was; again = a.again; to_come = a.to_come; value = a.value; could = λ m c. a.could m (covers_clear k j h m c) }

led_wider : (k j : Kinds) → covers k j ≡ true → (w : List Token) → Led k w → Led j w
led_wider k j h [] a = tt
led_wider k j h (t ∷ w) a = covers_begins k j h (t ∷ w) a

made_wider : {A : Type 0} (L : Way A) (k j l q : Kinds) (e : Bool) → covers k j ≡ true → covers l q ≡ true → e ≡ false → Made L k l e → Made L j q false
made_wider L k j l q e h i z a = record { word = a.word; value = a.value; spelled = λ m c. a.spelled m (covers_clear k j h m c); led = led_wider l q i a.word a.led; blank = λ n. sym z ∙ a.blank n }

-- ---- over what may stand where no more rules may open

abbrev pub MadeRule : (r : Rule) → Way (Value r) → Type 0
MadeRule r L = Made L (bar r) (start r) false

body_made : (d : (r : Rule) → Way (Value r)) → ((r : Rule) → MadeRule r (d r)) → (r : Rule) → MadeRule r (spells d (body r))
body_made d h r = made_wider (spells d (body r)) (barred (body r)) (bar r) (lead (body r)) (start r) (empty (body r)) (body_bar r) (body_lead r) (body_full r) (made d h (body r) (body_fine r))

abbrev RuleActs : (r : Rule) → Way (Value r) → Way (Value r) → Reader (Value r) → Type 0
RuleActs r S L p = Acting p S L (bar r)

abbrev RuleWithin : (r : Rule) → Way (Value r) → Way (Value r) → Type 0
RuleWithin r S L = Within S L

module _ (e : (r : Rule) → Way (Value r)) (made_rule : (r : Rule) → Made (e r) (bar r) (start r) false) where
  unfoldable pub over : Room → (r : Rule) → Way (Value r)
  over full r = e r
  over (room marked function) r = spells (by_rule (over marked) (over function)) (body r)

  abbrev pub over_in : Room → (r : Rule) → Way (Value r)
  over_in full r = e r
  over_in (room marked function) r = by_rule (over marked) (over function) r

  pub over_made : (n : Room) (r : Rule) → MadeRule r (over n r)
  unfolding over
  over_made full r = made_rule r
  over_made (room marked function) r = body_made (over_in (room marked function)) (by_each MadeRule (over marked) (over function) (over_made marked) (over_made function)) r

  pub over_in_made : (n : Room) (r : Rule) → MadeRule r (over_in n r)
  over_in_made full = made_rule
  over_in_made (room marked function) = by_each MadeRule (over marked) (over function) (over_made marked) (over_made function)

  pub over_within : (n : Room) (r : Rule) → Within (spell n r) (over n r)
  unfolding over spell
  over_within full r = λ ts rest v s. absurd s
  over_within (room marked function) r = grows (spell_in (room marked function)) (over_in (room marked function)) (by_two RuleWithin (spell marked) (spell function) (over marked) (over function) (over_within marked) (over_within function)) (body r)

  pub over_in_within : (n : Room) (r : Rule) → Within (spell_in n r) (over_in n r)
  over_in_within full = λ r ts rest v s. absurd s
  over_in_within (room marked function) = by_two RuleWithin (spell marked) (spell function) (over marked) (over function) (over_within marked) (over_within function)

  bottom_acts : (S : (r : Rule) → Way (Value r)) (r : Rule) → Acting (reads full r) (S r) (e r) (bar r)
  unfolding reads
  bottom_acts S r ts = record {
    took = [];
    was = refl;
    again = λ s m h. ap (λ b. Err (if b then deep else syntax, m)) (alike_begins (start r) ts m h);
    to_come = (made_rule r).word;
    value = (made_rule r).value;
    could = (made_rule r).spelled;
  }

  body_acts : (n : Room) → ((r : Rule) → Acting (read_in n r) (spell_in n r) (over_in n r) (bar r)) → (r : Rule) → Acting (read (read_in n) (body r)) (spells (spell_in n) (body r)) (spells (over_in n) (body r)) (bar r)
  body_acts n h r ts = acts_wider (read (read_in n) (body r)) (spells (spell_in n) (body r)) (spells (over_in n) (body r)) (barred (body r)) (bar r) (body_bar r) ts (read (read_in n) (body r) ts)
      (acting (spell_in n) (over_in n) (read_in n) (over_in_within n) (over_in_made n) (room_shortens n) (room_idle n) (room_ready n) h (body r) (body_fine r) ts)

  acts_by : (marked function : Room) → ((r : Rule) → Acting (reads marked r) (spell marked r) (over marked r) (bar r)) → ((r : Rule) → Acting (reads function r) (spell function r) (over function r) (bar r))
      → (r : Rule) → Acting (read_in (room marked function) r) (spell_in (room marked function) r) (over_in (room marked function) r) (bar r)
  acts_by marked function a b = by_three RuleActs (spell marked) (spell function) (over marked) (over function) (reads marked) (reads function) a b

  pub level_acts : (n : Room) (r : Rule) → Acting (reads n r) (spell n r) (over n r) (bar r)
  unfolding over reads spell
  level_acts full r = bottom_acts (spell full) r
  level_acts (room marked function) r = body_acts (room marked function) (acts_by marked function (level_acts marked) (level_acts function)) r

  pub room_acts : (n : Room) (r : Rule) → Acting (read_in n r) (spell_in n r) (over_in n r) (bar r)
  room_acts full = bottom_acts (spell_in full)
  room_acts (room marked function) = acts_by marked function (level_acts marked) (level_acts function)

  pub grammar_acts : (n : Room) {A : Type 0} (g : Grammar A) → fine g ≡ true → Acting (read (read_in n) g) (spells (spell_in n) g) (spells (over_in n) g) (barred g)
  grammar_acts n g ok = acting (spell_in n) (over_in n) (read_in n) (over_in_within n) (over_in_made n) (room_shortens n) (room_idle n) (room_ready n) (room_acts n) g ok

-- ---- without any claim on what could follow

abbrev free : (r : Rule) → Way (Value r)
free r ts rest v = Unit {0}

free_made : (r : Rule) → Made (free r) (bar r) (start r) false
free_made r = record { word = word r; value = any_tree r; spelled = λ m c. tt; led = word_led r; blank = word_some r }

alike_self : (ts : List Token) → Alike ts ts
alike_self [] = tt
alike_self (t ∷ ts) = refl

acts_sound : {A : Type 0} (p : Reader A) (S L : Way A) (k : Kinds) → Acting p S L k → Sound p S
acts_sound {A = A} p S L k a ts rest x = go (p ts) (a ts)
  where
    go : (o : Outcome A) → Acts p S L k ts o → o ≡ Ok (x, rest) → S ts rest x
    go (Ok r) g e = subst (λ l. S l rest x) (sym (h.was)) (h.spelled rest (inl (alike_self rest)))
      where
        h : Got p S k ts x rest
        h = subst (λ z. Got p S k ts z.0 z.1) (ok_same r (x, rest) e) g
    go (Err r) g e = cc

pub level_sound : (n : Room) (r : Rule) → Sound (reads n r) (spell n r)
level_sound n r = acts_sound (reads n r) (spell n r) (over free free_made n r) (bar r) (level_acts free free_made n r)

pub room_sound : (n : Room) (r : Rule) → Sound (read_in n r) (spell_in n r)
room_sound n r = acts_sound (read_in n r) (spell_in n r) (over_in free free_made n r) (bar r) (room_acts free free_made n r)

pub grammar_sound : (n : Room) (A : Type 0) (g : Grammar A) → fine g ≡ true → Sound (read (read_in n) g) (spells (spell_in n) g)
grammar_sound n A g ok = acts_sound (read (read_in n) g) (spells (spell_in n) g) (spells (over_in free free_made n) g) (barred g) (grammar_acts free free_made n g ok)

-- ---- what is spelled is read

abbrev complete_law : Law
complete_law r S o p = Completes S (after r) p

pub level_complete : (n : Room) (r : Rule) → Completes (spell n r) (after r) (reads n r)
unfolding spell
level_complete = law_behind complete_law (λ r ts rest v s c. absurd s)
    (λ n h r ts rest v s c. complete (spell_in n) (read_in n) (spell_in_begins n) (grammar_shrinks n) h (body r) (body_fine r) ts rest v s (covers_clear (more (body r)) (after r) (body_after r) rest c))

pub room_complete : (n : Room) (r : Rule) → Completes (spell_in n r) (after r) (read_in n r)
room_complete = law_where complete_law level_complete

pub grammar_complete : (n : Room) {A : Type 0} (g : Grammar A) → fine g ≡ true → Completes (spells (spell_in n) g) (more g) (read (read_in n) g)
grammar_complete n g ok = complete (spell_in n) (read_in n) (spell_in_begins n) (grammar_shrinks n) (room_complete n) g ok

-- ---- where one rule too many opens

abbrev opens_first_law : Law
opens_first_law r S o p = OpensFirst o (start r)

pub level_opens_first : (n : Room) (r : Rule) → OpensFirst (open_at n r) (start r)
unfolding open_at
level_opens_first = law_behind opens_first_law (λ r ts at h. h.1)
    (λ n h r ts at z. covers_begins (first (body r)) (start r) (body_start r) ts (opens_first (spell_in n) (open_in n) (spell_in_begins n) h (body r) (body_fine r) ts at z))

pub room_opens_first : (n : Room) (r : Rule) → OpensFirst (open_in n r) (start r)
room_opens_first = law_where opens_first_law level_opens_first

abbrev tells_law : Law
tells_law r S o p = Tells o p

pub level_tells : (n : Room) (r : Rule) → Tells (open_at n r) (reads n r)
unfolding open_at reads
level_tells = law_behind tells_law (λ r ts at h. ap (λ b. Err (if b then deep else syntax, ts)) h.1 ∙ ap (λ l. Err (deep, l)) h.0)
    (λ n h r. tells (spell_in n) (open_in n) (read_in n) (spell_in_begins n) (room_opens_first n) (grammar_shrinks n) (room_complete n) h (body r) (body_fine r))

pub room_tells : (n : Room) (r : Rule) → Tells (open_in n r) (read_in n r)
room_tells = law_where tells_law level_tells

pub grammar_tells : (n : Room) {A : Type 0} (g : Grammar A) → fine g ≡ true → Tells (opens (spell_in n) (open_in n) g) (read (read_in n) g)
grammar_tells n g ok = tells (spell_in n) (open_in n) (read_in n) (spell_in_begins n) (room_opens_first n) (grammar_shrinks n) (room_complete n) (room_tells n) g ok

bottom_truly : (r : Rule) → TellsTruly (reads full r) (open_at full r)
unfolding open_at reads
bottom_truly r ts = go (begins (start r) ts) refl
  where
    go : (b : Bool) → begins (start r) ts ≡ b → Told {A = Value r} (open_at full r) (Err (if b then deep else syntax, ts)) ts
    go true e at h = (ap (λ z. z.1) (err_same (deep, ts) (deep, at) h), e)
    go false e at h = absurd (no_deep ts at h)

abbrev truly_law : Law
truly_law r S o p = TellsTruly p o

pub level_truly : (n : Room) (r : Rule) → TellsTruly (reads n r) (open_at n r)
level_truly = law_behind truly_law bottom_truly (λ n h r. truly (spell_in n) (open_in n) (read_in n) (grammar_shrinks n) (grammar_sound n) h (body r) (body_fine r))

pub room_truly : (n : Room) (r : Rule) → TellsTruly (read_in n r) (open_in n r)
room_truly = law_where truly_law level_truly

pub grammar_truly : (n : Room) {A : Type 0} (g : Grammar A) → fine g ≡ true → TellsTruly (read (read_in n) g) (opens (spell_in n) (open_in n) g)
grammar_truly n g ok = truly (spell_in n) (open_in n) (read_in n) (grammar_shrinks n) (grammar_sound n) (room_truly n) g ok

-- ---- over a list of tokens that spells each rule

pub sample_made : (r : Rule) → Made (spell least r) (bar r) (start r) false
sample_made r = go (level_acts free free_made least r (word r))
  where
    same : (g : Got (reads least r) (spell least r) (bar r) (word r) (word_tree r) []) → word r ≡ g.took
    same g = g.was ∙ append-nil g.took

    made_from : Got (reads least r) (spell least r) (bar r) (word r) (word_tree r) [] → Made (spell least r) (bar r) (start r) false
    made_from g = record { word = g.took; value = word_tree r; spelled = λ m c. g.spelled m (inr c); led = subst (λ w. Led (start r) w) (same g) (word_led r); blank = λ z. word_some r (same g ∙ z) }

    go : Acts (reads least r) (spell least r) (over free free_made least r) (bar r) (word r) (reads least r (word r)) → Made (spell least r) (bar r) (start r) false
    go a = made_from (subst (λ o. Acts (reads least r) (spell least r) (over free free_made least r) (bar r) (word r) o) (word_reads r) a)

-- the room with that of a sample in place of none
abbrev pub deepest : Room → Room
deepest full = least
deepest (room marked function) = room (deepest marked) (deepest function)

-- the same where this room is left
abbrev pub deepest_in : Room → Room
deepest_in full = room least least
deepest_in (room marked function) = deepest (room marked function)

abbrev pub over_sample : Room → (r : Rule) → Way (Value r)
over_sample = over (spell least) sample_made

abbrev pub over_sample_in : Room → (r : Rule) → Way (Value r)
over_sample_in = over_in (spell least) sample_made

pub over_spells : (n : Room) (r : Rule) → Within (over_sample n r) (spell (deepest n) r)
unfolding over spell
over_spells full r = λ ts rest v s. s
over_spells (room marked function) r = grows (over_sample_in (room marked function)) (spell_in (deepest (room marked function)))
    (by_two RuleWithin (over_sample marked) (over_sample function) (spell (deepest marked)) (spell (deepest function)) (over_spells marked) (over_spells function)) (body r)

abbrev HasSample : (r : Rule) → Way (Value r) → Type 0
HasSample r L = Within (spell least r) L

pub over_in_spells : (n : Room) (r : Rule) → Within (over_sample_in n r) (spell_in (deepest_in n) r)
over_in_spells full = by_each HasSample (spell least) (spell least) (λ r ts rest v s. s) (λ r ts rest v s. s)
over_in_spells (room marked function) = by_two RuleWithin (over_sample marked) (over_sample function) (spell (deepest marked)) (spell (deepest function)) (over_spells marked) (over_spells function)

pub grammar_over_spells : (n : Room) {A : Type 0} (g : Grammar A) → Within (spells (over_sample_in n) g) (spells (spell_in (deepest_in n)) g)
grammar_over_spells n g = grows (over_sample_in n) (spell_in (deepest_in n)) (over_in_spells n) g
