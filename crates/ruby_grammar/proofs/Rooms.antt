-- What is read in some room is read with the same trees in each room that is enough for it.
use Rattle.std.proofs.Common.{◌≡◌, ◌≤◌, ℕ, zero, suc, ◌+◌, ◌==◌, Bool, true, false, if◌then◌else◌, List, length, slice_get, Option, Some, None, Ok, Err, sym, ap, subst, ◌∙◌, arith}
use Rattle.ruby_grammar.specs.declared.token.Token.{Token}
use Rattle.ruby_grammar.specs.declared.room.Room.{Room}
use Rattle.ruby_grammar.specs.declared.room.Budget.{Budget}
use Rattle.ruby_grammar.specs.declared.room.Budget.TheVariants as budget
use Rattle.ruby_grammar.specs.declared.step.Step.{Step}
use Rattle.ruby_grammar.specs.declared.part.Part.{Part, roll-Part}
use Rattle.ruby_grammar.specs.declared.part.Rule.{Rule}
use Rattle.ruby_grammar.specs.declared.part.Part.TheOpen.{Part-F}
use Rattle.ruby_grammar.specs.declared.part.Part.TheFolds.{fold-roll-Part, map-Part, ind-Part}
use Rattle.ruby_grammar.specs.Steps.{no_more, full_chain, counted_step, on_step}
use Rattle.ruby_grammar.specs.Meaning.{Meaning, links, nothing, means_layer, means, rule_means, called, inside, within, opens, opens_rules, opens_words}
use Rattle.ruby_grammar.specs.Memos.{Fits}
use Rattle.ruby_grammar.proofs.Keeps.{on_step_ok, ok, ok_same, no_more_ends, full_chain_ends}
use Rattle.ruby_grammar.proofs.SameTrees.{Same, KeepsAll, all_same, all_both, all_either, all_turns, all_not, all_label, all_chained, all_ended, all_guarded}
use Rattle.ruby_grammar.proofs.Within.{within_inside}

-- ---- parts

module _ (tokens : List Token) (room : Room) (opens1 opens2 : Budget → ℕ → Meaning) (calls1 calls2 : ℕ → Meaning)
    (kept_opens : (b : Budget) (r : ℕ) → KeepsAll room (opens1 b r) (opens2 b r)) (kept_calls : (r : ℕ) → KeepsAll room (calls1 r) (calls2 r)) where
  abbrev first : Part → Meaning
  first = means tokens opens1 calls1

  abbrev second : Part → Meaning
  second = means tokens opens2 calls2

  abbrev KeepsPart : Part → Type 0
  KeepsPart part = KeepsAll room (first part) (second part)

  abbrev Kept : Type 0
  Kept = (part : Part) × KeepsPart part

  abbrev bare : Part-F Kept → Part-F Part
  bare = map-Part Kept Part (λ e. e.0)

  -- the layer's readings are those of the part
  as_part : (x : Part-F Part) → KeepsAll room (means_layer tokens opens1 calls1 (map-Part Part Meaning first x)) (means_layer tokens opens2 calls2 (map-Part Part Meaning second x)) → KeepsPart (roll-Part x)
  as_part x kept = subst (λ (m : Meaning). KeepsAll room m (second (roll-Part x))) (sym (fold-roll-Part Meaning (means_layer tokens opens1 calls1) x))
      (subst (λ (m : Meaning). KeepsAll room (means_layer tokens opens1 calls1 (map-Part Part Meaning first x)) m) (sym (fold-roll-Part Meaning (means_layer tokens opens2 calls2) x)) kept)

  layer_keeps : (y : Part-F Kept) → KeepsPart (roll-Part (bare y))
  layer_keeps Part-F.Empty = as_part Part-F.Empty (all_same room (means_layer tokens opens1 calls1 Part-F.Empty))
  layer_keeps (Part-F.Token set) = as_part (Part-F.Token set) (all_same room (means_layer tokens opens1 calls1 (Part-F.Token set)))
  layer_keeps (Part-F.Both p q) = as_part (Part-F.Both p.0 q.0) (all_both room (first p.0) (second p.0) (first q.0) (second q.0) p.1 q.1)
  layer_keeps (Part-F.Either p q) = as_part (Part-F.Either p.0 q.0) (all_either room (first p.0) (second p.0) (first q.0) (second q.0) p.1 q.1)
  layer_keeps (Part-F.Many p) = as_part (Part-F.Many p.0) (all_turns (length tokens + 1) room no_more (first p.0) (second p.0) (no_more_ends room) p.1)
  layer_keeps (Part-F.Chain head p) = as_part (Part-F.Chain head p.0) (all_turns links room (full_chain tokens head) (first p.0) (second p.0) (full_chain_ends room tokens head) p.1)
  layer_keeps (Part-F.Not p) = as_part (Part-F.Not p.0) (all_not room (first p.0) (second p.0) p.1)
  layer_keeps (Part-F.Label name p) = as_part (Part-F.Label name p.0) (all_label room name (first p.0) (second p.0) p.1)
  layer_keeps (Part-F.Chained name p) = as_part (Part-F.Chained name p.0) (all_chained room name (first p.0) (second p.0) p.1)
  layer_keeps (Part-F.Call r) = as_part (Part-F.Call r) (kept_calls r)
  layer_keeps (Part-F.Open b r) = as_part (Part-F.Open b r) (kept_opens b r)
  layer_keeps (Part-F.Ended labels p) = as_part (Part-F.Ended labels p.0) (all_ended room labels (first p.0) (second p.0) p.1)
  layer_keeps (Part-F.Guarded table p) = as_part (Part-F.Guarded table p.0) (all_guarded room tokens table (first p.0) (second p.0) p.1)

  pub part_keeps : (part : Part) → KeepsPart part
  part_keeps = ind-Part KeepsPart (λ x y is. subst (λ z. KeepsPart (roll-Part z)) is (layer_keeps y))

  pub rule_keeps : (o : Option Rule) → KeepsAll room (rule_means tokens opens1 calls1 o) (rule_means tokens opens2 calls2 o)
  rule_keeps None = all_same room nothing
  rule_keeps (Some rule) = part_keeps rule.part

-- ---- rules

module _ (rules : List Rule) (tokens : List Token) (room : Room) (opens1 opens2 : Budget → ℕ → Meaning)
    (kept_opens : (b : Budget) (r : ℕ) → KeepsAll room (opens1 b r) (opens2 b r)) where
  keeps_test : (b : Bool) (m1 m2 k1 k2 : Meaning) → KeepsAll room m1 m2 → KeepsAll room k1 k2 → KeepsAll room (if b then m1 else k1) (if b then m2 else k2)
  keeps_test true m1 m2 k1 k2 m k = m
  keeps_test false m1 m2 k1 k2 m k = k

  called_keeps : (n r : ℕ) → KeepsAll room (called rules tokens opens1 n r) (called rules tokens opens2 n r)
  unfolding called
  called_keeps zero r = all_same room nothing
  called_keeps (suc n) r = keeps_test (r == n) (rule_means tokens opens1 (called rules tokens opens1 n) (slice_get rules n)) (rule_means tokens opens2 (called rules tokens opens2 n) (slice_get rules n)) (called rules tokens opens1 n r) (called rules tokens opens2 n r)
      (rule_keeps tokens room opens1 opens2 (called rules tokens opens1 n) (called rules tokens opens2 n) kept_opens (called_keeps n) (slice_get rules n)) (called_keeps n r)

  pub inside_keeps : (r : ℕ) → KeepsAll room (inside rules tokens opens1 r) (inside rules tokens opens2 r)
  inside_keeps r = rule_keeps tokens room opens1 opens2 (called rules tokens opens1 r) (called rules tokens opens2 r) kept_opens (called_keeps r) (slice_get rules r)

-- ---- rooms

-- what the rules read in this room is read with the same trees in every room that is enough for it
abbrev pub WithinKeeps : List Rule → List Token → ℕ → ℕ → Type 0
WithinKeeps rules tokens a b = (room : Room) (r : ℕ) → KeepsAll room (within rules tokens a b r) (within rules tokens room.rules room.words r)

abbrev RulesKeep : List Rule → List Token → ℕ → ℕ → Type 0
RulesKeep rules tokens a b = (room : Room) (r : ℕ) → KeepsAll room (opens_rules rules tokens a b r) (opens_rules rules tokens room.rules room.words r)

abbrev WordsKeep : List Rule → List Token → ℕ → ℕ → Type 0
WordsKeep rules tokens a b = (room : Room) (r : ℕ) → KeepsAll room (opens_words rules tokens a b r) (opens_words rules tokens room.rules room.words r)

-- what is opened and counted is read by this with the trees of that
abbrev ReadsAs : Meaning → Meaning → ℕ → Step → Type 0
ReadsAs m n i t = (n.step i ≡ Ok t) × Same t.next (m.trees i) (n.trees i)

more_rules : (rules : List Rule) (tokens : List Token) (a b : ℕ) → WithinKeeps rules tokens a b → (n m r i : ℕ) (s t : Step) → (within rules tokens a b r).step i ≡ Ok s → ok (counted_step budget.Rules s) ≡ ok t → s.need.rules + 1 ≤ n → s.need.words ≤ m → ReadsAs (within rules tokens a b r) (opens_rules rules tokens n m r) i t
more_rules rules tokens a b kept zero m r i s t read is some fit = absurd (omega arith)
more_rules rules tokens a b kept (suc n) m r i s t read is some fit =
    let same = kept (record { rules = n; words = m }) r i s read (omega arith, fit) in (
      ap (λ x. on_step x (λ s. Ok (counted_step budget.Rules s))) same.0 ∙ is,
      subst (λ (x : Step). Same x.next ((within rules tokens a b r).trees i) ((within rules tokens n m r).trees i)) (ok_same (counted_step budget.Rules s) t is) same.1,
    )

more_words : (rules : List Rule) (tokens : List Token) (a b : ℕ) → WithinKeeps rules tokens a b → (n m r i : ℕ) (s t : Step) → (within rules tokens a b r).step i ≡ Ok s → ok (counted_step budget.Words s) ≡ ok t → s.need.rules ≤ n → s.need.words + 1 ≤ m → ReadsAs (within rules tokens a b r) (opens_words rules tokens n m r) i t
more_words rules tokens a b kept n zero r i s t read is fit some = absurd (omega arith)
more_words rules tokens a b kept n (suc m) r i s t read is fit some =
    let same = kept (record { rules = n; words = m }) r i s read (fit, omega arith) in (
      ap (λ x. on_step x (λ s. Ok (counted_step budget.Words s))) same.0 ∙ is,
      subst (λ (x : Step). Same x.next ((within rules tokens a b r).trees i) ((within rules tokens n m r).trees i)) (ok_same (counted_step budget.Words s) t is) same.1,
    )

never : {P : Type 0} (i : ℕ) (s : Step) → Err i ≡ Ok s → P
never i s e = absurd (cc e)

rules_keep : (rules : List Rule) (tokens : List Token) (a b : ℕ) → WithinKeeps rules tokens a b → RulesKeep rules tokens (suc a) b
rules_keep rules tokens a b kept room r i t e fits =
    let found = on_step_ok ((within rules tokens a b r).step i) (λ s. Ok (counted_step budget.Rules s)) t e in
    let enough = subst (λ (s : Step). Fits s.need room) (sym (ok_same (counted_step budget.Rules found.0) t found.2)) fits in
    more_rules rules tokens a b kept room.rules room.words r i found.0 t found.1 found.2 enough.0 enough.1

words_keep : (rules : List Rule) (tokens : List Token) (a b : ℕ) → WithinKeeps rules tokens a b → WordsKeep rules tokens a (suc b)
words_keep rules tokens a b kept room r i t e fits =
    let found = on_step_ok ((within rules tokens a b r).step i) (λ s. Ok (counted_step budget.Words s)) t e in
    let enough = subst (λ (s : Step). Fits s.need room) (sym (ok_same (counted_step budget.Words found.0) t found.2)) fits in
    more_words rules tokens a b kept room.rules room.words r i found.0 t found.1 found.2 enough.0 enough.1

opens_keep : (rules : List Rule) (tokens : List Token) (a b : ℕ) → RulesKeep rules tokens a b → WordsKeep rules tokens a b → (room : Room) (c : Budget) (r : ℕ) → KeepsAll room (opens rules tokens a b c r) (opens rules tokens room.rules room.words c r)
opens_keep rules tokens a b by_rule by_word room budget.Rules r = by_rule room r
opens_keep rules tokens a b by_rule by_word room budget.Words r = by_word room r

both_keep : (rules : List Rule) (tokens : List Token) (a b : ℕ) → RulesKeep rules tokens a b → WordsKeep rules tokens a b → WithinKeeps rules tokens a b
both_keep rules tokens a b by_rule by_word room r =
    subst (λ (m : Meaning). KeepsAll room m (within rules tokens room.rules room.words r)) (sym (within_inside rules tokens a b r))
    (subst (λ (m : Meaning). KeepsAll room (inside rules tokens (opens rules tokens a b) r) m) (sym (within_inside rules tokens room.rules room.words r))
    (inside_keeps rules tokens room (opens rules tokens a b) (opens rules tokens room.rules room.words) (opens_keep rules tokens a b by_rule by_word room) r))

by_words : (rules : List Rule) (tokens : List Token) (a : ℕ) → ((b : ℕ) → RulesKeep rules tokens a b) → (b : ℕ) → WithinKeeps rules tokens a b
by_words rules tokens a by_rule zero = both_keep rules tokens a zero (by_rule zero) (λ room r i s e fits. never i s e)
by_words rules tokens a by_rule (suc b) = both_keep rules tokens a (suc b) (by_rule (suc b)) (words_keep rules tokens a b (by_words rules tokens a by_rule b))

-- A rule reads in each room that is enough what it reads in one, with the same trees.
pub within_keeps : (rules : List Rule) (tokens : List Token) (a b : ℕ) → WithinKeeps rules tokens a b
within_keeps rules tokens zero b = by_words rules tokens zero (λ b room r i s e fits. never i s e) b
within_keeps rules tokens (suc a) b = by_words rules tokens (suc a) (λ b. rules_keep rules tokens a b (within_keeps rules tokens a b)) b
