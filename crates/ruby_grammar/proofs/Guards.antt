-- Guards change nothing of what a grammar derives.
use Rattle.std.proofs.Common.{◌≡◌, inl, inr, ℕ, zero, suc, ◌+◌, ◌==◌, max, Bool, true, false, ◌||◌, ◌&&◌, if◌then◌else◌, List, [], ◌∷◌, ◌++◌, length, map, slice_get, Option, Some, None, option_map, Ok, refl, sym, ap, subst, ◌∙◌, arith}
use Rattle.std.proofs.Math.Path.{fun_ext}
use Rattle.std.proofs.lemmas.Option.{slice_get-map}
use Rattle.std.proofs.lemmas.Bool.{cases_lt}
use Rattle.std.proofs.lemmas.Grind.{common_steps}
use Rattle.ruby_grammar.specs.declared.token.Token.{Token}
use Rattle.ruby_grammar.specs.declared.set.TokenSet.{TokenSet}
use Rattle.ruby_grammar.specs.declared.room.Budget.{Budget}
use Rattle.ruby_grammar.specs.declared.room.Budget.TheVariants as budget
use Rattle.ruby_grammar.specs.declared.part.Part.{Part, roll-Part}
use Rattle.ruby_grammar.specs.declared.part.Part.TheVariants as p
use Rattle.ruby_grammar.specs.declared.part.Rule.{Rule}
use Rattle.ruby_grammar.specs.declared.part.Part.TheOpen.{Part-F}
use Rattle.ruby_grammar.specs.declared.part.Part.TheFolds.{fold-roll-Part, map-Part, ind-Part}
use Rattle.ruby_grammar.specs.Tokens.{or_false, or_true, blank_fits, may_stand}
use Rattle.ruby_grammar.specs.Steps.{Reading, passed, failed, on_step, token_step, go_on, both_read, or_try, either_read, or_else, marked, marked_read, ended_step, ended_read, guarded_read}
use Rattle.ruby_grammar.specs.Meaning.{Meaning, nothing, means_layer, means, rule_means, called, inside, within, opens, opens_rules, opens_words, counted}
use Rattle.ruby_grammar.specs.Firsts.{First, union, first_of_either, known, first_layer, first, first_of_rule, firsts, is_token, guarded_by, guard, guarded_layer, guarded, guarded_rule, guarded_rules}
use Rattle.ruby_grammar.proofs.Within.{within_inside, called_below, called_above}

-- ---- what fails but at some tokens

-- It fails at once, but where the table lets a token stand.
abbrev FailsBut : List Token → First → Reading → Type 0
FailsBut tokens None read = Unit {0}
FailsBut tokens (Some table) read = (i : ℕ) → may_stand table (slice_get tokens i) ≡ false → read i ≡ Ok (failed i)

abbrev Covers : List Token → List First → (ℕ → Meaning) → Type 0
Covers tokens firsts calls = (r : ℕ) → FailsBut tokens (known (slice_get firsts r)) (calls r).step

-- ---- tables

out_of_set : (o : Option Bool) → or_true o ≡ false → or_false o ≡ false
out_of_set None e = absurd (cc e)
out_of_set (Some b) e = e

if_false : {A : Type 0} (b : Bool) (x y : A) → b ≡ false → (if b then x else y) ≡ y
if_false b x y e = ap (λ b. if b then x else y) e

if_same : {A : Type 0} (b : Bool) (x y : A) → x ≡ y → (if b then x else y) ≡ y
if_same true x y e = e
if_same false x y e = refl

token_fails : (set : TokenSet) (i : ℕ) (o : Option Token) → may_stand set.kinds o ≡ false → token_step set i o ≡ failed i
token_fails set i None e = refl
token_fails set i (Some t) e = ap (λ b. if (b && blank_fits set.blank t.blank) then passed (i + 1) else failed i) (out_of_set (slice_get set.kinds t.kind) e)

or_first : (a b : Bool) → (a || b) ≡ false → a ≡ false
or_first true b e = e
or_first false b e = refl

or_second : (a b : Bool) → (a || b) ≡ false → b ≡ false
or_second true b e = absurd (cc e)
or_second false b e = e

in_union : (a b : List Bool) (n : ℕ) → or_true (slice_get (union a b) n) ≡ false → (or_true (slice_get a n) ≡ false) × (or_true (slice_get b n) ≡ false)
in_union [] b n e = absurd (let never : true ≡ false = e in cc never)
in_union (x ∷ a) [] n e = absurd (let never : true ≡ false = e in cc never)
in_union (x ∷ a) (y ∷ b) zero e = (or_first x y e, or_second x y e)
in_union (x ∷ a) (y ∷ b) (suc n) e = in_union a b n e

stands_in : (a b : List Bool) (o : Option Token) → may_stand (union a b) o ≡ false → (may_stand a o ≡ false) × (may_stand b o ≡ false)
stands_in a b None e = (refl, refl)
stands_in a b (Some t) e = in_union a b t.kind e

-- ---- readings

fails_both : (tokens : List Token) (f : First) (p q : Reading) → FailsBut tokens f p → FailsBut tokens f (both_read p q)
fails_both tokens None p q fails = tt
fails_both tokens (Some table) p q fails = λ i out. ap (λ r. on_step r (λ s. go_on q s s.next)) (fails i out)

max_same : (n : ℕ) → max n n ≡ n
max_same n = grind (arith, common_steps)

fails_either : (tokens : List Token) (f g : First) (p q : Reading) → FailsBut tokens f p → FailsBut tokens g q → FailsBut tokens (first_of_either f g) (either_read p q)
fails_either tokens None g p q fails_p fails_q = tt
fails_either tokens (Some a) None p q fails_p fails_q = tt
fails_either tokens (Some a) (Some b) p q fails_p fails_q = λ i out.
    let apart = stands_in a b (slice_get tokens i) out in
    ap (λ r. on_step r (λ s. or_try q i s s.next)) (fails_p i apart.0)
    ∙ ap (λ r. on_step r (λ t. Ok (or_else (failed i) t))) (fails_q i apart.1)
    ∙ ap (λ n. Ok (failed n)) (max_same i)

fails_marked : (tokens : List Token) (f : First) (name : ℕ) (p : Reading) → FailsBut tokens f p → FailsBut tokens f (marked_read name p)
fails_marked tokens None name p fails = tt
fails_marked tokens (Some table) name p fails = λ i out. ap (λ r. on_step r (λ s. Ok (marked name s))) (fails i out)

fails_ended : (tokens : List Token) (f : First) (labels : List Bool) (p : Reading) → FailsBut tokens f p → FailsBut tokens f (ended_read labels p)
fails_ended tokens None labels p fails = tt
fails_ended tokens (Some table) labels p fails = λ i out. ap (λ r. on_step r (λ s. Ok (ended_step labels i s s.next))) (fails i out)

fails_guarded : (tokens : List Token) (f : First) (table : List Bool) (p : Reading) → FailsBut tokens f p → FailsBut tokens f (guarded_read tokens table p)
fails_guarded tokens None table p fails = tt
fails_guarded tokens (Some other) table p fails = λ i out. if_same (may_stand table (slice_get tokens i)) (p i) (Ok (failed i)) (fails i out)

-- a guard before what fails there anyhow
guarded_same : (tokens : List Token) (table : List Bool) (p : Reading) → FailsBut tokens (Some table) p → (i : ℕ) (b : Bool) → may_stand table (slice_get tokens i) ≡ b → (if b then p i else Ok (failed i)) ≡ p i
guarded_same tokens table p fails i true e = refl
guarded_same tokens table p fails i false e = sym (fails i e)

-- ---- parts

module _ (tokens : List Token) (all : List First) (opens : Budget → ℕ → Meaning) (calls : ℕ → Meaning) (covers : Covers tokens all calls) where
  abbrev FailsPart : Part → Type 0
  FailsPart part = FailsBut tokens (first all part) (means tokens opens calls part).step

  abbrev Known : Type 0
  Known = (part : Part) × FailsPart part

  abbrev bare : Part-F Known → Part-F Part
  bare = map-Part Known Part (λ e. e.0)

  as_part : (x : Part-F Part) → FailsBut tokens (first_layer all (map-Part Part First (first all) x)) (means_layer tokens opens calls (map-Part Part Meaning (means tokens opens calls) x)).step → FailsPart (roll-Part x)
  as_part x fails = subst (λ (f : First). FailsBut tokens f (means tokens opens calls (roll-Part x)).step) (sym (fold-roll-Part First (first_layer all) x))
      (subst (λ (m : Meaning). FailsBut tokens (first_layer all (map-Part Part First (first all) x)) m.step) (sym (fold-roll-Part Meaning (means_layer tokens opens calls) x)) fails)

  layer_fails : (y : Part-F Known) → FailsPart (roll-Part (bare y))
  layer_fails Part-F.Empty = as_part Part-F.Empty tt
  layer_fails (Part-F.Token set) = as_part (Part-F.Token set) (λ i out. ap Ok (token_fails set i (slice_get tokens i) out))
  layer_fails (Part-F.Both p q) = as_part (Part-F.Both p.0 q.0) (fails_both tokens _ _ _ p.1)
  layer_fails (Part-F.Either p q) = as_part (Part-F.Either p.0 q.0) (fails_either tokens _ _ _ _ p.1 q.1)
  layer_fails (Part-F.Many p) = as_part (Part-F.Many p.0) tt
  layer_fails (Part-F.Chain head p) = as_part (Part-F.Chain head p.0) tt
  layer_fails (Part-F.Not p) = as_part (Part-F.Not p.0) tt
  layer_fails (Part-F.Label name p) = as_part (Part-F.Label name p.0) (fails_marked tokens _ name _ p.1)
  layer_fails (Part-F.Chained name p) = as_part (Part-F.Chained name p.0) (fails_marked tokens _ name _ p.1)
  layer_fails (Part-F.Call r) = as_part (Part-F.Call r) (covers r)
  layer_fails (Part-F.Open b r) = as_part (Part-F.Open b r) tt
  layer_fails (Part-F.Ended labels p) = as_part (Part-F.Ended labels p.0) (fails_ended tokens _ labels _ p.1)
  layer_fails (Part-F.Guarded table p) = as_part (Part-F.Guarded table p.0) (fails_guarded tokens _ table _ p.1)

  part_fails : (part : Part) → FailsPart part
  part_fails = ind-Part FailsPart (λ x y is. subst (λ z. FailsPart (roll-Part z)) is (layer_fails y))

  -- ---- guards

  abbrev meant : Part → Meaning
  meant = means tokens opens calls

  abbrev layer : Part-F Meaning → Meaning
  layer = means_layer tokens opens calls

  by_layer : (x : Part-F Part) → meant (roll-Part x) ≡ layer (map-Part Part Meaning meant x)
  by_layer x = fold-roll-Part Meaning (means_layer tokens opens calls) x

  guard_by : (f : First) (part : Part) → FailsBut tokens f (meant part).step → meant (guarded_by f part) ≡ meant part
  guard_by None part fails = refl
  guard_by (Some table) part fails =
      ap meant (sym (p.rolls-Guarded table part)) ∙ by_layer (Part-F.Guarded table part)
      ∙ ap (λ (s : Reading). record { step = s; trees = (meant part).trees }) (fun_ext (λ i. guarded_same tokens table (meant part).step fails i (may_stand table (slice_get tokens i)) refl))

  guard_if : (b : Bool) (part : Part) → meant (if b then part else guarded_by (first all part) part) ≡ meant part
  guard_if true part = refl
  guard_if false part = guard_by (first all part) part (part_fails part)

  guard_same : (part : Part) → meant (guard all part) ≡ meant part
  unfolding guard
  guard_same part = guard_if (is_token part) part

  abbrev SamePart : Part → Type 0
  SamePart part = meant (guarded all part) ≡ meant part

  abbrev Same : Type 0
  Same = (part : Part) × SamePart part

  abbrev bare_same : Part-F Same → Part-F Part
  bare_same = map-Part Same Part (λ e. e.0)

  -- a layer with guards means what the layer does
  same_by : (x : Part-F Part) → meant (guarded_layer all (map-Part Part Part (guarded all) x)) ≡ meant (roll-Part x) → SamePart (roll-Part x)
  same_by x e = ap meant (fold-roll-Part Part (guarded_layer all) x) ∙ e

  tried_same : (part : Part) → SamePart part → meant (guard all (guarded all part)) ≡ meant part
  tried_same part e = guard_same (guarded all part) ∙ e

  same_layer : (y : Part-F Same) → SamePart (roll-Part (bare_same y))
  same_layer Part-F.Empty = same_by Part-F.Empty (ap meant (sym p.rolls-Empty))
  same_layer (Part-F.Token set) = same_by (Part-F.Token set) (ap meant (sym (p.rolls-Token set)))
  same_layer (Part-F.Both a b) = same_by (Part-F.Both a.0 b.0)
      (ap meant (sym (p.rolls-Both (guarded all a.0) (guarded all b.0))) ∙ by_layer (Part-F.Both (guarded all a.0) (guarded all b.0))
      ∙ ap (λ m. layer (Part-F.Both m (meant (guarded all b.0)))) a.1 ∙ ap (λ m. layer (Part-F.Both (meant a.0) m)) b.1 ∙ sym (by_layer (Part-F.Both a.0 b.0)))
  same_layer (Part-F.Either a b) = same_by (Part-F.Either a.0 b.0)
      (ap meant (sym (p.rolls-Either (guard all (guarded all a.0)) (guard all (guarded all b.0)))) ∙ by_layer (Part-F.Either (guard all (guarded all a.0)) (guard all (guarded all b.0)))
      ∙ ap (λ m. layer (Part-F.Either m (meant (guard all (guarded all b.0))))) (tried_same a.0 a.1) ∙ ap (λ m. layer (Part-F.Either (meant a.0) m)) (tried_same b.0 b.1) ∙ sym (by_layer (Part-F.Either a.0 b.0)))
  same_layer (Part-F.Many a) = same_by (Part-F.Many a.0)
      (ap meant (sym (p.rolls-Many (guard all (guarded all a.0)))) ∙ by_layer (Part-F.Many (guard all (guarded all a.0))) ∙ ap (λ m. layer (Part-F.Many m)) (tried_same a.0 a.1) ∙ sym (by_layer (Part-F.Many a.0)))
  same_layer (Part-F.Chain head a) = same_by (Part-F.Chain head a.0)
      (ap meant (sym (p.rolls-Chain head (guard all (guarded all a.0)))) ∙ by_layer (Part-F.Chain head (guard all (guarded all a.0))) ∙ ap (λ m. layer (Part-F.Chain head m)) (tried_same a.0 a.1) ∙ sym (by_layer (Part-F.Chain head a.0)))
  same_layer (Part-F.Not a) = same_by (Part-F.Not a.0)
      (ap meant (sym (p.rolls-Not (guarded all a.0))) ∙ by_layer (Part-F.Not (guarded all a.0)) ∙ ap (λ m. layer (Part-F.Not m)) a.1 ∙ sym (by_layer (Part-F.Not a.0)))
  same_layer (Part-F.Label name a) = same_by (Part-F.Label name a.0)
      (ap meant (sym (p.rolls-Label name (guarded all a.0))) ∙ by_layer (Part-F.Label name (guarded all a.0)) ∙ ap (λ m. layer (Part-F.Label name m)) a.1 ∙ sym (by_layer (Part-F.Label name a.0)))
  same_layer (Part-F.Chained name a) = same_by (Part-F.Chained name a.0)
      (ap meant (sym (p.rolls-Chained name (guarded all a.0))) ∙ by_layer (Part-F.Chained name (guarded all a.0)) ∙ ap (λ m. layer (Part-F.Chained name m)) a.1 ∙ sym (by_layer (Part-F.Chained name a.0)))
  same_layer (Part-F.Call r) = same_by (Part-F.Call r) (ap meant (sym (p.rolls-Call r)))
  same_layer (Part-F.Open b r) = same_by (Part-F.Open b r) (ap meant (sym (p.rolls-Open b r)))
  same_layer (Part-F.Ended labels a) = same_by (Part-F.Ended labels a.0)
      (ap meant (sym (p.rolls-Ended labels (guarded all a.0))) ∙ by_layer (Part-F.Ended labels (guarded all a.0)) ∙ ap (λ m. layer (Part-F.Ended labels m)) a.1 ∙ sym (by_layer (Part-F.Ended labels a.0)))
  same_layer (Part-F.Guarded table a) = same_by (Part-F.Guarded table a.0)
      (ap meant (sym (p.rolls-Guarded table (guarded all a.0))) ∙ by_layer (Part-F.Guarded table (guarded all a.0)) ∙ ap (λ m. layer (Part-F.Guarded table m)) a.1 ∙ sym (by_layer (Part-F.Guarded table a.0)))

  part_same : (part : Part) → SamePart part
  part_same = ind-Part SamePart (λ x y is. subst (λ z. SamePart (roll-Part z)) is (same_layer y))

  rule_same : (o : Option Rule) → rule_means tokens opens calls (option_map (guarded_rule all) o) ≡ rule_means tokens opens calls o
  rule_same None = refl
  rule_same (Some rule) = tried_same rule.part (part_same rule.part)

  rule_fails : (o : Option Rule) → FailsBut tokens (first_of_rule all o) (rule_means tokens opens calls o).step
  rule_fails None = tt
  rule_fails (Some rule) = part_fails rule.part

-- ---- rules

-- what is known of each of a list and of one more
with_last : (fs : List First) (f : First) (P : ℕ → First → Type 0) → ((r : ℕ) → P r None) → ((r : ℕ) → P r (known (slice_get fs r))) → P (length fs) f → (r : ℕ) → P r (known (slice_get (fs ++ f ∷ []) r))
with_last [] f P of_none before here zero = here
with_last [] f P of_none before here (suc r) = of_none (suc r)
with_last (g ∷ fs) f P of_none before here zero = before zero
with_last (g ∷ fs) f P of_none before here (suc r) = with_last fs f (λ r. P (suc r)) (λ r. of_none (suc r)) (λ r. before (suc r)) here r

length_last : (fs : List First) (f : First) → length (fs ++ f ∷ []) ≡ suc (length fs)
length_last [] f = refl
length_last (g ∷ fs) f = ap suc (length_last fs f)

count : (rules : List Rule) (n : ℕ) → length (firsts rules n) ≡ n
unfolding firsts
count rules zero = refl
count rules (suc n) = length_last (firsts rules n) (first_of_rule (firsts rules n) (slice_get rules n)) ∙ ap suc (count rules n)

nothing_fails : (tokens : List Token) (f : First) → FailsBut tokens f nothing.step
nothing_fails tokens None = tt
nothing_fails tokens (Some table) = λ i out. refl

module _ (rules : List Rule) (tokens : List Token) (open_as : Budget → ℕ → Meaning) where
  abbrev InsideFails : ℕ → First → Type 0
  InsideFails r f = FailsBut tokens f (inside rules tokens open_as r).step

  abbrev calls : ℕ → ℕ → Meaning
  calls n = called rules tokens open_as n

  -- what is known of the rules covers what is called, whatever the bound
  calls_fail : (n : ℕ) (fs : List First) → ((r : ℕ) → InsideFails r (known (slice_get fs r))) → Covers tokens fs (calls n)
  calls_fail n fs all r = elim (cases_lt r n) [
    | inl below ↦ subst (λ (m : Meaning). FailsBut tokens (known (slice_get fs r)) m.step) (sym (called_below rules tokens open_as n r below)) (all r)
    | inr above ↦ subst (λ (m : Meaning). FailsBut tokens (known (slice_get fs r)) m.step) (sym (called_above rules tokens open_as n r above)) (nothing_fails tokens (known (slice_get fs r)))
  ]

  insides_fail : (n r : ℕ) → InsideFails r (known (slice_get (firsts rules n) r))
  unfolding firsts
  insides_fail zero r = tt
  insides_fail (suc n) r = with_last (firsts rules n) (first_of_rule (firsts rules n) (slice_get rules n)) InsideFails (λ k. tt) (insides_fail n)
      (subst (λ k. InsideFails k (first_of_rule (firsts rules n) (slice_get rules n))) (sym (count rules n))
      (rule_fails tokens (firsts rules n) open_as (calls n) (calls_fail n (firsts rules n) (insides_fail n)) (slice_get rules n))) r

  abbrev all : List First
  all = firsts rules (length rules)

  covered : (n : ℕ) → Covers tokens all (calls n)
  covered n = calls_fail n all (insides_fail (length rules))

  abbrev new : List Rule
  new = map (guarded_rule all) rules

  -- the rule of a number, where the same is called
  rule_with : (n r : ℕ) → rule_means tokens open_as (calls n) (slice_get new r) ≡ rule_means tokens open_as (calls n) (slice_get rules r)
  rule_with n r = ap (rule_means tokens open_as (calls n)) (slice_get-map (guarded_rule all) rules r) ∙ rule_same tokens all open_as (calls n) (covered n) (slice_get rules r)

  called_same : (n r : ℕ) → called new tokens open_as n r ≡ calls n r
  unfolding called
  called_same zero r = refl
  called_same (suc n) r =
      ap (λ m. if r == n then m else called new tokens open_as n r)
      (ap (λ k. rule_means tokens open_as k (slice_get new n)) (fun_ext (called_same n)) ∙ rule_with n n)
      ∙ ap (λ m. if r == n then rule_means tokens open_as (calls n) (slice_get rules n) else m) (called_same n r)

  inside_same : (r : ℕ) → inside new tokens open_as r ≡ inside rules tokens open_as r
  inside_same r = ap (λ k. rule_means tokens open_as k (slice_get new r)) (fun_ext (called_same r)) ∙ rule_with r r

-- ---- rooms

module _ (rules : List Rule) (tokens : List Token) where
  abbrev with_guards : List Rule
  with_guards = map (guarded_rule (firsts rules (length rules))) rules

  abbrev SameIn : ℕ → ℕ → Type 0
  SameIn a b = (r : ℕ) → within with_guards tokens a b r ≡ within rules tokens a b r

  by_budget_same : (a b : ℕ) → ((r : ℕ) → opens_rules with_guards tokens a b r ≡ opens_rules rules tokens a b r) → ((r : ℕ) → opens_words with_guards tokens a b r ≡ opens_words rules tokens a b r) → (c : Budget) → opens with_guards tokens a b c ≡ opens rules tokens a b c
  by_budget_same a b by_rule by_word budget.Rules = fun_ext by_rule
  by_budget_same a b by_rule by_word budget.Words = fun_ext by_word

  within_both : (a b : ℕ) → ((r : ℕ) → opens_rules with_guards tokens a b r ≡ opens_rules rules tokens a b r) → ((r : ℕ) → opens_words with_guards tokens a b r ≡ opens_words rules tokens a b r) → SameIn a b
  within_both a b by_rule by_word r =
      within_inside with_guards tokens a b r
      ∙ inside_same rules tokens (opens with_guards tokens a b) r
      ∙ ap (λ (o : Budget → ℕ → Meaning). inside rules tokens o r) (fun_ext (by_budget_same a b by_rule by_word))
      ∙ sym (within_inside rules tokens a b r)

  by_words : (a : ℕ) → ((b r : ℕ) → opens_rules with_guards tokens a b r ≡ opens_rules rules tokens a b r) → (b : ℕ) → SameIn a b
  by_words a by_rule zero = within_both a zero (by_rule zero) (λ r. refl)
  by_words a by_rule (suc b) = within_both a (suc b) (by_rule (suc b)) (λ r. ap (counted budget.Words) (by_words a by_rule b r))

  in_rooms : (a b : ℕ) → SameIn a b
  in_rooms zero = by_words zero (λ b r. refl)
  in_rooms (suc a) = by_words (suc a) (λ b r. ap (counted budget.Rules) (in_rooms a b r))

-- The rules with guards mean in each room what the rules do.
pub within_guarded : (rules : List Rule) (tokens : List Token) (a b r : ℕ) → within (guarded_rules rules) tokens a b r ≡ within rules tokens a b r
unfolding guarded_rules
within_guarded rules tokens a b r = in_rooms rules tokens a b r
