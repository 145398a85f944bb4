-- Rules that are called, and rules in a room.
use Rattle.std.proofs.Common.{◌≡◌, ℕ, zero, suc, ◌<◌, ◌≤◌, ◌+◌, ◌==◌, Bool, true, false, if◌then◌else◌, List, length, slice_get, Some, None, Result, refl, sym, ap, subst, ◌∙◌, arith}
use Rattle.std.proofs.lemmas.Bool.{eqb-true, eqb-false}
use Rattle.std.proofs.lemmas.Option.{slice_get_past}
use Rattle.std.proofs.lemmas.Nat.{mul-add-lt}
use Rattle.std.proofs.Math.Nat.{mul_comm}
use Rattle.ruby_grammar.specs.declared.token.Token.{Token}
use Rattle.ruby_grammar.specs.declared.room.Budget.{Budget}
use Rattle.ruby_grammar.specs.declared.room.Room.{Room}
use Rattle.ruby_grammar.specs.declared.part.Rule.{Rule}
use Rattle.ruby_grammar.specs.declared.step.Step.{Step}
use Rattle.ruby_grammar.specs.declared.tree.Tree.{Tree}
use Rattle.ruby_grammar.specs.declared.outcome.Outcome.{Outcome}
use Rattle.ruby_grammar.specs.declared.trail.Trail.{Trail}
use Rattle.ruby_grammar.specs.Meaning.{Meaning, nothing, rule_means, called, inside, within, opens, part_in}
use Rattle.ruby_grammar.specs.Memos.{Goes, work}

pub within_inside : (rules : List Rule) (tokens : List Token) (a b r : ℕ) → within rules tokens a b r ≡ inside rules tokens (opens rules tokens a b) r
unfolding within
within_inside rules tokens zero zero r = refl
within_inside rules tokens zero (suc b) r = refl
within_inside rules tokens (suc a) zero r = refl
within_inside rules tokens (suc a) (suc b) r = refl

-- one of two by a test, where the test says so in either case
by_test : {A : Type 0} (b : Bool) (x y z : A) → (b ≡ true → x ≡ z) → (b ≡ false → y ≡ z) → (if b then x else y) ≡ z
by_test true x y z yes_x no_y = yes_x refl
by_test false x y z yes_x no_y = no_y refl

-- A rule below the bound means what is inside it.
pub called_below : (rules : List Rule) (tokens : List Token) (open_as : Budget → ℕ → Meaning) (n r : ℕ) → r < n → called rules tokens open_as n r ≡ inside rules tokens open_as r
unfolding called
called_below rules tokens open_as zero r below = absurd (omega arith)
called_below rules tokens open_as (suc n) r below = by_test (r == n) (rule_means tokens open_as (called rules tokens open_as n) (slice_get rules n)) (called rules tokens open_as n r) (inside rules tokens open_as r)
    (λ e. ap (λ k. inside rules tokens open_as k) (sym (eqb-true r n e)))
    (λ e. called_below rules tokens open_as n r (let apart = eqb-false r n e in grind arith))

-- A rule that isn't below it means nothing.
pub called_above : (rules : List Rule) (tokens : List Token) (open_as : Budget → ℕ → Meaning) (n r : ℕ) → n ≤ r → called rules tokens open_as n r ≡ nothing
unfolding called
called_above rules tokens open_as zero r above = refl
called_above rules tokens open_as (suc n) r above = by_test (r == n) (rule_means tokens open_as (called rules tokens open_as n) (slice_get rules n)) (called rules tokens open_as n r) nothing
    (λ e. let same = eqb-true r n e in absurd (omega arith))
    (λ e. called_above rules tokens open_as n r (omega arith))

-- A rule below the bound is called as it is read in the room.
pub called_within : (rules : List Rule) (tokens : List Token) (a b n r : ℕ) → r < n → within rules tokens a b r ≡ called rules tokens (opens rules tokens a b) n r
called_within rules tokens a b n r below = within_inside rules tokens a b r ∙ sym (called_below rules tokens (opens rules tokens a b) n r below)

pub called_goes : (rules : List Rule) (tokens : List Token) (a b n r i : ℕ) (lists more : List (List Tree)) (old new : Trail) (out : Outcome) → r < n → Goes ((within rules tokens a b r).step i) ((within rules tokens a b r).trees i) lists old out more new → Goes ((called rules tokens (opens rules tokens a b) n r).step i) ((called rules tokens (opens rules tokens a b) n r).trees i) lists old out more new
called_goes rules tokens a b n r i lists more old new out below = subst (λ (m : Meaning). Goes (m.step i) (m.trees i) lists old out more new) (called_within rules tokens a b n r below)

-- A rule that isn't in the list means nothing.
pub within_none : (rules : List Rule) (tokens : List Token) (a b r : ℕ) → None ≡ slice_get rules r → within rules tokens a b r ≡ nothing
within_none rules tokens a b r none =
    within_inside rules tokens a b r
    ∙ ap (λ o. rule_means tokens (opens rules tokens a b) (called rules tokens (opens rules tokens a b) r) o) (sym none)

pub within_missing : (rules : List Rule) (tokens : List Token) (a b r : ℕ) → length rules ≤ r → within rules tokens a b r ≡ nothing
within_missing rules tokens a b r past = within_none rules tokens a b r (sym (slice_get_past rules r past))

-- Less is left to read in less room.
pub less_work : (rules : ℕ) (less room : Room) (r number : ℕ) → less.rules + less.words < room.rules + room.words → r < rules → work rules less r < work rules room number
less_work rules less room r number fewer below =
    let lower = mul-add-lt (less.rules + less.words) rules r (room.rules + room.words) fewer below in
    let turned = mul_comm rules (room.rules + room.words) in
    grind arith

-- A rule means what its own part does.
pub own_within : (rules : List Rule) (tokens : List Token) (room : Room) (r : ℕ) (rule : Rule) → slice_get rules r ≡ Some rule → part_in rules tokens room r rule.part ≡ within rules tokens room.rules room.words r
own_within rules tokens room r rule is = ap (λ o. rule_means tokens (opens rules tokens room.rules room.words) (called rules tokens (opens rules tokens room.rules room.words) r) o) (sym is) ∙ sym (within_inside rules tokens room.rules room.words r)

pub own_goes : (rules : List Rule) (tokens : List Token) (room : Room) (r i : ℕ) (rule : Rule) (lists more : List (List Tree)) (old new : Trail) (out : Outcome) → slice_get rules r ≡ Some rule → Goes ((part_in rules tokens room r rule.part).step i) ((part_in rules tokens room r rule.part).trees i) lists old out more new → Goes ((within rules tokens room.rules room.words r).step i) ((within rules tokens room.rules room.words r).trees i) lists old out more new
own_goes rules tokens room r i rule lists more old new out is = subst (λ (m : Meaning). Goes (m.step i) (m.trees i) lists old out more new) (own_within rules tokens room r rule is)

-- What a rule's own part reads in every room and with every meaning of other rules, the rule reads.
pub own_step : (rules : List Rule) (tokens : List Token) (room : Room) (r i : ℕ) (rule : Rule) (read : Result Step ℕ) → slice_get rules r ≡ Some rule → (part_in rules tokens room r rule.part).step i ≡ read → (within rules tokens room.rules room.words r).step i ≡ read
own_step rules tokens room r i rule read is e = ap (λ (m : Meaning). m.step i) (sym (own_within rules tokens room r rule is)) ∙ e
