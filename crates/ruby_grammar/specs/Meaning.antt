-- What an ordered grammar derives from a place on: the first alternative that derives is taken, repetitions take as many as derive.
use Rattle.std.specs.Prelude.{ℕ, zero, suc, ◌+◌, ◌==◌, if◌then◌else◌, List, [], ◌∷◌, ◌++◌, length, slice_get, Option, Some, None, Result, Ok, Err}
use Rattle.ruby_grammar.specs.declared.token.Token.{Token}
use Rattle.ruby_grammar.specs.declared.room.Budget.{Budget}
use Rattle.ruby_grammar.specs.declared.room.Room.{Room}
use Rattle.ruby_grammar.specs.declared.room.Budget.TheVariants as budget
use Rattle.ruby_grammar.specs.declared.step.Step.{Step}
use Rattle.ruby_grammar.specs.declared.tree.Tree.{Tree}
use Rattle.ruby_grammar.specs.declared.tree.Tree.TheVariants as tree
use Rattle.ruby_grammar.specs.declared.part.Part.{Part}
use Rattle.ruby_grammar.specs.declared.part.Rule.{Rule}
use Rattle.ruby_grammar.specs.declared.part.Part.TheOpen.{Part-F}
use Rattle.ruby_grammar.specs.declared.part.Part.TheFolds.{fold-Part}
use Rattle.ruby_grammar.specs.Steps.{Reading, passed, failed, further, token_read, both_read, either_read, turns, no_more, full_chain, not_read, marked_read, counted_read, ended_read, guarded_read}

-- ---- trees

abbrev pub next_of : Result Step ℕ → Option ℕ
next_of (Ok s) = s.next
next_of (Err at) = None

-- the trees here, and those from the next place on
abbrev pub with_trees : List Tree → (ℕ → List Tree) → Option ℕ → List Tree
with_trees here q None = here
with_trees here q (Some mid) = here ++ q mid

abbrev pub trees_of_first : List Tree → List Tree → Option ℕ → List Tree
trees_of_first first second (Some next) = first
trees_of_first first second None = second

-- the trees of the first that derives
abbrev pub trees_of_either : List Tree → List Tree → Result Step ℕ → List Tree
trees_of_either first second (Ok s) = trees_of_first first second s.next
trees_of_either first second (Err at) = []

abbrev pub more_trees : (ℕ → List Tree) → List Tree → Option ℕ → List Tree
more_trees again here None = []
more_trees again here (Some next) = here ++ again next

-- the trees of so many turns at most
abbrev pub row_trees : Reading → (ℕ → List Tree) → ℕ → ℕ → List Tree
row_trees p q zero i = []
row_trees p q (suc n) i = more_trees (row_trees p q n) (q i) (further i (next_of (p i)))

abbrev pub place_or : ℕ → Option ℕ → ℕ
place_or i None = i
place_or i (Some next) = next

-- one tree alone stands for itself, others are a node's
abbrev pub chained_trees : ℕ → ℕ → ℕ → List Tree → List Tree
chained_trees name first behind trees = if length trees == 1 then trees else tree.Node name first behind trees ∷ []

-- ---- parts

pub record Meaning : Type 0 where
  pub step : Reading
  -- the trees of what derives
  pub trees : ℕ → List Tree

-- what derives nothing
abbrev pub nothing : Meaning
nothing = record { step = λ i. Ok (failed i); trees = λ i. [] }

-- so many links has a chain at most
unfoldable pub links : ℕ
links = 128

-- a part, where the rules that may be called and those that may be opened mean this
abbrev pub means_layer : List Token → (Budget → ℕ → Meaning) → (ℕ → Meaning) → Part-F Meaning → Meaning
means_layer tokens opens calls Part-F.Empty = record { step = λ i. Ok (passed i); trees = λ i. [] }
means_layer tokens opens calls (Part-F.Token set) = record { step = token_read tokens set; trees = λ i. tree.Leaf i ∷ [] }
means_layer tokens opens calls (Part-F.Both p q) = record { step = both_read p.step q.step; trees = λ i. with_trees (p.trees i) q.trees (next_of (p.step i)) }
means_layer tokens opens calls (Part-F.Either p q) = record { step = either_read p.step q.step; trees = λ i. trees_of_either (p.trees i) (q.trees i) (p.step i) }
means_layer tokens opens calls (Part-F.Many p) = record { step = λ i. turns no_more p.step (length tokens + 1) (passed i) i; trees = row_trees p.step p.trees (length tokens + 1) }
means_layer tokens opens calls (Part-F.Chain head p) = record { step = λ i. turns (full_chain tokens head) p.step links (passed i) i; trees = row_trees p.step p.trees links }
means_layer tokens opens calls (Part-F.Not p) = record { step = not_read p.step; trees = λ i. [] }
means_layer tokens opens calls (Part-F.Label name p) = record { step = marked_read name p.step; trees = λ i. tree.Node name i (place_or i (next_of (p.step i))) (p.trees i) ∷ [] }
means_layer tokens opens calls (Part-F.Chained name p) = record { step = marked_read name p.step; trees = λ i. chained_trees name i (place_or i (next_of (p.step i))) (p.trees i) }
means_layer tokens opens calls (Part-F.Call r) = calls r
means_layer tokens opens calls (Part-F.Open b r) = opens b r
means_layer tokens opens calls (Part-F.Ended labels p) = record { step = ended_read labels p.step; trees = p.trees }
means_layer tokens opens calls (Part-F.Guarded table p) = record { step = guarded_read tokens table p.step; trees = p.trees }

abbrev pub means : List Token → (Budget → ℕ → Meaning) → (ℕ → Meaning) → Part → Meaning
means tokens opens calls = fold-Part Meaning (means_layer tokens opens calls)

-- ---- rules

abbrev pub rule_means : List Token → (Budget → ℕ → Meaning) → (ℕ → Meaning) → Option Rule → Meaning
rule_means tokens opens calls None = nothing
rule_means tokens opens calls (Some rule) = means tokens opens calls rule.part

-- A rule, called where the rules of numbers below this one may be called.
unfoldable pub called : List Rule → List Token → (Budget → ℕ → Meaning) → ℕ → ℕ → Meaning
called rules tokens opens zero r = nothing
called rules tokens opens (suc n) r = if r == n then rule_means tokens opens (called rules tokens opens n) (slice_get rules n) else called rules tokens opens n r

-- a rule's own part, which calls the rules below it
abbrev pub inside : List Rule → List Token → (Budget → ℕ → Meaning) → ℕ → Meaning
inside rules tokens opens r = rule_means tokens opens (called rules tokens opens r) (slice_get rules r)

-- what can't be opened
abbrev pub too_deep : Meaning
too_deep = record { step = λ i. Err i; trees = λ i. [] }

abbrev pub counted : Budget → Meaning → Meaning
counted b m = record { step = counted_read b m.step; trees = m.trees }

abbrev pub by_budget : (ℕ → Meaning) → (ℕ → Meaning) → Budget → ℕ → Meaning
by_budget rules words budget.Rules = rules
by_budget rules words budget.Words = words

-- a rule's part, where so many more may be opened in the second budget, and this is what rules mean behind one more of the first
abbrev pub beside : List Rule → List Token → (ℕ → ℕ → Meaning) → ℕ → ℕ → Meaning
beside rules tokens behind zero r = inside rules tokens (by_budget (behind zero) (λ k. too_deep)) r
beside rules tokens behind (suc b) r = inside rules tokens (by_budget (behind (suc b)) (λ k. counted budget.Words (beside rules tokens behind b k))) r

-- A rule's part, where so many more rules may be opened in either budget.
unfoldable pub within : List Rule → List Token → ℕ → ℕ → ℕ → Meaning
within rules tokens zero = beside rules tokens (λ b k. too_deep)
within rules tokens (suc a) = beside rules tokens (λ b k. counted budget.Rules (within rules tokens a b k))

abbrev pub opens_rules : List Rule → List Token → ℕ → ℕ → ℕ → Meaning
opens_rules rules tokens zero b = λ k. too_deep
opens_rules rules tokens (suc a) b = λ k. counted budget.Rules (within rules tokens a b k)

abbrev pub opens_words : List Rule → List Token → ℕ → ℕ → ℕ → Meaning
opens_words rules tokens a zero = λ k. too_deep
opens_words rules tokens a (suc b) = λ k. counted budget.Words (within rules tokens a b k)

-- What may be opened in a room.
abbrev pub opens : List Rule → List Token → ℕ → ℕ → Budget → ℕ → Meaning
opens rules tokens a b = by_budget (opens_rules rules tokens a b) (opens_words rules tokens a b)

-- A part of a rule, where a room is left.
abbrev pub part_in : List Rule → List Token → Room → ℕ → Part → Meaning
part_in rules tokens room number = means tokens (opens rules tokens room.rules room.words) (called rules tokens (opens rules tokens room.rules room.words) number)
