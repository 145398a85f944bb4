-- With which tokens a part may begin, and a grammar in which this is said of what is tried, so that it needn't be tried in vain.
use Rattle.std.specs.Prelude.{ℕ, zero, suc, Bool, true, false, ◌||◌, if◌then◌else◌, List, [], ◌∷◌, ◌++◌, length, map, slice_get, Option, Some, None}
use Rattle.ruby_grammar.specs.declared.part.Part.{Part}
use Rattle.ruby_grammar.specs.declared.part.Part.TheVariants as part
use Rattle.ruby_grammar.specs.declared.part.Part.TheOpen.{Part-F}
use Rattle.ruby_grammar.specs.declared.part.Part.TheFolds.{fold-Part}
use Rattle.ruby_grammar.specs.declared.part.Rule.{Rule}

-- ---- what parts begin with

-- Nothing is known, or the part derives nothing without a token that the table lets stand.
abbrev pub First : Type 0
First = Option (List Bool)

-- what either of two tables lets stand
abbrev pub union : List Bool → List Bool → List Bool
union [] others = []
union (a ∷ more) [] = []
union (a ∷ more) (b ∷ others) = (a || b) ∷ union more others

abbrev pub first_of_either : First → First → First
first_of_either None g = None
first_of_either (Some a) None = None
first_of_either (Some a) (Some b) = Some (union a b)

-- what is known of a rule: nothing, where it isn't in the list
abbrev pub known : Option First → First
known None = None
known (Some f) = f

-- a part, where this is known of the rules that it may call
abbrev pub first_layer : List First → Part-F First → First
first_layer firsts Part-F.Empty = None
first_layer firsts (Part-F.Token set) = Some set.kinds
first_layer firsts (Part-F.Both p q) = p
first_layer firsts (Part-F.Either p q) = first_of_either p q
first_layer firsts (Part-F.Many p) = None
first_layer firsts (Part-F.Chain head p) = None
first_layer firsts (Part-F.Not p) = None
first_layer firsts (Part-F.Label name p) = p
first_layer firsts (Part-F.Chained name p) = p
first_layer firsts (Part-F.Call r) = known (slice_get firsts r)
first_layer firsts (Part-F.Open b r) = None
first_layer firsts (Part-F.Ended labels p) = p
first_layer firsts (Part-F.Guarded table p) = p

abbrev pub first : List First → Part → First
first firsts = fold-Part First (first_layer firsts)

abbrev pub first_of_rule : List First → Option Rule → First
first_of_rule firsts None = None
first_of_rule firsts (Some rule) = first firsts rule.part

-- What the rules of numbers below this begin with: a rule calls rules of lower numbers alone.
unfoldable pub firsts : List Rule → ℕ → List First
firsts rules zero = []
firsts rules (suc n) = firsts rules n ++ first_of_rule (firsts rules n) (slice_get rules n) ∷ []

-- ---- guards

abbrev pub is_token_layer : Part-F Bool → Bool
is_token_layer (Part-F.Token set) = true
is_token_layer other = false

abbrev pub is_token : Part → Bool
is_token = fold-Part Bool is_token_layer

abbrev pub guarded_by : First → Part → Part
guarded_by None p = p
guarded_by (Some table) p = part.Guarded table p

-- a part that is tried: a token is told as fast without a guard
unfoldable pub guard : List First → Part → Part
guard firsts p = if is_token p then p else guarded_by (first firsts p) p

abbrev pub guarded_layer : List First → Part-F Part → Part
guarded_layer firsts Part-F.Empty = part.Empty
guarded_layer firsts (Part-F.Token set) = part.Token set
guarded_layer firsts (Part-F.Both p q) = part.Both p q
guarded_layer firsts (Part-F.Either p q) = part.Either (guard firsts p) (guard firsts q)
guarded_layer firsts (Part-F.Many p) = part.Many (guard firsts p)
guarded_layer firsts (Part-F.Chain head p) = part.Chain head (guard firsts p)
guarded_layer firsts (Part-F.Not p) = part.Not p
guarded_layer firsts (Part-F.Label name p) = part.Label name p
guarded_layer firsts (Part-F.Chained name p) = part.Chained name p
guarded_layer firsts (Part-F.Call r) = part.Call r
guarded_layer firsts (Part-F.Open b r) = part.Open b r
guarded_layer firsts (Part-F.Ended labels p) = part.Ended labels p
guarded_layer firsts (Part-F.Guarded table p) = part.Guarded table p

-- a part with guards before its alternatives and its repetitions
abbrev pub guarded : List First → Part → Part
guarded firsts = fold-Part Part (guarded_layer firsts)

abbrev pub guarded_rule : List First → Rule → Rule
guarded_rule firsts rule = record { part = guard firsts (guarded firsts rule.part); kept = rule.kept }

-- The rules with guards.
unfoldable pub guarded_rules : List Rule → List Rule
guarded_rules rules = map (guarded_rule (firsts rules (length rules))) rules
