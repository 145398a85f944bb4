-- Worked rows of readings, computed.
use Rattle.std.proofs.Common.{◌≡◌, ℕ, zero, suc, true, false, List, [], ◌∷◌, Some, None, Ok, Err, refl, sym, ap, ◌∙◌}
use Rattle.ruby_grammar.specs.declared.token.Token.{Token}
use Rattle.ruby_grammar.specs.declared.set.Blank.TheVariants as blank
use Rattle.ruby_grammar.specs.declared.set.TokenSet.{TokenSet}
use Rattle.ruby_grammar.specs.declared.room.Budget.{Budget}
use Rattle.ruby_grammar.specs.declared.room.Budget.TheVariants as budget
use Rattle.ruby_grammar.specs.declared.part.Rule.{Rule}
use Rattle.ruby_grammar.specs.declared.part.Part.TheVariants as p
use Rattle.ruby_grammar.specs.declared.part.Part.TheOpen.{Part-F}
use Rattle.ruby_grammar.specs.declared.part.Part.TheFolds.{fold-roll-Part}
use Rattle.ruby_grammar.specs.Steps.{no_room, passed, failed, on_step, token_read, both_read, either_read, turns, no_more, full_chain, not_read, marked_read, counted_step, ended_read}
use Rattle.ruby_grammar.specs.Meaning.{Meaning, links, means, means_layer, within, opens}
use Rattle.ruby_grammar.proofs.Within.{within_inside}

-- ---- tokens of kinds 0 and 1

abbrev token : ℕ → Token
token kind = record { kind = kind; blank = false }

abbrev zeros : TokenSet
zeros = record { kinds = true ∷ []; blank = blank.Any }

abbrev ones : TokenSet
ones = record { kinds = false ∷ true ∷ []; blank = blank.Any }

abbrev blank_zeros : TokenSet
blank_zeros = record { kinds = true ∷ []; blank = blank.With }

abbrev some : List Token
some = token 0 ∷ token 1 ∷ token 0 ∷ []

abbrev same_tokens : ℕ → List Token
same_tokens zero = []
same_tokens (suc n) = token 0 ∷ same_tokens n

-- ---- rows

a_blank_is_wanted : token_read some blank_zeros 0 ≡ Ok (failed 0)
a_blank_is_wanted = refl

the_first_that_derives : either_read (token_read some zeros) (both_read (token_read some zeros) (token_read some ones)) 0 ≡ Ok (passed 1)
the_first_that_derives = refl

the_farthest_failure : either_read (both_read (token_read some zeros) (token_read some zeros)) (token_read some ones) 0 ≡ Ok (failed 1)
the_farthest_failure = refl

a_turn_is_taken_back : turns no_more (both_read (token_read some zeros) (token_read some ones)) 4 (passed 0) 0 ≡ Ok (record { far = 3; next = Some 2; mark = None; need = no_room })
a_turn_is_taken_back = refl

what_failed_is_forgotten : not_read (both_read (token_read some zeros) (token_read some zeros)) 0 ≡ Ok (passed 0)
what_failed_is_forgotten = refl

all_links : turns (full_chain (same_tokens 128) zeros) (token_read (same_tokens 128) zeros) links (passed 0) 0 ≡ Ok (record { far = 128; next = Some 128; mark = None; need = no_room })
unfolding links
all_links = refl

one_link_too_many : turns (full_chain (same_tokens 129) zeros) (token_read (same_tokens 129) zeros) links (passed 0) 0 ≡ Err 128
unfolding links
one_link_too_many = refl

the_mark_is_wanted : ended_read (false ∷ true ∷ []) (marked_read 1 (token_read some zeros)) 0 ≡ Ok (record { far = 0; next = Some 1; mark = Some 1; need = no_room })
the_mark_is_wanted = refl

another_mark : ended_read (false ∷ true ∷ []) (marked_read 0 (token_read some zeros)) 2 ≡ Ok (failed 2)
another_mark = refl

-- ---- a rule that opens itself

abbrev opens_itself : List Rule
opens_itself = record { part = p.Open budget.Rules 0; kept = false } ∷ []

open_means : (tokens : List Token) (open_as : Budget → ℕ → Meaning) (calls : ℕ → Meaning) → means tokens open_as calls (p.Open budget.Rules 0) ≡ open_as budget.Rules 0
open_means tokens open_as calls = ap (means tokens open_as calls) (sym (p.rolls-Open budget.Rules 0)) ∙ fold-roll-Part Meaning (means_layer tokens open_as calls) (Part-F.Open budget.Rules 0)

-- it is too deep in every room, at its place
too_deep_itself : (tokens : List Token) (a b i : ℕ) → (within opens_itself tokens a b 0).step i ≡ Err i
too_deep_itself tokens zero b i = ap (λ (m : Meaning). m.step i) (within_inside opens_itself tokens zero b 0 ∙ open_means tokens (opens opens_itself tokens zero b) _)
too_deep_itself tokens (suc a) b i = ap (λ (m : Meaning). m.step i) (within_inside opens_itself tokens (suc a) b 0 ∙ open_means tokens (opens opens_itself tokens (suc a) b) _)
    ∙ ap (λ r. on_step r (λ s. Ok (counted_step budget.Rules s))) (too_deep_itself tokens a b i)
