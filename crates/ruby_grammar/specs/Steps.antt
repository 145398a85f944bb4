-- What is read from a place on, without its trees: how far it was tried, the place behind, the mark, and the room that it takes.
use Rattle.std.specs.Prelude.{ℕ, zero, suc, ◌+◌, max, ltb, Bool, false, if◌then◌else◌, List, slice_get, Option, Some, None, Result, Ok, Err}
use Rattle.ruby_grammar.specs.declared.token.Token.{Token}
use Rattle.ruby_grammar.specs.declared.set.TokenSet.{TokenSet}
use Rattle.ruby_grammar.specs.declared.room.Room.{Room}
use Rattle.ruby_grammar.specs.declared.room.Budget.{Budget}
use Rattle.ruby_grammar.specs.declared.room.Budget.TheVariants as budget
use Rattle.ruby_grammar.specs.declared.step.Step.{Step}
use Rattle.ruby_grammar.specs.Tokens.{has, in_table, may_stand}

-- From each place on a step, or the place where it is too deep.
abbrev pub Reading : Type 0
Reading = ℕ → Result Step ℕ

-- ---- rooms

abbrev pub no_room : Room
no_room = record { rules = 0; words = 0 }

-- the room for either of two
abbrev pub room_of_both : Room → Room → Room
room_of_both a b = record { rules = max a.rules b.rules; words = max a.words b.words }

-- the room for one more rule that is open
abbrev pub one_more : Budget → Room → Room
one_more budget.Rules room = record { rules = room.rules + 1; words = room.words }
one_more budget.Words room = record { rules = room.rules; words = room.words + 1 }

-- ---- steps

-- what derives up to a place
abbrev pub passed : ℕ → Step
passed next = record { far = 0; next = Some next; mark = None; need = no_room }

-- what fails at a place
abbrev pub failed : ℕ → Step
failed at = record { far = at; next = None; mark = None; need = no_room }

abbrev pub later_mark : Option ℕ → Option ℕ → Option ℕ
later_mark first None = first
later_mark first (Some name) = Some name

-- one step, and then another behind it
abbrev pub and_then : Step → Step → Step
and_then s t = record { far = max s.far t.far; next = t.next; mark = later_mark s.mark t.mark; need = room_of_both s.need t.need }

-- a step in place of one that failed
abbrev pub or_else : Step → Step → Step
or_else s t = record { far = max s.far t.far; next = t.next; mark = t.mark; need = room_of_both s.need t.need }

-- a step, where another was tried behind it and is taken back
abbrev pub but_tried : Step → Step → Step
but_tried s t = record { far = max s.far t.far; next = s.next; mark = s.mark; need = room_of_both s.need t.need }

-- ---- readings

abbrev pub on_step : Result Step ℕ → (Step → Result Step ℕ) → Result Step ℕ
on_step (Ok s) k = k s
on_step (Err at) k = Err at

abbrev pub token_step : TokenSet → ℕ → Option Token → Step
token_step set i None = failed i
token_step set i (Some t) = if has set t then passed (i + 1) else failed i

-- a token of the set
abbrev pub token_read : List Token → TokenSet → Reading
token_read tokens set i = Ok (token_step set i (slice_get tokens i))

abbrev pub go_on : Reading → Step → Option ℕ → Result Step ℕ
go_on q s None = Ok s
go_on q s (Some mid) = on_step (q mid) (λ t. Ok (and_then s t))

-- one after the other
abbrev pub both_read : Reading → Reading → Reading
both_read p q i = on_step (p i) (λ s. go_on q s s.next)

abbrev pub or_try : Reading → ℕ → Step → Option ℕ → Result Step ℕ
or_try q i s None = on_step (q i) (λ t. Ok (or_else s t))
or_try q i s (Some next) = Ok s

-- the first that derives
abbrev pub either_read : Reading → Reading → Reading
either_read p q i = on_step (p i) (λ s. or_try q i s s.next)

-- the place behind, where something was taken
abbrev pub further : ℕ → Option ℕ → Option ℕ
further i None = None
further i (Some next) = if ltb i next then Some next else None

-- another turn, where this one took something
abbrev pub turn : (Step → ℕ → Result Step ℕ) → Step → Step → Option ℕ → Result Step ℕ
turn again done s None = Ok (but_tried done s)
turn again done s (Some next) = again (and_then done s) next

-- Behind what is done, so many turns that derive and take something, and then the ending.
abbrev pub turns : (Step → ℕ → Result Step ℕ) → Reading → ℕ → Step → ℕ → Result Step ℕ
turns ending p zero done i = ending done i
turns ending p (suc n) done i = on_step (p i) (λ s. turn (turns ending p n) done s (further i s.next))

-- the end of a row
abbrev pub no_more : Step → ℕ → Result Step ℕ
no_more done i = Ok done

-- the end of a chain that is full: another head is too deep
abbrev pub none_fits : ℕ → Step → Step → Option ℕ → Result Step ℕ
none_fits i done s None = Ok (but_tried done s)
none_fits i done s (Some next) = Err i

abbrev pub full_chain : List Token → TokenSet → Step → ℕ → Result Step ℕ
full_chain tokens head done i = on_step (token_read tokens head i) (λ s. none_fits i done s s.next)

abbrev pub negated : ℕ → Room → Option ℕ → Step
negated i need None = record { far = 0; next = Some i; mark = None; need = need }
negated i need (Some next) = record { far = i; next = None; mark = None; need = need }

-- no token, where this doesn't derive; what failed in it is forgotten
abbrev pub not_read : Reading → Reading
not_read p i = on_step (p i) (λ s. Ok (negated i s.need s.next))

abbrev pub mark_of : ℕ → Option ℕ → Option ℕ → Option ℕ
mark_of name mark None = mark
mark_of name mark (Some next) = Some name

-- a name as the mark of what derives
abbrev pub marked : ℕ → Step → Step
marked name s = record { far = s.far; next = s.next; mark = mark_of name s.mark s.next; need = s.need }

abbrev pub marked_result : ℕ → Result Step ℕ → Result Step ℕ
marked_result name r = on_step r (λ s. Ok (marked name s))

-- this, with a name as its mark where it derives
abbrev pub marked_read : ℕ → Reading → Reading
marked_read name p i = marked_result name (p i)

abbrev pub counted_step : Budget → Step → Step
counted_step b s = record { far = s.far; next = s.next; mark = s.mark; need = one_more b s.need }

abbrev pub counted_result : Budget → Result Step ℕ → Result Step ℕ
counted_result b r = on_step r (λ s. Ok (counted_step b s))

-- this, counted as open in a budget
abbrev pub counted_read : Budget → Reading → Reading
counted_read b p i = counted_result b (p i)

abbrev pub mark_in : List Bool → Option ℕ → Bool
mark_in labels None = false
mark_in labels (Some name) = in_table labels name

abbrev pub ended_step : List Bool → ℕ → Step → Option ℕ → Step
ended_step labels i s None = s
ended_step labels i s (Some next) = if mark_in labels s.mark then s else or_else s (failed i)

-- this, where its mark is in the table; else it fails where it began, with what failed in it kept
abbrev pub ended_read : List Bool → Reading → Reading
ended_read labels p i = on_step (p i) (λ s. Ok (ended_step labels i s s.next))

-- this, where the table lets the token stand that stands here; else it fails here
abbrev pub guarded_read : List Token → List Bool → Reading → Reading
guarded_read tokens table p i = if may_stand table (slice_get tokens i) then p i else Ok (failed i)
