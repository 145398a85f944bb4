-- What a reading does, what is kept of earlier ones, and what reading by a function value is.
use Rattle.std.specs.Prelude.{◌≡◌, ◌≤◌, ◌<◌, ◌+◌, ◌*◌, max, ℕ, List, length, Option, Some, None, Result, Ok, Err, IfSome}
use Rattle.std.specs.List.{All}
use denote.Ref.{MutBor, Bor}
use Rattle.ruby_grammar.specs.declared.token.Token.{Token}
use Rattle.ruby_grammar.specs.declared.room.Room.{Room}
use Rattle.ruby_grammar.specs.declared.row.Row.{Row}
use Rattle.ruby_grammar.specs.declared.step.Step.{Step}
use Rattle.ruby_grammar.specs.declared.trail.Trail.{Trail}
use Rattle.ruby_grammar.specs.declared.part.Rule.{Rule}
use Rattle.ruby_grammar.specs.declared.memo.Kept.{Kept}
use Rattle.ruby_grammar.specs.declared.memo.Entry.{Entry}
use Rattle.ruby_grammar.specs.declared.outcome.Outcome.{Outcome}
use Rattle.ruby_grammar.specs.declared.outcome.Outcome.TheVariants as outcome
use Rattle.ruby_grammar.specs.declared.tree.Tree.{Tree}
use Rattle.ruby_grammar.specs.declared.store.Store.{Store}
use Rattle.ruby_grammar.specs.Rows.{Extends, IsRow, Holds, Grows}
use Rattle.ruby_grammar.specs.Steps.{no_room, room_of_both, later_mark}
use Rattle.ruby_grammar.specs.Meaning.{within}

-- ---- readings

-- A step was tried: it counts, whether it derives or not.
abbrev pub Tried : Step → Trail → Trail → Type 0
Tried s old new = (new.far ≡ max old.far s.far) × (new.need ≡ room_of_both old.need s.need)

-- From one trail to another by a step that has these trees, as far as there is memory; what fails leaves mark and row as they may be.
unfoldable pub Goes : Result Step ℕ → List Tree → List (List Tree) → Trail → Outcome → List (List Tree) → Trail → Type 0
Goes r ts lists old (outcome.Passed next) more new = (s : Step) × (r ≡ Ok s) × (s.next ≡ Some next) × Tried s old new × (new.mark ≡ later_mark old.mark s.mark) × Grows lists old.row more new.row ts
Goes r ts lists old outcome.Failed more new = (s : Step) × (r ≡ Ok s) × (s.next ≡ None) × Tried s old new
Goes r ts lists old (outcome.TooDeep at) more new = r ≡ Err at
Goes r ts lists old outcome.NoMemory more new = Unit {0}

-- what a step ends with
abbrev pub outcome_of : Option ℕ → Outcome
outcome_of None = outcome.Failed
outcome_of (Some next) = outcome.Passed next

-- a trail that begins behind a row
abbrev pub begun_at : Row → Trail
begun_at row = record { far = 0; need = no_room; mark = None; row = row }

-- ---- what is kept

-- The room is enough for a need.
abbrev pub Fits : Room → Room → Type 0
Fits need room = (need.rules ≤ room.rules) × (need.words ≤ room.words)

-- A step is the one that is kept, and these are its trees; mark and trees count where it derives.
unfoldable pub Recalls : Result Step ℕ → List Tree → List (List Tree) → Kept → Type 0
Recalls r ts lists kept = (s : Step) × (r ≡ Ok s) × (s.next ≡ kept.step.next) × (s.far ≡ kept.step.far) × (s.need ≡ kept.step.need) × IfSome s.next (λ next. (s.mark ≡ kept.step.mark) × Holds lists kept.base kept.row ts)

-- An entry says what is read in each room that is enough for it, and its trees.
abbrev pub IsSound : List Rule → List Token → List (List Tree) → Entry → Type 0
IsSound rules tokens lists e = (room : Room) → Fits e.kept.step.need room → Recalls ((within rules tokens room.rules room.words e.rule).step e.place) ((within rules tokens room.rules room.words e.rule).trees e.place) lists e.kept

-- Each entry says so, and the row stands for trees.
unfoldable pub Sound : List Rule → List Token → List (List Tree) → List Entry → Row → Type 0
Sound rules tokens lists memo row = All (IsSound rules tokens lists) memo × IsRow lists row

-- ---- reading by function values

-- what is left to read in a room, by rules of numbers up to this
abbrev pub work : ℕ → Room → ℕ → ℕ
work rules room number = (room.rules + room.words) * rules + number

-- A function value reads rules, where less than this is left to read.
pub record Nests (most : ℕ) (rules : List Rule) (pre : MutBor Store → Bor (List Rule) → Bor (List Token) → Room → ℕ → ℕ → Type 0)
    (post : MutBor Store → Bor (List Rule) → Bor (List Token) → Room → ℕ → ℕ → Outcome → MutBor Store → Type 0) : Type 0 where
  pub callable : (store : MutBor Store) (given : Bor (List Rule)) (tokens : Bor (List Token)) (room : Room) (number place : ℕ) → given.now ≡ rules → work (length rules) room number < most → Sound rules tokens.now store.now.forest store.now.memo store.now.trail.row → pre store given tokens room number place
  pub sound : (store new : MutBor Store) (given : Bor (List Rule)) (tokens : Bor (List Token)) (room : Room) (number place : ℕ) (r : Outcome) → post store given tokens room number place r new → Sound given.now tokens.now new.now.forest new.now.memo new.now.trail.row
  pub extends : (store new : MutBor Store) (given : Bor (List Rule)) (tokens : Bor (List Token)) (room : Room) (number place : ℕ) (r : Outcome) → post store given tokens room number place r new → Extends store.now.forest new.now.forest
  pub goes : (store new : MutBor Store) (given : Bor (List Rule)) (tokens : Bor (List Token)) (room : Room) (number place : ℕ) (r : Outcome) → post store given tokens room number place r new → Goes ((within given.now tokens.now room.rules room.words number).step place) ((within given.now tokens.now room.rules room.words number).trees place) store.now.forest store.now.trail r new.now.forest new.now.trail
