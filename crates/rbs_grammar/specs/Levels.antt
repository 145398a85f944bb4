-- The grammar's rules, where so many may still be opened.
use Rattle.std.specs.Prelude.{◌≡◌, ℕ, zero, suc, true, if◌then◌else◌, Err}
use Rattle.rbs_grammar.specs.Rules.{Rule, Value, start}
use Rattle.rbs_grammar.specs.Grammar.{Way, spells, Place, opens, begins, syntax, deep, Reader, read}
use Rattle.rbs_grammar.specs.Declarations.{body}

-- What may still be opened: what is left behind one more marked rule, and what behind one more function.
pub data Room : Type 0 where
  -- not even this
  full : Room
  room : Room → Room → Room

-- By the rule that opens: the first for a marked one, the second for a function.
abbrev pub by_rule {l} : {T : Rule → Type l} → ((r : Rule) → T r) → ((r : Rule) → T r) → (r : Rule) → T r
by_rule marked function Rule.declaration = marked Rule.declaration
by_rule marked function Rule.ty = marked Rule.ty
by_rule marked function Rule.function = function Rule.function

-- The tokens spell a tree of the rule, behind whose opening this room is left.
unfoldable pub spell : Room → (r : Rule) → Way (Value r)
spell full r ts rest v = ⊥
spell (room marked function) r ts rest v = spells (by_rule (spell marked) (spell function)) (body r) ts rest v

-- One more rule than there is room for opens at a place.
unfoldable pub open_at : Room → Rule → Place
open_at full r ts at = (ts ≡ at) × (begins (start r) ts ≡ true)
open_at (room marked function) r ts at = opens (by_rule (spell marked) (spell function)) (by_rule (open_at marked) (open_at function)) (body r) ts at

unfoldable pub reads : Room → (r : Rule) → Reader (Value r)
reads full r ts = Err (if begins (start r) ts then deep else syntax, ts)
reads (room marked function) r ts = read (by_rule (reads marked) (reads function)) (body r) ts

-- what may be opened where this room is left
abbrev pub spell_in : Room → (r : Rule) → Way (Value r)
spell_in full r = λ ts rest v. ⊥
spell_in (room marked function) r = by_rule (spell marked) (spell function) r

abbrev pub open_in : Room → Rule → Place
open_in full r = open_at full r
open_in (room marked function) r = by_rule (open_at marked) (open_at function) r

abbrev pub read_in : Room → (r : Rule) → Reader (Value r)
read_in full r = reads full r
read_in (room marked function) r = by_rule (reads marked) (reads function) r

-- ---- so many of each

-- one more function than before may be opened, beside what is left behind a marked rule
abbrev pub beside : (ℕ → Room) → ℕ → Room
beside marked zero = room (marked zero) full
beside marked (suc m) = room (marked (suc m)) (beside marked m)

-- So many marked rules and so many functions may still be opened.
unfoldable pub rooms : ℕ → ℕ → Room
rooms zero = beside (λ m. full)
rooms (suc n) = beside (rooms n)
