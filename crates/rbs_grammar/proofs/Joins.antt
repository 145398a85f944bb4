-- More room: for two rooms there is one above both, and it changes no tree and no syntax fault.
use Rattle.std.proofs.Common.{◌≡◌, Bool, true, false, if◌then◌else◌, Err, refl, ◌∙◌, ap, subst}
use Rattle.rbs_grammar.specs.Rules.{Rule, Value, start}
use Rattle.rbs_grammar.specs.Grammar.{Grammar, Way, spells, begins, syntax, deep, Reader, read}
use Rattle.rbs_grammar.specs.Declarations.{body}
use Rattle.rbs_grammar.specs.Levels.{Room, full, room, spell, reads, spell_in, read_in}
use Rattle.rbs_grammar.proofs.Acts.{Within}
use Rattle.rbs_grammar.proofs.Exact.{grows}
use Rattle.rbs_grammar.proofs.Stays.{Same, Staying, same_self, stays}
use Rattle.rbs_grammar.proofs.Idle.{Idle}
use Rattle.rbs_grammar.proofs.ByRule.{by_two}
use Rattle.rbs_grammar.proofs.Levels.{level_idle, room_idle}

-- the least room above both
abbrev pub join : Room → Room → Room
join full n = n
join (room a b) full = room a b
join (room a b) (room c d) = room (join a c) (join b d)

pub join_swap : (n m : Room) → join n m ≡ join m n
join_swap full full = refl
join_swap full (room c d) = refl
join_swap (room a b) full = refl
join_swap (room a b) (room c d) = ap (λ x. room x (join b d)) (join_swap a c) ∙ ap (λ y. room (join c a) y) (join_swap b d)

-- ---- what is spelled stays so

abbrev WithinRule : (r : Rule) → Way (Value r) → Way (Value r) → Type 0
WithinRule r S L = Within S L

pub spell_joins : (n m : Room) (r : Rule) → Within (spell n r) (spell (join n m) r)
unfolding spell
spell_joins full m r = λ ts rest v s. absurd s
spell_joins (room a b) full r = λ ts rest v s. s
spell_joins (room a b) (room c d) r = grows (spell_in (room a b)) (spell_in (room (join a c) (join b d)))
    (by_two WithinRule (spell a) (spell b) (spell (join a c)) (spell (join b d)) (spell_joins a c) (spell_joins b d)) (body r)

pub spell_joins_right : (n m : Room) (r : Rule) → Within (spell n r) (spell (join m n) r)
spell_joins_right n m r = subst (λ k. Within (spell n r) (spell k r)) (join_swap n m) (spell_joins n m r)

pub spell_in_joins : (n m : Room) (r : Rule) → Within (spell_in n r) (spell_in (join n m) r)
spell_in_joins full m = λ r ts rest v s. absurd s
spell_in_joins (room a b) full = λ r ts rest v s. s
spell_in_joins (room a b) (room c d) = by_two WithinRule (spell a) (spell b) (spell (join a c)) (spell (join b d)) (spell_joins a c) (spell_joins b d)

pub spell_in_joins_right : (n m : Room) (r : Rule) → Within (spell_in n r) (spell_in (join m n) r)
spell_in_joins_right n m r = subst (λ k. Within (spell_in n r) (spell_in k r)) (join_swap n m) (spell_in_joins n m r)

pub grammar_joins : (n m : Room) {A : Type 0} (g : Grammar A) → Within (spells (spell_in n) g) (spells (spell_in (join n m)) g)
grammar_joins n m g = grows (spell_in n) (spell_in (join n m)) (spell_in_joins n m) g

pub grammar_joins_right : (n m : Room) {A : Type 0} (g : Grammar A) → Within (spells (spell_in n) g) (spells (spell_in (join m n)) g)
grammar_joins_right n m g = grows (spell_in n) (spell_in (join m n)) (spell_in_joins_right n m) g

-- ---- what is read stays so, but for one rule too many

abbrev StayingRule : (r : Rule) → Reader (Value r) → Reader (Value r) → Type 0
StayingRule r p q = Staying p q

bottom_stays : (r : Rule) (p : Reader (Value r)) → Idle p (start r) false → Staying (reads full r) p
unfolding reads
bottom_stays r p h ts = go (begins (start r) ts) refl
  where
    go : (b : Bool) → begins (start r) ts ≡ b → Same {A = Value r} (Err (if b then deep else syntax, ts)) (p ts)
    go true e = tt
    go false e = h ts e

pub level_stays : (n m : Room) (r : Rule) → Staying (reads n r) (reads (join n m) r)
unfolding reads
level_stays full m r = bottom_stays r (reads m r) (level_idle m r)
level_stays (room a b) full r = λ ts. same_self (reads (room a b) r ts)
level_stays (room a b) (room c d) r = stays (read_in (room a b)) (read_in (room (join a c) (join b d)))
    (by_two StayingRule (reads a) (reads b) (reads (join a c)) (reads (join b d)) (level_stays a c) (level_stays b d)) (body r)

pub level_stays_right : (n m : Room) (r : Rule) → Staying (reads n r) (reads (join m n) r)
level_stays_right n m r = subst (λ k. Staying (reads n r) (reads k r)) (join_swap n m) (level_stays n m r)

pub room_stays : (n m : Room) (r : Rule) → Staying (read_in n r) (read_in (join n m) r)
room_stays full m r = bottom_stays r (read_in m r) (room_idle m r)
room_stays (room a b) full r = λ ts. same_self (read_in (room a b) r ts)
room_stays (room a b) (room c d) r = by_two StayingRule (reads a) (reads b) (reads (join a c)) (reads (join b d)) (level_stays a c) (level_stays b d) r

pub room_stays_right : (n m : Room) (r : Rule) → Staying (read_in n r) (read_in (join m n) r)
room_stays_right n m r = subst (λ k. Staying (read_in n r) (read_in k r)) (join_swap n m) (room_stays n m r)

pub grammar_stays : (n m : Room) {A : Type 0} (g : Grammar A) → Staying (read (read_in n) g) (read (read_in (join n m)) g)
grammar_stays n m g = stays (read_in n) (read_in (join n m)) (room_stays n m) g

pub grammar_stays_right : (n m : Room) {A : Type 0} (g : Grammar A) → Staying (read (read_in n) g) (read (read_in (join m n)) g)
grammar_stays_right n m g = stays (read_in n) (read_in (join m n)) (room_stays_right n m) g
