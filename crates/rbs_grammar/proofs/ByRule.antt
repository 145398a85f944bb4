-- What holds behind a marked rule and behind a function holds of the choice between them by the rule that opens.
use Rattle.rbs_grammar.specs.Rules.{Rule, Value}
use Rattle.rbs_grammar.specs.Grammar.{Way, Place, Reader, spells, opens, read}
use Rattle.rbs_grammar.specs.Declarations.{body}
use Rattle.rbs_grammar.specs.Levels.{Room, full, room, by_rule, spell, open_at, reads, spell_in, open_in, read_in}

-- of one choice
pub by_each {l m} : {T : Rule → Type l} (P : (r : Rule) → T r → Type m) (f g : (r : Rule) → T r)
    → ((r : Rule) → P r (f r)) → ((r : Rule) → P r (g r)) → (r : Rule) → P r (by_rule f g r)
by_each P f g a b Rule.declaration = a Rule.declaration
by_each P f g a b Rule.ty = a Rule.ty
by_each P f g a b Rule.function = b Rule.function

-- of two choices at once
pub by_two {l k m} : {T : Rule → Type l} {U : Rule → Type k} (P : (r : Rule) → T r → U r → Type m) (f g : (r : Rule) → T r) (u v : (r : Rule) → U r)
    → ((r : Rule) → P r (f r) (u r)) → ((r : Rule) → P r (g r) (v r)) → (r : Rule) → P r (by_rule f g r) (by_rule u v r)
by_two P f g u v a b Rule.declaration = a Rule.declaration
by_two P f g u v a b Rule.ty = a Rule.ty
by_two P f g u v a b Rule.function = b Rule.function

-- of three choices at once
pub by_three {l k j m} : {T : Rule → Type l} {U : Rule → Type k} {V : Rule → Type j} (P : (r : Rule) → T r → U r → V r → Type m) (f g : (r : Rule) → T r) (u v : (r : Rule) → U r) (x y : (r : Rule) → V r)
    → ((r : Rule) → P r (f r) (u r) (x r)) → ((r : Rule) → P r (g r) (v r) (y r)) → (r : Rule) → P r (by_rule f g r) (by_rule u v r) (by_rule x y r)
by_three P f g u v x y a b Rule.declaration = a Rule.declaration
by_three P f g u v x y a b Rule.ty = a Rule.ty
by_three P f g u v x y a b Rule.function = b Rule.function

-- ---- laws of the rules

-- what is said of each rule: of what it spells, where one rule too many opens in it, and how it is read
abbrev pub Law : Type 1
Law = (r : Rule) → Way (Value r) → Place → Reader (Value r) → Type 0

-- behind whose opening a room is left
abbrev pub Behind : Law → Room → Type 0
Behind P n = (r : Rule) → P r (spell n r) (open_at n r) (reads n r)

-- where a room is left
abbrev pub Where : Law → Room → Type 0
Where P n = (r : Rule) → P r (spell_in n r) (open_in n r) (read_in n r)

-- of the rules' bodies where a room is left
abbrev pub OfBodies : Law → Room → Type 0
OfBodies P n = (r : Rule) → P r (spells (spell_in n) (body r)) (opens (spell_in n) (open_in n) (body r)) (read (read_in n) (body r))

pub where_left : (P : Law) (marked function : Room) → Behind P marked → Behind P function → Where P (room marked function)
where_left P marked function a b = by_three P (spell marked) (spell function) (open_at marked) (open_at function) (reads marked) (reads function) a b

-- A law holds of each rule if it holds where nothing may open, and of the bodies wherever it holds of the rules in them.
pub law_behind : (P : Law) → Behind P full → ((n : Room) → Where P n → OfBodies P n) → (n : Room) → Behind P n
unfolding spell open_at reads
law_behind P base step full = base
law_behind P base step (room marked function) = step (room marked function) (where_left P marked function (law_behind P base step marked) (law_behind P base step function))

pub law_where : (P : Law) → ((n : Room) → Behind P n) → (n : Room) → Where P n
unfolding spell
law_where P h full = h full
law_where P h (room marked function) = where_left P marked function (h marked) (h function)
