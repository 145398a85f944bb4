-- What is read where so many marked rules and so many functions may still be opened.
use Rattle.std.proofs.Common.{◌≡◌, ℕ, zero, suc, ◌+◌, ◌≤◌, if◌then◌else◌, List, [], Err, refl, sym, ◌∙◌, ap, subst, arith}
use Rattle.rbs_lexer.specs.Tokens.{Token}
use Rattle.rbs_grammar.specs.Rules.{Rule, start}
use Rattle.rbs_grammar.specs.Grammar.{spells, begins, syntax, deep, read}
use Rattle.rbs_grammar.specs.Declarations.{body, file}
use Rattle.rbs_grammar.specs.Levels.{Room, full, room, reads, spell_in, read_in, rooms}
use Rattle.rbs_grammar.specs.Parse.{Tree, Spells}
use Rattle.rbs_grammar.proofs.Joins.{join, grammar_joins}

-- ---- one more of each

pub rooms_none : rooms 0 0 ≡ room full full
unfolding rooms
rooms_none = refl

pub rooms_marked : (n : ℕ) → rooms (suc n) 0 ≡ room (rooms n 0) full
unfolding rooms
rooms_marked n = refl

pub rooms_functions : (m : ℕ) → rooms 0 (suc m) ≡ room full (rooms 0 m)
unfolding rooms
rooms_functions m = refl

pub rooms_both : (n m : ℕ) → rooms (suc n) (suc m) ≡ room (rooms n (suc m)) (rooms (suc n) m)
unfolding rooms
rooms_both n m = refl

-- ---- behind an opened rule

reads_room : (a b : Room) (r : Rule) (ts : List Token) → reads (room a b) r ts ≡ read (read_in (room a b)) (body r) ts
unfolding reads
reads_room a b r ts = refl

-- Where so many may be opened, a rule that was opened is read by its body.
pub reads_rooms : (n m : ℕ) (r : Rule) (ts : List Token) → reads (rooms n m) r ts ≡ read (read_in (rooms n m)) (body r) ts
unfolding rooms
reads_rooms zero zero r ts = reads_room _ _ r ts
reads_rooms zero (suc m) r ts = reads_room _ _ r ts
reads_rooms (suc n) zero r ts = reads_room _ _ r ts
reads_rooms (suc n) (suc m) r ts = reads_room _ _ r ts

to_declaration : (n m : ℕ) (ts : List Token) → read_in (rooms (suc n) m) Rule.declaration ts ≡ reads (rooms n m) Rule.declaration ts
unfolding rooms
to_declaration n zero ts = refl
to_declaration n (suc m) ts = refl

to_type : (n m : ℕ) (ts : List Token) → read_in (rooms (suc n) m) Rule.ty ts ≡ reads (rooms n m) Rule.ty ts
unfolding rooms
to_type n zero ts = refl
to_type n (suc m) ts = refl

to_function : (n m : ℕ) (ts : List Token) → read_in (rooms n (suc m)) Rule.function ts ≡ reads (rooms n m) Rule.function ts
unfolding rooms
to_function zero m ts = refl
to_function (suc n) m ts = refl

-- A declaration takes one of the marked rules that may be opened.
pub open_declaration : (n m : ℕ) (ts : List Token) → read_in (rooms (suc n) m) Rule.declaration ts ≡ read (read_in (rooms n m)) (body Rule.declaration) ts
open_declaration n m ts = to_declaration n m ts ∙ reads_rooms n m Rule.declaration ts

-- So does a type.
pub open_type : (n m : ℕ) (ts : List Token) → read_in (rooms (suc n) m) Rule.ty ts ≡ read (read_in (rooms n m)) (body Rule.ty) ts
open_type n m ts = to_type n m ts ∙ reads_rooms n m Rule.ty ts

-- A function takes one of the functions.
pub open_function : (n m : ℕ) (ts : List Token) → read_in (rooms n (suc m)) Rule.function ts ≡ read (read_in (rooms n m)) (body Rule.function) ts
open_function n m ts = to_function n m ts ∙ reads_rooms n m Rule.function ts

-- With none left it doesn't open.
pub no_declaration : (m : ℕ) (ts : List Token) → read_in (rooms 0 m) Rule.declaration ts ≡ Err (if begins (start Rule.declaration) ts then deep else syntax, ts)
unfolding rooms reads
no_declaration zero ts = refl
no_declaration (suc m) ts = refl

pub no_type : (m : ℕ) (ts : List Token) → read_in (rooms 0 m) Rule.ty ts ≡ Err (if begins (start Rule.ty) ts then deep else syntax, ts)
unfolding rooms reads
no_type zero ts = refl
no_type (suc m) ts = refl

pub no_function : (n : ℕ) (ts : List Token) → read_in (rooms n 0) Rule.function ts ≡ Err (if begins (start Rule.function) ts then deep else syntax, ts)
unfolding rooms reads
no_function zero ts = refl
no_function (suc n) ts = refl

-- ---- any room is below some of these

-- more than so many rules are open nowhere in it
abbrev pub height : Room → ℕ
height full = zero
height (room marked function) = suc (height marked + height function)

pub below_rooms : (n : Room) (k l : ℕ) → height n ≤ k → height n ≤ l → join n (rooms k l) ≡ rooms k l
below_rooms full k l h i = refl
below_rooms (room a b) zero l h i = absurd (omega arith)
below_rooms (room a b) (suc k) zero h i = absurd (omega arith)
below_rooms (room a b) (suc k) (suc l) h i =
    ap (join (room a b)) (rooms_both k l)
    ∙ ap (λ x. room x (join b (rooms (suc k) l))) (below_rooms a k (suc l) (omega arith) (omega arith))
    ∙ ap (room (rooms k (suc l))) (below_rooms b (suc k) l (omega arith) (omega arith))
    ∙ sym (rooms_both k l)

-- What is spelled in any room is spelled where so many may be opened.
pub spelled_in_rooms : (n : Room) (ts : List Token) (x : Tree) → Spells n ts x → Spells (rooms (height n) (height n)) ts x
unfolding Spells
spelled_in_rooms n ts x s =
    let h : height n ≤ height n = omega arith in
    subst (λ k. spells (spell_in k) file ts [] x) (below_rooms n (height n) (height n) h h) (grammar_joins n (rooms (height n) (height n)) file ts [] x s)
