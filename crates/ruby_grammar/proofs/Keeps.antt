-- What is read in some room is read in each room that is enough for it: the steps behind the parts.
use Rattle.std.proofs.Common.{◌≡◌, ◌≤◌, ℕ, zero, suc, max, Bool, true, false, if◌then◌else◌, List, Option, Some, None, Result, Ok, Err, refl, sym, ap, subst, ◌∙◌, arith}
use Rattle.std.proofs.lemmas.Grind.{common_steps}
use Rattle.ruby_grammar.specs.declared.token.Token.{Token}
use Rattle.ruby_grammar.specs.declared.set.TokenSet.{TokenSet}
use Rattle.ruby_grammar.specs.declared.room.Room.{Room}
use Rattle.ruby_grammar.specs.declared.step.Step.{Step}
use Rattle.ruby_grammar.specs.Steps.{Reading, room_of_both, no_room, failed, and_then, or_else, but_tried, on_step, token_read, go_on, or_try, further, turn, turns, no_more, none_fits, full_chain, negated, mark_in, ended_step}
use Rattle.ruby_grammar.specs.Memos.{Fits}

-- What the first reads that this room is enough for, the second reads too.
abbrev pub Keeps : Room → Reading → Reading → Type 0
Keeps room p q = (i : ℕ) (s : Step) → p i ≡ Ok s → Fits s.need room → q i ≡ Ok s

-- what is behind a step
abbrev pub Behind : Type 0
Behind = Step → Result Step ℕ

-- The room is enough for the step, and what is behind it is the same.
abbrev pub KeepsBehind : Room → Behind → Behind → Type 0
KeepsBehind room k m = (s t : Step) → k s ≡ Ok t → Fits t.need room → Fits s.need room × (m s ≡ Ok t)

abbrev pub ok : Step → Result Step ℕ
ok s = Ok s

pub ok_same : (s t : Step) → ok s ≡ ok t → s ≡ t
ok_same s t e = cc

pub fits_same : (room : Room) (s t : Step) → s ≡ t → Fits t.need room → Fits s.need room
fits_same room s t e = subst (λ (s : Step). Fits s.need room) (sym e)

pub on_step_ok : (r : Result Step ℕ) (k : Behind) (t : Step) → on_step r k ≡ Ok t → (s : Step) × (r ≡ Ok s) × (k s ≡ Ok t)
on_step_ok (Ok s) k t e = (s, refl, e)
on_step_ok (Err at) k t e = absurd (let never : Err at ≡ Ok t = e in cc)

-- the room is enough for either of two
pub first_fits : (a b room : Room) → Fits (room_of_both a b) room → Fits a room
first_fits a b room fits = (let h : max a.rules b.rules ≤ room.rules = fits.0 in grind (arith, common_steps), let h : max a.words b.words ≤ room.words = fits.1 in grind (arith, common_steps))

pub second_fits : (a b room : Room) → Fits (room_of_both a b) room → Fits b room
second_fits a b room fits = (let h : max a.rules b.rules ≤ room.rules = fits.0 in grind (arith, common_steps), let h : max a.words b.words ≤ room.words = fits.1 in grind (arith, common_steps))

-- ---- one after the other

pub keeps_go_on : (room : Room) (p q : Reading) → Keeps room p q → (s t : Step) (o : Option ℕ) → go_on p s o ≡ Ok t → Fits t.need room → Fits s.need room × (go_on q s o ≡ Ok t)
keeps_go_on room p q kept s t None e fits = (fits_same room s t (ok_same s t e) fits, e)
keeps_go_on room p q kept s t (Some mid) e fits =
    let found = on_step_ok (p mid) (λ t. Ok (and_then s t)) t e in
    let both = fits_same room (and_then s found.0) t (ok_same (and_then s found.0) t found.2) fits in
    (first_fits s.need found.0.need room both, ap (λ r. on_step r (λ t. Ok (and_then s t))) (kept mid found.0 found.1 (second_fits s.need found.0.need room both)) ∙ found.2)

-- ---- the first that derives

pub keeps_or_try : (room : Room) (p q : Reading) → Keeps room p q → (i : ℕ) (s t : Step) (o : Option ℕ) → or_try p i s o ≡ Ok t → Fits t.need room → Fits s.need room × (or_try q i s o ≡ Ok t)
keeps_or_try room p q kept i s t (Some next) e fits = (fits_same room s t (ok_same s t e) fits, e)
keeps_or_try room p q kept i s t None e fits =
    let found = on_step_ok (p i) (λ t. Ok (or_else s t)) t e in
    let both = fits_same room (or_else s found.0) t (ok_same (or_else s found.0) t found.2) fits in
    (first_fits s.need found.0.need room both, ap (λ r. on_step r (λ t. Ok (or_else s t))) (kept i found.0 found.1 (second_fits s.need found.0.need room both)) ∙ found.2)

-- ---- repetitions

abbrev pub Ending : Type 0
Ending = Step → ℕ → Result Step ℕ

-- The room is enough for what was done before.
abbrev pub EndsIn : Room → Ending → Type 0
EndsIn room ending = (done t : Step) (i : ℕ) → ending done i ≡ Ok t → Fits t.need room → Fits done.need room

pub mutual_turn : (room : Room) (again more : Ending) → ((done t : Step) (i : ℕ) → again done i ≡ Ok t → Fits t.need room → Fits done.need room × (more done i ≡ Ok t)) → (done s t : Step) (o : Option ℕ) → turn again done s o ≡ Ok t → Fits t.need room → Fits done.need room × Fits s.need room × (turn more done s o ≡ Ok t)
mutual_turn room again more kept done s t None e fits =
    let both = fits_same room (but_tried done s) t (ok_same (but_tried done s) t e) fits in
    (first_fits done.need s.need room both, second_fits done.need s.need room both, e)
mutual_turn room again more kept done s t (Some next) e fits =
    let rest = kept (and_then done s) t next e fits in
    (first_fits done.need s.need room rest.0, second_fits done.need s.need room rest.0, rest.1)

pub keeps_turns : (n : ℕ) (room : Room) (ending : Ending) (p q : Reading) → EndsIn room ending → Keeps room p q → (done t : Step) (i : ℕ) → turns ending p n done i ≡ Ok t → Fits t.need room → Fits done.need room × (turns ending q n done i ≡ Ok t)
keeps_turns zero room ending p q ends kept done t i e fits = (ends done t i e fits, e)
keeps_turns (suc n) room ending p q ends kept done t i e fits =
    let found = on_step_ok (p i) (λ s. turn (turns ending p n) done s (further i s.next)) t e in
    let rest = mutual_turn room (turns ending p n) (turns ending q n) (keeps_turns n room ending p q ends kept) done found.0 t (further i found.0.next) found.2 fits in
    (rest.0, ap (λ r. on_step r (λ s. turn (turns ending q n) done s (further i s.next))) (kept i found.0 found.1 rest.1) ∙ rest.2)

pub no_more_ends : (room : Room) → EndsIn room no_more
no_more_ends room done t i e fits = fits_same room done t (ok_same done t e) fits

none_fits_ends : (room : Room) (i : ℕ) (done s t : Step) (o : Option ℕ) → none_fits i done s o ≡ Ok t → Fits t.need room → Fits done.need room
none_fits_ends room i done s t None e fits = first_fits done.need s.need room (fits_same room (but_tried done s) t (ok_same (but_tried done s) t e) fits)
none_fits_ends room i done s t (Some next) e fits = absurd (let never : Err i ≡ Ok t = e in cc)

pub full_chain_ends : (room : Room) (tokens : List Token) (head : TokenSet) → EndsIn room (full_chain tokens head)
full_chain_ends room tokens head done t i e fits =
    let found = on_step_ok (token_read tokens head i) (λ s. none_fits i done s s.next) t e in
    none_fits_ends room i done found.0 t found.0.next found.2 fits

-- ---- the others

pub negated_fits : (room : Room) (i : ℕ) (s : Step) (o : Option ℕ) → Fits (negated i s.need o).need room → Fits s.need room
negated_fits room i s None fits = fits
negated_fits room i s (Some next) fits = fits

if_fits : (room : Room) (b : Bool) (i : ℕ) (s : Step) → Fits (if b then s else or_else s (failed i)).need room → Fits s.need room
if_fits room true i s fits = fits
if_fits room false i s fits = first_fits s.need no_room room fits

pub ended_fits : (room : Room) (labels : List Bool) (i : ℕ) (s : Step) (o : Option ℕ) → Fits (ended_step labels i s o).need room → Fits s.need room
ended_fits room labels i s None fits = fits
ended_fits room labels i s (Some next) fits = if_fits room (mark_in labels s.mark) i s fits
