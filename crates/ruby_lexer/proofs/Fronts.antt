-- Fronts of a text that lie on its first line, before its end.
use Rattle.std.proofs.Common.{arith, ◌+◌, ◌-◌, ◌≡◌, ◌<◌, ◌≤◌, ℕ, zero, suc, Bool, true, false, ◌&&◌, ◌==◌, if◌then◌else◌, List, [], ◌∷◌, length, take, drop, nat_eq, refl, ap, sym, subst, ◌∙◌, length-drop}
use Rattle.std.specs.Prelude.{slice_index}
use Rattle.std.specs.Str.{bytes_eq}
use Rattle.std.proofs.lemmas.Bool.{and_parts, or_from, eqb-true, false_from_ne_true}
use Rattle.ruby_lexer.specs.Characters.{is_line_end, first_is, begins, has_front}
use Rattle.ruby_lexer.specs.Lines.{line_end_len, line_len, whole_line_len, begins_line}

-- so many bytes, and one at least, stand before the line's end
abbrev pub OnLine : List ℕ → ℕ → Type 0
OnLine text n = (0 < n) × (n ≤ line_len text)

-- ---- bytes

differ : (p : ℕ → Bool) (b c : ℕ) → b ≡ c → p b ≡ true → p c ≡ false → ⊥
differ p b c same is isnt = let no : true ≡ false = sym is ∙ ap p same ∙ isnt in cc

-- a byte of a class that has no line's end
pub is_other : (p : ℕ → Bool) → p 10 ≡ false → p 13 ≡ false → (b : ℕ) → p b ≡ true → is_line_end b ≡ false
is_other p ten thirteen b is = or_from (b == 10) (b == 13) (false_from_ne_true (b == 10) (λ e. differ p b 10 (eqb-true b 10 e) is ten))
    (false_from_ne_true (b == 13) (λ e. differ p b 13 (eqb-true b 13 e) is thirteen))

-- ---- lines

-- a line's first byte
line_of : (b : ℕ) (bs : List ℕ) → is_line_end b ≡ false → line_len (b ∷ bs) ≡ suc (line_len bs)
line_of b bs isnt = ap (λ t. if t then 0 else suc (line_len bs)) isnt

pub one_more : (b : ℕ) (bs : List ℕ) (n : ℕ) → is_line_end b ≡ false → n ≤ line_len bs → suc n ≤ line_len (b ∷ bs)
one_more b bs n isnt below = let e : line_len (b ∷ bs) ≡ suc (line_len bs) = line_of b bs isnt in omega (arith, e, below)

-- what is before a line's end is no line's end
inside_by : (t : Bool) (n m : ℕ) → suc n ≤ (if t then 0 else suc m) → (t ≡ false) × (n ≤ m)
inside_by true n m below = absurd (omega (arith, below))
inside_by false n m below = (refl, omega (arith, below))

inside : (b : ℕ) (bs : List ℕ) (n : ℕ) → suc n ≤ line_len (b ∷ bs) → (is_line_end b ≡ false) × (n ≤ line_len bs)
inside b bs n below = inside_by (is_line_end b) n (line_len bs) below

line_by : (t : Bool) (n m : ℕ) → n ≤ m → (if t then 0 else suc n) ≤ suc m
line_by true n m below = omega arith
line_by false n m below = omega (arith, below)

pub line_within : (text : List ℕ) → line_len text ≤ length text
line_within [] = omega arith
line_within (b ∷ bs) = line_by (is_line_end b) (line_len bs) (length bs) (line_within bs)

-- a front and then another
pub further : (n m : ℕ) (text : List ℕ) → n ≤ line_len text → m ≤ line_len (drop n text) → n + m ≤ line_len text
further zero m text first second = omega (arith, second)
further (suc n) m [] first second = absurd (omega (arith, first))
further (suc n) m (b ∷ bs) first second =
    let parts : (is_line_end b ≡ false) × (n ≤ line_len bs) = inside b bs n first in
    let more : suc (n + m) ≤ line_len (b ∷ bs) = one_more b bs (n + m) parts.0 (further n m bs parts.1 second) in omega (arith, more)

-- ---- whole lines

whole_of : (b : ℕ) (bs : List ℕ) → is_line_end b ≡ false → whole_line_len (b ∷ bs) ≡ suc (whole_line_len bs)
whole_of b bs isnt = let e : line_len (b ∷ bs) ≡ suc (line_len bs) = line_of b bs isnt in
    ap (λ n. n + line_end_len (drop n (b ∷ bs))) e ∙ (let sum : suc (line_len bs) + line_end_len (drop (line_len bs) bs) ≡ suc (line_len bs + line_end_len (drop (line_len bs) bs)) = omega arith in sum)

-- the line behind a front
pub whole_behind : (n : ℕ) (text : List ℕ) → n ≤ line_len text → whole_line_len (drop n text) + n ≡ whole_line_len text
whole_behind zero text below = omega arith
whole_behind (suc n) [] below = absurd (omega (arith, below))
whole_behind (suc n) (b ∷ bs) below = let parts : (is_line_end b ≡ false) × (n ≤ line_len bs) = inside b bs n below in
    let more : whole_line_len (drop n bs) + n ≡ whole_line_len bs = whole_behind n bs parts.1 in
    let whole : whole_line_len (b ∷ bs) ≡ suc (whole_line_len bs) = whole_of b bs parts.0 in omega (arith, more, whole)

end_by : (x y : Bool) (m : ℕ) → (x ≡ true → 0 < m) → (if x then 2 else (if y then 1 else 0)) ≤ suc m
end_by true y m some = let s : 0 < m = some refl in omega (arith, s)
end_by false true m some = omega arith
end_by false false m some = omega arith

begun : (b : ℕ) (text : List ℕ) → begins b text ≡ true → 0 < length text
begun b [] is = absurd (let no : false ≡ true = is in cc)
begun b (c ∷ cs) is = omega arith

end_within : (text : List ℕ) → line_end_len text ≤ length text
end_within [] = omega arith
end_within (b ∷ bs) = end_by (b == 13 && begins 10 bs) (is_line_end b) (length bs) (λ is. begun 10 bs (and_parts (b == 13) (begins 10 bs) is).1)

pub whole_within : (text : List ℕ) → whole_line_len text ≤ length text
whole_within text = let end : line_end_len (drop (line_len text) text) ≤ length (drop (line_len text) text) = end_within (drop (line_len text) text) in
    let rest : length (drop (line_len text) text) ≡ length text - line_len text = length-drop (line_len text) text in
    let line : line_len text ≤ length text = line_within text in omega (arith, end, rest, line)

some_end : (x y : Bool) → y ≡ true → 0 < (if x then 2 else (if y then 1 else 0))
some_end true y is = omega arith
some_end false true is = omega arith
some_end false false is = absurd (let no : false ≡ true = is in cc)

whole_by : (b : ℕ) (bs : List ℕ) (t : Bool) → is_line_end b ≡ t → 0 < whole_line_len (b ∷ bs)
whole_by b bs true is = let none : line_len (b ∷ bs) ≡ 0 = ap (λ t. if t then 0 else suc (line_len bs)) is in
    subst (λ n. 0 < n + line_end_len (drop n (b ∷ bs))) (sym none) (let some : 0 < line_end_len (b ∷ bs) = some_end (b == 13 && begins 10 bs) (is_line_end b) is in omega (arith, some))
whole_by b bs false is = let whole : whole_line_len (b ∷ bs) ≡ suc (whole_line_len bs) = whole_of b bs is in omega (arith, whole)

-- a line with its end has a byte, where the text has one
pub some_whole : (text : List ℕ) → 0 < length text → 0 < whole_line_len text
some_whole [] some = absurd (omega (arith, some))
some_whole (b ∷ bs) some = whole_by b bs (is_line_end b) refl

-- a front of a text's front
pub line_take : (n : ℕ) (text : List ℕ) → line_len (take n text) ≤ line_len text
line_take zero text = omega arith
line_take (suc n) [] = omega arith
line_take (suc n) (b ∷ bs) = both_by (is_line_end b) (line_len (take n bs)) (line_len bs) (line_take n bs)
  where
    both_by : (t : Bool) (n m : ℕ) → n ≤ m → (if t then 0 else suc n) ≤ (if t then 0 else suc m)
    both_by true n m below = omega arith
    both_by false n m below = omega (arith, below)

-- what isn't at a line's end is on the line
no_end_by : (b : ℕ) (bs : List ℕ) (t : Bool) → is_line_end b ≡ t → line_end_len (b ∷ bs) ≡ 0 → 1 ≤ line_len (b ∷ bs)
no_end_by b bs true is none = absurd (let some : 0 < line_end_len (b ∷ bs) = some_end (b == 13 && begins 10 bs) (is_line_end b) is in omega (arith, some, none))
no_end_by b bs false is none = one_more b bs 0 is (omega arith)

pub no_end : (text : List ℕ) → 0 < length text → line_end_len text ≡ 0 → 1 ≤ line_len text
no_end [] some none = absurd (omega (arith, some))
no_end (b ∷ bs) some none = no_end_by b bs (is_line_end b) refl none

-- ---- the place behind a front

last_inside : (n : ℕ) (text : List ℕ) → suc n ≤ line_len text → is_line_end (slice_index text n) ≡ false
last_inside n [] below = absurd (omega (arith, below))
last_inside zero (b ∷ bs) below = (inside b bs 0 below).0
last_inside (suc n) (b ∷ bs) below = last_inside n bs (inside b bs (suc n) below).1

last_behind : (place n : ℕ) (text : List ℕ) → suc n ≤ line_len (drop place text) → is_line_end (slice_index text (place + n)) ≡ false
last_behind zero n text below = let e : 0 + n ≡ n = omega arith in subst (λ k. is_line_end (slice_index text k) ≡ false) (sym e) (last_inside n text below)
last_behind (suc place) n [] below = absurd (omega (arith, below))
last_behind (suc place) n (b ∷ bs) below = let e : suc place + n ≡ suc (place + n) = omega arith in
    subst (λ k. is_line_end (slice_index (b ∷ bs) k) ≡ false) (sym e) (last_behind place n bs below)

-- no line begins behind a front
pub not_begun : (place n : ℕ) (text : List ℕ) → OnLine (drop place text) n → begins_line text (place + n) ≡ false
not_begun place zero text on = absurd (omega (arith, on.0))
not_begun place (suc n) text on = let e : place + suc n ≡ suc (place + n) = omega arith in
    subst (λ k. begins_line text k ≡ false) (sym e) (last_behind place n text on.1)

-- ---- what a front is

pub first_on : (p : ℕ → Bool) → p 10 ≡ false → p 13 ≡ false → (text : List ℕ) → first_is p text ≡ true → 1 ≤ line_len text
first_on p ten thirteen [] is = absurd (let no : false ≡ true = is in cc)
first_on p ten thirteen (b ∷ bs) is = one_more b bs 0 (is_other p ten thirteen b is) (omega arith)

pub begins_on : (c : ℕ) → is_line_end c ≡ false → (text : List ℕ) → begins c text ≡ true → 1 ≤ line_len text
begins_on c isnt [] is = absurd (let no : false ≡ true = is in cc)
begins_on c isnt (b ∷ bs) is = one_more b bs 0 (subst (λ x. is_line_end x ≡ false) (sym (eqb-true b c is)) isnt) (omega arith)

runs_by : (t : Bool) (n m : ℕ) → (t ≡ true → suc n ≤ m) → (if t then suc n else 0) ≤ m
runs_by true n m more = more refl
runs_by false n m more = omega arith

-- a run of bytes of a class that has no line's end
pub runs_on : (c : ℕ → List ℕ → Bool) (f : List ℕ → ℕ) → f [] ≡ 0 → ((b : ℕ) (bs : List ℕ) → f (b ∷ bs) ≡ (if c b bs then suc (f bs) else 0))
    → ((b : ℕ) (bs : List ℕ) → c b bs ≡ true → is_line_end b ≡ false) → (text : List ℕ) → f text ≤ line_len text
runs_on c f none some other [] = omega (arith, none)
runs_on c f none some other (b ∷ bs) = subst (λ n. n ≤ line_len (b ∷ bs)) (sym (some b bs))
    (runs_by (c b bs) (f bs) (line_len (b ∷ bs)) (λ is. one_more b bs (f bs) (other b bs is) (runs_on c f none some other bs)))

-- whether no line ends in these bytes
abbrev pub is_even : List ℕ → Bool
is_even [] = true
is_even (b ∷ bs) = not_line_end b && is_even bs
  where
    not_line_end : ℕ → Bool
    not_line_end b = if is_line_end b then false else true

not_by : (t : Bool) → (if t then false else true) ≡ true → t ≡ false
not_by true is = absurd (let no : false ≡ true = is in cc)
not_by false is = refl

-- a front of given bytes
pub front_on : (front text : List ℕ) → is_even front ≡ true → has_front front text ≡ true → length front ≤ line_len text
front_on [] text even is = omega arith
front_on (f ∷ fs) [] even is = absurd (let no : false ≡ true = is in cc)
front_on (f ∷ fs) (b ∷ bs) even is =
    let same : (nat_eq f b ≡ true) × (bytes_eq fs (take (length fs) bs) ≡ true) = and_parts (nat_eq f b) (bytes_eq fs (take (length fs) bs)) is in
    let parts : ((if is_line_end f then false else true) ≡ true) × (is_even fs ≡ true) = and_parts _ _ even in
    let isnt : is_line_end b ≡ false = subst (λ c. is_line_end c ≡ false) (eqb-true f b same.0) (not_by (is_line_end f) parts.0) in
    one_more b bs (length fs) isnt (front_on fs bs parts.1 same.1)
