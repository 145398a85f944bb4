-- Behind the last line that ends a long comment none ends.
use Rattle.std.proofs.Common.{arith, ◌+◌, ◌-◌, ◌≡◌, ◌<◌, ◌≤◌, ℕ, zero, suc, Bool, true, false, if◌then◌else◌, List, [], ◌∷◌, length, drop, Option, Some, None, refl, ap, sym, subst, ◌∙◌}
use Rattle.std.proofs.lemmas.List.{drop-drop, drop_all, length-drop}
use Rattle.ruby_lexer.specs.Characters.{is_line_end}
use Rattle.ruby_lexer.specs.Lines.{whole_line_len, ends_comment, begins_comment, longer_by, up_to_end, or_zero, long_comment_len}
use Rattle.ruby_lexer.specs.CommentEnds.{EndsBefore}

-- in what is left behind some bytes
pub ends_behind : (last_end n : ℕ) (text : List ℕ) → EndsBefore last_end text → EndsBefore last_end (drop n text)
unfolding EndsBefore
ends_behind last_end n text ends m few = let same : drop m (drop n text) ≡ drop (n + m) text = drop-drop m n text in
    ap (up_to_end false) same ∙ ends (n + m) (subst (λ t. length t ≤ last_end) same few)

pub ends_in : (last_end n : ℕ) (text rest : List ℕ) → rest ≡ drop n text → EndsBefore last_end text → EndsBefore last_end rest
ends_in last_end n text rest is ends = subst (λ t. EndsBefore last_end t) (sym is) (ends_behind last_end n text ends)

either_way : (b : Bool) → (let n : ℕ = if b then 0 else 0 in n ≡ 0)
either_way true = refl
either_way false = refl

-- no long comment is here
pub no_comment : (last_end : ℕ) (text : List ℕ) → EndsBefore last_end text → length text ≤ last_end → long_comment_len text ≡ 0
unfolding EndsBefore
no_comment last_end text ends few = ap (λ o. if begins_comment text then or_zero o else 0) (ends 0 few) ∙ either_way (begins_comment text)

-- ---- the search

none_behind_one : (o : Option ℕ) → longer_by 1 o ≡ None → o ≡ None
none_behind_one None is = refl
none_behind_one (Some n) is = absurd (let no : Some (1 + n) ≡ None = is in cc)

none_by : (b : Bool) (n : ℕ) (o : Option ℕ) → (if b then Some n else longer_by 1 o) ≡ None → o ≡ None
none_by true n o is = absurd (let no : Some n ≡ None = is in cc)
none_by false n o is = none_behind_one o is

none_next : (begins : Bool) (b : ℕ) (bs : List ℕ) → up_to_end begins (b ∷ bs) ≡ None → up_to_end (is_line_end b) bs ≡ None
none_next begins b bs is = none_by (ends_comment begins (b ∷ bs)) (whole_line_len (b ∷ bs)) (up_to_end (is_line_end b) bs) is

-- where no line begins, the first byte ends nothing
at_first : (b : ℕ) (bs : List ℕ) → up_to_end (is_line_end b) bs ≡ None → up_to_end false (b ∷ bs) ≡ None
unfolding ends_comment
at_first b bs is = ap (longer_by 1) is

none_behind : (n : ℕ) (begins : Bool) (text : List ℕ) → up_to_end begins text ≡ None → up_to_end false (drop n text) ≡ None
none_behind zero begins [] is = refl
none_behind zero begins (b ∷ bs) is = at_first b bs (none_next begins b bs is)
none_behind (suc n) begins [] is = refl
none_behind (suc n) begins (b ∷ bs) is = none_behind n (is_line_end b) bs (none_next begins b bs is)

-- what is found so far is right where nothing more ends behind
abbrev pub RightSoFar : ℕ → Bool → ℕ → List ℕ → Type 0
RightSoFar last_end begins at text = up_to_end begins (drop at text) ≡ None → EndsBefore last_end text

pub at_start : (text : List ℕ) → RightSoFar (length text) false 0 text
unfolding EndsBefore
at_start text none n few = none_behind n false text none

behind_all : (at n : ℕ) (text : List ℕ) (begins : Bool) → up_to_end begins (drop at text) ≡ None → at ≤ n → up_to_end false (drop n text) ≡ None
behind_all at n text begins none past = let sum : at + (n - at) ≡ n = omega (arith, past) in
    ap (up_to_end false) (sym (drop-drop (n - at) at text ∙ ap (λ k. drop k text) sum)) ∙ none_behind (n - at) begins (drop at text) none

found : (at n b : ℕ) (text : List ℕ) → at < length text → drop at text ≡ b ∷ drop (at + 1) text → up_to_end (is_line_end b) (drop (at + 1) text) ≡ None
    → length (drop n text) ≤ length text - at → up_to_end false (drop n text) ≡ None
found at n b text within first none few = let size : length (drop n text) ≡ length text - n = length-drop n text in
    behind_all at n text false (ap (up_to_end false) first ∙ at_first b (drop (at + 1) text) none) (omega (arith, within, few, size))

-- the next byte, behind which so many bytes are left at the last end
pub step : (last_end at b : ℕ) (begins : Bool) (text : List ℕ) → at < length text → drop at text ≡ b ∷ drop (at + 1) text → RightSoFar last_end begins at text
    → RightSoFar (if ends_comment begins (drop at text) then length text - at else last_end) (is_line_end b) (at + 1) text
unfolding EndsBefore
step last_end at b begins text within first right none = by_end (ends_comment begins (drop at text)) refl
  where
    by_end : (t : Bool) → ends_comment begins (drop at text) ≡ t → (n : ℕ) → length (drop n text) ≤ (if t then length text - at else last_end) → up_to_end false (drop n text) ≡ None
    by_end true is n few = found at n b text within first none few
    by_end false is n few = right (ap (up_to_end begins) first ∙ ap (λ t. if t then Some (whole_line_len (b ∷ drop (at + 1) text)) else longer_by 1 (up_to_end (is_line_end b) (drop (at + 1) text)))
        (ap (ends_comment begins) (sym first) ∙ is) ∙ ap (longer_by 1) none) n few

-- at the text's end
pub at_end : (last_end at : ℕ) (begins : Bool) (text : List ℕ) → length text ≤ at → RightSoFar last_end begins at text → EndsBefore last_end text
at_end last_end at begins text past right = right (ap (up_to_end begins) (drop_all at text past))
