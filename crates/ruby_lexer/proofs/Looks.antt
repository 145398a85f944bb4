-- Looks at the next lines.
use Rattle.std.proofs.Common.{◌≡◌, ◌<◌, ◌+◌, ℕ, zero, suc, Bool, true, if◌then◌else◌, Some, List, [], ◌∷◌, length, drop, refl, ap, sym, subst, ◌∙◌, arith}
use Rattle.ruby_lexer.specs.declared.lines.Look.{Look}
use Rattle.ruby_lexer.specs.declared.lines.Ahead.TheVariants as ahead
use Rattle.ruby_lexer.specs.Lines.{whole_line_len, ends_comment, longer_by, up_to_end, look_here, finds_dot}
use Rattle.ruby_lexer.specs.Characters.{is_line_end}

-- what is skipped first can be dropped
pub skipped : (n : ℕ) (look : Look) (text : List ℕ) → finds_dot n look text ≡ finds_dot 0 look (drop n text)
skipped zero look text = refl
skipped (suc n) look [] = refl
skipped (suc n) look (b ∷ bs) = skipped n look bs

-- a look that goes on
pub goes_on : (look next : Look) (n : ℕ) (text : List ℕ) → 0 < length text → look_here look text ≡ ahead.Skips n next
    → finds_dot 0 look text ≡ finds_dot 0 next (drop n (drop 1 text))
goes_on look next n [] some is = absurd (omega arith)
goes_on look next n (b ∷ bs) some is = ap (λ a. elim a [ ahead.Tells found ↦ found | ahead.Skips n next ↦ finds_dot n next bs ]) is ∙ skipped n next bs

-- a look that tells
pub told : (look : Look) (found : Bool) (text : List ℕ) → 0 < length text → look_here look text ≡ ahead.Tells found → finds_dot 0 look text ≡ found
told look found [] some is = absurd (omega arith)
told look found (b ∷ bs) some is = ap (λ a. elim a [ ahead.Tells found ↦ found | ahead.Skips n next ↦ finds_dot n next bs ]) is

-- there is something behind some bytes of more
some_behind : (at : ℕ) (text : List ℕ) → at < length text → 0 < length (drop at text)
some_behind zero text below = below
some_behind (suc n) [] below = absurd (omega arith)
some_behind (suc n) (b ∷ bs) below = some_behind n bs (omega (arith, below))

-- a line that ends a long comment
comment_end : (begins_here : Bool) (rest : List ℕ) → 0 < length rest → ends_comment begins_here rest ≡ true → up_to_end begins_here rest ≡ Some (whole_line_len rest)
comment_end begins_here [] some is = absurd (omega arith)
comment_end begins_here (b ∷ bs) some is = ap (λ t. if t then Some (whole_line_len (b ∷ bs)) else longer_by 1 (up_to_end (is_line_end b) bs)) is

-- the line that ends a long comment, behind some bytes
pub found_end : (at n : ℕ) (begins_here : Bool) (text : List ℕ) → at < length text → ends_comment begins_here (drop at text) ≡ true
    → n ≡ whole_line_len (drop at text) → Some (at + n) ≡ longer_by at (up_to_end begins_here (drop at text))
found_end at n begins_here text below is size = subst (λ m. Some (at + m) ≡ longer_by at (up_to_end begins_here (drop at text))) (sym size)
    (ap (longer_by at) (sym (comment_end begins_here (drop at text) (some_behind at text below) is)))
