-- What is skipped between tokens: blanks, comments and annotations.
use Rattle.std.specs.Prelude.{ℕ, ◌==◌, Bool, false, not, ◌&&◌, if◌then◌else◌, List, [], ◌∷◌, Option, Some, None}
use Rattle.rbs_lexer.specs.declared.reading.Reading.{Reading}
use Rattle.rbs_lexer.specs.declared.reading.Reading.TheVariants.{Skipped, Refused}
use Rattle.rbs_lexer.specs.Bytes.{is_nil, is_blank, all_blank, has_line_end, has_byte, ends_at}

-- some blanks, or a comment, from `#` on without the end of its line
unfoldable pub is_gap : List ℕ → Bool
is_gap [] = false
is_gap (b ∷ bs) = if b == 35 then not (has_line_end bs) else is_blank b && all_blank bs

-- the bracket that closes what this one opens
abbrev pub closing : ℕ → Option ℕ
closing b = if b == 123 then Some 125 else (if b == 40 then Some 41 else (if b == 91 then Some 93 else (if b == 60 then Some 62 else (if b == 124 then Some 124 else None))))

-- bytes up to and with the closing bracket, or all there are where it doesn't come
abbrev pub bracketed : Option ℕ → List ℕ → List ℕ → Option Reading
bracketed None run next = None
bracketed (Some close) run next = if ends_at close run then Some Skipped else (if is_nil next && not (has_byte close run) then Some Refused else None)

-- `%a` and what stands in brackets directly behind it
unfoldable pub annotation : List ℕ → List ℕ → Option Reading
annotation [] next = None
annotation (a ∷ []) next = None
annotation (a ∷ b ∷ []) next = None
annotation (a ∷ b ∷ c ∷ run) next = if a == 37 && b == 97 then bracketed (closing c) run next else None
