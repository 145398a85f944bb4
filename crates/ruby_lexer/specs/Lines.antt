-- Lines, blanks and comments.
use Rattle.std.specs.Prelude.{ℕ, zero, suc, ◌+◌, ◌-◌, ◌==◌, Bool, true, false, not, ◌&&◌, ◌||◌, if◌then◌else◌, List, [], ◌∷◌, length, drop, slice_index, Option, Some, None, codes}
use Rattle.ruby_lexer.specs.declared.lines.Look.{Look}
use Rattle.ruby_lexer.specs.declared.lines.Look.TheVariants as look
use Rattle.ruby_lexer.specs.declared.lines.Ahead.{Ahead}
use Rattle.ruby_lexer.specs.declared.lines.Ahead.TheVariants as ahead
use Rattle.ruby_lexer.specs.Characters.{is_line_end, is_space, first_is, begins, has_front}

-- ---- lines

-- the end of a line: \n, \r\n or \r
abbrev pub line_end_len : List ℕ → ℕ
line_end_len [] = 0
line_end_len (b ∷ bs) = if b == 13 && begins 10 bs then 2 else (if is_line_end b then 1 else 0)

-- what stands before a line's end
abbrev pub line_len : List ℕ → ℕ
line_len [] = 0
line_len (b ∷ bs) = if is_line_end b then 0 else suc (line_len bs)

-- a line with its end
abbrev pub whole_line_len : List ℕ → ℕ
whole_line_len text = line_len text + line_end_len (drop (line_len text) text)

-- whether a line begins at the place
abbrev pub begins_line : List ℕ → ℕ → Bool
begins_line text zero = true
begins_line text (suc n) = is_line_end (slice_index text n)

-- whether a line ends here, or the text
abbrev pub ends_line : List ℕ → Bool
ends_line [] = true
ends_line (b ∷ bs) = is_line_end b

-- spaces and tabs
abbrev pub spaces_len : List ℕ → ℕ
spaces_len [] = 0
spaces_len (b ∷ bs) = if is_space b then suc (spaces_len bs) else 0

-- whether the rest of the line is these bytes and then spaces and tabs
abbrev pub is_line : List ℕ → List ℕ → Bool
is_line bytes text = let behind = drop (length bytes) text in
    has_front bytes text && ends_line (drop (spaces_len behind) behind)

-- whether the rest of the line is exactly these bytes
abbrev pub is_bare_line : List ℕ → List ℕ → Bool
is_bare_line bytes text = has_front bytes text && ends_line (drop (length bytes) text)

-- ---- blanks and comments

-- a blank: a space, a tab, or a backslash with the line's end that it stands directly before
abbrev pub blank_len : List ℕ → ℕ
blank_len [] = 0
blank_len (b ∷ bs) = if is_space b then 1 else (if b == 92 && first_is is_line_end bs then suc (line_end_len bs) else 0)

-- a length that is more by some bytes
abbrev pub longer_by : ℕ → Option ℕ → Option ℕ
longer_by n None = None
longer_by n (Some m) = Some (n + m)

-- whether the line here ends a long comment, where a line begins
unfoldable pub ends_comment : Bool → List ℕ → Bool
ends_comment begins_here text = begins_here && is_line (codes "=end") text

-- whether the line here begins a long comment
unfoldable pub begins_comment : List ℕ → Bool
begins_comment text = is_line (codes "=begin") text

-- all up to the next line that is `=end`, and this line with its end, where there is such a line; whether a line begins here
abbrev pub up_to_end : Bool → List ℕ → Option ℕ
up_to_end begins_here [] = None
up_to_end begins_here (b ∷ bs) = if ends_comment begins_here (b ∷ bs) then Some (whole_line_len (b ∷ bs)) else longer_by 1 (up_to_end (is_line_end b) bs)

abbrev pub or_zero : Option ℕ → ℕ
or_zero None = 0
or_zero (Some n) = n

-- a comment from a line `=begin` to a line `=end`, where a line begins here
abbrev pub long_comment_len : List ℕ → ℕ
long_comment_len text = if begins_comment text then or_zero (up_to_end false text) else 0

-- ---- what the next line begins with

-- whether `.` or `&.` is here, and not `..`
abbrev pub is_dot : List ℕ → Bool
is_dot [] = false
is_dot (b ∷ bs) = (b == 38 && begins 46 bs) || (b == 46 && not (begins 46 bs))

-- the look goes on behind so many bytes, of which there is one
abbrev pub behind : ℕ → Look → Ahead
behind len look = ahead.Skips (len - 1) look

-- a look on a line: behind a blank it goes on, behind `#` comes a comment, and all else tells
abbrev pub look_in_line : List ℕ → Ahead
look_in_line text = if blank_len text == 0 then (if begins 35 text then behind 1 look.InComment else ahead.Tells (is_dot text)) else behind (blank_len text) look.InLine

-- a look in a comment
abbrev pub look_in_comment : List ℕ → Ahead
look_in_comment text = if line_end_len text == 0 then behind 1 look.InComment else behind (line_end_len text) look.AtLine

-- a look, by where it stands
abbrev pub look_here : Look → List ℕ → Ahead
look_here look.AtLine text = if long_comment_len text == 0 then look_in_line text else behind (long_comment_len text) look.AtLine
look_here look.InLine text = look_in_line text
look_here look.InComment text = look_in_comment text

-- whether the first token here is such a dot, behind so many bytes; lines with nothing but a comment are skipped
abbrev pub finds_dot : ℕ → Look → List ℕ → Bool
finds_dot n look [] = false
finds_dot (suc n) look (b ∷ bs) = finds_dot n look bs
finds_dot zero look (b ∷ bs) = elim (look_here look (b ∷ bs)) [ ahead.Tells found ↦ found | ahead.Skips n next ↦ finds_dot n next bs ]

-- whether the line that begins here goes on with the line before
unfoldable pub begins_with_dot : List ℕ → Bool
begins_with_dot text = finds_dot 0 look.AtLine text
