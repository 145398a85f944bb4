-- Heredocs: what opens one, and the line that ends it.
use Rattle.std.specs.Prelude.{ℕ, ◌+◌, ◌==◌, Bool, false, not, ◌&&◌, ◌||◌, if◌then◌else◌, List, drop, Option, Some, None}
use Rattle.ruby_lexer.specs.declared.heredocs.Opening.{Opening}
use Rattle.ruby_lexer.specs.declared.state.Heredoc.{Heredoc}
use Rattle.ruby_lexer.specs.Characters.{first_is, begins, word_len}
use Rattle.ruby_lexer.specs.Lines.{line_len, line_end_len, whole_line_len, spaces_len, begins_line, is_line}
use Rattle.ruby_lexer.specs.Tokens.{slice}

-- `~`, `-` or nothing
abbrev pub indent_len : List ℕ → ℕ
indent_len text = if first_is (λ b. b == 126 || b == 45) text then 1 else 0

-- an opening by a bare word of this length, behind so many bytes
abbrev pub bare_opening : ℕ → ℕ → Option Opening
bare_opening before len = if len == 0 then None else Some (record { word_start = before; word_end = before + len; plain = false; len = before + len })

-- an opening by a word of this length between quotes, behind so many bytes; the text begins with the word
abbrev pub quoted_opening : ℕ → ℕ → ℕ → List ℕ → Option Opening
quoted_opening quote before len text = if not (len == 0) && begins quote (drop len text)
    then Some (record { word_start = before + 1; word_end = before + 1 + len; plain = quote == 39; len = before + 2 + len }) else None

-- an opening by a word, bare or between quotes, behind so many bytes
abbrev pub opening_behind : ℕ → List ℕ → Option Opening
opening_behind before text = if begins 39 text then quoted_opening 39 before (word_len (drop 1 text)) (drop 1 text)
    else (if begins 34 text then quoted_opening 34 before (word_len (drop 1 text)) (drop 1 text)
    else bare_opening before (word_len text))

-- what opens a heredoc, by what stands behind the `<<`
unfoldable pub opening_here : List ℕ → Option Opening
opening_here text = opening_behind (indent_len text) (drop (indent_len text) text)

-- the place behind the next line's end
abbrev pub next_line : List ℕ → ℕ → Option ℕ
next_line text place = let rest = drop place text in
    if line_end_len (drop (line_len rest) rest) == 0 then None else Some (place + whole_line_len rest)

-- the place where the body of a heredoc begins that opens on a line, before this place: behind the bodies that the line has already
abbrev pub body_start : List ℕ → Option ℕ → ℕ → Option ℕ
body_start text None place = next_line text place
body_start text (Some bodies_end) place = Some bodies_end

-- whether the line that ends the heredoc is here
unfoldable pub ends_heredoc : List ℕ → Heredoc → ℕ → List ℕ → Bool
ends_heredoc text h place rest = begins_line text place && is_line (slice text h.word_start h.word_end) (drop (spaces_len rest) rest)
