-- Texts in quotes, regexps and word lists: what their characters and escapes stand for.
use Rattle.std.specs.Prelude.{ℕ, suc, ◌+◌, ◌*◌, ◌==◌, Bool, true, false, not, ◌&&◌, ◌||◌, if◌then◌else◌, List, [], ◌∷◌, take, drop, Option, Some, None}
use Rattle.std.specs.Char.{digit_value, is_ascii_hexdigit, encode_utf8}
use lib.Utf8.{scalar}
use Rattle.ruby_lexer.specs.declared.state.Quotes.{Quotes}
use Rattle.ruby_lexer.specs.declared.state.Quotes.TheVariants as quotes
use Rattle.ruby_lexer.specs.declared.token.WordsOf.{WordsOf}
use Rattle.ruby_lexer.specs.declared.token.WordsOf.TheVariants as words
use Rattle.ruby_lexer.specs.Characters.{is_line_end, first_is, begins}
use Rattle.ruby_lexer.specs.Lines.{line_end_len}

-- a piece of a text: what it stands for, how many bytes it has, and whether a line ends with it
pub record Piece : Type 0 where
  pub value : List ℕ
  pub len : ℕ
  pub ends_line : Bool

-- the byte that closes a text
abbrev pub closer : Quotes → ℕ
closer quotes.Plain = 39
closer quotes.Double = 34
closer quotes.Symbol = 34
closer quotes.Regexp = 47

-- whether `#{` is here, in a text that has code in it
abbrev pub begins_code : List ℕ → Bool
begins_code text = begins 35 text && begins 123 (drop 1 text)

abbrev pub has_code : Quotes → Bool
has_code quotes.Plain = false
has_code other = true

-- ---- pieces

-- a piece that is as it is written: a line's end, or a byte
abbrev pub as_written : List ℕ → Piece
as_written text = if line_end_len text == 0 then record { value = take 1 text; len = 1; ends_line = false }
    else record { value = take (line_end_len text) text; len = line_end_len text; ends_line = true }

-- a piece of so many bytes that stands for these
abbrev pub escape : List ℕ → ℕ → Piece
escape value len = record { value = value; len = len; ends_line = false }

-- a piece with the backslash before it; whether it stands for itself too
abbrev pub escaped_as_written : Bool → Piece → Piece
escaped_as_written kept piece = record { value = if kept then 92 ∷ piece.value else piece.value; len = suc piece.len; ends_line = piece.ends_line }

-- what is behind a backslash between `'`: `'` and `\` stand for themselves, and before all else the backslash stands for itself
abbrev pub plain_escape : List ℕ → Piece
plain_escape behind = if first_is (λ b. b == 39 || b == 92) behind then escape (take 1 behind) 2 else escape (92 ∷ []) 1

-- the letters that stand for another character
abbrev pub letter_value : ℕ → ℕ
letter_value b = if b == 110 then 10 else (if b == 116 then 9 else (if b == 115 then 32 else (if b == 114 then 13 else (if b == 48 then 0 else (if b == 101 then 27 else b)))))

-- hexadecimal digits
abbrev pub hexadecimal_len : List ℕ → ℕ
hexadecimal_len [] = 0
hexadecimal_len (b ∷ bs) = if is_ascii_hexdigit b then suc (hexadecimal_len bs) else 0

abbrev pub hexadecimal_value : ℕ → List ℕ → ℕ
hexadecimal_value n [] = n
hexadecimal_value n (b ∷ bs) = hexadecimal_value (n * 16 + digit_value b) bs

-- the character of this number in so many bytes, or else the `u`
abbrev pub character : ℕ → ℕ → Piece
character number len = if scalar number then escape (encode_utf8 number) len else escape (117 ∷ []) 2

-- `\u{` digits `}`, by what stands behind the `{`
abbrev pub braced_unicode : List ℕ → Piece
braced_unicode text = let n = hexadecimal_len text in
    if not (n == 0) && begins 125 (drop n text) then character (hexadecimal_value 0 (take n text)) (n + 4) else escape (117 ∷ []) 2

-- `\u` and 4 digits, by what stands behind the `u`
abbrev pub short_unicode : List ℕ → Piece
short_unicode text = if hexadecimal_len (take 4 text) == 4 then character (hexadecimal_value 0 (take 4 text)) 6 else escape (117 ∷ []) 2

-- what stands behind `\u`
abbrev pub unicode : List ℕ → Piece
unicode text = if begins 123 text then braced_unicode (drop 1 text) else short_unicode text

-- what is behind a backslash between `"`
abbrev pub double_escape : List ℕ → Piece
double_escape [] = escape (92 ∷ []) 1
double_escape (b ∷ bs) = if is_line_end b then escaped_as_written false (as_written (b ∷ bs))
    else (if b == 117 then unicode bs else escape (letter_value b ∷ []) 2)

-- what is behind a backslash between `/`: it stays
abbrev pub regexp_escape : List ℕ → Piece
regexp_escape [] = escape (92 ∷ []) 1
regexp_escape (b ∷ bs) = escaped_as_written true (as_written (b ∷ bs))

abbrev pub escape_of : Quotes → List ℕ → Piece
escape_of quotes.Plain behind = plain_escape behind
escape_of quotes.Double behind = double_escape behind
escape_of quotes.Symbol behind = double_escape behind
escape_of quotes.Regexp behind = regexp_escape behind

-- the piece here, of a text that isn't at its end
unfoldable pub piece_here : Quotes → List ℕ → Piece
piece_here quotes text = if begins 92 text then escape_of quotes (drop 1 text) else as_written text

-- ---- closing

-- the letters behind a regexp: `i`, `m`, `x` and `o`
abbrev pub is_flag : ℕ → Bool
is_flag b = (b == 105 || b == 109) || (b == 120 || b == 111)

abbrev pub flags_len : List ℕ → ℕ
flags_len [] = 0
flags_len (b ∷ bs) = if is_flag b then suc (flags_len bs) else 0

-- ---- word lists

-- the bracket that closes what this one opens
abbrev pub closing : ℕ → Option ℕ
closing b = if b == 40 then Some 41 else (if b == 91 then Some 93 else (if b == 123 then Some 125 else (if b == 60 then Some 62 else None)))

-- what the words of a list are, by the letter that is here
abbrev pub words_of : List ℕ → Option WordsOf
words_of text = if begins 119 text then Some words.Strings else (if begins 105 text then Some words.Symbols else None)

-- what closes the bracket that is here
abbrev pub closing_here : List ℕ → Option ℕ
closing_here [] = None
closing_here (b ∷ bs) = closing b
