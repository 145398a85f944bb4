-- Classes of bytes, characters and words. A text is its bytes in UTF-8, a place is a byte, and a run at the front of a text is as long
-- as it has bytes; 0 says that there is none.
use Rattle.std.specs.Prelude.{ℕ, suc, ◌+◌, ◌-◌, ◌*◌, ◌==◌, nat_le, nat_lt, Bool, true, false, not, ◌&&◌, ◌||◌, if◌then◌else◌, List, [], ◌∷◌, length, take, drop, slice_index, bytes_eq}
use Rattle.std.specs.Char.{is_ascii_alphanumeric}
use lib.Utf8.{scalar}
use Rattle.unicode_ident.specs.Ident.{is_xid_continue}

-- `0` to `9`
abbrev pub is_digit : ℕ → Bool
is_digit b = nat_le 48 b && nat_le b 57

-- `A` to `Z`
abbrev pub is_upper : ℕ → Bool
is_upper b = nat_le 65 b && nat_le b 90

-- a byte that ends a line: \n, \r, and both of \r\n
abbrev pub is_line_end : ℕ → Bool
is_line_end b = b == 10 || b == 13

-- a space or a tab
abbrev pub is_space : ℕ → Bool
is_space b = b == 32 || b == 9

-- `?` or `!`
abbrev pub is_mark : ℕ → Bool
is_mark b = b == 63 || b == 33

-- a byte that goes on with the character before it
abbrev pub is_continuation : ℕ → Bool
is_continuation b = nat_le 128 b && nat_lt b 192

-- whether there is a first byte, and it is of this class
abbrev pub first_is : (ℕ → Bool) → List ℕ → Bool
first_is p [] = false
first_is p (b ∷ bs) = p b

-- whether the first byte is this one
abbrev pub begins : ℕ → List ℕ → Bool
begins b [] = false
begins b (c ∷ cs) = c == b

-- whether there are no bytes
abbrev pub is_nil : List ℕ → Bool
is_nil [] = true
is_nil (b ∷ bs) = false

-- whether the text begins with these bytes
abbrev pub has_front : List ℕ → List ℕ → Bool
has_front front text = bytes_eq front (take (length front) text)

-- ---- characters

-- the character past ASCII that a byte begins, by what follows it
abbrev pub decoded : ℕ → List ℕ → ℕ
decoded b bs = if nat_lt b 224 then (b - 192) * 64 + (slice_index bs 0 - 128)
    else (if nat_lt b 240 then ((b - 224) * 64 + (slice_index bs 0 - 128)) * 64 + (slice_index bs 1 - 128)
    else (((b - 240) * 64 + (slice_index bs 0 - 128)) * 64 + (slice_index bs 1 - 128)) * 64 + (slice_index bs 2 - 128))

-- a character that continues an identifier
abbrev pub continues_identifier : ℕ → Bool
continues_identifier c = scalar c && is_xid_continue c

-- whether a byte is of a word's character: a letter, a digit, `_`, or of a character past ASCII that continues an identifier. What
-- goes on with a character is of the word where its first byte is.
abbrev pub is_of_word : ℕ → List ℕ → Bool
is_of_word b bs = if nat_lt b 128 then is_ascii_alphanumeric b || b == 95 else (is_continuation b || continues_identifier (decoded b bs))

-- how many bytes go on with a character
abbrev pub continuation_len : List ℕ → ℕ
continuation_len [] = 0
continuation_len (b ∷ bs) = if is_continuation b then suc (continuation_len bs) else 0

-- the first character
abbrev pub character_len : List ℕ → ℕ
character_len [] = 0
character_len (b ∷ bs) = suc (continuation_len bs)

-- ---- words

-- characters of words
abbrev pub word_characters_len : List ℕ → ℕ
word_characters_len [] = 0
word_characters_len (b ∷ bs) = if is_of_word b bs then suc (word_characters_len bs) else 0

-- a word, whose first character is no digit
abbrev pub word_len : List ℕ → ℕ
word_len text = if first_is is_digit text then 0 else word_characters_len text

-- whether a word character begins the text
abbrev pub begins_word : List ℕ → Bool
begins_word [] = false
begins_word (b ∷ bs) = is_of_word b bs

-- whether a single `=` begins the text: one that isn't followed by `=`, `~` or `>`
abbrev pub single_equals : List ℕ → Bool
single_equals [] = false
single_equals (b ∷ bs) = b == 61 && not (first_is (λ c. c == 61 || (c == 126 || c == 62)) bs)

-- whether a word takes the mark that begins the text: not before a single `=`
abbrev pub takes_mark : List ℕ → Bool
takes_mark [] = false
takes_mark (b ∷ bs) = is_mark b && not (single_equals bs)

-- a word with the mark that it takes
abbrev pub marked_len : List ℕ → ℕ
marked_len text = let n = word_len text in
    if n == 0 then 0 else (if takes_mark (drop n text) then suc n else n)
