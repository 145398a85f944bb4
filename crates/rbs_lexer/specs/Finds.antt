-- How the longest run is found: what the private functions answer. The proofs show that each finds the longest that there is.
use Rattle.std.specs.Prelude.{ℕ, suc, ◌+◌, ◌==◌, ◌-◌, ◌^◌, nat_lt, nat_le, slice_index, Bool, true, false, not, ◌&&◌, ◌||◌, if◌then◌else◌, List, [], ◌∷◌, length, take, drop, Option, Some, None, chars, bytes_eq}
use Rattle.std.specs.Char.{len_utf8}
use Rattle.rbs_lexer.specs.declared.kind.Kind.{Kind}
use Rattle.rbs_lexer.specs.declared.kind.Kind.TheVariants as k
use Rattle.rbs_lexer.specs.declared.place.Place.{Place}
use Rattle.rbs_lexer.specs.declared.reading.Reading.{Reading}
use Rattle.rbs_lexer.specs.declared.reading.Reading.TheVariants.{Token, Skipped, Refused}
use Rattle.rbs_lexer.specs.declared.reading.Found.{Found}
use Rattle.rbs_lexer.specs.Bytes.{is_line_end, is_blank, is_digit, is_letter, begins_with_digit}
use Rattle.rbs_lexer.specs.Words.{is_word_character, is_mark, word_kind}
use Rattle.rbs_lexer.specs.Numbers.{goes_on, value_from}
use Rattle.rbs_lexer.specs.Gaps.{closing}
use Rattle.rbs_lexer.specs.Places.{has_name, takes_equals}
use Rattle.rbs_lexer.specs.Signs.{signs, special_names, operators}

-- a length that is more by some bytes
abbrev pub longer_by : ℕ → Option ℕ → Option ℕ
longer_by n None = None
longer_by n (Some m) = Some (n + m)

-- the greater of two lengths
abbrev pub longer_len : Option ℕ → Option ℕ → Option ℕ
longer_len None second = second
longer_len (Some n) None = Some n
longer_len (Some n) (Some m) = if nat_lt n m then Some m else Some n

-- whether what is so long is all of a text
abbrev pub is_all : Option ℕ → List ℕ → Bool
is_all None text = false
is_all (Some len) text = len == length text

-- the longer of two runs, and of two of one length the first
abbrev pub longer : Option Found → Option Found → Option Found
longer None second = second
longer (Some first) None = Some first
longer (Some first) (Some second) = if nat_lt first.len second.len then Some second else Some first

-- a run of this length is such a token
abbrev pub found_of : Kind → Option ℕ → Option Found
found_of kind None = None
found_of kind (Some len) = Some (record { reading = Token kind; len = len })

-- how many bytes the characters of words take with which the characters begin
abbrev pub word_bytes : List ℕ → ℕ
word_bytes [] = 0
word_bytes (c ∷ cs) = if is_word_character c then len_utf8 c + word_bytes cs else 0

-- the same for a text
abbrev pub word_len : List ℕ → ℕ
word_len text = word_bytes (chars text)

-- a byte of ASCII that words have: a letter, a digit or `_`
abbrev pub is_word_byte : ℕ → Bool
is_word_byte b = is_letter b || is_digit b

-- how many bytes at the front are such
abbrev pub plain_len : List ℕ → ℕ
plain_len [] = 0
plain_len (b ∷ bs) = if is_word_byte b then suc (plain_len bs) else 0

-- how many bytes at the front are digits, or `_` before a digit
abbrev pub digits_front : List ℕ → ℕ
digits_front [] = 0
digits_front (b ∷ bs) = if goes_on b bs then suc (digits_front bs) else 0

-- how long the digits at the front are, with single `_` between them
abbrev pub digits_len : List ℕ → Option ℕ
digits_len text = if begins_with_digit text then Some (digits_front text) else None

-- how many bytes at the front are blanks
abbrev pub blanks_len : List ℕ → ℕ
blanks_len [] = 0
blanks_len (b ∷ bs) = if is_blank b then suc (blanks_len bs) else 0

-- how many bytes stand before the line's end
abbrev pub line_len : List ℕ → ℕ
line_len [] = 0
line_len (b ∷ bs) = if is_line_end b then 0 else suc (line_len bs)

-- how many bytes go up to and with a byte
abbrev pub up_to : ℕ → List ℕ → Option ℕ
up_to close [] = None
up_to close (b ∷ bs) = if b == close then Some 1 else longer_by 1 (up_to close bs)

-- how many bytes go up to and with the closing quote
abbrev pub closed_len : ℕ → Bool → List ℕ → Option ℕ
closed_len quote escaped [] = None
closed_len quote escaped (b ∷ bs) = if not escaped && b == quote then Some 1 else longer_by 1 (closed_len quote (not escaped && b == 92) bs)

-- how long some blanks or a comment at the front are
unfoldable pub gap_len : List ℕ → Option ℕ
gap_len [] = None
gap_len (b ∷ bs) = if b == 35 then Some (1 + line_len bs) else (if is_blank b then Some (1 + blanks_len bs) else None)

-- a run of this length is skipped
abbrev pub skipped : Option ℕ → Option Found
skipped None = None
skipped (Some len) = Some (record { reading = Skipped; len = len })

-- an annotation up to and with its closing bracket, or all of the text, which is refused
abbrev pub up_to_or_all : Option ℕ → List ℕ → Option Found
up_to_or_all None bs = Some (record { reading = Refused; len = 3 + length bs })
up_to_or_all (Some len) bs = Some (record { reading = Skipped; len = 3 + len })

-- an annotation by its closing bracket
abbrev pub bracketed : Option ℕ → List ℕ → Option Found
bracketed None bs = None
bracketed (Some close) bs = up_to_or_all (up_to close bs) bs

-- an annotation at the front, which is refused where it isn't closed
unfoldable pub annotation_front : List ℕ → Option Found
annotation_front [] = None
annotation_front (a ∷ []) = None
annotation_front (a ∷ b ∷ []) = None
annotation_front (a ∷ b ∷ c ∷ bs) = if a == 37 && b == 97 then bracketed (closing c) bs else None

-- how long a string at the front is
unfoldable pub string_len : List ℕ → Option ℕ
string_len [] = None
string_len (b ∷ bs) = if b == 34 || b == 39 then longer_by 1 (closed_len b false bs) else None

-- how long a text between backquotes at the front is
unfoldable pub backquoted_len : List ℕ → Option ℕ
backquoted_len [] = None
backquoted_len (b ∷ bs) = if b == 96 then longer_by 1 (up_to 96 bs) else None

-- how long the prefix is, where the text begins with it
abbrev pub prefix_len : List ℕ → List ℕ → Option ℕ
prefix_len prefix text = if bytes_eq prefix (take (length prefix) text) then Some (length prefix) else None

-- how long the longest of these is with which the text begins
abbrev pub longest_of : List (List ℕ) → List ℕ → Option ℕ
longest_of [] text = None
longest_of (prefix ∷ prefixes) text = longer_len (prefix_len prefix text) (longest_of prefixes text)

-- the longest of these signs with which the text begins
abbrev pub longest_sign : List (List ℕ × Kind) → List ℕ → Option Found
longest_sign [] text = None
longest_sign (e ∷ es) text = longer (found_of e.1 (prefix_len e.0 text)) (longest_sign es text)

-- how long the operator at the front is
unfoldable pub operator_len : List ℕ → Option ℕ
operator_len text = longest_of operators text

-- the sign at the front
unfoldable pub sign_front : List ℕ → Option Found
sign_front text = longest_sign signs text

-- the name at the front that is a token of its own
unfoldable pub special_front : List ℕ → Option Found
special_front text = longest_sign special_names text

-- the reading of digits, by the greatest number that is let pass
abbrev pub fitting : ℕ → List ℕ → Reading
fitting limit digits = if nat_le (value_from 0 digits) limit then Token k.Integer else Refused

-- an integer of so many digits, behind a sign of some bytes
abbrev pub sized_front : ℕ → ℕ → List ℕ → Option ℕ → Option Found
sized_front sign limit text None = None
sized_front sign limit text (Some len) = Some (record { reading = fitting limit (take len text); len = sign + len })

-- the integer at the front
unfoldable pub number_front : List ℕ → Option Found
number_front [] = None
number_front (b ∷ bs) = if b == 45 then sized_front 1 (2 ^ 127) bs (digits_len bs) else sized_front 0 (2 ^ 127 - 1) (b ∷ bs) (digits_len (b ∷ bs))

-- how long any word at the front is
unfoldable pub any_word_len : List ℕ → Option ℕ
any_word_len text = if word_len text == 0 then None else Some (word_len text)

-- a word of so many bytes
abbrev pub word_of : List ℕ → Option ℕ → Option Found
word_of text None = None
word_of text (Some len) = Some (record { reading = Token (word_kind (take len text)); len = len })

-- the word at the front, where it doesn't begin with a digit
unfoldable pub word_front : List ℕ → Option Found
word_front text = if begins_with_digit text then None else word_of text (any_word_len text)

-- how long a word of so many bytes is with the mark behind it
abbrev pub marked_by : Bool → List ℕ → Option ℕ → Option ℕ
marked_by equals text None = None
marked_by equals text (Some len) = if is_mark equals (slice_index text len) then Some (len + 1) else None

-- how long a word with a mark at the front is
unfoldable pub marked_len : Bool → List ℕ → Option ℕ
marked_len equals text = marked_by equals text (any_word_len text)

-- how long a word behind a byte at the front is
unfoldable pub word_behind : ℕ → List ℕ → Option ℕ
word_behind sign [] = None
word_behind sign (b ∷ bs) = if b == sign then longer_by 1 (any_word_len bs) else None

-- the same behind that byte twice
unfoldable pub word_behind_two : ℕ → List ℕ → Option ℕ
word_behind_two sign [] = None
word_behind_two sign (b ∷ bs) = if b == sign then longer_by 1 (word_behind sign bs) else None

-- the variable at the front
unfoldable pub variable_front : List ℕ → Option Found
variable_front text = longer (found_of k.InstanceVariable (word_behind 64 text)) (longer (found_of k.ClassVariable (word_behind_two 64 text)) (found_of k.Global (word_behind 36 text)))

-- how long what a symbol names is
unfoldable pub symbol_name_len : List ℕ → Option ℕ
symbol_name_len text = longer_len (any_word_len text) (longer_len (marked_len true text) (longer_len (operator_len text) (string_len text)))

-- how long the symbol at the front is
unfoldable pub symbol_len : List ℕ → Option ℕ
symbol_len [] = None
symbol_len (b ∷ bs) = if b == 58 then longer_by 1 (symbol_name_len bs) else None

-- whether blanks or a comment begin with the byte
abbrev pub begins_gap : ℕ → Bool
begins_gap b = b == 35 || is_blank b

-- whether a sign begins with the byte, and nothing else does
abbrev pub begins_sign : ℕ → Bool
begins_sign b = b == 40 || b == 41 || b == 91 || b == 93 || b == 123 || b == 125 || b == 44 || b == 124 || b == 38 || b == 63 || b == 94 || b == 61 || b == 60 || b == 46 || b == 42

-- whether a sign begins with the two bytes, and nothing else does: `->`, and `:` before another or a blank
abbrev pub begins_sign_by : ℕ → ℕ → Bool
begins_sign_by b c = b == 45 && c == 62 || b == 58 && (c == 58 || is_blank c)

-- whether the text begins with a sign and nothing else
abbrev pub sign_alone : List ℕ → Bool
sign_alone [] = false
sign_alone (b ∷ []) = begins_sign b
sign_alone (b ∷ c ∷ bs) = begins_sign b || begins_sign_by b c

-- the longest run at the front that can stand anywhere
unfoldable pub ordinary_front : List ℕ → Option Found
ordinary_front text = longer (skipped (gap_len text)) (longer (annotation_front text) (longer (word_front text) (longer (number_front text)
    (longer (found_of k.String (string_len text)) (longer (found_of k.Symbol (symbol_len text)) (longer (variable_front text) (sign_front text)))))))

-- how long a word at the front is that begins with a digit
abbrev pub numeric_len : List ℕ → Option ℕ
numeric_len text = if begins_with_digit text then any_word_len text else None

-- how long the longest run at the front is that only the name of a method can be
unfoldable pub method_name_len : Bool → List ℕ → Option ℕ
method_name_len equals text = longer_len (marked_len equals text) (longer_len (numeric_len text) (longer_len (operator_len text) (backquoted_len text)))

-- whether a `=` that stands behind the word at the front is taken
abbrev pub takes_it : Place → List ℕ → Bool
takes_it place text = takes_equals place (drop (word_len text + 1) text)

-- the longest run at the front where the name of a method may stand
unfoldable pub name_front : Place → List ℕ → Option Found
name_front place text = longer (special_front text) (longer (found_of k.MethodName (method_name_len (takes_it place text) text)) (ordinary_front text))

-- the longest run at the front at a place
unfoldable pub front_at : Place → List ℕ → Option Found
front_at place text = if has_name place then name_front place text else ordinary_front text
