-- Classes of bytes. A text is its bytes in UTF-8.
use Rattle.std.specs.Prelude.{ℕ, ◌==◌, nat_le, Bool, true, false, ◌&&◌, ◌||◌, if◌then◌else◌, List, [], ◌∷◌, slice_index}

-- `0` to `9`
abbrev pub is_digit : ℕ → Bool
is_digit b = nat_le 48 b && nat_le b 57

-- `A` to `Z`
abbrev pub is_upper : ℕ → Bool
is_upper b = nat_le 65 b && nat_le b 90

-- a letter of ASCII, or `_`
abbrev pub is_letter : ℕ → Bool
is_letter b = (nat_le 97 b && nat_le b 122) || (is_upper b || b == 95)

-- a byte that ends a line: \n, \r, and both of \r\n
abbrev pub is_line_end : ℕ → Bool
is_line_end b = b == 10 || b == 13

-- a space, a tab or a byte that ends a line
abbrev pub is_blank : ℕ → Bool
is_blank b = b == 32 || b == 9 || is_line_end b

-- whether there are no bytes
abbrev pub is_nil : List ℕ → Bool
is_nil [] = true
is_nil (b ∷ bs) = false

-- whether there is a first byte, and it is of this class
abbrev pub first_is : (ℕ → Bool) → List ℕ → Bool
first_is p [] = false
first_is p (b ∷ bs) = p b

-- whether the first byte is this one, which isn't 0
abbrev pub begins_with : ℕ → List ℕ → Bool
begins_with b bs = slice_index bs 0 == b

-- whether the first byte is a digit
abbrev pub begins_with_digit : List ℕ → Bool
begins_with_digit bs = is_digit (slice_index bs 0)

-- whether some byte ends a line
abbrev pub has_line_end : List ℕ → Bool
has_line_end [] = false
has_line_end (b ∷ bs) = is_line_end b || has_line_end bs

-- whether all are blanks
abbrev pub all_blank : List ℕ → Bool
all_blank [] = true
all_blank (b ∷ bs) = is_blank b && all_blank bs

-- whether the byte is one of these
abbrev pub has_byte : ℕ → List ℕ → Bool
has_byte b [] = false
has_byte b (c ∷ cs) = c == b || has_byte b cs

-- whether the byte is the last of these, and none before it
abbrev pub ends_at : ℕ → List ℕ → Bool
ends_at b [] = false
ends_at b (c ∷ cs) = if c == b then is_nil cs else ends_at b cs
