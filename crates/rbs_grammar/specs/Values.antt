-- What the texts of tokens stand for.
use Rattle.std.specs.Prelude.{ℕ, zero, suc, ℤ, pos, negsuc, ◌==◌, ◌-◌, ◌^◌, nat_le, ◌||◌, if◌then◌else◌, List, [], ◌∷◌, length, take, drop, slice_index, Option, Some, None}
use Rattle.rbs_lexer.specs.Numbers.{value_from}

-- the bytes between the first and the last
abbrev pub inner : List ℕ → List ℕ
inner text = take (length text - 2) (drop 1 text)

-- what stands for the byte behind a backslash, where the quote's strings have this escape
abbrev pub escaped : ℕ → ℕ → Option ℕ
escaped quote b = if b == quote || b == 92 then Some b
    else (if quote == 34 then (if b == 110 then Some 10 else (if b == 116 then Some 9 else None)) else None)

-- the bytes with their escapes replaced; any other backslash stands for itself, and so does what follows it
abbrev pub unescaped : ℕ → List ℕ → List ℕ
unescaped quote [] = []
unescaped quote (b ∷ []) = b ∷ []
unescaped quote (b ∷ c ∷ bs) = if b == 92 then by_escape (escaped quote c) (unescaped quote bs) (unescaped quote (c ∷ bs)) else b ∷ unescaped quote (c ∷ bs)
  where
    by_escape : Option ℕ → List ℕ → List ℕ → List ℕ
    by_escape (Some d) rest whole = d ∷ rest
    by_escape None rest whole = 92 ∷ whole

-- what a string stands for: `\"`, `\\`, `\n` and `\t` are escapes between `"`, and `\'` and `\\` between `'`
unfoldable pub string_value : List ℕ → List ℕ
string_value text = unescaped (slice_index text 0) (inner text)

-- the name of a symbol, without its `:`
unfoldable pub symbol_value : List ℕ → List ℕ
symbol_value text = let name = drop 1 text in
    if slice_index name 0 == 34 || slice_index name 0 == 39 then string_value name else name

-- the name of a method, without its backquotes
unfoldable pub method_name_value : List ℕ → List ℕ
method_name_value text = if slice_index text 0 == 96 then inner text else text

abbrev pub negative : ℕ → ℤ
negative zero = pos 0
negative (suc n) = negsuc n

-- the integer of these digits, without its sign; past 128 bits, as no token is, it is 0
abbrev pub sized : ℕ → (ℕ → ℤ) → List ℕ → ℤ
sized limit sign digits = if nat_le (value_from 0 digits) limit then sign (value_from 0 digits) else pos 0

-- the integer that is written so
unfoldable pub integer_value : List ℕ → ℤ
integer_value [] = pos 0
integer_value (b ∷ bs) = if b == 45 then sized (2 ^ 127) negative bs else sized (2 ^ 127 - 1) pos (b ∷ bs)
