-- Strings, and names between backquotes.
use Rattle.std.specs.Prelude.{ℕ, ◌==◌, Bool, false, not, ◌&&◌, ◌||◌, if◌then◌else◌, List, [], ◌∷◌}
use Rattle.rbs_lexer.specs.Bytes.{is_nil, ends_at}

-- whether the quote is the last of these bytes, and none before it but behind a backslash, which takes the byte behind it along
abbrev pub is_closed : ℕ → Bool → List ℕ → Bool
is_closed quote escaped [] = false
is_closed quote escaped (b ∷ bs) = if not escaped && b == quote then is_nil bs else is_closed quote (not escaped && b == 92) bs

-- a string between `"` or `'`
unfoldable pub is_string : List ℕ → Bool
is_string [] = false
is_string (b ∷ bs) = (b == 34 || b == 39) && is_closed b false bs

-- any text between backquotes
unfoldable pub is_backquoted : List ℕ → Bool
is_backquoted [] = false
is_backquoted (b ∷ bs) = b == 96 && ends_at 96 bs
