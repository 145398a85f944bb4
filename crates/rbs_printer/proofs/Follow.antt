-- What follows a token where it ends.
use Rattle.std.specs.Prelude.{ℕ, ◌==◌, nat_lt, Bool, true, false, not, ◌&&◌, ◌||◌, List, [], ◌∷◌}
use Rattle.rbs_lexer.specs.Words.{is_word_character}

-- nothing follows, or a byte of ASCII that is in no word
abbrev pub ends_word : List ℕ → Bool
ends_word [] = true
ends_word (b ∷ bs) = nat_lt b 128 && not (is_word_character b)

-- a mark that a method's name can have follows
abbrev pub has_mark : List ℕ → Bool
has_mark [] = false
has_mark (b ∷ bs) = b == 63 || (b == 33 || b == 61)
