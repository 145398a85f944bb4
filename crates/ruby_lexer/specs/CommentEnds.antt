-- Where the last long comment of a text can end.
use Rattle.std.specs.Prelude.{◌≡◌, ◌≤◌, ℕ, false, List, length, drop, None}
use Rattle.ruby_lexer.specs.Lines.{up_to_end}

-- Behind a place where so many bytes or fewer are left of the text, no line ends a long comment.
unfoldable pub EndsBefore : ℕ → List ℕ → Type 0
EndsBefore last_end text = (n : ℕ) → length (drop n text) ≤ last_end → up_to_end false (drop n text) ≡ None
