-- Escapes of strings, as they stand in a text.
use Rattle.std.specs.Prelude.{ℕ, ◌==◌, if◌then◌else◌, List, [], ◌∷◌, Option, None}
use Rattle.rbs_grammar.specs.Values.{escaped}

-- what the escape stands for that begins the bytes
abbrev pub escape_at : ℕ → List ℕ → Option ℕ
escape_at quote [] = None
escape_at quote (b ∷ []) = None
escape_at quote (b ∷ c ∷ bs) = if b == 92 then escaped quote c else None
