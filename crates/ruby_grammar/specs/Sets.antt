-- Sets by their members.
use Rattle.std.specs.Prelude.{ℕ, zero, suc, Bool, not, ◌==◌, List, [], ◌∷◌, ◌++◌}
use Rattle.std.specs.List.{list_any}
use Rattle.ruby_grammar.specs.declared.set.Blank.{Blank}
use Rattle.ruby_grammar.specs.declared.set.TokenSet.{TokenSet}

-- numbers below this are in tables
unfoldable pub table_end : ℕ
table_end = 128

-- what is said of each number below an end
abbrev pub table_by : (ℕ → Bool) → ℕ → List Bool
table_by says zero = []
table_by says (suc n) = table_by says n ++ says n ∷ []

abbrev pub is_one_of : List ℕ → ℕ → Bool
is_one_of numbers n = list_any (λ k. k == n) numbers

-- The table that says so of these numbers.
unfoldable pub table_of : List ℕ → List Bool
table_of numbers = table_by (is_one_of numbers) table_end

-- The table that says so of all but these numbers.
unfoldable pub table_but : List ℕ → List Bool
table_but numbers = table_by (λ n. not (is_one_of numbers n)) table_end

-- The tokens of these kinds.
abbrev pub tokens_of : List ℕ → Blank → TokenSet
tokens_of kinds blank = record { kinds = table_of kinds; blank = blank }

-- The tokens of all kinds but these.
abbrev pub tokens_but : List ℕ → Blank → TokenSet
tokens_but kinds blank = record { kinds = table_but kinds; blank = blank }
