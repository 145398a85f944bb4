-- Which tokens are in a set.
use Rattle.std.specs.Prelude.{ℕ, Bool, true, false, not, ◌&&◌, List, slice_get, Option, Some, None}
use Rattle.ruby_grammar.specs.declared.token.Token.{Token}
use Rattle.ruby_grammar.specs.declared.set.Blank.{Blank}
use Rattle.ruby_grammar.specs.declared.set.Blank.TheVariants as blank
use Rattle.ruby_grammar.specs.declared.set.TokenSet.{TokenSet}

abbrev pub or_false : Option Bool → Bool
or_false None = false
or_false (Some b) = b

-- A table says of each number whether it is meant; numbers past its end aren't.
abbrev pub in_table : List Bool → ℕ → Bool
in_table table n = or_false (slice_get table n)

abbrev pub blank_fits : Blank → Bool → Bool
blank_fits blank.Any b = true
blank_fits blank.With b = b
blank_fits blank.Without b = not b

abbrev pub has : TokenSet → Token → Bool
has set t = in_table set.kinds t.kind && blank_fits set.blank t.blank

abbrev pub or_true : Option Bool → Bool
or_true None = true
or_true (Some b) = b

-- A table says of each kind whether such a token may stand at a place; kinds past its end may. Where no token stands, none may.
abbrev pub may_stand : List Bool → Option Token → Bool
may_stand table None = false
may_stand table (Some t) = or_true (slice_get table t.kind)
