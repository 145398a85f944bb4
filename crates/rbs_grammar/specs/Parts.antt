-- Small grammars that others are put together from.
use Rattle.std.specs.Prelude.{Bool, true, false, List, [], ◌∷◌, Option, Some, None}
use Rattle.rbs_lexer.specs.Tokens.{Token}
use Rattle.rbs_lexer.specs.declared.kind.Kind.{Kind}
use Rattle.rbs_grammar.specs.Rules.{Kinds, is}
use Rattle.rbs_grammar.specs.Grammar.{Grammar, eps, tok, seq, alt, star}

abbrev pub same : {A : Type 0} → A → A
same x = x

abbrev pub first_of : {A B : Type 0} → A → B → A
first_of x y = x

abbrev pub second_of : {A B : Type 0} → A → B → B
second_of x y = y

abbrev pub pair : {A B : Type 0} → A → B → A × B
pair x y = (x, y)

abbrev pub prepend : {A : Type 0} → A → List A → List A
prepend x xs = x ∷ xs

abbrev pub single : {A : Type 0} → A → List A
single x = x ∷ []

-- a token of this kind
abbrev pub token : Kind → Grammar Token
token kind = tok (is kind) kind same

-- a token of one of these kinds, of which one is named
abbrev pub one_of : Kinds → Kind → Grammar Token
one_of p kind = tok p kind same

-- the one and then the other, with the values of both
abbrev pub both : {A B : Type 0} → Grammar A → Grammar B → Grammar (A × B)
both a b = seq pair a b

-- a token of this kind and then the grammar
abbrev pub behind : {A : Type 0} → Kind → Grammar A → Grammar A
behind kind a = seq second_of (token kind) a

-- the grammar and then a token of this kind
abbrev pub before : {A : Type 0} → Grammar A → Kind → Grammar A
before a kind = seq first_of a (token kind)

abbrev pub by_first : {A B : Type 0} → (A → B) → A → Unit {0} → B
by_first f x _ = f x

-- with a function of the value
abbrev pub map_value : {A B : Type 0} → (A → B) → Grammar A → Grammar B
map_value f a = seq (by_first f) a (eps (tt {0}))

-- it or nothing
abbrev pub optional : {A : Type 0} → Grammar A → Grammar (Option A)
optional a = alt (map_value Some a) (eps None)

abbrev pub yes : {A : Type 0} → A → Bool
yes _ = true

-- whether it is there
abbrev pub given : {A : Type 0} → Grammar A → Grammar Bool
given a = alt (map_value yes a) (eps false)

-- some of them or none
abbrev pub any_of : {A : Type 0} → Grammar (List A) → Grammar (List A)
any_of a = alt a (eps [])

-- any number of them
abbrev pub each : {A : Type 0} → Grammar A → Grammar (List A)
each a = star same a

-- one or more, with a token of this kind between them
abbrev pub separated : {A : Type 0} → Kind → Grammar A → Grammar (List A)
separated kind a = seq prepend a (each (behind kind a))
