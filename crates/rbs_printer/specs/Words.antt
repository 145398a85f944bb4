-- The texts of names and literals, and lists of texts.
use Rattle.std.specs.Prelude.{ℕ, ℤ, Bool, true, ◌==◌, ◌||◌, if◌then◌else◌, List, [], ◌∷◌, ◌++◌, codes}
use Rattle.std.specs.Fmt.{signed_decimal}
use Rattle.rbs_tree.specs.declared.names.TypeName.{TypeName}
use Rattle.rbs_lexer.specs.Words.{is_word, is_marked}
use Rattle.rbs_lexer.specs.Signs.{is_operator}

-- some texts in a row
abbrev pub joined : List (List ℕ) → List ℕ
joined [] = []
joined (x ∷ []) = x
joined (x ∷ y ∷ more) = x ++ joined (y ∷ more)

-- the texts, each with another before it
abbrev pub behind_each : List ℕ → List (List ℕ) → List ℕ
behind_each sign [] = []
behind_each sign (x ∷ xs) = sign ++ (x ++ behind_each sign xs)

-- the texts with another between them
abbrev pub separated : List ℕ → List (List ℕ) → List ℕ
separated sign [] = []
separated sign (x ∷ xs) = x ++ behind_each sign xs

-- the texts joined by a comma and one blank
abbrev pub listed : List (List ℕ) → List ℕ
listed texts = separated (codes ", ") texts

-- a name: its words with `::` between them, and before the first where it is absolute
unfoldable pub name_text : TypeName → List ℕ
name_text name = (if name.absolute then codes "::" else []) ++ separated (codes "::") name.path

-- a byte as it is printed between `"`
abbrev pub escape : ℕ → List ℕ
escape b = if b == 34 then codes "\\\"" else (if b == 92 then codes "\\\\" else (if b == 10 then codes "\\n" else (if b == 9 then codes "\\t" else b ∷ [])))

abbrev pub escaped : List ℕ → List ℕ
escaped [] = []
escaped (b ∷ bs) = escape b ++ escaped bs

-- a string literal of this value
unfoldable pub string_text : List ℕ → List ℕ
string_text value = joined (codes "\"" ∷ escaped value ∷ codes "\"" ∷ [])

-- whether the lexer reads `:` and the name as the symbol of that name
unfoldable pub names_itself : List ℕ → Bool
names_itself name = is_word name || (is_marked true name || is_operator name)

-- a symbol of this name
unfoldable pub symbol_text : List ℕ → List ℕ
symbol_text name = codes ":" ++ (if names_itself name then name else string_text name)

-- an integer
unfoldable pub integer_text : ℤ → List ℕ
integer_text value = signed_decimal value
