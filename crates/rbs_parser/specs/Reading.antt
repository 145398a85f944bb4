-- A place in a list of tokens, and what a function that reads ensures.
use Rattle.std.specs.Prelude.{◌≡◌, ℕ, if◌then◌else◌, List, [], ◌∷◌, Option, Some, None, Result, Ok, Err}
use Rattle.rbs_lexer.specs.Tokens.{Token}
use Rattle.rbs_lexer.specs.declared.kind.Kind.{Kind}
use Rattle.rbs_grammar.specs.Rules.{Kinds}
use Rattle.rbs_grammar.specs.Grammar.{Grammar, begins, Outcome, syntax, deep, read}
use Rattle.rbs_grammar.specs.Levels.{full, rooms, read_in}
use Rattle.rbs_parser.specs.declared.refusal.Refusal.{Refusal}
use Rattle.rbs_parser.specs.declared.refusal.Refusal.TheVariants as refusal

abbrev pub kind_of : List Token → Option Kind
kind_of [] = None
kind_of (t ∷ ts) = Some t.kind

abbrev pub tail : List Token → List Token
tail [] = []
tail (t ∷ ts) = ts

-- the tokens after the next, if that is among these
unfoldable pub after : Kinds → List Token → List Token
after p ts = if begins p ts then tail ts else ts

-- It read what the outcome says, unless memory ran out, and stands behind it or at the fault.
abbrev pub Reads : {X A : Type 0} → (X → A) → Outcome A → Result X Refusal → List Token → Type 0
Reads view outcome (Ok x) new = outcome ≡ Ok (view x, new)
Reads view outcome (Err refusal.NoMemory) new = Unit {0}
Reads view outcome (Err refusal.Syntax) new = outcome ≡ Err (syntax, new)
Reads view outcome (Err refusal.TooDeep) new = outcome ≡ Err (deep, new)

-- It read what the grammar reads where so many marked rules and so many functions may still be opened.
abbrev pub ReadsIn : {A : Type 0} → ℕ → ℕ → Grammar A → List Token → Result A Refusal → List Token → Type 0
ReadsIn marked functions g old result new = Reads (λ x. x) (read (read_in (rooms marked functions)) g old) result new

-- It read what the grammar reads, in which no rule opens.
abbrev pub ReadsPlain : {A : Type 0} → Grammar A → List Token → Result A Refusal → List Token → Type 0
ReadsPlain g old result new = Reads (λ x. x) (read (read_in full) g old) result new
