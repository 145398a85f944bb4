-- What is shown of the pieces of a printed tree: that their tokens spell it, and that its text is cut into them.
use Rattle.std.specs.Prelude.{◌≡◌, ℕ, zero, suc, ◌≤◌, ◌==◌, Bool, true, false, ◌||◌, ◌&&◌, List, [], ◌∷◌, ◌++◌, Option, Some, None, if◌then◌else◌}
use Rattle.std.specs.Str.{IsUtf8}
use Rattle.rbs_tree.specs.declared.types.Ty.{Ty}
use Rattle.rbs_tree.specs.declared.types.BlockType.{BlockType}
use Rattle.rbs_tree.specs.declared.types.Keyword.{Keyword}
use Rattle.rbs_tree.specs.declared.types.MethodType.{MethodType}
use Rattle.rbs_tree.specs.declared.types.Param.{Param}
use Rattle.rbs_tree.specs.declared.types.Ty.TheViews.{out-BlockType, out-MethodType}
use Rattle.rbs_lexer.specs.Tokens.{Token}
use Rattle.rbs_lexer.specs.declared.kind.Kind.TheVariants as k
use Rattle.rbs_lexer.specs.declared.place.Place.{Place}
use Rattle.rbs_lexer.specs.declared.place.Place.TheVariants as place
use Rattle.rbs_lexer.specs.declared.walk.Walk.{Walk}
use Rattle.rbs_lexer.specs.Bytes.{begins_with}
use Rattle.rbs_lexer.specs.Lexing.{Piece, past_all, tokens_of, IsCut}
use Rattle.rbs_grammar.specs.Rules.{is, is_word}
use Rattle.rbs_grammar.specs.Grammar.{Grammar, spells, begins, begins_two}
use Rattle.rbs_grammar.specs.Levels.{Room, full, room, spell_in}
use Rattle.rbs_grammar.specs.Types as types
use Rattle.rbs_grammar.specs.Functions as functions
use Rattle.rbs_printer.specs.declared.level.Level.{Level}
use Rattle.rbs_printer.specs.declared.level.Level.TheVariants as at
use Rattle.rbs_printer.specs.declared.level.Front.{Front}
use Rattle.rbs_printer.specs.Printed.{is_name, marked_front}
use Rattle.rbs_printer.specs.Again.{bare, bare_method}
use Rattle.rbs_printer.proofs.Pieces.{Pieced, pieced, flat}
use Rattle.rbs_printer.proofs.Fit.{fit}

-- ---- the tokens spell it

-- so many rules may still be opened, of both sorts
abbrev pub deep : ℕ → Room
deep zero = full
deep (suc n) = room (deep n) (deep n)

-- the grammar of a level
abbrev pub grammar_at : Level → Grammar Ty
grammar_at at.Union = types.union
grammar_at at.Inter = types.inter
grammar_at at.Optional = types.opt
grammar_at at.Base = types.base

-- a name doesn't go on
abbrev pub Clear : List Token → Type 0
Clear rest = begins (is k.ColonColon) rest ≡ false

-- The tokens of the pieces spell, by a grammar, a type that is this one, spans aside; from some room on, wherever they stand.
abbrev pub SpellsType : Grammar Ty → List Piece → Ty → ℕ → Type 0
SpellsType g pieces ty least = (n : ℕ) → least ≤ n → (walk : Walk) (rest : List Token) → Clear rest
    → (read : Ty) × (spells (spell_in (deep n)) g (tokens_of walk pieces ++ rest) rest read) × (bare read ≡ bare ty)

-- the tokens aren't a word and a `:`, as those of a keyword are, where none follows them
abbrev pub NoKey : List Piece → Type 0
NoKey pieces = (walk : Walk) (rest : List Token) → begins (is k.Colon) rest ≡ false → begins_two is_word (is k.Colon) (tokens_of walk pieces ++ rest) ≡ false

pub record Spelled (p : Pieced) (ty : Ty) : Type 0 where
  pub least : ℕ
  pub spells : (behind : Bool) → SpellsType (grammar_at p.level) (p.pieces behind) ty least
  pub no_key : (behind : Bool) → NoKey (p.pieces behind)

-- The same of a function without variables.
pub record SpelledFunction (pieces : List Piece) (m : MethodType) : Type 0 where
  pub least : ℕ
  pub spells : (n : ℕ) → least ≤ n → (walk : Walk) (rest : List Token) → Clear rest
      → (read : MethodType) × (spells (spell_in (deep n)) functions.function (tokens_of walk pieces ++ rest) rest read) × (bare_method read ≡ bare_method m)

-- ---- the text is cut into them

-- where a type begins: behind `alias |` or `alias &`, or elsewhere
abbrev pub starts : Bool → Place
starts false = place.Plain
starts true = place.OldName

-- a place behind which `|` and `&` lead to no name
abbrev pub is_quiet : Place → Bool
is_quiet place.Plain = true
is_quiet place.BehindSelf = true
is_quiet place.Name = true
is_quiet place.BehindOldSelf = true
is_quiet _ = false

-- where it ends, by whether it leads to a name
abbrev pub Ends : Bool → Place → Type 0
Ends true end = end ≡ place.NewName
Ends false end = is_quiet end ≡ true

-- what may follow a type of a level: nothing, a blank, `,`, `)` or `]`, and behind one that binds most also `?`
abbrev pub follows : Level → List ℕ → Bool
follows level [] = true
follows at.Base (b ∷ bs) = b == 32 || (b == 44 || (b == 41 || (b == 93 || b == 63)))
follows level (b ∷ bs) = b == 32 || (b == 44 || (b == 41 || b == 93))

-- what a type begins with before a text: a word with a `?` directly behind it is a name
abbrev pub front_before : List ℕ → Front → Front
front_before rest front = if begins_with 63 rest then marked_front front else front

-- Before what may follow it, the text is cut into the pieces, and then the lexer is where it should be.
pub record Cut (p : Pieced) : Type 0 where
  pub utf8 : (behind : Bool) → IsUtf8 (flat (p.pieces behind))
  pub cut : (behind : Bool) → (walk : Walk) → walk.place ≡ starts behind → (rest : List ℕ) → (behind && is_name (front_before rest p.front)) ≡ false → IsUtf8 rest → follows p.level rest ≡ true
      → IsCut walk (flat (p.pieces behind) ++ rest) (p.pieces behind) rest
  pub ends : (behind : Bool) → (behind && is_name p.front) ≡ false → (walk : Walk) → walk.place ≡ starts behind → Ends (p.leads behind) (past_all walk (p.pieces behind)).place

-- The same of other pieces, where no name stands and a type that binds least could end.
pub record CutPlain (pieces : List Piece) : Type 0 where
  pub utf8 : IsUtf8 (flat pieces)
  pub cut : (walk : Walk) → walk.place ≡ place.Plain → (rest : List ℕ) → IsUtf8 rest → follows at.Union rest ≡ true → IsCut walk (flat pieces ++ rest) pieces rest

-- ---- by induction on trees

abbrev pub AllOf : {A : Type 0} → (A → Type 0) → List A → Type 0
AllOf P [] = Unit {0}
AllOf P (x ∷ xs) = P x × AllOf P xs

abbrev pub IfThere : {A : Type 0} → (A → Type 0) → Option A → Type 0
IfThere P None = Unit {0}
IfThere P (Some x) = P x

-- a claim of a type for all types in a function, but for those of its block
pub record PlainParts (P : Ty → Type 0) (m : MethodType) : Type 0 where
  pub required : AllOf (λ (p : Param). P p.ty) (out-MethodType m).required
  pub optional : AllOf (λ (p : Param). P p.ty) (out-MethodType m).optional
  pub rest : IfThere (λ (p : Param). P p.ty) (out-MethodType m).rest
  pub trailing : AllOf (λ (p : Param). P p.ty) (out-MethodType m).trailing
  pub keywords : AllOf (λ (p : Keyword). P p.ty) (out-MethodType m).keywords
  pub rest_keywords : IfThere (λ (p : Param). P p.ty) (out-MethodType m).rest_keywords
  pub result : P (out-MethodType m).result

-- the same with those of its block
pub record Parts (P : Ty → Type 0) (m : MethodType) : Type 0 where
  pub plain : PlainParts P m
  pub block : IfThere (λ (b : BlockType). PlainParts P (out-BlockType b).fun) (out-MethodType m).block

abbrev pub SpelledIfFit : Ty → Type 0
SpelledIfFit ty = fit ty ≡ true → Spelled (pieced ty) ty

abbrev pub CutIfFit : Ty → Type 0
CutIfFit ty = fit ty ≡ true → Cut (pieced ty)
