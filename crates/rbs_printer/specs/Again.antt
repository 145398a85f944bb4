-- What it means that a printed tree is read again: the tokens of its text spell the same tree, spans aside.
use Rattle.std.specs.Prelude.{◌≡◌, ℕ, List, [], ◌∷◌, Some}
use Rattle.std.specs.Str.{IsUtf8}
use Rattle.rbs_lexer.specs.Tokens.{Token}
use Rattle.rbs_lexer.specs.declared.place.Place.{Place}
use Rattle.rbs_lexer.specs.declared.reading.Reading.TheVariants as is
use Rattle.rbs_lexer.specs.Runs.{reading}
use Rattle.rbs_lexer.specs.Lexing.{AreTokens}
use Rattle.rbs_tree.specs.declared.names.TypeName.{TypeName}
use Rattle.rbs_tree.specs.declared.types.Ty.{Ty, roll-Ty}
use Rattle.rbs_tree.specs.declared.types.BlockType.{BlockType}
use Rattle.rbs_tree.specs.declared.types.Field.{Field}
use Rattle.rbs_tree.specs.declared.types.Keyword.{Keyword}
use Rattle.rbs_tree.specs.declared.types.MethodType.{MethodType}
use Rattle.rbs_tree.specs.declared.types.Param.{Param}
use Rattle.rbs_tree.specs.declared.types.Ty.TheOpen.{Ty-F}
use Rattle.rbs_tree.specs.declared.types.Ty.TheViews.{roll-BlockType, roll-Field, roll-Keyword, roll-MethodType, roll-Param}
use Rattle.rbs_tree.specs.declared.types.Ty.TheFolds.{fold-Ty, fold-MethodType}
use Rattle.rbs_grammar.specs.Rules.{Rule}
use Rattle.rbs_grammar.specs.Grammar.{spells}
use Rattle.rbs_grammar.specs.Levels.{Room, spell_in}
use Rattle.rbs_grammar.specs.Functions.{method_type}

-- ---- trees without spans

abbrev pub bare_name : TypeName → TypeName
bare_name name = record { absolute = name.absolute; path = name.path; at = record { start = 0; end = 0 } }

-- a layer whose parts have no spans
abbrev pub bare_step : Ty-F Ty BlockType Field Keyword MethodType Param → Ty
bare_step (Ty-F.Instance name args) = roll-Ty (Ty-F.Instance (bare_name name) args)
bare_step (Ty-F.Interface name args) = roll-Ty (Ty-F.Interface (bare_name name) args)
bare_step (Ty-F.Alias name args) = roll-Ty (Ty-F.Alias (bare_name name) args)
bare_step (Ty-F.Singleton name) = roll-Ty (Ty-F.Singleton (bare_name name))
bare_step layer = roll-Ty layer

-- a type, each of whose names has the span from 0 to 0
abbrev pub bare : Ty → Ty
bare = fold-Ty Ty BlockType Field Keyword MethodType Param bare_step roll-BlockType roll-Field roll-Keyword roll-MethodType roll-Param

-- the same of a method type
abbrev pub bare_method : MethodType → MethodType
bare_method = fold-MethodType Ty BlockType Field Keyword MethodType Param bare_step roll-BlockType roll-Field roll-Keyword roll-MethodType roll-Param

-- ---- trees that some tokens spell

-- a token of some text: at a place, and before what follows, its bytes are read as a token of its kind
pub record IsReal (t : Token) : Type 0 where
  pub place : Place
  pub next : List ℕ
  pub utf8 : IsUtf8 t.text
  pub reads : reading place t.text next ≡ Some (is.Token t.kind)

abbrev pub AllReal : List Token → Type 0
AllReal [] = Unit {0}
AllReal (t ∷ ts) = IsReal t × AllReal ts

-- Some tokens, up to others, spell the type.
pub record IsSpelled (ty : Ty) : Type 0 where
  pub room : Room
  pub tokens : List Token
  pub rest : List Token
  pub real : AllReal tokens
  pub spelled : spell_in room Rule.ty tokens rest ty

-- Some tokens, up to others, spell the method type.
pub record IsSpelledMethod (m : MethodType) : Type 0 where
  pub room : Room
  pub tokens : List Token
  pub rest : List Token
  pub real : AllReal tokens
  pub spelled : spells (spell_in room) method_type tokens rest m

-- ---- texts that are read again

-- The tokens of the text, all of them, spell a type that is this one, spans aside.
pub record IsReadAgain (text : List ℕ) (ty : Ty) : Type 0 where
  pub tokens : List Token
  pub are : AreTokens text tokens
  pub room : Room
  pub read : Ty
  pub spelled : spell_in room Rule.ty tokens [] read
  pub same : bare read ≡ bare ty

-- The same of a method type.
pub record IsReadAgainMethod (text : List ℕ) (m : MethodType) : Type 0 where
  pub tokens : List Token
  pub are : AreTokens text tokens
  pub room : Room
  pub read : MethodType
  pub spelled : spells (spell_in room) method_type tokens [] read
  pub same : bare_method read ≡ bare_method m
