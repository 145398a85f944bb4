-- The tokens of a text: at each place the longest run, until the text ends.
use Rattle.std.specs.Prelude.{◌≡◌, ℕ, ◌+◌, ◌<◌, ◌≤◌, ◌⊎◌, false, ◌||◌, List, [], ◌∷◌, length, take, drop, slice_index, Option, Some, None}
use Rattle.std.specs.Str.{chars}
use Rattle.std.specs.Char.{len_utf8}
use Rattle.src_text.specs.declared.span.Span.{Span}
use Rattle.rbs_lexer.specs.declared.kind.Kind.{Kind}
use Rattle.rbs_lexer.specs.Tokens.{Token}
use Rattle.rbs_lexer.specs.declared.place.Place.{Place}
use Rattle.rbs_lexer.specs.declared.place.Place.TheVariants.{Plain}
use Rattle.rbs_lexer.specs.declared.reading.Reading.{Reading}
use Rattle.rbs_lexer.specs.declared.reading.Reading.TheVariants as is
use Rattle.rbs_lexer.specs.declared.walk.Walk.{Walk}
use Rattle.rbs_lexer.specs.Bytes.{has_line_end}
use Rattle.rbs_lexer.specs.Places.{after}
use Rattle.rbs_lexer.specs.Runs.{reading}

-- At the place the text's first len bytes have this reading, and no more bytes have one.
pub record Longest (place : Place) (text : List ℕ) (read : Reading) (len : ℕ) : Type 0 where
  pub within : len ≤ length text
  pub reads : reading place (take len text) (drop len text) ≡ Some read
  pub longest : (n : ℕ) → len < n → n ≤ length text → reading place (take n text) (drop n text) ≡ None

-- No first bytes of the text have a reading at the place.
abbrev pub NoneReads : Place → List ℕ → Type 0
NoneReads place text = (n : ℕ) → n ≤ length text → reading place (take n text) (drop n text) ≡ None

-- No token begins the text at the place, and nothing that is skipped.
abbrev pub NoToken : Place → List ℕ → Type 0
NoToken place text = NoneReads place text ⊎ ((len : ℕ) × Longest place text is.Refused len)

-- A piece of a text: a token, or a gap, which is skipped.
pub data Piece : Type 0 where
  token : Kind → List ℕ → Piece
  gap : List ℕ → Piece

-- the bytes of a piece
abbrev pub bytes_of : Piece → List ℕ
bytes_of (token kind bytes) = bytes
bytes_of (gap bytes) = bytes

-- its reading
abbrev pub reading_of : Piece → Reading
reading_of (token kind bytes) = is.Token kind
reading_of (gap bytes) = is.Skipped

-- where a walk over the pieces begins: at the text's start, where no name may stand and no line has ended
abbrev pub start : Walk
start = record { place = Plain; line_ended = false; at = 0 }

-- where the walk stands behind a piece
abbrev pub past : Walk → Piece → Walk
past walk (token kind bytes) = record { place = after walk.place kind bytes; line_ended = false; at = walk.at + length bytes }
past walk (gap bytes) = record { place = walk.place; line_ended = walk.line_ended || has_line_end bytes; at = walk.at + length bytes }

-- where it stands behind all of them
abbrev pub past_all : Walk → List Piece → Walk
past_all walk [] = walk
past_all walk (piece ∷ pieces) = past_all (past walk piece) pieces

-- the piece is the longest run at the front of the text
pub record IsFront (place : Place) (text : List ℕ) (piece : Piece) : Type 0 where
  pub longest : Longest place text (reading_of piece) (length (bytes_of piece))
  pub bytes : bytes_of piece ≡ take (length (bytes_of piece)) text

-- From where the walk stands, the text is these pieces and then the rest.
abbrev pub IsCut : Walk → List ℕ → List Piece → List ℕ → Type 0
IsCut walk text [] rest = text ≡ rest
IsCut walk text (piece ∷ pieces) rest = IsFront walk.place text piece × IsCut (past walk piece) (drop (length (bytes_of piece)) text) pieces rest

-- the tokens among the pieces
abbrev pub tokens_of : Walk → List Piece → List Token
tokens_of walk [] = []
tokens_of walk (token kind bytes ∷ pieces) = record { kind = kind; text = bytes; at = record { start = walk.at; end = walk.at + length bytes }; begins_line = walk.line_ended }
    ∷ tokens_of (past walk (token kind bytes)) pieces
tokens_of walk (gap bytes ∷ pieces) = tokens_of (past walk (gap bytes)) pieces

-- These are the tokens of the text.
abbrev pub AreTokens : List ℕ → List Token → Type 0
AreTokens text tokens = (pieces : List Piece) × IsCut start text pieces [] × (tokens ≡ tokens_of start pieces)

-- The span is of the character that begins where the text can't be cut on.
pub record IsBad (text : List ℕ) (at : Span) : Type 0 where
  pub pieces : List Piece
  pub rest : List ℕ
  pub cut : IsCut start text pieces rest
  pub no_token : NoToken (past_all start pieces).place rest
  pub more : 0 < length rest
  pub starts : at.start ≡ (past_all start pieces).at
  pub ends : at.end ≡ at.start + len_utf8 (slice_index (chars rest) 0)

-- These are the tokens before the place where the text can't be cut on, whose character has this span.
abbrev pub IsCutShort : List ℕ → List Token → Span → Type 0
IsCutShort text tokens at = (b : IsBad text at) × (tokens ≡ tokens_of start b.pieces)

-- These are the tokens of the text, or those before such a place.
abbrev pub IsLexed : List ℕ → List Token → Option Span → Type 0
IsLexed text tokens None = AreTokens text tokens
IsLexed text tokens (Some at) = IsCutShort text tokens at

-- the span of the first character behind some bytes
abbrev pub span_of_first : ℕ → List ℕ → Span
span_of_first at rest = record { start = at; end = at + len_utf8 (slice_index (chars rest) 0) }
