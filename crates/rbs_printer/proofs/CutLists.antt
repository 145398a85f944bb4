-- Pieces that a text is cut into: how they are put together.
use Rattle.std.proofs.Common.{◌≡◌, ℕ, ◌==◌, Bool, true, false, ◌&&◌, ◌||◌, List, [], ◌∷◌, ◌++◌, length, drop, refl, sym, ap, subst, ◌∙◌}
use Rattle.std.specs.Prelude.{codes, not}
use Rattle.std.specs.Str.{IsUtf8}
use Rattle.std.proofs.lemmas.List.{append_assoc, append-nil}
use Rattle.std.proofs.Math.Seq.{drop-append_seam}
use Rattle.std.proofs.lemmas.Str.{IsUtf8-append, IsUtf8-from_ascii}
use Rattle.rbs_lexer.specs.declared.kind.Kind.{Kind}
use Rattle.rbs_lexer.specs.declared.kind.Kind.TheVariants as k
use Rattle.rbs_lexer.specs.declared.place.Place.{Place}
use Rattle.rbs_lexer.specs.declared.place.Place.TheVariants as place
use Rattle.rbs_lexer.specs.declared.walk.Walk.{Walk}
use Rattle.rbs_lexer.specs.Bytes.{is_blank, first_is, begins_with, begins_with_digit}
use Rattle.rbs_lexer.specs.Words.{is_word, word_kind}
use Rattle.rbs_lexer.specs.Places.{after, has_name}
use Rattle.rbs_lexer.specs.Lexing.{Piece, token, gap, bytes_of, past, past_all, IsFront, IsCut}
use Rattle.rbs_lexer.proofs.Skipping.{all_ascii, ascii_is}
use Rattle.rbs_printer.proofs.Pieces.{flat, blank, colons, comma, colon, question, word, in_parens, in_brackets, behind_each, listed, left_brace, right_brace}
use Rattle.rbs_printer.proofs.Claims.{follows, AllOf}
use Rattle.rbs_printer.proofs.Follow.{ends_word, has_mark}
use Rattle.rbs_printer.proofs.Tokens.{ampersand_is_front, arrow_is_front, bar_is_front, blank_is_front, caret_is_front, colon_is_front, colons_is_front, comma_is_front, left_brace_is_front, left_bracket_is_front, left_paren_is_front, question_is_front, right_brace_is_front, right_bracket_is_front, right_paren_is_front, star_is_front, star_star_is_front, word_is_front, word_utf8}
use Rattle.rbs_printer.specs.declared.level.Level.TheVariants as at

-- ---- where a piece leads, and where each is the longest run

-- the place behind a piece
abbrev pub beyond : Place → Piece → Place
beyond from (token kind bytes) = after from kind bytes
beyond from (gap bytes) = from

-- the place behind all of them
abbrev pub end_of : Place → List Piece → Place
end_of from [] = from
end_of from (p ∷ ps) = end_of (beyond from p) ps

-- from a place, before a text, each piece is the longest run where it stands
abbrev pub Fronts : Place → List Piece → List ℕ → Type 0
Fronts from [] rest = Unit {0}
Fronts from (p ∷ ps) rest = IsFront from (bytes_of p ++ (flat ps ++ rest)) p × Fronts (beyond from p) ps rest

-- From a place, before a text, the pieces are what is cut off.
pub record Cuttable (from : Place) (pieces : List Piece) (rest : List ℕ) : Type 0 where
  pub utf8 : IsUtf8 (flat pieces ++ rest)
  pub fronts : Fronts from pieces rest

-- ---- walks

pub walk_cut : (walk : Walk) (ps : List Piece) (rest : List ℕ) → Fronts walk.place ps rest → IsCut walk (flat ps ++ rest) ps rest
walk_cut walk [] rest f = refl
walk_cut walk (token kind bytes ∷ ps) rest f = (
  subst (λ t. IsFront walk.place t (token kind bytes)) (sym (append_assoc bytes (flat ps) rest)) f.0,
  subst (λ t. IsCut (past walk (token kind bytes)) t ps rest) (sym (ap (drop (length bytes)) (append_assoc bytes (flat ps) rest) ∙ drop-append_seam bytes (flat ps ++ rest)))
      (walk_cut (past walk (token kind bytes)) ps rest f.1),
)
walk_cut walk (gap bytes ∷ ps) rest f = (
  subst (λ t. IsFront walk.place t (gap bytes)) (sym (append_assoc bytes (flat ps) rest)) f.0,
  subst (λ t. IsCut (past walk (gap bytes)) t ps rest) (sym (ap (drop (length bytes)) (append_assoc bytes (flat ps) rest) ∙ drop-append_seam bytes (flat ps ++ rest)))
      (walk_cut (past walk (gap bytes)) ps rest f.1),
)

pub walk_place : (walk : Walk) (ps : List Piece) → (past_all walk ps).place ≡ end_of walk.place ps
walk_place walk [] = refl
walk_place walk (token kind bytes ∷ ps) = walk_place (past walk (token kind bytes)) ps
walk_place walk (gap bytes ∷ ps) = walk_place (past walk (gap bytes)) ps

-- ---- pieces behind others

pub flat_before : (a b : List Piece) (rest : List ℕ) → flat (a ++ b) ++ rest ≡ flat a ++ (flat b ++ rest)
flat_before [] b rest = refl
flat_before (p ∷ a) b rest =
    append_assoc (bytes_of p) (flat (a ++ b)) rest ∙ ap (λ t. bytes_of p ++ t) (flat_before a b rest) ∙ sym (append_assoc (bytes_of p) (flat a) (flat b ++ rest))

pub end_behind : (from : Place) (a b : List Piece) → end_of from (a ++ b) ≡ end_of (end_of from a) b
end_behind from [] b = refl
end_behind from (p ∷ a) b = end_behind (beyond from p) a b

fronts_behind : (from : Place) (a b : List Piece) (rest : List ℕ) → Fronts from a (flat b ++ rest) → Fronts (end_of from a) b rest → Fronts from (a ++ b) rest
fronts_behind from [] b rest f g = g
fronts_behind from (p ∷ a) b rest f g =
    (subst (λ t. IsFront from (bytes_of p ++ t) p) (sym (flat_before a b rest)) f.0, fronts_behind (beyond from p) a b rest f.1 g)

pub nothing_cut : (from : Place) (rest : List ℕ) → IsUtf8 rest → Cuttable from [] rest
nothing_cut from rest u = record { utf8 = u; fronts = tt }

pub then_cut : (from : Place) (a b : List Piece) (rest : List ℕ) → Cuttable from a (flat b ++ rest) → Cuttable (end_of from a) b rest → Cuttable from (a ++ b) rest
then_cut from a b rest c d = record { utf8 = subst IsUtf8 (sym (flat_before a b rest)) c.utf8; fronts = fronts_behind from a b rest c.fronts d.fronts }

-- before no text the pieces are a text
pub pieces_utf8 : (from : Place) (ps : List Piece) → Cuttable from ps [] → IsUtf8 (flat ps)
pieces_utf8 from ps c = subst IsUtf8 (append-nil (flat ps)) c.utf8

-- a piece before others
piece_cut : (from : Place) (p : Piece) (ps : List Piece) (rest : List ℕ) → IsUtf8 (bytes_of p) → IsFront from (bytes_of p ++ (flat ps ++ rest)) p → Cuttable (beyond from p) ps rest → Cuttable from (p ∷ ps) rest
piece_cut from p ps rest u f c = record {
  utf8 = subst IsUtf8 (sym (append_assoc (bytes_of p) (flat ps) rest)) (IsUtf8-append (bytes_of p) (flat ps ++ rest) u c.utf8);
  fronts = (f, c.fronts);
}

-- a token that leads to a place
pub token_cut : (from next : Place) (kind : Kind) (bytes : List ℕ) (ps : List Piece) (rest : List ℕ) → after from kind bytes ≡ next → IsUtf8 bytes → IsFront from (bytes ++ (flat ps ++ rest)) (token kind bytes) → Cuttable next ps rest
    → Cuttable from (token kind bytes ∷ ps) rest
token_cut from next kind bytes ps rest leads u f c = piece_cut from (token kind bytes) ps rest u f (subst (λ p. Cuttable p ps rest) (sym leads) c)

-- ---- places behind signs

at_each : (P : Place → Type 0) → P place.Plain → P place.BehindSelf → P place.Name → P place.NewName → P place.OldName → P place.OldNameBehindSelf → P place.BehindOldSelf → (from : Place) → P from
at_each P a b c d e f g place.Plain = a
at_each P a b c d e f g place.BehindSelf = b
at_each P a b c d e f g place.Name = c
at_each P a b c d e f g place.NewName = d
at_each P a b c d e f g place.OldName = e
at_each P a b c d e f g place.OldNameBehindSelf = f
at_each P a b c d e f g place.BehindOldSelf = g

-- a sign leads to no name
abbrev pub LeadsToPlain : Kind → List ℕ → Place → Type 0
LeadsToPlain kind bytes from = after from kind bytes ≡ place.Plain

module _ (bytes : List ℕ) where
  pub past_left_paren : (from : Place) → LeadsToPlain k.LeftParen bytes from
  unfolding after
  past_left_paren = at_each (LeadsToPlain k.LeftParen bytes) refl refl refl refl refl refl refl

  pub past_right_paren : (from : Place) → LeadsToPlain k.RightParen bytes from
  unfolding after
  past_right_paren = at_each (LeadsToPlain k.RightParen bytes) refl refl refl refl refl refl refl

  pub past_left_bracket : (from : Place) → LeadsToPlain k.LeftBracket bytes from
  unfolding after
  past_left_bracket = at_each (LeadsToPlain k.LeftBracket bytes) refl refl refl refl refl refl refl

  pub past_right_bracket : (from : Place) → LeadsToPlain k.RightBracket bytes from
  unfolding after
  past_right_bracket = at_each (LeadsToPlain k.RightBracket bytes) refl refl refl refl refl refl refl

  pub past_left_brace : (from : Place) → LeadsToPlain k.LeftBrace bytes from
  unfolding after
  past_left_brace = at_each (LeadsToPlain k.LeftBrace bytes) refl refl refl refl refl refl refl

  pub past_right_brace : (from : Place) → LeadsToPlain k.RightBrace bytes from
  unfolding after
  past_right_brace = at_each (LeadsToPlain k.RightBrace bytes) refl refl refl refl refl refl refl

  pub past_comma : (from : Place) → LeadsToPlain k.Comma bytes from
  unfolding after
  past_comma = at_each (LeadsToPlain k.Comma bytes) refl refl refl refl refl refl refl

  pub past_colon : (from : Place) → LeadsToPlain k.Colon bytes from
  unfolding after
  past_colon = at_each (LeadsToPlain k.Colon bytes) refl refl refl refl refl refl refl

  pub past_colons : (from : Place) → LeadsToPlain k.ColonColon bytes from
  unfolding after
  past_colons = at_each (LeadsToPlain k.ColonColon bytes) refl refl refl refl refl refl refl

  pub past_question : (from : Place) → LeadsToPlain k.Question bytes from
  unfolding after
  past_question = at_each (LeadsToPlain k.Question bytes) refl refl refl refl refl refl refl

  pub past_star : (from : Place) → LeadsToPlain k.Star bytes from
  unfolding after
  past_star = at_each (LeadsToPlain k.Star bytes) refl refl refl refl refl refl refl

  pub past_star_star : (from : Place) → LeadsToPlain k.StarStar bytes from
  unfolding after
  past_star_star = at_each (LeadsToPlain k.StarStar bytes) refl refl refl refl refl refl refl

  pub past_caret : (from : Place) → LeadsToPlain k.Caret bytes from
  unfolding after
  past_caret = at_each (LeadsToPlain k.Caret bytes) refl refl refl refl refl refl refl

  pub past_arrow : (from : Place) → LeadsToPlain k.Arrow bytes from
  unfolding after
  past_arrow = at_each (LeadsToPlain k.Arrow bytes) refl refl refl refl refl refl refl

  pub past_integer : (from : Place) → LeadsToPlain k.Integer bytes from
  unfolding after
  past_integer = at_each (LeadsToPlain k.Integer bytes) refl refl refl refl refl refl refl

  pub past_string : (from : Place) → LeadsToPlain k.String bytes from
  unfolding after
  past_string = at_each (LeadsToPlain k.String bytes) refl refl refl refl refl refl refl

  pub past_symbol : (from : Place) → LeadsToPlain k.Symbol bytes from
  unfolding after
  past_symbol = at_each (LeadsToPlain k.Symbol bytes) refl refl refl refl refl refl refl

-- ---- what a type begins with

-- neither a blank nor `*` nor `]`
abbrev pub opens : ℕ → Bool
opens b = not (is_blank b || (b == 42 || b == 93))

abbrev pub Opens : List ℕ → Type 0
Opens bytes = first_is opens bytes ≡ true

pub opens_before : (bytes rest : List ℕ) → Opens bytes → Opens (bytes ++ rest)
opens_before [] rest o = cc
opens_before (b ∷ bs) rest o = o

not_or : (a b c : Bool) → not (a || (b || c)) ≡ true → (a ≡ false) × (b ≡ false) × (c ≡ false)
not_or true b c h = cc
not_or false true c h = cc
not_or false false true h = cc
not_or false false false h = (refl, refl, refl)

not_is : (b : Bool) → not b ≡ true → b ≡ false
not_is true h = cc
not_is false h = refl

pub opens_no_blank : (bytes : List ℕ) → Opens bytes → first_is is_blank bytes ≡ false
opens_no_blank [] o = refl
opens_no_blank (b ∷ bs) o = (not_or (is_blank b) (b == 42) (b == 93) o).0

-- what is no blank
abbrev pub is_shown : ℕ → Bool
is_shown b = not (is_blank b)

abbrev pub Shown : List ℕ → Type 0
Shown bytes = first_is is_shown bytes ≡ true

pub shown_before : (bytes rest : List ℕ) → Shown bytes → Shown (bytes ++ rest)
shown_before [] rest o = cc
shown_before (b ∷ bs) rest o = o

pub shown_no_blank : (bytes : List ℕ) → Shown bytes → first_is is_blank bytes ≡ false
shown_no_blank [] o = refl
shown_no_blank (b ∷ bs) o = not_is (is_blank b) o

pub opens_shown : (bytes : List ℕ) → Opens bytes → Shown bytes
opens_shown [] o = cc
opens_shown (b ∷ bs) o = ap not (not_or (is_blank b) (b == 42) (b == 93) o).0

pub opens_no_star : (bytes : List ℕ) → Opens bytes → begins_with 42 bytes ≡ false
opens_no_star [] o = refl
opens_no_star (b ∷ bs) o = (not_or (is_blank b) (b == 42) (b == 93) o).1

pub opens_no_bracket : (bytes : List ℕ) → Opens bytes → begins_with 93 bytes ≡ false
opens_no_bracket [] o = refl
opens_no_bracket (b ∷ bs) o = (not_or (is_blank b) (b == 42) (b == 93) o).2

-- ---- what may stand in a list

-- from a place where no name stands, before what may follow a type that binds least
abbrev pub CutInList : List Piece → Type 0
CutInList x = (rest : List ℕ) → IsUtf8 rest → follows at.Union rest ≡ true → Cuttable place.Plain x rest

-- an item of a list
pub record Item (x : List Piece) : Type 0 where
  pub begins : Shown (flat x)
  pub cut : CutInList x

pub flat_behind : (a b : List Piece) → flat (a ++ b) ≡ flat a ++ flat b
flat_behind [] b = refl
flat_behind (p ∷ a) b = ap (λ t. bytes_of p ++ t) (flat_behind a b) ∙ sym (append_assoc (bytes_of p) (flat a) (flat b))

pub opens_first : (a b : List Piece) → Opens (flat a) → Opens (flat (a ++ b))
opens_first a b o = subst Opens (sym (flat_behind a b)) (opens_before (flat a) (flat b) o)

-- other pieces and a text behind them
pub opens_flat : (a b : List Piece) (rest : List ℕ) → Opens (flat a) → Opens (flat (a ++ b) ++ rest)
opens_flat a b rest o = opens_before (flat (a ++ b)) rest (opens_first a b o)

pub shown_first : (a b : List Piece) → Shown (flat a) → Shown (flat (a ++ b))
shown_first a b o = subst Shown (sym (flat_behind a b)) (shown_before (flat a) (flat b) o)

pub shown_flat : (a b : List Piece) (rest : List ℕ) → Shown (flat a) → Shown (flat (a ++ b) ++ rest)
shown_flat a b rest o = shown_before (flat (a ++ b)) rest (shown_first a b o)

pub all_behind : (P : List Piece → Type 0) (xs ys : List (List Piece)) → AllOf P xs → AllOf P ys → AllOf P (xs ++ ys)
all_behind P [] ys a b = b
all_behind P (x ∷ xs) ys a b = (a.0, all_behind P xs ys a.1 b)

-- what follows an item of a list
pub follows_each : (xs : List (List Piece)) (rest : List ℕ) → follows at.Union rest ≡ true → follows at.Union (flat (behind_each (comma ∷ blank ∷ []) xs) ++ rest) ≡ true
follows_each [] rest f = f
follows_each (x ∷ xs) rest f = refl

-- ---- each token where it stands

ascii : (bytes : List ℕ) → all_ascii bytes ≡ true → IsUtf8 bytes
ascii bytes a = IsUtf8-from_ascii bytes (ascii_is bytes a)

pub blank_cut : (from : Place) (ps : List Piece) (rest : List ℕ) → first_is is_blank (flat ps ++ rest) ≡ false → Cuttable from ps rest → Cuttable from (blank ∷ ps) rest
blank_cut from ps rest n c = piece_cut from blank ps rest (ascii (codes " ") refl) (blank_is_front from (flat ps ++ rest) c.utf8 n) c

pub left_paren_cut : (from : Place) (ps : List Piece) (rest : List ℕ) → Cuttable place.Plain ps rest → Cuttable from (token k.LeftParen (codes "(") ∷ ps) rest
left_paren_cut from ps rest c = token_cut from place.Plain k.LeftParen (codes "(") ps rest (past_left_paren (codes "(") from) (ascii (codes "(") refl) (left_paren_is_front from (flat ps ++ rest) c.utf8) c

pub right_paren_cut : (from : Place) (ps : List Piece) (rest : List ℕ) → Cuttable place.Plain ps rest → Cuttable from (token k.RightParen (codes ")") ∷ ps) rest
right_paren_cut from ps rest c = token_cut from place.Plain k.RightParen (codes ")") ps rest (past_right_paren (codes ")") from) (ascii (codes ")") refl) (right_paren_is_front from (flat ps ++ rest) c.utf8) c

pub left_bracket_cut : (from : Place) (ps : List Piece) (rest : List ℕ) → (has_name from && begins_with 93 (flat ps ++ rest)) ≡ false → Cuttable place.Plain ps rest → Cuttable from (token k.LeftBracket (codes "[") ∷ ps) rest
left_bracket_cut from ps rest n c = token_cut from place.Plain k.LeftBracket (codes "[") ps rest (past_left_bracket (codes "[") from) (ascii (codes "[") refl) (left_bracket_is_front from (flat ps ++ rest) c.utf8 n) c

pub right_bracket_cut : (from : Place) (ps : List Piece) (rest : List ℕ) → Cuttable place.Plain ps rest → Cuttable from (token k.RightBracket (codes "]") ∷ ps) rest
right_bracket_cut from ps rest c = token_cut from place.Plain k.RightBracket (codes "]") ps rest (past_right_bracket (codes "]") from) (ascii (codes "]") refl) (right_bracket_is_front from (flat ps ++ rest) c.utf8) c

pub left_brace_cut : (from : Place) (ps : List Piece) (rest : List ℕ) → Cuttable place.Plain ps rest → Cuttable from (left_brace ∷ ps) rest
left_brace_cut from ps rest c = token_cut from place.Plain k.LeftBrace (codes "{") ps rest (past_left_brace (codes "{") from) (ascii (codes "{") refl) (left_brace_is_front from (flat ps ++ rest) c.utf8) c

pub right_brace_cut : (from : Place) (ps : List Piece) (rest : List ℕ) → Cuttable place.Plain ps rest → Cuttable from (right_brace ∷ ps) rest
right_brace_cut from ps rest c = token_cut from place.Plain k.RightBrace (codes "}") ps rest (past_right_brace (codes "}") from) (ascii (codes "}") refl) (right_brace_is_front from (flat ps ++ rest) c.utf8) c

pub comma_cut : (from : Place) (ps : List Piece) (rest : List ℕ) → Cuttable place.Plain ps rest → Cuttable from (comma ∷ ps) rest
comma_cut from ps rest c = token_cut from place.Plain k.Comma (codes ",") ps rest (past_comma (codes ",") from) (ascii (codes ",") refl) (comma_is_front from (flat ps ++ rest) c.utf8) c

pub question_cut : (from : Place) (ps : List Piece) (rest : List ℕ) → Cuttable place.Plain ps rest → Cuttable from (question ∷ ps) rest
question_cut from ps rest c = token_cut from place.Plain k.Question (codes "?") ps rest (past_question (codes "?") from) (ascii (codes "?") refl) (question_is_front from (flat ps ++ rest) c.utf8) c

pub colons_cut : (from : Place) (ps : List Piece) (rest : List ℕ) → Cuttable place.Plain ps rest → Cuttable from (colons ∷ ps) rest
colons_cut from ps rest c = token_cut from place.Plain k.ColonColon (codes "::") ps rest (past_colons (codes "::") from) (ascii (codes "::") refl) (colons_is_front from (flat ps ++ rest) c.utf8) c

pub star_cut : (ps : List Piece) (rest : List ℕ) → begins_with 42 (flat ps ++ rest) ≡ false → Cuttable place.Plain ps rest → Cuttable place.Plain (token k.Star (codes "*") ∷ ps) rest
star_cut ps rest n c = token_cut place.Plain place.Plain k.Star (codes "*") ps rest (past_star (codes "*") place.Plain) (ascii (codes "*") refl) (star_is_front place.Plain (flat ps ++ rest) c.utf8 refl n) c

pub star_star_cut : (ps : List Piece) (rest : List ℕ) → Cuttable place.Plain ps rest → Cuttable place.Plain (token k.StarStar (codes "**") ∷ ps) rest
star_star_cut ps rest c = token_cut place.Plain place.Plain k.StarStar (codes "**") ps rest (past_star_star (codes "**") place.Plain) (ascii (codes "**") refl) (star_star_is_front place.Plain (flat ps ++ rest) c.utf8 refl) c

pub caret_cut : (ps : List Piece) (rest : List ℕ) → Cuttable place.Plain ps rest → Cuttable place.Plain (token k.Caret (codes "^") ∷ ps) rest
caret_cut ps rest c = token_cut place.Plain place.Plain k.Caret (codes "^") ps rest (past_caret (codes "^") place.Plain) (ascii (codes "^") refl) (caret_is_front place.Plain (flat ps ++ rest) c.utf8 refl) c

-- signs with a blank behind them

pub colon_cut : (from : Place) (ps : List Piece) (rest : List ℕ) → first_is is_blank (flat ps ++ rest) ≡ false → Cuttable place.Plain ps rest → Cuttable from (colon ∷ blank ∷ ps) rest
colon_cut from ps rest n c = token_cut from place.Plain k.Colon (codes ":") (blank ∷ ps) rest (past_colon (codes ":") from) (ascii (codes ":") refl) (colon_is_front from (flat ps ++ rest) c.utf8) (blank_cut place.Plain ps rest n c)

pub arrow_cut : (from : Place) (ps : List Piece) (rest : List ℕ) → first_is is_blank (flat ps ++ rest) ≡ false → Cuttable place.Plain ps rest → Cuttable from (token k.Arrow (codes "->") ∷ blank ∷ ps) rest
arrow_cut from ps rest n c = token_cut from place.Plain k.Arrow (codes "->") (blank ∷ ps) rest (past_arrow (codes "->") from) (ascii (codes "->") refl) (arrow_is_front from (flat ps ++ rest) c.utf8) (blank_cut place.Plain ps rest n c)

pub bar_cut : (from next : Place) (ps : List Piece) (rest : List ℕ) → after from k.Bar (codes "|") ≡ next → first_is is_blank (flat ps ++ rest) ≡ false → Cuttable next ps rest → Cuttable from (token k.Bar (codes "|") ∷ blank ∷ ps) rest
bar_cut from next ps rest leads n c = token_cut from next k.Bar (codes "|") (blank ∷ ps) rest leads (ascii (codes "|") refl) (bar_is_front from (flat ps ++ rest) c.utf8) (blank_cut next ps rest n c)

pub ampersand_cut : (from next : Place) (ps : List Piece) (rest : List ℕ) → after from k.Ampersand (codes "&") ≡ next → first_is is_blank (flat ps ++ rest) ≡ false → Cuttable next ps rest → Cuttable from (token k.Ampersand (codes "&") ∷ blank ∷ ps) rest
ampersand_cut from next ps rest leads n c = token_cut from next k.Ampersand (codes "&") (blank ∷ ps) rest leads (ascii (codes "&") refl) (ampersand_is_front from (flat ps ++ rest) c.utf8) (blank_cut next ps rest n c)

-- a word
pub word_cut : (from : Place) (w : List ℕ) (ps : List Piece) (rest : List ℕ) → is_word w ≡ true → begins_with_digit w ≡ false → ends_word (flat ps ++ rest) ≡ true → (has_name from && has_mark (flat ps ++ rest)) ≡ false
    → Cuttable (after from (word_kind w) w) ps rest → Cuttable from (word w ∷ ps) rest
word_cut from w ps rest is_w no_digit ends no_mark c =
    piece_cut from (word w) ps rest (word_utf8 w is_w) (word_is_front from w (flat ps ++ rest) is_w no_digit c.utf8 ends no_mark) c

-- ---- lists

-- items, each behind a comma
pub each_cut : (from : Place) (xs : List (List Piece)) → AllOf Item xs → (rest : List ℕ) → IsUtf8 rest → follows at.Union rest ≡ true → Cuttable from (behind_each (comma ∷ blank ∷ []) xs) rest
each_cut from [] all rest u f = nothing_cut from rest u
each_cut from (x ∷ xs) all rest u f =
    let more = behind_each (comma ∷ blank ∷ []) xs in
    let first = all.0.cut (flat more ++ rest) (each_cut place.Plain xs all.1 rest u f).utf8 (follows_each xs rest f) in
    let both = then_cut place.Plain x more rest first (each_cut (end_of place.Plain x) xs all.1 rest u f) in
    comma_cut from (blank ∷ (x ++ more)) rest (blank_cut place.Plain (x ++ more) rest (shown_no_blank (flat (x ++ more) ++ rest) (shown_flat x more rest all.0.begins)) both)

pub listed_cut : (xs : List (List Piece)) → AllOf Item xs → CutInList (listed xs)
listed_cut [] all rest u f = nothing_cut place.Plain rest u
listed_cut (x ∷ xs) all rest u f =
    let more = behind_each (comma ∷ blank ∷ []) xs in
    then_cut place.Plain x more rest (all.0.cut (flat more ++ rest) (each_cut place.Plain xs all.1 rest u f).utf8 (follows_each xs rest f)) (each_cut (end_of place.Plain x) xs all.1 rest u f)

-- ---- between signs

pub in_parens_cut : (from : Place) (inner : List Piece) → CutInList inner → (rest : List ℕ) → IsUtf8 rest → Cuttable from (in_parens inner) rest
in_parens_cut from inner c rest u =
    let right = token k.RightParen (codes ")") ∷ [] in
    let close = λ (p : Place). right_paren_cut p [] rest (nothing_cut place.Plain rest u) in
    left_paren_cut from (inner ++ right) rest (then_cut place.Plain inner right rest (c (41 ∷ rest) (close place.Plain).utf8 refl) (close (end_of place.Plain inner)))

pub in_brackets_cut : (from : Place) (inner : List Piece) → CutInList inner → (rest : List ℕ) → IsUtf8 rest → (has_name from && begins_with 93 (flat inner ++ (93 ∷ rest))) ≡ false → Cuttable from (in_brackets inner) rest
in_brackets_cut from inner c rest u n =
    let right = token k.RightBracket (codes "]") ∷ [] in
    let close = λ (p : Place). right_bracket_cut p [] rest (nothing_cut place.Plain rest u) in
    left_bracket_cut from (inner ++ right) rest (subst (λ t. (has_name from && begins_with 93 t) ≡ false) (sym (flat_before inner right rest)) n)
    (then_cut place.Plain inner right rest (c (93 ∷ rest) (close place.Plain).utf8 refl) (close (end_of place.Plain inner)))

pub in_parens_end : (from : Place) (inner : List Piece) → end_of from (in_parens inner) ≡ place.Plain
in_parens_end from inner =
    let inside = after from k.LeftParen (codes "(") in
    end_behind inside inner (token k.RightParen (codes ")") ∷ []) ∙ past_right_paren (codes ")") (end_of inside inner)

pub in_brackets_end : (from : Place) (inner : List Piece) → end_of from (in_brackets inner) ≡ place.Plain
in_brackets_end from inner =
    let inside = after from k.LeftBracket (codes "[") in
    end_behind inside inner (token k.RightBracket (codes "]") ∷ []) ∙ past_right_bracket (codes "]") (end_of inside inner)
