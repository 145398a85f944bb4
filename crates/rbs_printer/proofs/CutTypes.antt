-- Each sort of type is cut into its pieces, where its parts are.
use Rattle.std.proofs.Common.{◌≡◌, ℕ, ℤ, pos, negsuc, ◌==◌, ◌<◌, ◌^◌, lit<, nat_lt, nat_le, Bool, true, false, ◌&&◌, ◌||◌, List, [], ◌∷◌, ◌++◌, length, map, refl, sym, ap, subst, ◌∙◌, arith}
use Rattle.std.specs.Prelude.{codes, not, slice_index, drop, if◌then◌else◌, bytes_eq, Some}
use Rattle.std.specs.Cmp.Lexicographic.{same_text}
use Rattle.std.specs.Str.{IsUtf8, is_utf8, chars}
use Rattle.std.proofs.lemmas.Str.{IsUtf8-nil, IsUtf8-append, IsUtf8-from_is_utf8, chars_past_char, encode_ascii}
use Rattle.std.specs.Int.{IsInRange}
use Rattle.std.specs.Str.Parse.{AllDigits}
use Rattle.std.specs.Fmt.{decimal}
use Rattle.std.proofs.lemmas.Fmt.{decimal_is_IsNumeral_wide}
use Rattle.std.proofs.lemmas.Str.Parse.{digit_from_value}
use Rattle.std.proofs.lemmas.Bool.Decides.{nat_tests}
use Rattle.rbs_tree.specs.declared.names.TypeName.{TypeName}
use Rattle.rbs_lexer.specs.declared.kind.Kind.{Kind}
use Rattle.rbs_lexer.specs.declared.kind.Kind.TheVariants as k
use Rattle.rbs_lexer.specs.declared.place.Place.{Place}
use Rattle.rbs_lexer.specs.declared.place.Place.TheVariants as place
use Rattle.rbs_lexer.specs.Bytes.{is_blank, is_upper, first_is, begins_with, begins_with_digit}
use Rattle.rbs_lexer.specs.Words as words
use Rattle.rbs_lexer.specs.Words.{word_kind, kind_or_name, name_kind, entry, keywords}
use Rattle.rbs_lexer.specs.Places as places
use Rattle.rbs_lexer.specs.Places.{after, has_name, behind_word, is_self}
use Rattle.rbs_lexer.specs.Lexing.{Piece, token, IsFront}
use Rattle.rbs_lexer.proofs.Finding.{and_right, is_byte}
use Rattle.rbs_lexer.proofs.Skipping.{both}
use Rattle.rbs_grammar.specs.Rules.{Kinds, is, is_word as is_any_word}
use Rattle.rbs_printer.specs.declared.level.Level.{Level}
use Rattle.rbs_printer.specs.declared.level.Level.TheVariants as at
use Rattle.rbs_printer.specs.declared.level.Front.{Front}
use Rattle.rbs_printer.specs.declared.level.Front.TheVariants as f
use Rattle.rbs_printer.specs.Words.{string_text, symbol_text, integer_text}
use Rattle.rbs_printer.specs.Printed.{is_below, is_name, has_one, is_lone, ends_in_alias, integer_front, symbol_level, marked_front}
use Rattle.rbs_printer.proofs.Pieces.{flat, blank, colons, comma, colon, question, word, in_parens, behind_each, separated, listed, right_brace, Pieced, always, is_grouped, placed, placed_leads, pieces_at, any_pieces, name_pieces, bracketed, args_pieces, named_pieces, named_front, named, alias_leads, alias, singleton_pieces, single, optional_front, optional, and_parts, and_leads, parts, parts_leads, inter, union, tuple_front, tuple, record_pieces, key_pieces}
use Rattle.rbs_printer.proofs.Fit.{in_range, is_word_of, ends_name}
use Rattle.rbs_printer.proofs.Claims.{follows, starts, is_quiet, Ends, front_before, AllOf}
use Rattle.rbs_printer.proofs.Follow.{ends_word, has_mark}
use Rattle.rbs_printer.proofs.Tokens.{integer_is_front, integer_utf8, string_is_front, string_utf8, symbol_is_front, symbol_utf8, word_utf8}
use Rattle.rbs_printer.proofs.CutLists.{end_of, Cuttable, end_behind, nothing_cut, then_cut, pieces_utf8, token_cut, Opens, opens, opens_before, opens_no_blank, opens_no_bracket, opens_first, opens_flat, Shown, shown_before, shown_first, shown_flat, shown_no_blank, opens_shown, CutInList, Item, past_right_brace, past_colons, past_question, past_integer, past_string, past_symbol, blank_cut, left_brace_cut, right_brace_cut, colons_cut, colon_cut, question_cut, bar_cut, ampersand_cut, word_cut, listed_cut, in_parens_cut, in_brackets_cut, in_parens_end, in_brackets_end}

-- ---- what may follow

-- a byte of these
follows_one : (P : ℕ → Type 0) → P 32 → P 44 → P 41 → P 93 → P 63 → (b : ℕ) → (b == 32 || (b == 44 || (b == 41 || (b == 93 || b == 63)))) ≡ true → P b
follows_one P blank comma paren bracket question b h = go (b == 32) refl (b == 44) refl (b == 41) refl (b == 93) refl (b == 63) refl h
  where
    here : (c : ℕ) → (b == c) ≡ true → P c → P b
    here c e p = subst P (sym (is_byte b c e)) p

    go : (a : Bool) → (b == 32) ≡ a → (c : Bool) → (b == 44) ≡ c → (d : Bool) → (b == 41) ≡ d → (e : Bool) → (b == 93) ≡ e → (f : Bool) → (b == 63) ≡ f → (a || (c || (d || (e || f)))) ≡ true → P b
    go true i c j d k e l f m h = here 32 i blank
    go false i true j d k e l f m h = here 44 j comma
    go false i false j true k e l f m h = here 41 k paren
    go false i false j false k true l f m h = here 93 l bracket
    go false i false j false k false l true m h = here 63 m question
    go false i false j false k false l false m h = cc

-- the same without `?`
follows_other : (P : ℕ → Type 0) → P 32 → P 44 → P 41 → P 93 → (b : ℕ) → (b == 32 || (b == 44 || (b == 41 || b == 93))) ≡ true → P b
follows_other P blank comma paren bracket b h = go (b == 32) refl (b == 44) refl (b == 41) refl (b == 93) refl h
  where
    here : (c : ℕ) → (b == c) ≡ true → P c → P b
    here c e p = subst P (sym (is_byte b c e)) p

    go : (a : Bool) → (b == 32) ≡ a → (c : Bool) → (b == 44) ≡ c → (d : Bool) → (b == 41) ≡ d → (e : Bool) → (b == 93) ≡ e → (a || (c || (d || e))) ≡ true → P b
    go true i c j d k e l h = here 32 i blank
    go false i true j d k e l h = here 44 j comma
    go false i false j true k e l h = here 41 k paren
    go false i false j false k true l h = here 93 l bracket
    go false i false j false k false l h = cc

pub follows_least : (level : Level) (rest : List ℕ) → follows at.Union rest ≡ true → follows level rest ≡ true
follows_least at.Union rest h = h
follows_least at.Inter [] h = refl
follows_least at.Inter (b ∷ bs) h = h
follows_least at.Optional [] h = refl
follows_least at.Optional (b ∷ bs) h = h
follows_least at.Base [] h = refl
follows_least at.Base (b ∷ bs) h = follows_other (λ b. follows at.Base (b ∷ bs) ≡ true) refl refl refl refl b h

pub follows_below : (level : Level) (rest : List ℕ) → is_below level at.Base ≡ true → follows level rest ≡ true → follows at.Union rest ≡ true
follows_below at.Union rest b h = h
follows_below at.Inter [] b h = refl
follows_below at.Inter (c ∷ bs) b h = h
follows_below at.Optional [] b h = refl
follows_below at.Optional (c ∷ bs) b h = h
follows_below at.Base rest b h = cc

base_is : (level : Level) → is_below level at.Base ≡ false → level ≡ at.Base
base_is at.Union h = cc
base_is at.Inter h = cc
base_is at.Optional h = cc
base_is at.Base h = refl

-- what may follow where a level is wanted may follow a type of that level or of one that binds more
pub follows_at : (level wanted : Level) (rest : List ℕ) → is_below level wanted ≡ false → follows wanted rest ≡ true → follows level rest ≡ true
follows_at level at.Union rest b h = follows_least level rest h
follows_at level at.Inter rest b h = follows_least level rest (follows_below at.Inter rest refl h)
follows_at level at.Optional rest b h = follows_least level rest (follows_below at.Optional rest refl h)
follows_at level at.Base rest b h = subst (λ l. follows l rest ≡ true) (sym (base_is level b)) h

pub follows_no_mark : (rest : List ℕ) → follows at.Union rest ≡ true → has_mark rest ≡ false
follows_no_mark [] h = refl
follows_no_mark (b ∷ bs) h = follows_other (λ b. has_mark (b ∷ bs) ≡ false) refl refl refl refl b h

pub follows_no_question : (rest : List ℕ) → follows at.Union rest ≡ true → begins_with 63 rest ≡ false
follows_no_question [] h = refl
follows_no_question (b ∷ bs) h = follows_other (λ b. begins_with 63 (b ∷ bs) ≡ false) refl refl refl refl b h

pub follows_ends_word : (level : Level) (rest : List ℕ) → follows level rest ≡ true → ends_word rest ≡ true
follows_ends_word level [] h = refl
follows_ends_word at.Union (b ∷ bs) h = follows_other (λ b. ends_word (b ∷ bs) ≡ true) refl refl refl refl b h
follows_ends_word at.Inter (b ∷ bs) h = follows_other (λ b. ends_word (b ∷ bs) ≡ true) refl refl refl refl b h
follows_ends_word at.Optional (b ∷ bs) h = follows_other (λ b. ends_word (b ∷ bs) ≡ true) refl refl refl refl b h
follows_ends_word at.Base (b ∷ bs) h = follows_one (λ b. ends_word (b ∷ bs) ≡ true) refl refl refl refl refl b h

pub front_no_question : (rest : List ℕ) (front : Front) → begins_with 63 rest ≡ false → front_before rest front ≡ front
front_no_question rest front h = ap (λ b. if b then marked_front front else front) h

-- before what may follow it, a word is no name with a mark
pub word_no_mark : (behind : Bool) (rest : List ℕ) → follows at.Base rest ≡ true → (behind && is_name (front_before rest f.Word)) ≡ false → (has_name (starts behind) && has_mark rest) ≡ false
word_no_mark false rest h n = refl
word_no_mark true [] h n = refl
word_no_mark true (b ∷ bs) h n = follows_one (λ b. is_name (front_before (b ∷ bs) f.Word) ≡ false → has_mark (b ∷ bs) ≡ false) (λ n. refl) (λ n. refl) (λ n. refl) (λ n. refl) (λ n. n) b h n

-- ---- types

-- A printed type is cut where it stands, before what may follow it, and ends where it should; and what its induction needs.
pub record Cuts (p : Pieced) : Type 0 where
  pub utf8 : (behind : Bool) → IsUtf8 (flat (p.pieces behind))
  pub begins : (behind : Bool) → Opens (flat (p.pieces behind))
  pub alike : is_below p.level at.Base ≡ false → p.pieces true ≡ p.pieces false
  pub cut : (behind : Bool) (rest : List ℕ) → IsUtf8 rest → follows p.level rest ≡ true → (behind && is_name (front_before rest p.front)) ≡ false → Cuttable (starts behind) (p.pieces behind) rest
  pub ends : (behind : Bool) → (behind && is_name p.front) ≡ false → Ends (p.leads behind) (end_of (starts behind) (p.pieces behind))

or_both : (a b : Bool) → (a || b) ≡ false → (a ≡ false) × (b ≡ false)
or_both true b h = cc
or_both false b h = (refl, h)

pub quiet_end : (from : Place) → from ≡ place.Plain → Ends false from
quiet_end from e = ap is_quiet e

pub placed_begins : (wanted : Level) (behind : Bool) (p : Pieced) → Cuts p → Opens (flat (placed wanted behind p))
placed_begins wanted behind p c = go (is_grouped wanted behind p)
  where
    go : (b : Bool) → Opens (flat (if b then in_parens (p.pieces false) else p.pieces behind))
    go true = refl
    go false = c.begins behind

pub placed_ends : (wanted : Level) (behind : Bool) (p : Pieced) → Cuts p → Ends (placed_leads wanted behind p) (end_of (starts behind) (placed wanted behind p))
placed_ends wanted behind p c = go (is_grouped wanted behind p) refl
  where
    go : (b : Bool) → is_grouped wanted behind p ≡ b → Ends (if b then false else p.leads behind) (end_of (starts behind) (if b then in_parens (p.pieces false) else p.pieces behind))
    go true e = quiet_end (end_of (starts behind) (in_parens (p.pieces false))) (in_parens_end (starts behind) (p.pieces false))
    go false e = c.ends behind (or_both (is_below p.level wanted) (behind && is_name p.front) e).1

-- ---- words

not_false : (b : Bool) → not b ≡ true → b ≡ false
not_false true h = cc
not_false false h = refl

-- a word of some kinds
pub record WordOf (p : Kinds) (w : List ℕ) : Type 0 where
  pub is_w : words.is_word w ≡ true
  pub no_digit : begins_with_digit w ≡ false
  pub kind : p (word_kind w) false ≡ true

pub word_of : (p : Kinds) (w : List ℕ) → is_word_of p w ≡ true → WordOf p w
word_of p w h =
    let a = both (words.is_word w) (not (begins_with_digit w) && p (word_kind w) false) h in
    let b = both (not (begins_with_digit w)) (p (word_kind w) false) a.1 in
    record { is_w = a.0; no_digit = not_false (begins_with_digit w) b.0; kind = b.1 }

-- a word that stands as an old name leads to no name
named_quiet : (kind : Kind) → places.is_name kind ≡ false → is_quiet (behind_word kind) ≡ true
named_quiet k.Alias h = cc
named_quiet _ h = refl

pub old_name_quiet : (kind : Kind) (text : List ℕ) → is_quiet (after place.OldName kind text) ≡ true
unfolding after
old_name_quiet kind text = go (places.is_name kind) refl
  where
    self : (b : Bool) → is_quiet (if b then place.BehindOldSelf else place.Plain) ≡ true
    self true = refl
    self false = refl

    go : (b : Bool) → places.is_name kind ≡ b → is_quiet (if b then (if is_self text then place.BehindOldSelf else place.Plain) else behind_word kind) ≡ true
    go true e = self (is_self text)
    go false e = named_quiet kind e

-- elsewhere exactly `alias` leads to one
all_quiet : List (List ℕ × Kind) → Bool
all_quiet [] = true
all_quiet (e ∷ es) = is_quiet (behind_word e.1) && all_quiet es

name_quiet : (w : List ℕ) → is_quiet (behind_word (name_kind w)) ≡ true
name_quiet w = go (is_upper (slice_index w 0)) (slice_index w 0 == 95 && is_upper (slice_index w 1))
  where
    go : (a b : Bool) → is_quiet (behind_word (if a then k.Constant else (if b then k.InterfaceName else k.Word))) ≡ true
    go true b = refl
    go false true = refl
    go false false = refl

either_quiet : (b : Bool) (kind : Kind) (w : List ℕ) (es : List (List ℕ × Kind)) → is_quiet (behind_word kind) ≡ true → is_quiet (behind_word (kind_or_name w (entry w es))) ≡ true
    → is_quiet (behind_word (kind_or_name w (if b then Some kind else entry w es))) ≡ true
either_quiet true kind w es here later = here
either_quiet false kind w es here later = later

entry_quiet : (w : List ℕ) (es : List (List ℕ × Kind)) → all_quiet es ≡ true → is_quiet (behind_word (kind_or_name w (entry w es))) ≡ true
unfolding all_quiet
entry_quiet w [] h = name_quiet w
entry_quiet w (e ∷ es) h =
    let t = both (is_quiet (behind_word e.1)) (all_quiet es) h in
    either_quiet (bytes_eq w e.0) e.1 w es t.0 (entry_quiet w es t.1)

-- the words of the grammar but for the first, `alias`
abbrev other_keywords : List (List ℕ × Kind)
other_keywords = drop 1 keywords

pub word_end : (w : List ℕ) → Ends (bytes_eq w (codes "alias")) (after place.Plain (word_kind w) w)
unfolding after word_kind all_quiet
word_end w = go (bytes_eq w (codes "alias"))
  where
    go : (b : Bool) → Ends b (behind_word (kind_or_name w (if b then Some k.Alias else entry w other_keywords)))
    go true = refl
    go false = entry_quiet w other_keywords refl

-- ---- names

-- words with `::` between them, behind the first
abbrev more_words : List (List ℕ) → List Piece
more_words ws = behind_each (colons ∷ []) (map (λ w. word w ∷ []) ws)

path_end_on : (from : Place) (w v : List ℕ) (vs : List (List ℕ)) → Ends (ends_in_alias (v ∷ vs)) (end_of place.Plain (word v ∷ more_words vs)) → Ends (ends_in_alias (w ∷ v ∷ vs)) (end_of from (word w ∷ more_words (v ∷ vs)))
path_end_on from w v vs e = subst (λ p. Ends (ends_in_alias (v ∷ vs)) (end_of p (word v ∷ more_words vs))) (sym (past_colons (codes "::") (after from (word_kind w) w))) e

path_end : (w : List ℕ) (ws : List (List ℕ)) → Ends (ends_in_alias (w ∷ ws)) (end_of place.Plain (word w ∷ more_words ws))
path_end w [] = word_end w
path_end w (v ∷ vs) = path_end_on place.Plain w v vs (path_end v vs)

and_true_is : (b : Bool) → (b && true) ≡ b
and_true_is true = refl
and_true_is false = refl

and_false_is : (b : Bool) → (b && false) ≡ false
and_false_is true = refl
and_false_is false = refl

-- a name ends where its last word leads; one word behind `alias |` leads nowhere
pub name_end : (behind : Bool) (p : Kinds) (name : TypeName) → ends_name p name.path ≡ true → Ends (ends_in_alias name.path && (if behind && is_lone name then false else true)) (end_of (starts behind) (name_pieces name))
name_end behind p name = go behind name.absolute name.path
  where
    leads : (path : List (List ℕ)) (end : Place) → Ends (ends_in_alias path) end → Ends (ends_in_alias path && true) end
    leads path end e = subst (λ b. Ends b end) (sym (and_true_is (ends_in_alias path))) e

    go : (behind absolute : Bool) (path : List (List ℕ)) → ends_name p path ≡ true
        → Ends (ends_in_alias path && (if behind && (not absolute && has_one path) then false else true)) (end_of (starts behind) ((if absolute then colons ∷ [] else []) ++ separated (colons ∷ []) (map (λ w. word w ∷ []) path)))
    go behind absolute [] h = cc
    go false true (w ∷ ws) h = leads (w ∷ ws) (end_of (after place.Plain k.ColonColon (codes "::")) (word w ∷ more_words ws))
        (subst (λ q. Ends (ends_in_alias (w ∷ ws)) (end_of q (word w ∷ more_words ws))) (sym (past_colons (codes "::") place.Plain)) (path_end w ws))
    go false false (w ∷ ws) h = leads (w ∷ ws) (end_of place.Plain (word w ∷ more_words ws)) (path_end w ws)
    go true true (w ∷ ws) h = leads (w ∷ ws) (end_of (after place.OldName k.ColonColon (codes "::")) (word w ∷ more_words ws))
        (subst (λ q. Ends (ends_in_alias (w ∷ ws)) (end_of q (word w ∷ more_words ws))) (sym (past_colons (codes "::") place.OldName)) (path_end w ws))
    go true false (w ∷ []) h = subst (λ b. Ends b (after place.OldName (word_kind w) w)) (sym (and_false_is (bytes_eq w (codes "alias")))) (old_name_quiet (word_kind w) w)
    go true false (w ∷ v ∷ vs) h = leads (w ∷ v ∷ vs) (end_of place.OldName (word w ∷ more_words (v ∷ vs))) (path_end_on place.OldName w v vs (path_end v vs))

-- what a word begins with
in_no_word : (b : ℕ) (bs : List ℕ) → b < 128 → words.is_word_character b ≡ false → words.is_word (b ∷ bs) ≡ true → ⊥
unfolding words.is_word
in_no_word b bs low out h =
    let t = both (is_utf8 (b ∷ bs)) (words.all_word (chars (b ∷ bs))) h in
    let first : chars (b ∷ bs) ≡ b ∷ chars bs = chars_past_char (b ∷ bs) bs b (IsUtf8-from_is_utf8 (b ∷ bs) t.0) (ap (λ c. c ++ bs) (sym (encode_ascii b low))) in
    let all : words.all_word (b ∷ chars bs) ≡ true = subst (λ cs. words.all_word cs ≡ true) first t.1 in
    let no_all : words.all_word (b ∷ chars bs) ≡ false = ap (λ x. x && words.all_word (chars bs)) out in
    cc

-- a byte that isn't one with which a type can begin
not_opens : (P : ℕ → Type 0) → P 32 → P 9 → P 10 → P 13 → P 42 → P 93 → (b : ℕ) → opens b ≡ false → P b
not_opens P a c d e f g b h = go (b == 32) refl (b == 9) refl (b == 10) refl (b == 13) refl (b == 42) refl (b == 93) refl h
  where
    here : (c : ℕ) → (b == c) ≡ true → P c → P b
    here c e p = subst P (sym (is_byte b c e)) p

    go : (t : Bool) → (b == 32) ≡ t → (u : Bool) → (b == 9) ≡ u → (v : Bool) → (b == 10) ≡ v → (w : Bool) → (b == 13) ≡ w → (x : Bool) → (b == 42) ≡ x → (y : Bool) → (b == 93) ≡ y
        → not ((t || u || (v || w)) || (x || y)) ≡ false → P b
    go true i u j v k w l x m y n h = here 32 i a
    go false i true j v k w l x m y n h = here 9 j c
    go false i false j true k w l x m y n h = here 10 k d
    go false i false j false k true l x m y n h = here 13 l e
    go false i false j false k false l true m y n h = here 42 m f
    go false i false j false k false l false m true n h = here 93 n g
    go false i false j false k false l false m false n h = cc

pub word_opens : (w : List ℕ) → words.is_word w ≡ true → Opens w
unfolding words.is_word
word_opens [] h = cc
word_opens (b ∷ bs) h = go (opens b) refl
  where
    other : (c : ℕ) → c < 128 → words.is_word_character c ≡ false → words.is_word (c ∷ bs) ≡ true → opens c ≡ true
    other c low out h = absurd (in_no_word c bs low out h)

    go : (t : Bool) → opens b ≡ t → opens b ≡ true
    go true e = e
    go false e = not_opens (λ b. words.is_word (b ∷ bs) ≡ true → opens b ≡ true)
        (other 32 (lit< tt) refl) (other 9 (lit< tt) refl) (other 10 (lit< tt) refl) (other 13 (lit< tt) refl) (other 42 (lit< tt) refl) (other 93 (lit< tt) refl) b e h

path_opens : (p : Kinds) (w : List ℕ) (ws : List (List ℕ)) → ends_name p (w ∷ ws) ≡ true → Opens (flat (word w ∷ more_words ws))
path_opens p w [] h = opens_before w [] (word_opens w (word_of p w h).is_w)
path_opens p w (v ∷ vs) h =
    opens_before w (flat (more_words (v ∷ vs))) (word_opens w (word_of (is k.Constant) w (both (is_word_of (is k.Constant) w) (ends_name p (v ∷ vs)) h).0).is_w)

pub name_opens : (p : Kinds) (name : TypeName) → ends_name p name.path ≡ true → Opens (flat (name_pieces name))
name_opens p name = go name.absolute name.path
  where
    go : (absolute : Bool) (path : List (List ℕ)) → ends_name p path ≡ true → Opens (flat ((if absolute then colons ∷ [] else []) ++ separated (colons ∷ []) (map (λ w. word w ∷ []) path)))
    go absolute [] h = cc
    go true (w ∷ ws) h = refl
    go false (w ∷ ws) h = path_opens p w ws h

-- a name of other kinds leads to no name
not_alias : (p : Kinds) → p k.Alias false ≡ false → (path : List (List ℕ)) → ends_name p path ≡ true → ends_in_alias path ≡ false
unfolding word_kind
not_alias p other [] h = cc
not_alias p other (w ∷ []) h = go (bytes_eq w (codes "alias")) refl
  where
    go : (b : Bool) → bytes_eq w (codes "alias") ≡ b → bytes_eq w (codes "alias") ≡ false
    go true e =
        let here : p (word_kind w) false ≡ true = (word_of p w h).kind in
        let there : p (word_kind (codes "alias")) false ≡ true = subst (λ w. p (word_kind w) false ≡ true) (same_text w (codes "alias") (sym e)) here in
        absurd (cc (other, there))
    go false e = e
not_alias p other (w ∷ v ∷ vs) h = not_alias p other (v ∷ vs) (both (is_word_of (is k.Constant) w) (ends_name p (v ∷ vs)) h).1

no_args_end : (behind : Bool) (name : TypeName) → end_of (starts behind) (named_pieces name []) ≡ end_of (starts behind) (name_pieces name)
no_args_end behind name = end_behind (starts behind) (name_pieces name) []

args_end : (behind : Bool) (name : TypeName) (a : Pieced) (more : List Pieced) → Ends false (end_of (starts behind) (named_pieces name (a ∷ more)))
args_end behind name a more =
    let named = end_of (starts behind) (name_pieces name) in
    quiet_end (end_of (starts behind) (named_pieces name (a ∷ more))) (end_behind (starts behind) (name_pieces name) (bracketed (a ∷ more)) ∙ in_brackets_end named (listed (map any_pieces (a ∷ more))))

alias_end : (p : Kinds) (name : TypeName) (args : List Pieced) → ends_name p name.path ≡ true → (behind : Bool) → Ends (alias_leads name args behind) (end_of (starts behind) (named_pieces name args))
alias_end p name [] h behind = subst (Ends (alias_leads name [] behind)) (sym (no_args_end behind name)) (name_end behind p name h)
alias_end p name (a ∷ more) h behind = args_end behind name a more

named_end : (p : Kinds) → p k.Alias false ≡ false → (name : TypeName) (args : List Pieced) → ends_name p name.path ≡ true → (behind : Bool) → Ends false (end_of (starts behind) (named_pieces name args))
named_end p other name [] h behind =
    subst (Ends false) (sym (no_args_end behind name)) (subst (λ b. Ends (b && (if behind && is_lone name then false else true)) (end_of (starts behind) (name_pieces name))) (not_alias p other name.path h) (name_end behind p name h))
named_end p other name (a ∷ more) h behind = args_end behind name a more

no_bracket : (p : Pieced) (ps : List Pieced) → AllOf Cuts (p ∷ ps) → (rest : List ℕ) → begins_with 93 (flat (listed (map any_pieces (p ∷ ps))) ++ rest) ≡ false
no_bracket p ps all rest =
    let more = behind_each (comma ∷ blank ∷ []) (map any_pieces ps) in
    opens_no_bracket (flat (any_pieces p ++ more) ++ rest) (opens_flat (any_pieces p) more rest (placed_begins at.Union false p all.0))

record_begins : (fields : List (List Piece)) → Opens (flat (record_pieces fields))
record_begins [] = refl
record_begins (x ∷ xs) = refl

record_end : (from : Place) (fields : List (List Piece)) → end_of from (record_pieces fields) ≡ place.Plain
record_end from [] = past_right_brace (codes "}") (after from k.LeftBrace (codes "{"))
record_end from (x ∷ xs) =
    let inside = after from k.LeftBrace (codes "{") in
    end_behind inside (listed (x ∷ xs)) (blank ∷ right_brace ∷ []) ∙ past_right_brace (codes "}") (end_of inside (listed (x ∷ xs)))

-- what an integer begins with
digit_opens : (c : ℕ) → IsInRange 48 57 c → opens c ≡ true
digit_opens c h = go (opens c) refl
  where
    go : (t : Bool) → opens c ≡ t → opens c ≡ true
    go true e = e
    go false e = absurd (not_opens (λ c. IsInRange 48 57 c → ⊥) (λ h. omega arith) (λ h. omega arith) (λ h. omega arith) (λ h. omega arith) (λ h. omega arith) (λ h. omega arith) c e h)

digits_open : (ds : List ℕ) → 0 < length ds → AllDigits 10 ds → Opens ds
digits_open [] h d = absurd (omega arith)
digits_open (c ∷ cs) h d = digit_opens c (digit_from_value c d.0)

below_is : (n m : ℕ) → nat_lt n m ≡ true → n < m
below_is n m h = grind (arith, nat_tests)

integer_opens : (value : ℤ) → in_range value ≡ true → Opens (integer_text value)
unfolding integer_text
integer_opens (pos n) h =
    let low : n < 2 ^ 127 = below_is n (2 ^ 127) h in
    let d = decimal_is_IsNumeral_wide n (omega arith) in
    digits_open (decimal n) d.0.0 d.0.1
integer_opens (negsuc n) h = refl

number_no_name : (behind : Bool) (value : ℤ) (rest : List ℕ) → (behind && is_name (front_before rest (integer_front value))) ≡ false → (has_name (starts behind) && is_name (integer_front value)) ≡ false
number_no_name false value rest n = refl
number_no_name true (pos v) rest n = go (begins_with 63 rest) n
  where
    go : (b : Bool) → is_name (if b then f.Name else f.Name) ≡ false → true ≡ false
    go true n = n
    go false n = n
number_no_name true (negsuc v) rest n = refl

past_bar : (lead : Bool) (from : Place) → Ends lead from → after from k.Bar (codes "|") ≡ starts lead
unfolding after
past_bar true from e = ap (λ p. after p k.Bar (codes "|")) e
past_bar false place.Plain e = refl
past_bar false place.BehindSelf e = refl
past_bar false place.Name e = refl
past_bar false place.NewName e = cc
past_bar false place.OldName e = cc
past_bar false place.OldNameBehindSelf e = cc
past_bar false place.BehindOldSelf e = refl

past_ampersand : (lead : Bool) (from : Place) → Ends lead from → after from k.Ampersand (codes "&") ≡ starts lead
unfolding after
past_ampersand true from e = ap (λ p. after p k.Ampersand (codes "&")) e
past_ampersand false place.Plain e = refl
past_ampersand false place.BehindSelf e = refl
past_ampersand false place.Name e = refl
past_ampersand false place.NewName e = cc
past_ampersand false place.OldName e = cc
past_ampersand false place.OldNameBehindSelf e = cc
past_ampersand false place.BehindOldSelf e = refl

-- what follows a part of a union
and_follows : (kind : Kind) (bytes : List ℕ) (wanted : Level) (lead : Bool) (ps : List Pieced) (rest : List ℕ) → follows at.Union rest ≡ true → follows at.Union (flat (and_parts (token kind bytes) wanted lead ps) ++ rest) ≡ true
and_follows kind bytes wanted lead [] rest e = e
and_follows kind bytes wanted lead (p ∷ ps) rest e = refl

pub grouped_cut : (from : Place) (p : Pieced) → Cuts p → (rest : List ℕ) → IsUtf8 rest → Cuttable from (in_parens (p.pieces false)) rest
grouped_cut from p c rest u = in_parens_cut from (p.pieces false) (λ more u h. c.cut false more u (follows_least p.level more h) refl) rest u

pub placed_cut : (wanted : Level) (behind : Bool) (p : Pieced) → Cuts p → (rest : List ℕ) → IsUtf8 rest → follows wanted rest ≡ true → (behind && begins_with 63 rest) ≡ false → Cuttable (starts behind) (placed wanted behind p) rest
placed_cut wanted behind p c rest u h q = go (is_grouped wanted behind p) refl
  where
    front : (behind : Bool) → (behind && begins_with 63 rest) ≡ false → (behind && is_name p.front) ≡ false → (behind && is_name (front_before rest p.front)) ≡ false
    front false q n = refl
    front true q n = ap is_name (front_no_question rest p.front q) ∙ n

    go : (b : Bool) → is_grouped wanted behind p ≡ b → Cuttable (starts behind) (if b then in_parens (p.pieces false) else p.pieces behind) rest
    go true e = grouped_cut (starts behind) p c rest u
    go false e =
        let t = or_both (is_below p.level wanted) (behind && is_name p.front) e in
        c.cut behind rest u (follows_at p.level wanted rest t.0 h) (front behind q t.1)

-- a type where any may stand
pub any_item : (p : Pieced) → Cuts p → Item (any_pieces p)
any_item p c = record { begins = opens_shown (flat (any_pieces p)) (placed_begins at.Union false p c); cut = λ rest u h. placed_cut at.Union false p c rest u h refl }

pub any_items : (ps : List Pieced) → AllOf Cuts ps → AllOf Item (map any_pieces ps)
any_items [] all = tt
any_items (p ∷ ps) all = (any_item p all.0, any_items ps all.1)

-- ---- names

-- words with `::` between them; behind `alias |` no mark stands behind the only one
path_cut : (from : Place) (p : Kinds) (w : List ℕ) (ws : List (List ℕ)) (rest : List ℕ) → ends_name p (w ∷ ws) ≡ true → IsUtf8 rest → ends_word rest ≡ true → (has_name from && (has_one (w ∷ ws) && has_mark rest)) ≡ false
    → Cuttable from (word w ∷ more_words ws) rest
path_cut from p w [] rest h u e m =
    let t = word_of p w h in
    word_cut from w [] rest t.is_w t.no_digit e m (nothing_cut (after from (word_kind w) w) rest u)
path_cut from p w (v ∷ vs) rest h u e m =
    let a = both (is_word_of (is k.Constant) w) (ends_name p (v ∷ vs)) h in
    let t = word_of (is k.Constant) w a.0 in
    word_cut from w (more_words (v ∷ vs)) rest t.is_w t.no_digit refl (and_right (has_name from) false refl)
    (colons_cut (after from (word_kind w) w) (word v ∷ more_words vs) rest (path_cut place.Plain p v vs rest a.1 u e refl))

pub name_cut : (from : Place) (p : Kinds) (name : TypeName) (rest : List ℕ) → ends_name p name.path ≡ true → IsUtf8 rest → ends_word rest ≡ true → (has_name from && (is_lone name && has_mark rest)) ≡ false
    → Cuttable from (name_pieces name) rest
name_cut from p name rest h u e m = go name.absolute name.path h m
  where
    go : (absolute : Bool) (path : List (List ℕ)) → ends_name p path ≡ true → (has_name from && (not absolute && has_one path && has_mark rest)) ≡ false
        → Cuttable from ((if absolute then colons ∷ [] else []) ++ separated (colons ∷ []) (map (λ w. word w ∷ []) path)) rest
    go absolute [] h m = cc
    go true (w ∷ ws) h m = colons_cut from (word w ∷ more_words ws) rest (path_cut place.Plain p w ws rest h u e refl)
    go false (w ∷ ws) h m = path_cut from p w ws rest h u e m

bracketed_cut : (from : Place) (ps : List Pieced) → AllOf Cuts ps → (rest : List ℕ) → IsUtf8 rest → (has_name from && begins_with 93 (flat (listed (map any_pieces ps)) ++ (93 ∷ rest))) ≡ false → Cuttable from (bracketed ps) rest
bracketed_cut from ps all rest u n = in_brackets_cut from (listed (map any_pieces ps)) (listed_cut (map any_pieces ps) (any_items ps all)) rest u n

-- some types between brackets, wherever they stand
types_cut : (from : Place) (p : Pieced) (ps : List Pieced) → AllOf Cuts (p ∷ ps) → (rest : List ℕ) → IsUtf8 rest → Cuttable from (bracketed (p ∷ ps)) rest
types_cut from p ps all rest u = bracketed_cut from (p ∷ ps) all rest u (and_right (has_name from) (begins_with 93 (flat (listed (map any_pieces (p ∷ ps))) ++ (93 ∷ rest))) (no_bracket p ps all (93 ∷ rest)))

named_cut : (p : Kinds) (name : TypeName) (args : List Pieced) → ends_name p name.path ≡ true → AllOf Cuts args → (behind : Bool) (rest : List ℕ) → IsUtf8 rest → follows at.Base rest ≡ true
    → (behind && is_name (front_before rest (named_front name args))) ≡ false → Cuttable (starts behind) (named_pieces name args) rest
named_cut p name [] h all behind rest u e n =
    then_cut (starts behind) (name_pieces name) [] rest (name_cut (starts behind) p name rest h u (follows_ends_word at.Base rest e) (mark (is_lone name) n)) (nothing_cut (end_of (starts behind) (name_pieces name)) rest u)
  where
    mark : (lone : Bool) → (behind && is_name (front_before rest (if lone then f.Word else f.Other))) ≡ false → (has_name (starts behind) && (lone && has_mark rest)) ≡ false
    mark true n = word_no_mark behind rest e n
    mark false n = and_right (has_name (starts behind)) false refl
named_cut p name (a ∷ more) h all behind rest u e n =
    let args = bracketed (a ∷ more) in
    let first = name_cut (starts behind) p name (flat args ++ rest) h (types_cut place.Plain a more all rest u).utf8 refl (and_right (has_name (starts behind)) (is_lone name && false) (and_false_is (is_lone name))) in
    then_cut (starts behind) (name_pieces name) args rest first (types_cut (end_of (starts behind) (name_pieces name)) a more all rest u)

pub named_cuts : (p : Kinds) → p k.Alias false ≡ false → (name : TypeName) (args : List Pieced) → ends_name p name.path ≡ true → AllOf Cuts args → Cuts (named name args)
named_cuts p other name args h all = record {
  utf8 = λ behind. pieces_utf8 place.Plain (named_pieces name args) (named_cut p name args h all false [] IsUtf8-nil refl refl);
  begins = λ behind. opens_first (name_pieces name) (args_pieces args) (name_opens p name h);
  alike = λ _. refl;
  cut = λ behind rest u e n. named_cut p name args h all behind rest u e n;
  ends = λ behind n. named_end p other name args h behind;
}

pub alias_cuts : (p : Kinds) (name : TypeName) (args : List Pieced) → ends_name p name.path ≡ true → AllOf Cuts args → Cuts (alias name args)
alias_cuts p name args h all = record {
  utf8 = λ behind. pieces_utf8 place.Plain (named_pieces name args) (named_cut p name args h all false [] IsUtf8-nil refl refl);
  begins = λ behind. opens_first (name_pieces name) (args_pieces args) (name_opens p name h);
  alike = λ _. refl;
  cut = λ behind rest u e n. named_cut p name args h all behind rest u e n;
  ends = λ behind n. alias_end p name args h behind;
}

singleton_cut : (p : Kinds) (name : TypeName) → ends_name p name.path ≡ true → (from : Place) (rest : List ℕ) → IsUtf8 rest → Cuttable from (singleton_pieces name) rest
unfolding words.is_word word_kind is_utf8 chars lib.Utf8.encode
singleton_cut p name h from rest u =
    let inner : CutInList (name_pieces name) = λ more u e. name_cut place.Plain p name more h u (follows_ends_word at.Union more e) refl in
    word_cut from (codes "singleton") (in_parens (name_pieces name)) rest refl refl refl (and_right (has_name from) false refl)
    (in_parens_cut (after from k.Singleton (codes "singleton")) (name_pieces name) inner rest u)

pub singleton_cuts : (p : Kinds) (name : TypeName) → ends_name p name.path ≡ true → Cuts (always at.Base f.Other (singleton_pieces name))
singleton_cuts p name h = record {
  utf8 = λ behind. pieces_utf8 place.Plain (singleton_pieces name) (singleton_cut p name h place.Plain [] IsUtf8-nil);
  begins = λ behind. refl;
  alike = λ _. refl;
  cut = λ behind rest u e n. singleton_cut p name h (starts behind) rest u;
  ends = λ behind n. quiet_end (end_of (starts behind) (singleton_pieces name)) (in_parens_end (after (starts behind) k.Singleton (codes "singleton")) (name_pieces name));
}

-- ---- words and literals

-- a word by itself
pub single_cuts : (w : List ℕ) → words.is_word w ≡ true → begins_with_digit w ≡ false → is_quiet (behind_word (word_kind w)) ≡ true → Cuts (single (word_kind w) w)
unfolding after
single_cuts w is_w no_digit quiet = record {
  utf8 = λ behind. IsUtf8-append w [] (word_utf8 w is_w) IsUtf8-nil;
  begins = λ behind. opens_before w [] (word_opens w is_w);
  alike = λ _. refl;
  cut = λ behind rest u e n. word_cut (starts behind) w [] rest is_w no_digit (follows_ends_word at.Base rest e) (word_no_mark behind rest e n) (nothing_cut (after (starts behind) (word_kind w) w) rest u);
  ends = λ behind n. end behind;
}
  where
    end : (behind : Bool) → Ends false (after (starts behind) (word_kind w) w)
    end false = quiet
    end true = old_name_quiet (word_kind w) w

pub true_cuts : Cuts (single k.True (codes "true"))
unfolding words.is_word word_kind is_utf8 chars lib.Utf8.encode
true_cuts = single_cuts (codes "true") refl refl refl

pub false_cuts : Cuts (single k.False (codes "false"))
unfolding words.is_word word_kind is_utf8 chars lib.Utf8.encode
false_cuts = single_cuts (codes "false") refl refl refl

pub bool_cuts : Cuts (single k.Bool (codes "bool"))
unfolding words.is_word word_kind is_utf8 chars lib.Utf8.encode
bool_cuts = single_cuts (codes "bool") refl refl refl

pub nil_cuts : Cuts (single k.Nil (codes "nil"))
unfolding words.is_word word_kind is_utf8 chars lib.Utf8.encode
nil_cuts = single_cuts (codes "nil") refl refl refl

pub top_cuts : Cuts (single k.Top (codes "top"))
unfolding words.is_word word_kind is_utf8 chars lib.Utf8.encode
top_cuts = single_cuts (codes "top") refl refl refl

pub bot_cuts : Cuts (single k.Bot (codes "bot"))
unfolding words.is_word word_kind is_utf8 chars lib.Utf8.encode
bot_cuts = single_cuts (codes "bot") refl refl refl

pub void_cuts : Cuts (single k.Void (codes "void"))
unfolding words.is_word word_kind is_utf8 chars lib.Utf8.encode
void_cuts = single_cuts (codes "void") refl refl refl

pub untyped_cuts : Cuts (single k.Untyped (codes "untyped"))
unfolding words.is_word word_kind is_utf8 chars lib.Utf8.encode
untyped_cuts = single_cuts (codes "untyped") refl refl refl

pub self_cuts : Cuts (single k.SelfWord (codes "self"))
unfolding words.is_word word_kind is_utf8 chars lib.Utf8.encode
self_cuts = single_cuts (codes "self") refl refl refl

pub instance_cuts : Cuts (single k.Instance (codes "instance"))
unfolding words.is_word word_kind is_utf8 chars lib.Utf8.encode
instance_cuts = single_cuts (codes "instance") refl refl refl

pub class_cuts : Cuts (single k.Class (codes "class"))
unfolding words.is_word word_kind is_utf8 chars lib.Utf8.encode
class_cuts = single_cuts (codes "class") refl refl refl

-- a token that leads to no name
literal_cuts : (level : Level) (front : Front) (kind : Kind) (text : List ℕ) → Opens text → IsUtf8 text → ((from : Place) → after from kind text ≡ place.Plain)
    → ((behind : Bool) (rest : List ℕ) → IsUtf8 rest → follows level rest ≡ true → (behind && is_name (front_before rest front)) ≡ false → IsFront (starts behind) (text ++ rest) (token kind text))
    → Cuts (always level front (token kind text ∷ []))
literal_cuts level front kind text o utf8 leads fronts = record {
  utf8 = λ behind. IsUtf8-append text [] utf8 IsUtf8-nil;
  begins = λ behind. opens_before text [] o;
  alike = λ _. refl;
  cut = λ behind rest u e n. token_cut (starts behind) place.Plain kind text [] rest (leads (starts behind)) utf8 (fronts behind rest u e n) (nothing_cut place.Plain rest u);
  ends = λ behind n. quiet_end (after (starts behind) kind text) (leads (starts behind));
}

pub string_cuts : (value : List ℕ) → is_utf8 value ≡ true → Cuts (always at.Base f.Other (token k.String (string_text value) ∷ []))
unfolding string_text
string_cuts value h = literal_cuts at.Base f.Other k.String (string_text value) refl (string_utf8 value h) (past_string (string_text value)) (λ behind rest u e n. string_is_front (starts behind) value rest h u)

pub symbol_cuts : (name : List ℕ) → is_utf8 name ≡ true → Cuts (always (symbol_level name) f.Other (token k.Symbol (symbol_text name) ∷ []))
unfolding symbol_text
symbol_cuts name h = literal_cuts (symbol_level name) f.Other k.Symbol (symbol_text name) refl (symbol_utf8 name h) (past_symbol (symbol_text name)) (λ behind rest u e n. symbol_is_front (starts behind) name rest h u e)

pub integer_cuts : (value : ℤ) → in_range value ≡ true → Cuts (always at.Base (integer_front value) (token k.Integer (integer_text value) ∷ []))
integer_cuts value h = literal_cuts at.Base (integer_front value) k.Integer (integer_text value) (integer_opens value h) (integer_utf8 value h) (past_integer (integer_text value))
    (λ behind rest u e n. integer_is_front (starts behind) value rest h u (follows_ends_word at.Base rest e) (number_no_name behind value rest n))

-- ---- `A?`

-- before a `?`, wherever it stands
marked_cut : (p : Pieced) → Cuts p → (behind : Bool) → (behind && is_name (optional_front p)) ≡ false → (rest : List ℕ) → IsUtf8 (63 ∷ rest) → Cuttable (starts behind) (pieces_at at.Base p) (63 ∷ rest)
marked_cut p c false n rest u = placed_cut at.Base false p c (63 ∷ rest) u refl refl
marked_cut p c true n rest u = go (is_below p.level at.Base) refl n
  where
    go : (b : Bool) → is_below p.level at.Base ≡ b → is_name (if b then f.Other else marked_front p.front) ≡ false → Cuttable place.OldName (if b || false then in_parens (p.pieces false) else p.pieces false) (63 ∷ rest)
    go true e n = grouped_cut place.OldName p c (63 ∷ rest) u
    go false e n = subst (λ ps. Cuttable place.OldName ps (63 ∷ rest)) (c.alike e) (c.cut true (63 ∷ rest) u (follows_at p.level at.Base (63 ∷ rest) e refl) n)

pub optional_cuts : (p : Pieced) → Cuts p → Cuts (optional p)
optional_cuts p c = record {
  utf8 = λ behind. pieces_utf8 place.Plain (pieces_at at.Base p ++ question ∷ []) (cut false [] IsUtf8-nil refl refl);
  begins = λ behind. opens_first (pieces_at at.Base p) (question ∷ []) (placed_begins at.Base false p c);
  alike = λ _. refl;
  cut = cut;
  ends = λ behind n. quiet_end (end_of (starts behind) (pieces_at at.Base p ++ question ∷ [])) (end_behind (starts behind) (pieces_at at.Base p) (question ∷ []) ∙ past_question (codes "?") (end_of (starts behind) (pieces_at at.Base p)));
}
  where
    front : (behind : Bool) (rest : List ℕ) → begins_with 63 rest ≡ false → (behind && is_name (front_before rest (optional_front p))) ≡ false → (behind && is_name (optional_front p)) ≡ false
    front false rest q n = refl
    front true rest q n = sym (ap is_name (front_no_question rest (optional_front p) q)) ∙ n

    cut : (behind : Bool) (rest : List ℕ) → IsUtf8 rest → follows at.Optional rest ≡ true → (behind && is_name (front_before rest (optional_front p))) ≡ false → Cuttable (starts behind) (pieces_at at.Base p ++ question ∷ []) rest
    cut behind rest u e n =
        let last = λ (from : Place). question_cut from [] rest (nothing_cut place.Plain rest u) in
        then_cut (starts behind) (pieces_at at.Base p) (question ∷ []) rest
        (marked_cut p c behind (front behind rest (follows_no_question rest (follows_below at.Optional rest refl e)) n) rest (last place.Plain).utf8) (last (end_of (starts behind) (pieces_at at.Base p)))

-- ---- lists of types and of fields

pub tuple_cuts : (ps : List Pieced) → AllOf Cuts ps → Cuts (tuple ps)
tuple_cuts ps all = record {
  utf8 = λ behind. pieces_utf8 place.Plain (bracketed ps) (bracketed_cut place.Plain ps all [] IsUtf8-nil refl);
  begins = λ behind. refl;
  alike = λ _. refl;
  cut = λ behind rest u e n. bracketed_cut (starts behind) ps all rest u (bracket behind ps all rest n);
  ends = λ behind n. quiet_end (end_of (starts behind) (bracketed ps)) (in_brackets_end (starts behind) (listed (map any_pieces ps)));
}
  where
    empty : (b : Bool) → is_name (if b then f.Name else f.Name) ≡ false → true ≡ false
    empty true n = n
    empty false n = n

    bracket : (behind : Bool) (ps : List Pieced) → AllOf Cuts ps → (rest : List ℕ) → (behind && is_name (front_before rest (tuple_front ps))) ≡ false → (has_name (starts behind) && begins_with 93 (flat (listed (map any_pieces ps)) ++ (93 ∷ rest))) ≡ false
    bracket false ps all rest n = refl
    bracket true [] all rest n = empty (begins_with 63 rest) n
    bracket true (p ∷ ps) all rest n = no_bracket p ps all (93 ∷ rest)

fields_cut : (from : Place) (fields : List (List Piece)) → AllOf Item fields → (rest : List ℕ) → IsUtf8 rest → Cuttable from (record_pieces fields) rest
fields_cut from [] all rest u = left_brace_cut from (blank ∷ right_brace ∷ []) rest (blank_cut place.Plain (right_brace ∷ []) rest refl (right_brace_cut place.Plain [] rest (nothing_cut place.Plain rest u)))
fields_cut from (x ∷ xs) all rest u =
    let close = λ (from : Place). blank_cut from (right_brace ∷ []) rest refl (right_brace_cut from [] rest (nothing_cut place.Plain rest u)) in
    let fields = listed (x ∷ xs) in
    let inner = then_cut place.Plain fields (blank ∷ right_brace ∷ []) rest (listed_cut (x ∷ xs) all (32 ∷ 125 ∷ rest) (close place.Plain).utf8 refl) (close (end_of place.Plain fields)) in
    let begins : Shown (flat fields) = shown_first x (behind_each (comma ∷ blank ∷ []) xs) all.0.begins in
    left_brace_cut from (blank ∷ (fields ++ blank ∷ right_brace ∷ [])) rest
    (blank_cut place.Plain (fields ++ blank ∷ right_brace ∷ []) rest (shown_no_blank (flat (fields ++ blank ∷ right_brace ∷ []) ++ rest) (shown_flat fields (blank ∷ right_brace ∷ []) rest begins)) inner)

pub record_cuts : (fields : List (List Piece)) → AllOf Item fields → Cuts (always at.Base f.Other (record_pieces fields))
record_cuts fields all = record {
  utf8 = λ behind. pieces_utf8 place.Plain (record_pieces fields) (fields_cut place.Plain fields all [] IsUtf8-nil);
  begins = λ behind. record_begins fields;
  alike = λ _. refl;
  cut = λ behind rest u e n. fields_cut (starts behind) fields all rest u;
  ends = λ behind n. quiet_end (end_of (starts behind) (record_pieces fields)) (record_end (starts behind) fields);
}

-- a key and its type
pub key_item : (key : List ℕ) (p : Pieced) → is_word_of is_any_word key ≡ true → Cuts p → Item (key_pieces key p)
key_item key p h c = record {
  begins = shown_before key (flat (colon ∷ blank ∷ any_pieces p)) (opens_shown key (word_opens key (word_of is_any_word key h).is_w));
  cut = λ rest u e.
      let t = word_of is_any_word key h in
      let ty = any_item p c in
      word_cut place.Plain key (colon ∷ blank ∷ any_pieces p) rest t.is_w t.no_digit refl refl
      (colon_cut (after place.Plain (word_kind key) key) (any_pieces p) rest (shown_no_blank (flat (any_pieces p) ++ rest) (shown_before (flat (any_pieces p)) rest ty.begins)) (ty.cut rest u e));
}

-- ---- unions and intersections

-- a sign between parts, with blanks around it: it leads on to the name of a method where it stands behind one
pub record Joins (kind : Kind) (bytes : List ℕ) : Type 0 where
  pub begins : Opens bytes
  pub leads : (lead : Bool) (from : Place) → Ends lead from → after from kind bytes ≡ starts lead
  pub cut : (from next : Place) (ps : List Piece) (rest : List ℕ) → after from kind bytes ≡ next → first_is is_blank (flat ps ++ rest) ≡ false → Cuttable next ps rest → Cuttable from (token kind bytes ∷ blank ∷ ps) rest

pub bar_joins : Joins k.Bar (codes "|")
bar_joins = record { begins = refl; leads = past_bar; cut = bar_cut }

pub ampersand_joins : Joins k.Ampersand (codes "&")
ampersand_joins = record { begins = refl; leads = past_ampersand; cut = ampersand_cut }

module _ (kind : Kind) (bytes : List ℕ) (j : Joins kind bytes) (wanted : Level) where
  and_cut : (from : Place) (lead : Bool) → Ends lead from → (ps : List Pieced) → AllOf Cuts ps → (rest : List ℕ) → IsUtf8 rest → follows at.Union rest ≡ true → Cuttable from (and_parts (token kind bytes) wanted lead ps) rest
  and_cut from lead ends [] all rest u e = nothing_cut from rest u
  and_cut from lead ends (p ∷ ps) all rest u e =
      let part = placed wanted lead p in
      let on = placed_leads wanted lead p in
      let more = and_parts (token kind bytes) wanted on ps in
      let last = and_cut (end_of (starts lead) part) on (placed_ends wanted lead p all.0) ps all.1 rest u e in
      let next = and_follows kind bytes wanted on ps rest e in
      let first = placed_cut wanted lead p all.0 (flat more ++ rest) last.utf8 (follows_least wanted (flat more ++ rest) next) (and_right lead (begins_with 63 (flat more ++ rest)) (follows_no_question (flat more ++ rest) next)) in
      let both = then_cut (starts lead) part more rest first last in
      let begins : Opens (flat (part ++ more) ++ rest) = opens_flat part more rest (placed_begins wanted lead p all.0) in
      blank_cut from (token kind bytes ∷ blank ∷ (part ++ more)) rest (opens_no_blank (flat (token kind bytes ∷ blank ∷ (part ++ more)) ++ rest) (opens_before (bytes ++ flat (blank ∷ (part ++ more))) rest (opens_before bytes (flat (blank ∷ (part ++ more))) j.begins)))
      (j.cut from (starts lead) (part ++ more) rest (j.leads lead from ends) (opens_no_blank (flat (part ++ more) ++ rest) begins) both)

  and_end : (from : Place) (lead : Bool) → Ends lead from → (ps : List Pieced) → AllOf Cuts ps → Ends (and_leads wanted lead ps) (end_of from (and_parts (token kind bytes) wanted lead ps))
  and_end from lead ends [] all = ends
  and_end from lead ends (p ∷ ps) all =
      let part = placed wanted lead p in
      let on = placed_leads wanted lead p in
      let more = and_parts (token kind bytes) wanted on ps in
      let last = and_end (end_of (starts lead) part) on (placed_ends wanted lead p all.0) ps all.1 in
      subst (λ q. Ends (and_leads wanted on ps) (end_of q (part ++ more))) (sym (j.leads lead from ends))
      (subst (Ends (and_leads wanted on ps)) (sym (end_behind (starts lead) part more)) last)

  parts_begin : (p : Pieced) (ps : List Pieced) → AllOf Cuts (p ∷ ps) → (behind : Bool) → Opens (flat (parts (token kind bytes) wanted (p ∷ ps) behind))
  parts_begin p ps all behind = opens_first (placed wanted behind p) (and_parts (token kind bytes) wanted (placed_leads wanted behind p) ps) (placed_begins wanted behind p all.0)

  parts_cut : (p : Pieced) (ps : List Pieced) → AllOf Cuts (p ∷ ps) → (behind : Bool) (rest : List ℕ) → IsUtf8 rest → follows at.Union rest ≡ true → Cuttable (starts behind) (parts (token kind bytes) wanted (p ∷ ps) behind) rest
  parts_cut p ps all behind rest u e =
      let part = placed wanted behind p in
      let on = placed_leads wanted behind p in
      let more = and_parts (token kind bytes) wanted on ps in
      let last = and_cut (end_of (starts behind) part) on (placed_ends wanted behind p all.0) ps all.1 rest u e in
      let next = and_follows kind bytes wanted on ps rest e in
      then_cut (starts behind) part more rest (placed_cut wanted behind p all.0 (flat more ++ rest) last.utf8 (follows_least wanted (flat more ++ rest) next) (and_right behind (begins_with 63 (flat more ++ rest)) (follows_no_question (flat more ++ rest) next))) last

  parts_end : (p : Pieced) (ps : List Pieced) → AllOf Cuts (p ∷ ps) → (behind : Bool) → Ends (parts_leads wanted (p ∷ ps) behind) (end_of (starts behind) (parts (token kind bytes) wanted (p ∷ ps) behind))
  parts_end p ps all behind =
      let part = placed wanted behind p in
      let on = placed_leads wanted behind p in
      let more = and_parts (token kind bytes) wanted on ps in
      subst (Ends (and_leads wanted on ps)) (sym (end_behind (starts behind) part more)) (and_end (end_of (starts behind) part) on (placed_ends wanted behind p all.0) ps all.1)

pub union_cuts : (ps : List Pieced) → nat_le 2 (length ps) ≡ true → AllOf Cuts ps → Cuts (union ps)
union_cuts [] two all = cc
union_cuts (p ∷ ps) two all = record {
  utf8 = λ behind. pieces_utf8 (starts behind) (parts (token k.Bar (codes "|")) at.Inter (p ∷ ps) behind) (parts_cut k.Bar (codes "|") bar_joins at.Inter p ps all behind [] IsUtf8-nil refl);
  begins = λ behind. parts_begin k.Bar (codes "|") bar_joins at.Inter p ps all behind;
  alike = λ e. absurd (cc e);
  cut = λ behind rest u e n. parts_cut k.Bar (codes "|") bar_joins at.Inter p ps all behind rest u e;
  ends = λ behind n. parts_end k.Bar (codes "|") bar_joins at.Inter p ps all behind;
}

pub inter_cuts : (ps : List Pieced) → nat_le 2 (length ps) ≡ true → AllOf Cuts ps → Cuts (inter ps)
inter_cuts [] two all = cc
inter_cuts (p ∷ ps) two all = record {
  utf8 = λ behind. pieces_utf8 (starts behind) (parts (token k.Ampersand (codes "&")) at.Optional (p ∷ ps) behind) (parts_cut k.Ampersand (codes "&") ampersand_joins at.Optional p ps all behind [] IsUtf8-nil refl);
  begins = λ behind. parts_begin k.Ampersand (codes "&") ampersand_joins at.Optional p ps all behind;
  alike = λ e. absurd (cc e);
  cut = λ behind rest u e n. parts_cut k.Ampersand (codes "&") ampersand_joins at.Optional p ps all behind rest u (follows_below at.Inter rest refl e);
  ends = λ behind n. parts_end k.Ampersand (codes "&") ampersand_joins at.Optional p ps all behind;
}
