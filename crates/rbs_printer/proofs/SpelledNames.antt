-- The tokens of a printed name spell it, spans aside.
use Rattle.std.proofs.Common.{◌≡◌, inl, inr, ℕ, not, ◌&&◌, Bool, true, false, List, [], ◌∷◌, ◌++◌, map, Some, None, refl, sym, ap, subst}
use Rattle.std.specs.Prelude.{codes}
use Rattle.src_text.specs.declared.span.Span.{Span}
use Rattle.rbs_tree.specs.declared.names.TypeName.{TypeName}
use Rattle.rbs_lexer.specs.Tokens.{Token}
use Rattle.rbs_lexer.specs.declared.kind.Kind.{Kind}
use Rattle.rbs_lexer.specs.declared.kind.Kind.TheVariants as k
use Rattle.rbs_lexer.specs.declared.walk.Walk.{Walk}
use Rattle.rbs_lexer.specs.Words as words
use Rattle.rbs_lexer.specs.Words.{word_kind}
use Rattle.rbs_lexer.specs.Bytes.{begins_with_digit}
use Rattle.rbs_lexer.specs.Lexing.{Piece, past, tokens_of}
use Rattle.rbs_grammar.specs.declared.parts.Words.{Words}
use Rattle.rbs_grammar.specs.declared.stage.Stage.{Stage}
use Rattle.rbs_grammar.specs.declared.stage.Stage.TheVariants as at
use Rattle.rbs_grammar.specs.Rules.{Rule, Value, Kinds, is, is_small}
use Rattle.rbs_grammar.specs.Grammar.{Grammar, Way, Chain, tok, chain, spells, begins}
use Rattle.rbs_grammar.specs.Parts.{behind}
use Rattle.rbs_grammar.specs.Names.{text_of, last_of, words_of, relative_name, absolute_name, and_stage, name_leads, last_word, ends_type, constants, class_name}
use Rattle.rbs_grammar.specs.Types.{ends_lone_type}
use Rattle.rbs_printer.specs.Again.{bare_name}
use Rattle.rbs_printer.proofs.Pieces.{word, colons, separated, behind_each, name_pieces}
use Rattle.rbs_printer.proofs.Fit.{is_word_of, is_constant, ends_name, is_lone_small}
use Rattle.rbs_printer.proofs.Claims.{Clear}
use Rattle.rbs_printer.proofs.Spelling.{token_at, Reads, IsSign}

-- ---- tests

pub left_true : (b c : Bool) → (b && c) ≡ true → b ≡ true
left_true true c e = refl
left_true false c e = e

pub right_true : (b c : Bool) → (b && c) ≡ true → c ≡ true
right_true true c e = e
right_true false c e = cc

pub word_of : (p : Kinds) (w : List ℕ) → is_word_of p w ≡ true → p (word_kind w) false ≡ true
word_of p w e = right_true (not (begins_with_digit w)) (p (word_kind w) false) (right_true (words.is_word w) (not (begins_with_digit w) && p (word_kind w) false) e)

pub constant_kind : (kind : Kind) → is k.Constant kind false ≡ true → kind ≡ k.Constant
constant_kind k.Constant e = refl
constant_kind _ e = cc

pub interface_kind : (kind : Kind) → is k.InterfaceName kind false ≡ true → kind ≡ k.InterfaceName
interface_kind k.InterfaceName e = refl
interface_kind _ e = cc

-- ---- words of a name

pub colons_sign : IsSign k.ColonColon (colons ∷ [])
colons_sign = record {
  text = codes "::";
  before_it = λ walk. walk;
  past_it = λ walk. past walk colons;
  tokens = λ walk pieces. refl;
  same = refl;
  no_colon = refl;
}

abbrev pub word_pieces : List (List ℕ) → List (List Piece)
word_pieces ws = map (λ w. word w ∷ []) ws

-- a word of the kind is taken, and leads to the stage
abbrev pub Takes : ((r : Rule) → Way (Value r)) → Grammar (Token × Stage) → Stage → Kind → Type 0
Takes d g stage kind = (walk : Walk) (text : List ℕ) (rest : List Token) → spells d g (token_at walk kind text ∷ rest) rest (token_at walk kind text, stage)

-- the words behind the first
abbrev pub Others : ((r : Rule) → Way (Value r)) → Grammar (Token × Stage) → List (List ℕ) → Type 0
Others d g [] = Unit {0}
Others d g (w ∷ []) = (stage : Stage) × Takes d g stage (word_kind w)
Others d g (w ∷ v ∷ ws) = Takes d g at.Open (word_kind w) × Others d g (v ∷ ws)

-- all words
abbrev pub AllTaken : ((r : Rule) → Way (Value r)) → Grammar (Token × Stage) → Grammar (Token × Stage) → List ℕ → List (List ℕ) → Type 0
AllTaken d f g w [] = (stage : Stage) × Takes d f stage (word_kind w)
AllTaken d f g w (v ∷ ws) = Takes d f at.Open (word_kind w) × Others d g (v ∷ ws)

-- the tokens of the words behind the first
abbrev name_tokens : Walk → List (List ℕ) → List Token
name_tokens walk [] = []
name_tokens walk (w ∷ ws) = token_at (past walk colons) (word_kind w) w ∷ name_tokens (past (past walk colons) (word w)) ws

abbrev pub last_text : List ℕ → List (List ℕ) → List ℕ
last_text w [] = w
last_text w (v ∷ ws) = last_text v ws

stops : (stage : Stage) (rest : List Token) → Clear rest → begins (name_leads stage) rest ≡ false
stops at.Open rest clear = clear
stops at.Optional [] clear = refl
stops at.Optional (t ∷ rest) clear = refl
stops at.Trailing [] clear = refl
stops at.Trailing (t ∷ rest) clear = refl
stops at.Keyword [] clear = refl
stops at.Keyword (t ∷ rest) clear = refl
stops at.Done [] clear = refl
stops at.Done (t ∷ rest) clear = refl

chain_reads : (d : (r : Rule) → Way (Value r)) (g : Grammar (Token × Stage)) (ws : List (List ℕ)) → Others d g ws → (walk : Walk) (rest : List Token) → Clear rest
    → Chain name_leads (λ s. spells d (behind k.ColonColon g)) at.Open (tokens_of walk (behind_each (colons ∷ []) (word_pieces ws)) ++ rest) rest (name_tokens walk ws)
chain_reads d g [] all walk rest clear = (refl, clear)
chain_reads d g (w ∷ []) all walk rest clear =
    let sign = token_at walk k.ColonColon (codes "::") in
    let t = token_at (past walk colons) (word_kind w) w in
    (refl, (all.0, rest, (sign, (t, all.0), t ∷ rest, (sign, refl, refl, refl), all.1 (past walk colons) w rest, refl), (refl, stops all.0 rest clear)))
chain_reads d g (w ∷ v ∷ ws) all walk rest clear =
    let sign = token_at walk k.ColonColon (codes "::") in
    let t = token_at (past walk colons) (word_kind w) w in
    let on = past (past walk colons) (word w) in
    let mid = tokens_of on (behind_each (colons ∷ []) (word_pieces (v ∷ ws))) ++ rest in
    (refl, (at.Open, mid, (sign, (t, at.Open), t ∷ mid, (sign, refl, refl, refl), all.0 (past walk colons) w mid, refl), chain_reads d g (v ∷ ws) all.1 on rest clear))

name_texts : (ws : List (List ℕ)) (walk : Walk) → map text_of (name_tokens walk ws) ≡ ws
name_texts [] walk = refl
name_texts (w ∷ ws) walk = ap (λ l. w ∷ l) (name_texts ws (past (past walk colons) (word w)))

name_last : (w : List ℕ) (t : Token) → t.kind ≡ word_kind w → (ws : List (List ℕ)) (walk : Walk) → (last_of t (name_tokens walk ws)).kind ≡ word_kind (last_text w ws)
name_last w t e [] walk = e
name_last w t e (v ∷ ws) walk = name_last v (token_at (past walk colons) (word_kind v) v) refl ws (past (past walk colons) (word v))

-- words that are read where a walk stands
pub record WordsRead (d : (r : Rule) → Way (Value r)) (f g : Grammar (Token × Stage)) (w : List ℕ) (ws : List (List ℕ)) (walk : Walk) (rest : List Token) : Type 0 where
  pub read : Words
  pub spelled : spells d (chain words_of f name_leads (λ s. behind k.ColonColon g)) (tokens_of walk (separated (colons ∷ []) (word_pieces (w ∷ ws))) ++ rest) rest read
  pub path : read.path ≡ w ∷ ws
  pub last : read.last ≡ word_kind (last_text w ws)

pub words_read : (d : (r : Rule) → Way (Value r)) (f g : Grammar (Token × Stage)) (w : List ℕ) (ws : List (List ℕ)) → AllTaken d f g w ws → (walk : Walk) (rest : List Token) → Clear rest
    → WordsRead d f g w ws walk rest
words_read d f g w [] all walk rest clear =
    let t = token_at walk (word_kind w) w in record {
      read = words_of (t ∷ []);
      spelled = (t, all.0, rest, [], all.1 walk w rest, (refl, stops all.0 rest clear), refl);
      path = refl;
      last = refl;
    }
words_read d f g w (v ∷ ws) all walk rest clear =
    let t = token_at walk (word_kind w) w in
    let on = past walk (word w) in
    let mid = tokens_of on (behind_each (colons ∷ []) (word_pieces (v ∷ ws))) ++ rest in record {
      read = words_of (t ∷ name_tokens on (v ∷ ws));
      spelled = (t, at.Open, mid, name_tokens on (v ∷ ws), all.0 walk w mid, chain_reads d g (v ∷ ws) all.1 on rest clear, refl);
      path = ap (λ l. w ∷ l) (name_texts (v ∷ ws) on);
      last = name_last w t refl (v ∷ ws) on;
    }

-- ---- names of classes

constant_taken : (d : (r : Rule) → Way (Value r)) (kind : Kind) → is k.Constant kind false ≡ true → Takes d (tok (is k.Constant) k.Constant (and_stage at.Open)) at.Open kind
constant_taken d kind e walk text rest = (token_at walk kind text, refl, e, refl)

other_constants : (d : (r : Rule) → Way (Value r)) (ws : List (List ℕ)) → ends_name (is k.Constant) ws ≡ true → Others d (tok (is k.Constant) k.Constant (and_stage at.Open)) ws
other_constants d [] e = tt
other_constants d (w ∷ []) e = (at.Open, constant_taken d (word_kind w) (word_of (is k.Constant) w e))
other_constants d (w ∷ v ∷ ws) e = (
  constant_taken d (word_kind w) (word_of (is k.Constant) w (left_true (is_constant w) (ends_name (is k.Constant) (v ∷ ws)) e)),
  other_constants d (v ∷ ws) (right_true (is_constant w) (ends_name (is k.Constant) (v ∷ ws)) e),
)

all_constants : (d : (r : Rule) → Way (Value r)) (w : List ℕ) (ws : List (List ℕ)) → ends_name (is k.Constant) (w ∷ ws) ≡ true
    → AllTaken d (tok (is k.Constant) k.Constant (and_stage at.Open)) (tok (is k.Constant) k.Constant (and_stage at.Open)) w ws
all_constants d w [] e = other_constants d (w ∷ []) e
all_constants d w (v ∷ ws) e = other_constants d (w ∷ v ∷ ws) e

pub named_so : (absolute : Bool) (path other : List (List ℕ)) → path ≡ other → ◌≡◌ {A = TypeName} (record { absolute = absolute; path = path; at = record { start = 0; end = 0 } }) (record { absolute = absolute; path = other; at = record { start = 0; end = 0 } })
named_so absolute path other e = ap (λ l. record { absolute = absolute; path = l; at = record { start = 0; end = 0 } }) e

class_words : (d : (r : Rule) → Way (Value r)) (absolute : Bool) (path : List (List ℕ)) (span : Span) → ends_name (is k.Constant) path ≡ true
    → Reads d class_name bare_name (name_pieces (record { absolute = absolute; path = path; at = span })) (bare_name (record { absolute = absolute; path = path; at = span }))
unfolding class_name constants
class_words d absolute [] span e walk rest clear = cc
class_words d false (w ∷ ws) span e walk rest clear =
    let one = tok (is k.Constant) k.Constant (and_stage at.Open) in
    let r = words_read d one one w ws (all_constants d w ws e) walk rest clear in
    (relative_name r.read, (None, r.read, tokens_of walk (separated (colons ∷ []) (word_pieces (w ∷ ws))) ++ rest, inr (refl, refl), r.spelled, refl), named_so false r.read.path (w ∷ ws) r.path)
class_words d true (w ∷ ws) span e walk rest clear =
    let one = tok (is k.Constant) k.Constant (and_stage at.Open) in
    let sign = token_at walk k.ColonColon (codes "::") in
    let on = past walk colons in
    let r = words_read d one one w ws (all_constants d w ws e) on rest clear in
    let mid = tokens_of on (separated (colons ∷ []) (word_pieces (w ∷ ws))) ++ rest in
    (absolute_name sign r.read, (Some sign, r.read, mid, inl (sign, tt, mid, (sign, refl, refl, refl), (refl, refl), refl), r.spelled, refl), named_so true r.read.path (w ∷ ws) r.path)

pub class_name_reads : (d : (r : Rule) → Way (Value r)) (name : TypeName) → ends_name (is k.Constant) name.path ≡ true → Reads d class_name bare_name (name_pieces name) (bare_name name)
class_name_reads d name e = class_words d name.absolute name.path name.at e

-- ---- the words of other names

pub constant_ends : (d : (r : Rule) → Way (Value r)) (ends : Kinds) (kind : Kind) → is k.Constant kind false ≡ true → Takes d (last_word ends) at.Open kind
constant_ends d ends kind e walk text rest = inl (token_at walk kind text, refl, e, refl)

end_taken : (d : (r : Rule) → Way (Value r)) (ends : Kinds) (kind : Kind) → ((line : Bool) → ends kind line ≡ true) → Takes d (last_word ends) at.Done kind
end_taken d ends kind e walk text rest = inr (token_at walk kind text, refl, e walk.line_ended, refl)

small_ends : (kind : Kind) → is_small kind false ≡ true → (line : Bool) → ends_type kind line ≡ true
small_ends k.InterfaceName e line = refl
small_ends _ e line = e

lone_ends : (kind : Kind) → is_lone_small kind false ≡ true → (line : Bool) → ends_lone_type kind line ≡ true
lone_ends k.InterfaceName e line = refl
lone_ends _ e line = e

interface_ends : (kind : Kind) → is k.InterfaceName kind false ≡ true → (line : Bool) → ends_type kind line ≡ true
interface_ends kind e line = subst (λ k. ends_type k line ≡ true) (sym (interface_kind kind e)) refl

interface_ends_lone : (kind : Kind) → is k.InterfaceName kind false ≡ true → (line : Bool) → ends_lone_type kind line ≡ true
interface_ends_lone kind e line = subst (λ k. ends_lone_type k line ≡ true) (sym (interface_kind kind e)) refl

-- kinds of which each is taken as the last word
abbrev pub Last : ((r : Rule) → Way (Value r)) → Kinds → Kinds → Type 0
Last d ends p = (kind : Kind) → p kind false ≡ true → (stage : Stage) × Takes d (last_word ends) stage kind

pub last_constant : (d : (r : Rule) → Way (Value r)) (ends : Kinds) → Last d ends (is k.Constant)
last_constant d ends kind e = (at.Open, constant_ends d ends kind e)

pub last_interface : (d : (r : Rule) → Way (Value r)) → Last d ends_type (is k.InterfaceName)
last_interface d kind e = (at.Done, end_taken d ends_type kind (interface_ends kind e))

pub last_interface_lone : (d : (r : Rule) → Way (Value r)) → Last d ends_lone_type (is k.InterfaceName)
last_interface_lone d kind e = (at.Done, end_taken d ends_lone_type kind (interface_ends_lone kind e))

pub last_small : (d : (r : Rule) → Way (Value r)) → Last d ends_type is_small
last_small d kind e = (at.Done, end_taken d ends_type kind (small_ends kind e))

pub last_lone : (d : (r : Rule) → Way (Value r)) → Last d ends_lone_type is_lone_small
last_lone d kind e = (at.Done, end_taken d ends_lone_type kind (lone_ends kind e))

pub others_taken : (d : (r : Rule) → Way (Value r)) (ends p : Kinds) → Last d ends p → (ws : List (List ℕ)) → ends_name p ws ≡ true → Others d (last_word ends) ws
others_taken d ends p last [] e = tt
others_taken d ends p last (w ∷ []) e = last (word_kind w) (word_of p w e)
others_taken d ends p last (w ∷ v ∷ ws) e = (
  constant_ends d ends (word_kind w) (word_of (is k.Constant) w (left_true (is_constant w) (ends_name p (v ∷ ws)) e)),
  others_taken d ends p last (v ∷ ws) (right_true (is_constant w) (ends_name p (v ∷ ws)) e),
)

-- the first word alone
pub one_taken : (d : (r : Rule) → Way (Value r)) (first ends p : Kinds) → Last d first p → (w : List ℕ) → ends_name p (w ∷ []) ≡ true → AllTaken d (last_word first) (last_word ends) w []
one_taken d first ends p last w e = last (word_kind w) (word_of p w e)

-- a constant and further words
pub more_taken : (d : (r : Rule) → Way (Value r)) (first ends p : Kinds) → Last d ends p → (w v : List ℕ) (ws : List (List ℕ)) → ends_name p (w ∷ v ∷ ws) ≡ true
    → AllTaken d (last_word first) (last_word ends) w (v ∷ ws)
more_taken d first ends p last w v ws e = (
  constant_ends d first (word_kind w) (word_of (is k.Constant) w (left_true (is_constant w) (ends_name p (v ∷ ws)) e)),
  others_taken d ends p last (v ∷ ws) (right_true (is_constant w) (ends_name p (v ∷ ws)) e),
)

pub both_taken : (d : (r : Rule) → Way (Value r)) (first ends p : Kinds) → Last d first p → Last d ends p → (w : List ℕ) (ws : List (List ℕ)) → ends_name p (w ∷ ws) ≡ true
    → AllTaken d (last_word first) (last_word ends) w ws
both_taken d first ends p alone last w [] e = one_taken d first ends p alone w e
both_taken d first ends p alone last w (v ∷ ws) e = more_taken d first ends p last w v ws e

pub last_kind : (p : Kinds) (w : List ℕ) (ws : List (List ℕ)) → ends_name p (w ∷ ws) ≡ true → p (word_kind (last_text w ws)) false ≡ true
last_kind p w [] e = word_of p w e
last_kind p w (v ∷ ws) e = last_kind p v ws (right_true (is_constant w) (ends_name p (v ∷ ws)) e)
