-- What the names of types are that real tokens spell.
use Rattle.std.proofs.Common.{◌≡◌, ℕ, Bool, true, false, not, ◌&&◌, ◌||◌, if◌then◌else◌, List, [], ◌∷◌, map, refl, ap, ◌∙◌}
use Rattle.std.specs.Prelude.{Option, Some, None}
use Rattle.rbs_tree.specs.declared.names.TypeName.{TypeName}
use Rattle.rbs_tree.specs.declared.types.Ty.{Ty}
use Rattle.rbs_lexer.specs.declared.kind.Kind.{Kind}
use Rattle.rbs_lexer.specs.declared.kind.Kind.TheVariants as k
use Rattle.rbs_lexer.specs.Tokens.{Token}
use Rattle.rbs_grammar.specs.declared.parts.Words.{Words}
use Rattle.rbs_grammar.specs.declared.stage.Stage.{Stage}
use Rattle.rbs_grammar.specs.declared.stage.Stage.TheVariants as at
use Rattle.rbs_grammar.specs.Rules.{Kinds, is, is_small, is_word, every_kind}
use Rattle.rbs_grammar.specs.Grammar.{spells, tok}
use Rattle.rbs_grammar.specs.Parts.{token}
use Rattle.rbs_grammar.specs.Names.{text_of, last_of, words_of, name_of, and_stage, name_leads, leading, constant_part, constants, class_name, last_word, name_part, ends_type}
use Rattle.rbs_grammar.specs.Types.{ends_lone_type, absolute_words, relative_words, named_type}
use Rattle.rbs_grammar.proofs.Heads.{and_both, or_left, or_right, every_at}
use Rattle.rbs_printer.specs.Printed.{has_one, is_lone}
use Rattle.rbs_printer.specs.Again.{IsReal}
use Rattle.rbs_printer.proofs.Claims.{AllOf}
use Rattle.rbs_printer.proofs.Fit.{is_word_of, is_constant, ends_name, is_lone_small, fits_alias}
use Rattle.rbs_printer.proofs.FitNodes.{Fits, instance_fits, interface_fits, alias_fits}
use Rattle.rbs_printer.proofs.Keeping.{Keeps, Any, Chained, tok_keeps, seq_keeps, alt_keeps, chain_keeps}
use Rattle.rbs_printer.proofs.KeepingParts.{Ways, behind_keeps, optional_keeps, token_keeps}
use Rattle.rbs_printer.proofs.RealTokens.{WordOf, real_word}

-- ---- words

implied : (a b : Bool) → (not a || b) ≡ true → a ≡ true → b ≡ true
implied true b h e = h
implied false b h e = cc

-- where the kinds are among others, by the table of kinds
pub among : (p q : Kinds) → every_kind (λ kind line. not (p kind line) || q kind false) ≡ true → (kind : Kind) (line : Bool) → p kind line ≡ true → q kind false ≡ true
among p q table kind line h = implied (p kind line) (q kind false) (every_at (λ kind line. not (p kind line) || q kind false) table kind line) h

pub word_of : (p : Kinds) (w : List ℕ) (kind : Kind) → WordOf w kind → p kind false ≡ true → is_word_of p w ≡ true
word_of p w kind word h = and_both _ _ word.word (and_both _ _ (ap not word.no_digit) (ap (λ x. p x false) word.is_kind ∙ h))

-- a real token of a word's kind, which is among these kinds
pub real_word_of : (p : Kinds) → every_kind (λ kind line. not (p kind line) || is_word kind false) ≡ true → every_kind (λ kind line. not (p kind line) || p kind false) ≡ true
    → (t : Token) → IsReal t → p t.kind t.begins_line ≡ true → is_word_of p t.text ≡ true
real_word_of p words lines t real h = word_of p t.text t.kind (real_word t real (among p is_word words t.kind t.begins_line h)) (among p p lines t.kind t.begins_line h)

-- constants, and a last word of this kind
abbrev EndsAs : Kind → List (List ℕ) → Type 0
EndsAs kind [] = ⊥
EndsAs kind (w ∷ []) = WordOf w kind
EndsAs kind (w ∷ v ∷ ws) = (is_constant w ≡ true) × EndsAs kind (v ∷ ws)

ends_as : (p : Kinds) (kind : Kind) (ws : List (List ℕ)) → EndsAs kind ws → p kind false ≡ true → ends_name p ws ≡ true
ends_as p kind [] e h = absurd e
ends_as p kind (w ∷ []) e h = word_of p w kind e h
ends_as p kind (w ∷ v ∷ ws) e h = and_both (is_constant w) (ends_name p (v ∷ ws)) e.0 (ends_as p kind (v ∷ ws) e.1 h)

-- ---- the tokens of a name

-- a constant, or one of the kinds that end a name
abbrev can_end : Kinds → Kind → Bool
can_end ends kind = is k.Constant kind false || ends kind false

-- a word of a name, behind which it goes on or ends
abbrev Item : Kinds → Token → Stage → Type 0
Item ends x at.Open = (is_constant x.text ≡ true) × WordOf x.text x.kind × (is k.Constant x.kind false ≡ true)
Item ends x at.Done = WordOf x.text x.kind × (ends x.kind false ≡ true)
Item ends x _ = ⊥

-- the words behind another
abbrev Tail : Kinds → Stage → List Token → Type 0
Tail ends stage [] = Unit {0}
Tail ends at.Open (t ∷ ts) = EndsAs (last_of t ts).kind (map text_of (t ∷ ts)) × (can_end ends (last_of t ts).kind ≡ true)
Tail ends _ (t ∷ ts) = ⊥

last_item : (ends : Kinds) (x : Token) (s : Stage) → Item ends x s → WordOf x.text x.kind × (can_end ends x.kind ≡ true)
last_item ends x at.Open h = (h.1, or_left _ (ends x.kind false) h.2)
last_item ends x at.Done h = (h.0, or_right (is k.Constant x.kind false) _ h.1)
last_item ends x at.Optional h = absurd h
last_item ends x at.Trailing h = absurd h
last_item ends x at.Keyword h = absurd h

further : (first ends : Kinds) (x : Token) (s : Stage) (t : Token) (ts : List Token) → Item first x s → Tail ends s (t ∷ ts) → Tail ends at.Open (x ∷ t ∷ ts)
further first ends x at.Open t ts h tail = ((h.0, tail.0), tail.1)
further first ends x at.Done t ts h tail = absurd tail
further first ends x at.Optional t ts h tail = absurd tail
further first ends x at.Trailing t ts h tail = absurd tail
further first ends x at.Keyword t ts h tail = absurd tail

chained : (ends : Kinds) → Chained name_leads (λ s x next. Item ends x next) (Tail ends)
chained ends = record { ends = λ s. tt; goes_on = on }
  where
    on : (s next : Stage) (x : Token) (xs : List Token) (t : Token) → name_leads s t.kind t.begins_line ≡ true → Item ends x next → Tail ends next xs → Tail ends s (x ∷ xs)
    on at.Open next x [] t leads item tail = last_item ends x next item
    on at.Open next x (y ∷ ys) t leads item tail = further ends ends x next y ys item tail
    on at.Optional next x xs t leads item tail = cc
    on at.Trailing next x xs t leads item tail = cc
    on at.Keyword next x xs t leads item tail = cc
    on at.Done next x xs t leads item tail = cc

-- the words of a name: one that ends as the first kinds say, or several
abbrev pub NameWords : Kinds → Kinds → Words → Type 0
NameWords first ends w = EndsAs w.last w.path × (can_end (if has_one w.path then first else ends) w.last ≡ true)

words_made : (first ends : Kinds) (x : Token) (s : Stage) (xs : List Token) → Item first x s → Tail ends s xs → NameWords first ends (words_of (x ∷ xs))
words_made first ends x s [] item tail = last_item first x s item
words_made first ends x s (y ∷ ys) item tail = further first ends x s y ys item tail

constant_item : (ends : Kinds) (t : Token) → IsReal t → is k.Constant t.kind t.begins_line ≡ true → Item ends t at.Open
constant_item ends t real h = (real_word_of (is k.Constant) refl refl t real h, real_word t real (among (is k.Constant) is_word refl t.kind t.begins_line h), h)

-- kinds that end a name, all of them words, wherever they stand
abbrev AreWords : Kinds → Type 0
AreWords ends = (every_kind (λ kind line. not (ends kind line) || is_word kind false) ≡ true) × (every_kind (λ kind line. not (ends kind line) || ends kind false) ≡ true)

last_word_keeps : (d : Ways) (ends : Kinds) → AreWords ends → Keeps (λ p. Item ends p.0 p.1) (spells d (last_word ends))
last_word_keeps d ends words = alt_keeps (λ p. Item ends p.0 p.1) (spells d (tok (is k.Constant) k.Constant (and_stage at.Open))) (spells d (tok ends k.InterfaceName (and_stage at.Done)))
    (tok_keeps (λ p. Item ends p.0 p.1) (is k.Constant) (and_stage at.Open) (constant_item ends))
    (tok_keeps (λ p. Item ends p.0 p.1) ends (and_stage at.Done) (λ t real h. (real_word t real (among ends is_word words.0 t.kind t.begins_line h), among ends ends words.1 t.kind t.begins_line h)))

pub absolute_words_keep : (d : Ways) → Keeps (NameWords ends_type ends_type) (spells d absolute_words)
unfolding absolute_words
absolute_words_keep d =
    chain_keeps name_leads (Item ends_type) (λ s x next. Item ends_type x next) (Tail ends_type) (NameWords ends_type ends_type) words_of (spells d (last_word ends_type)) (λ s. spells d (name_part ends_type s))
    (chained ends_type) (last_word_keeps d ends_type (refl, refl)) (λ s. behind_keeps d (λ p. Item ends_type p.0 p.1) k.ColonColon (last_word ends_type) (last_word_keeps d ends_type (refl, refl))) (words_made ends_type ends_type)

pub relative_words_keep : (d : Ways) → Keeps (NameWords ends_lone_type ends_type) (spells d relative_words)
unfolding relative_words
relative_words_keep d =
    chain_keeps name_leads (Item ends_lone_type) (λ s x next. Item ends_type x next) (Tail ends_type) (NameWords ends_lone_type ends_type) words_of (spells d (last_word ends_lone_type)) (λ s. spells d (name_part ends_type s))
    (chained ends_type) (last_word_keeps d ends_lone_type (refl, refl)) (λ s. behind_keeps d (λ p. Item ends_type p.0 p.1) k.ColonColon (last_word ends_type) (last_word_keeps d ends_type (refl, refl))) (words_made ends_lone_type ends_type)

-- ---- named types

small_or : (b : Bool) (kind : Kind) → is k.Constant kind false ≡ false → is k.InterfaceName kind false ≡ false → can_end (if b then ends_lone_type else ends_type) kind ≡ true
    → (if b then is_lone_small else is_small) kind false ≡ true
small_or true kind constant interface h = among (λ kind line. can_end ends_lone_type kind && (not (is k.Constant kind false) && not (is k.InterfaceName kind false))) is_lone_small refl kind false (and_both (can_end ends_lone_type kind) (not (is k.Constant kind false) && not (is k.InterfaceName kind false)) h (and_both (not (is k.Constant kind false)) (not (is k.InterfaceName kind false)) (ap not constant) (ap not interface)))
small_or false kind constant interface h = among (λ kind line. can_end ends_type kind && (not (is k.Constant kind false) && not (is k.InterfaceName kind false))) is_small refl kind false (and_both (can_end ends_type kind) (not (is k.Constant kind false) && not (is k.InterfaceName kind false)) h (and_both (not (is k.Constant kind false)) (not (is k.InterfaceName kind false)) (ap not constant) (ap not interface)))

-- an alias, whose last word is neither a constant nor the name of an interface
small_fits : (kind : Kind) (name : TypeName) (args : List Ty) → is k.Constant kind false ≡ false → is k.InterfaceName kind false ≡ false → EndsAs kind name.path
    → can_end (if is_lone name then ends_lone_type else ends_type) kind ≡ true → fits_alias name ≡ true
small_fits kind name args constant interface e h = ends_as (if is_lone name then is_lone_small else is_small) kind name.path e (small_or (is_lone name) kind constant interface h)

pub named_fits : (kind : Kind) (name : TypeName) (args : List Ty) → EndsAs kind name.path → can_end (if is_lone name then ends_lone_type else ends_type) kind ≡ true → AllOf Fits args → Fits (named_type kind name args)
named_fits k.Constant name args e h all = instance_fits name args (ends_as (is k.Constant) k.Constant name.path e refl) all
named_fits k.InterfaceName name args e h all = interface_fits name args (ends_as (is k.InterfaceName) k.InterfaceName name.path e refl) all
named_fits kind name args e h all = alias_fits name args (small_fits kind name args refl refl e h) all

-- ---- names of classes

abbrev pub ConstantWords : Words → Type 0
ConstantWords w = ends_name (is k.Constant) w.path ≡ true

-- constants by themselves
abbrev IsConstant : Token → Stage → Type 0
IsConstant x at.Open = is_constant x.text ≡ true
IsConstant x _ = ⊥

abbrev Constants : Stage → List Token → Type 0
Constants s [] = Unit {0}
Constants s (t ∷ ts) = ends_name (is k.Constant) (map text_of (t ∷ ts)) ≡ true

constant_here : (x : Token) (s : Stage) → IsConstant x s → is_constant x.text ≡ true
constant_here x at.Open h = h
constant_here x at.Optional h = absurd h
constant_here x at.Trailing h = absurd h
constant_here x at.Keyword h = absurd h
constant_here x at.Done h = absurd h

constants_on : (x : Token) (s t : Stage) (xs : List Token) → IsConstant x s → Constants t xs → ends_name (is k.Constant) (map text_of (x ∷ xs)) ≡ true
constants_on x s t [] h tail = constant_here x s h
constants_on x s t (y ∷ ys) h tail = and_both (is_constant x.text) (ends_name (is k.Constant) (map text_of (y ∷ ys))) (constant_here x s h) tail

constant_keeps : (d : Ways) → Keeps (λ p. IsConstant p.0 p.1) (spells d (tok (is k.Constant) k.Constant (and_stage at.Open)))
constant_keeps d = tok_keeps (λ p. IsConstant p.0 p.1) (is k.Constant) (and_stage at.Open) (λ t real h. real_word_of (is k.Constant) refl refl t real h)

constants_keep : (d : Ways) → Keeps ConstantWords (spells d constants)
unfolding constants
constants_keep d =
    chain_keeps name_leads IsConstant (λ s x next. IsConstant x next) Constants ConstantWords words_of (spells d (tok (is k.Constant) k.Constant (and_stage at.Open))) (λ s. spells d (constant_part s))
    (record { ends = λ s. tt; goes_on = λ s next x xs t leads item tail. constants_on x next next xs item tail })
    (constant_keeps d) (λ s. behind_keeps d (λ p. IsConstant p.0 p.1) k.ColonColon (tok (is k.Constant) k.Constant (and_stage at.Open)) (constant_keeps d)) (λ x s xs first tail. constants_on x s s xs first tail)

abbrev pub ClassName : TypeName → Type 0
ClassName name = ends_name (is k.Constant) name.path ≡ true

named_constants : (leading : Option Token) (w : Words) → ConstantWords w → ClassName (name_of leading w)
named_constants None w h = h
named_constants (Some colons) w h = h

pub class_name_keeps : (d : Ways) → Keeps ClassName (spells d class_name)
unfolding class_name
class_name_keeps d = seq_keeps Any ConstantWords ClassName name_of (spells d leading) (spells d constants) (λ ts rest x real h. let kept = optional_keeps d Any (token k.ColonColon) (token_keeps d k.ColonColon) ts rest x real h in (tt, kept.1)) (constants_keep d) (λ x y p q. named_constants x y q)
