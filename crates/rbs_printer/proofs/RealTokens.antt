-- What the text of a real token is, by its kind.
use Rattle.std.proofs.Common.{◌≡◌, ℕ, ◌^◌, ◌-◌, ◌==◌, nat_le, Bool, true, false, not, ◌&&◌, ◌||◌, if◌then◌else◌, List, [], ◌∷◌, slice_index, refl, ap, sym, ◌∙◌}
use Rattle.std.specs.Prelude.{Option, Some, None, option_map, bytes_eq}
use Rattle.rbs_lexer.specs.declared.kind.Kind.{Kind}
use Rattle.rbs_lexer.specs.declared.kind.Kind.TheVariants as k
use Rattle.rbs_lexer.specs.declared.place.Place.{Place}
use Rattle.rbs_lexer.specs.Tokens.{Token}
use Rattle.rbs_lexer.specs.declared.reading.Reading.{Reading}
use Rattle.rbs_lexer.specs.declared.reading.Reading.TheVariants as r
use Rattle.rbs_lexer.specs.Bytes.{begins_with_digit, is_upper, is_nil, has_byte, ends_at}
use Rattle.rbs_lexer.specs.Words.{is_word, word_kind, entry, keywords, kind_or_name, name_kind}
use Rattle.rbs_lexer.specs.Numbers.{is_digits, value_from}
use Rattle.rbs_lexer.specs.Quotes.{is_string}
use Rattle.rbs_lexer.specs.Signs.{sign_kind, special_kind, signs, special_names}
use Rattle.rbs_lexer.specs.Gaps.{is_gap, closing, bracketed, annotation}
use Rattle.rbs_lexer.specs.Places.{has_name, takes_equals}
use Rattle.rbs_lexer.specs.Runs.{Language, or_else, either, of_kind, behind, word, sized, integer, is_symbol, variable, gap, string, symbol, sign, special, ordinary, is_method_name, name, reading}
use Rattle.rbs_grammar.specs.Rules as rules
use Rattle.rbs_printer.specs.Again.{IsReal}

-- whether a run is read as a token of some kinds
abbrev pub holds : (Kind → Bool) → Option Reading → Bool
holds p None = false
holds p (Some (r.Token kind)) = p kind
holds p (Some r.Skipped) = false
holds p (Some r.Refused) = false

-- no run is read as one
abbrev Fails : (Kind → Bool) → Language → Type 0
Fails p language = (run next : List ℕ) → holds p (language run next) ≡ false

else_fails : (p : Kind → Bool) (a b : Option Reading) → holds p a ≡ false → holds p b ≡ false → holds p (or_else a b) ≡ false
else_fails p None b left right = right
else_fails p (Some x) b left right = left

either_fails : (p : Kind → Bool) (first second : Language) → Fails p first → Fails p second → Fails p (either first second)
either_fails p first second left right run next = else_fails p (first run next) (second run next) (left run next) (right run next)

-- where the first reading is of none of the kinds, the second is the one
else_second : (p : Kind → Bool) (a b : Option Reading) → holds p a ≡ false → holds p (or_else a b) ≡ true → or_else a b ≡ b
else_second p None b fails held = refl
else_second p (Some x) b fails held = cc

-- where the second reading is of none of the kinds, the first is the one
else_first : (p : Kind → Bool) (a b : Option Reading) → holds p b ≡ false → holds p (or_else a b) ≡ true → or_else a b ≡ a
else_first p None b fails held = cc
else_first p (Some x) b fails held = refl

of_kind_fails : (p : Kind → Bool) (kind : Kind) (b : Bool) → p kind ≡ false → holds p (of_kind kind b) ≡ false
of_kind_fails p kind true h = h
of_kind_fails p kind false h = refl

abbrev has_kind : (Kind → Bool) → List (List ℕ × Kind) → Bool
has_kind p [] = false
has_kind p (e ∷ es) = p e.1 || has_kind p es

or_false : (a b : Bool) → (a || b) ≡ false → (a ≡ false) × (b ≡ false)
or_false true b h = cc
or_false false b h = (refl, h)

entry_fails : (p : Kind → Bool) (es : List (List ℕ × Kind)) → has_kind p es ≡ false → (run : List ℕ) → holds p (option_map r.Token (entry run es)) ≡ false
entry_fails p [] h run = refl
entry_fails p (e ∷ es) h run = go (bytes_eq run e.0) (entry_fails p es (or_false (p e.1) (has_kind p es) h).1 run)
  where
    go : (b : Bool) → holds p (option_map r.Token (entry run es)) ≡ false → holds p (option_map r.Token (if b then Some e.1 else entry run es)) ≡ false
    go true others = (or_false (p e.1) (has_kind p es) h).0
    go false others = others

-- ---- the languages

gap_fails : (p : Kind → Bool) → Fails p gap
gap_fails p run next = go (is_gap run)
  where
    go : (b : Bool) → holds p (if b then Some r.Skipped else None) ≡ false
    go true = refl
    go false = refl

bracketed_fails : (p : Kind → Bool) (close : Option ℕ) (run next : List ℕ) → holds p (bracketed close run next) ≡ false
bracketed_fails p None run next = refl
bracketed_fails p (Some close) run next = go (ends_at close run) (is_nil next && not (has_byte close run))
  where
    go : (b c : Bool) → holds p (if b then Some r.Skipped else (if c then Some r.Refused else None)) ≡ false
    go true c = refl
    go false true = refl
    go false false = refl

annotation_fails : (p : Kind → Bool) → Fails p annotation
unfolding annotation
annotation_fails p [] next = refl
annotation_fails p (a ∷ []) next = refl
annotation_fails p (a ∷ b ∷ []) next = refl
annotation_fails p (a ∷ b ∷ c ∷ run) next = go (a == 37 && b == 97)
  where
    go : (t : Bool) → holds p (if t then bracketed (closing c) run next else None) ≡ false
    go true = bracketed_fails p (closing c) run next
    go false = refl

abbrev has_word_kind : (Kind → Bool) → Bool
has_word_kind p = p k.Constant || (p k.InterfaceName || (p k.Word || has_kind p keywords))

name_kind_fails : (p : Kind → Bool) (run : List ℕ) → has_word_kind p ≡ false → p (name_kind run) ≡ false
name_kind_fails p run h = go (is_upper (slice_index run 0)) (slice_index run 0 == 95 && is_upper (slice_index run 1))
  where
    no_interface : (p k.InterfaceName || (p k.Word || has_kind p keywords)) ≡ false
    no_interface = (or_false (p k.Constant) _ h).1

    go : (b c : Bool) → p (if b then k.Constant else (if c then k.InterfaceName else k.Word)) ≡ false
    go true c = (or_false (p k.Constant) _ h).0
    go false true = (or_false (p k.InterfaceName) _ no_interface).0
    go false false = (or_false (p k.Word) _ (or_false (p k.InterfaceName) _ no_interface).1).0

word_kind_fails : (p : Kind → Bool) (run : List ℕ) → has_word_kind p ≡ false → p (word_kind run) ≡ false
unfolding word_kind
word_kind_fails p run h = go (entry run keywords) (entry_fails p keywords (or_false (p k.Word) _ (or_false (p k.InterfaceName) _ (or_false (p k.Constant) _ h).1).1).1 run)
  where
    go : (o : Option Kind) → holds p (option_map r.Token o) ≡ false → p (kind_or_name run o) ≡ false
    go None e = name_kind_fails p run h
    go (Some kind) e = e

word_fails : (p : Kind → Bool) → has_word_kind p ≡ false → Fails p word
unfolding word
word_fails p h run next = go (not (begins_with_digit run) && is_word run)
  where
    go : (b : Bool) → holds p (if b then Some (r.Token (word_kind run)) else None) ≡ false
    go true = word_kind_fails p run h
    go false = refl

sized_fails : (p : Kind → Bool) → p k.Integer ≡ false → (limit : ℕ) (digits : List ℕ) → holds p (sized limit digits) ≡ false
sized_fails p h limit digits = go (is_digits digits) (nat_le (value_from 0 digits) limit)
  where
    go : (b c : Bool) → holds p (if b then (if c then Some (r.Token k.Integer) else Some r.Refused) else None) ≡ false
    go true true = h
    go true false = refl
    go false c = refl

integer_fails : (p : Kind → Bool) → p k.Integer ≡ false → Fails p integer
unfolding integer
integer_fails p h [] next = refl
integer_fails p h (b ∷ run) next = go (b == 45)
  where
    go : (t : Bool) → holds p (if t then sized (2 ^ 127) run else sized (2 ^ 127 - 1) (b ∷ run)) ≡ false
    go true = sized_fails p h (2 ^ 127) run
    go false = sized_fails p h (2 ^ 127 - 1) (b ∷ run)

string_fails : (p : Kind → Bool) → p k.String ≡ false → Fails p string
string_fails p h run next = of_kind_fails p k.String (is_string run) h

symbol_fails : (p : Kind → Bool) → p k.Symbol ≡ false → Fails p symbol
symbol_fails p h run next = of_kind_fails p k.Symbol (is_symbol run) h

variable_fails : (p : Kind → Bool) → (p k.InstanceVariable || (p k.ClassVariable || p k.Global)) ≡ false → Fails p variable
unfolding variable
variable_fails p h run next =
    else_fails p (of_kind k.InstanceVariable (behind 64 is_word run)) _ (of_kind_fails p k.InstanceVariable (behind 64 is_word run) (or_false (p k.InstanceVariable) _ h).0)
    (else_fails p (of_kind k.ClassVariable (behind 64 (behind 64 is_word) run)) _
    (of_kind_fails p k.ClassVariable (behind 64 (behind 64 is_word) run) (or_false (p k.ClassVariable) _ (or_false (p k.InstanceVariable) _ h).1).0)
    (of_kind_fails p k.Global (behind 36 is_word run) (or_false (p k.ClassVariable) _ (or_false (p k.InstanceVariable) _ h).1).1))

sign_fails : (p : Kind → Bool) → has_kind p signs ≡ false → Fails p sign
unfolding sign_kind
sign_fails p h run next = entry_fails p signs h run

special_fails : (p : Kind → Bool) → has_kind p special_names ≡ false → Fails p special
unfolding special_kind
special_fails p h run next = entry_fails p special_names h run

name_fails : (p : Kind → Bool) (place : Place) → p k.MethodName ≡ false → Fails p (name place)
unfolding name
name_fails p place h run next = of_kind_fails p k.MethodName (is_method_name (takes_equals place next) run) h

-- ---- what a token is read by

-- where no name's kind is among the kinds, what is read as a token of these can stand anywhere
ordinary_read : (p : Kind → Bool) (place : Place) (run next : List ℕ) → has_kind p special_names ≡ false → p k.MethodName ≡ false → holds p (reading place run next) ≡ true
    → reading place run next ≡ ordinary run next
unfolding reading
ordinary_read p place run next no_special no_name = go (has_name place)
  where
    go : (b : Bool) → holds p ((if b then either special (either (name place) ordinary) else ordinary) run next) ≡ true
        → (if b then either special (either (name place) ordinary) else ordinary) run next ≡ ordinary run next
    go true h =
        let past : or_else (special run next) (or_else (name place run next) (ordinary run next)) ≡ or_else (name place run next) (ordinary run next)
        = else_second p (special run next) _ (special_fails p no_special run next) h in
        past ∙ else_second p (name place run next) (ordinary run next) (name_fails p place no_name run next) (ap (holds p) (sym past) ∙ h)
    go false h = refl

-- what is read as a token of the kinds, where gaps and annotations are left aside
behind_gaps : (p : Kind → Bool) (run next : List ℕ) (others : Language) → holds p (either gap (either annotation others) run next) ≡ true → either gap (either annotation others) run next ≡ others run next
behind_gaps p run next others h =
    let past : or_else (gap run next) (or_else (annotation run next) (others run next)) ≡ or_else (annotation run next) (others run next)
    = else_second p (gap run next) (or_else (annotation run next) (others run next)) (gap_fails p run next) h in
    past ∙ else_second p (annotation run next) (others run next) (annotation_fails p run next) (ap (holds p) (sym past) ∙ h)

-- a word of this kind, which doesn't begin with a digit
pub record WordOf (w : List ℕ) (kind : Kind) : Type 0 where
  pub word : is_word w ≡ true
  pub no_digit : begins_with_digit w ≡ false
  pub is_kind : word_kind w ≡ kind

abbrev kind_of : Option Reading → Kind → Kind
kind_of None other = other
kind_of (Some (r.Token kind)) other = kind
kind_of (Some r.Skipped) other = other
kind_of (Some r.Refused) other = other

word_found : (run next : List ℕ) (kind : Kind) → word run next ≡ Some (r.Token kind) → WordOf run kind
unfolding word
word_found run next kind e = go (begins_with_digit run) (is_word run) refl refl e
  where
    go : (b c : Bool) → begins_with_digit run ≡ b → is_word run ≡ c → (if not b && c then Some (r.Token (word_kind run)) else None) ≡ Some (r.Token kind) → WordOf run kind
    go true c x y e = cc
    go false true x y e = record { word = y; no_digit = x; is_kind = ap (λ o. kind_of o kind) e }
    go false false x y e = cc

abbrev a_word : Kind → Bool
a_word kind = rules.is_word kind false

-- all languages but those of words
word_ordinary : (run next : List ℕ) (kind : Kind) → ordinary run next ≡ Some (r.Token kind) → a_word kind ≡ true → WordOf run kind
unfolding ordinary
word_ordinary run next kind e is =
    let held : holds a_word (either gap (either annotation (either word others)) run next) ≡ true = ap (holds a_word) e ∙ is in
    let past = behind_gaps a_word run next (either word others) held in
    let only : or_else (word run next) (others run next) ≡ word run next = else_first a_word (word run next) (others run next) (others_fail run next) (ap (holds a_word) (sym past) ∙ held) in
    word_found run next kind (sym only ∙ sym past ∙ e)
  where
    others : Language
    others = either integer (either string (either symbol (either variable sign)))

    others_fail : Fails a_word others
    others_fail = either_fails a_word integer _ (integer_fails a_word refl) (either_fails a_word string _ (string_fails a_word refl)
        (either_fails a_word symbol _ (symbol_fails a_word refl) (either_fails a_word variable sign (variable_fails a_word refl) (sign_fails a_word refl))))

-- A real token of a word's kind is a word of that kind.
pub real_word : (t : Token) → IsReal t → rules.is_word t.kind false ≡ true → WordOf t.text t.kind
real_word t real is =
    let same = ordinary_read a_word real.place t.text real.next refl refl (ap (holds a_word) real.reads ∙ is) in
    word_ordinary t.text real.next t.kind (sym same ∙ real.reads) is

-- ---- strings and symbols

passed : (kind : Kind) (b : Bool) (read : Reading) → of_kind kind b ≡ Some read → b ≡ true
passed kind true read e = refl
passed kind false read e = cc

abbrev a_string : Kind → Bool
a_string kind = rules.is k.String kind false

string_ordinary : (run next : List ℕ) (kind : Kind) → ordinary run next ≡ Some (r.Token kind) → a_string kind ≡ true → is_string run ≡ true
unfolding ordinary
string_ordinary run next kind e is =
    let held : holds a_string (either gap (either annotation (either word (either integer (either string others)))) run next) ≡ true = ap (holds a_string) e ∙ is in
    let past = behind_gaps a_string run next (either word (either integer (either string others))) held in
    let second = else_second a_string (word run next) (either integer (either string others) run next) (word_fails a_string refl run next) (ap (holds a_string) (sym past) ∙ held) in
    let third = else_second a_string (integer run next) (either string others run next) (integer_fails a_string refl run next) (ap (holds a_string) (sym second ∙ sym past) ∙ held) in
    let only = else_first a_string (string run next) (others run next) (others_fail run next) (ap (holds a_string) (sym third ∙ sym second ∙ sym past) ∙ held) in
    passed k.String (is_string run) (r.Token kind) (sym only ∙ sym third ∙ sym second ∙ sym past ∙ e)
  where
    others : Language
    others = either symbol (either variable sign)

    others_fail : Fails a_string others
    others_fail = either_fails a_string symbol _ (symbol_fails a_string refl) (either_fails a_string variable sign (variable_fails a_string refl) (sign_fails a_string refl))

pub real_string : (t : Token) → IsReal t → rules.is k.String t.kind false ≡ true → is_string t.text ≡ true
real_string t real is =
    let same = ordinary_read a_string real.place t.text real.next refl refl (ap (holds a_string) real.reads ∙ is) in
    string_ordinary t.text real.next t.kind (sym same ∙ real.reads) is

abbrev a_symbol : Kind → Bool
a_symbol kind = rules.is k.Symbol kind false

symbol_ordinary : (run next : List ℕ) (kind : Kind) → ordinary run next ≡ Some (r.Token kind) → a_symbol kind ≡ true → is_symbol run ≡ true
unfolding ordinary
symbol_ordinary run next kind e is =
    let held : holds a_symbol (either gap (either annotation (either word (either integer (either string (either symbol others))))) run next) ≡ true = ap (holds a_symbol) e ∙ is in
    let past = behind_gaps a_symbol run next (either word (either integer (either string (either symbol others)))) held in
    let second = else_second a_symbol (word run next) (either integer (either string (either symbol others)) run next) (word_fails a_symbol refl run next) (ap (holds a_symbol) (sym past) ∙ held) in
    let third = else_second a_symbol (integer run next) (either string (either symbol others) run next) (integer_fails a_symbol refl run next) (ap (holds a_symbol) (sym second ∙ sym past) ∙ held) in
    let fourth = else_second a_symbol (string run next) (either symbol others run next) (string_fails a_symbol refl run next) (ap (holds a_symbol) (sym third ∙ sym second ∙ sym past) ∙ held) in
    let only = else_first a_symbol (symbol run next) (others run next) (others_fail run next) (ap (holds a_symbol) (sym fourth ∙ sym third ∙ sym second ∙ sym past) ∙ held) in
    passed k.Symbol (is_symbol run) (r.Token kind) (sym only ∙ sym fourth ∙ sym third ∙ sym second ∙ sym past ∙ e)
  where
    others : Language
    others = either variable sign

    others_fail : Fails a_symbol others
    others_fail = either_fails a_symbol variable sign (variable_fails a_symbol refl) (sign_fails a_symbol refl)

pub real_symbol : (t : Token) → IsReal t → rules.is k.Symbol t.kind false ≡ true → is_symbol t.text ≡ true
real_symbol t real is =
    let same = ordinary_read a_symbol real.place t.text real.next refl refl (ap (holds a_symbol) real.reads ∙ is) in
    symbol_ordinary t.text real.next t.kind (sym same ∙ real.reads) is
