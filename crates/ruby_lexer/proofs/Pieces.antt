-- How far the pieces of texts go, and what opens a heredoc.
use Rattle.std.proofs.Common.{arith, ◌+◌, ◌≡◌, ◌<◌, ◌≤◌, ℕ, suc, Bool, true, false, not, ◌&&◌, ◌||◌, ◌==◌, if◌then◌else◌, List, [], ◌∷◌, length, take, drop, Option, Some, None, IfSome, refl, ap}
use Rattle.std.specs.Char.{is_ascii_hexdigit}
use lib.Utf8.{scalar}
use Rattle.std.proofs.lemmas.Bool.{and_parts, eqb-true, not-true}
use Rattle.ruby_lexer.specs.declared.state.Quotes.{Quotes}
use Rattle.ruby_lexer.specs.declared.state.Quotes.TheVariants as quotes
use Rattle.ruby_lexer.specs.declared.heredocs.Opening.{Opening}
use Rattle.ruby_lexer.specs.Characters.{is_line_end, first_is, begins, word_len}
use Rattle.ruby_lexer.specs.Lines.{line_end_len, line_len}
use Rattle.ruby_lexer.specs.Strings.{Piece, closer, closing, closing_here, words_of, begins_code, as_written, escape, escaped_as_written, plain_escape, hexadecimal_len, hexadecimal_value, character, braced_unicode, short_unicode, unicode, letter_value, double_escape, regexp_escape, escape_of, piece_here, is_flag, flags_len}
use Rattle.ruby_lexer.specs.Heredocs.{indent_len, bare_opening, quoted_opening, opening_behind, opening_here}
use Rattle.ruby_lexer.proofs.Fronts.{OnLine, is_other, further, first_on, begins_on, runs_on, line_take, no_end}
use Rattle.ruby_lexer.proofs.Lengths.{below_by, if_some, positive, word_on}

-- ---- pieces

-- so many bytes end a line, or stand on it
abbrev pub Passes : Bool → List ℕ → ℕ → Type 0
Passes true text n = 0 < n
Passes false text n = OnLine text n

abbrev pub PieceOn : List ℕ → Piece → Type 0
PieceOn text p = Passes p.ends_line text p.len

-- so many bytes with a backslash before the text
abbrev Escapes : Bool → List ℕ → ℕ → Type 0
Escapes true behind n = 0 < n
Escapes false behind n = (0 < n) × (n ≤ suc (line_len behind))

abbrev EscapeOn : List ℕ → Piece → Type 0
EscapeOn behind p = Escapes p.ends_line behind p.len

piece_by : (text : List ℕ) (b : Bool) (x y : Piece) → (b ≡ true → PieceOn text x) → (b ≡ false → PieceOn text y) → PieceOn text (if b then x else y)
piece_by text true x y one other = one refl
piece_by text false x y one other = other refl

escape_by : (behind : List ℕ) (b : Bool) (x y : Piece) → (b ≡ true → EscapeOn behind x) → (b ≡ false → EscapeOn behind y) → EscapeOn behind (if b then x else y)
escape_by behind true x y one other = one refl
escape_by behind false x y one other = other refl

pub written_on : (text : List ℕ) → 0 < length text → PieceOn text (as_written text)
written_on text some = piece_by text (line_end_len text == 0) (record { value = take 1 text; len = 1; ends_line = false }) (record { value = take (line_end_len text) text; len = line_end_len text; ends_line = true })
    (λ none. (omega arith, no_end text some (eqb-true (line_end_len text) 0 none))) (λ ends. positive (line_end_len text) ends)

kept_by : (b : Bool) (n : ℕ) (text : List ℕ) → Passes b text n → Escapes b text (suc n)
kept_by true n text on = omega arith
kept_by false n text on = let below : n ≤ line_len text = on.1 in (omega arith, omega (arith, below))

escaped_on : (kept : Bool) (behind : List ℕ) (p : Piece) → PieceOn behind p → EscapeOn behind (escaped_as_written kept p)
escaped_on kept behind p on = kept_by p.ends_line p.len behind on

plain_on : (behind : List ℕ) → EscapeOn behind (plain_escape behind)
plain_on behind = escape_by behind (first_is (λ b. b == 39 || b == 92) behind) (escape (take 1 behind) 2) (escape (92 ∷ []) 1)
    (λ is. let one : 1 ≤ line_len behind = first_on (λ b. b == 39 || b == 92) refl refl behind is in (omega arith, omega (arith, one))) (λ isnt. (omega arith, omega arith))

hexadecimal_on : (text : List ℕ) → hexadecimal_len text ≤ line_len text
hexadecimal_on text = runs_on (λ b bs. is_ascii_hexdigit b) hexadecimal_len refl (λ b bs. refl) (λ b bs is. is_other is_ascii_hexdigit refl refl b is) text

-- so many bytes with `\u` before the text
abbrev UnicodeOn : List ℕ → Piece → Type 0
UnicodeOn text p = (p.ends_line ≡ false) × ((0 < p.len) × (p.len ≤ 2 + line_len text))

unicode_by : (text : List ℕ) (b : Bool) (x y : Piece) → (b ≡ true → UnicodeOn text x) → (b ≡ false → UnicodeOn text y) → UnicodeOn text (if b then x else y)
unicode_by text true x y one other = one refl
unicode_by text false x y one other = other refl

-- the `u` alone
letter_on : (text : List ℕ) → UnicodeOn text (escape (117 ∷ []) 2)
letter_on text = (refl, (omega arith, omega arith))

character_on : (text : List ℕ) (number len : ℕ) → 0 < len → len ≤ 2 + line_len text → UnicodeOn text (character number len)
character_on text number len some below = unicode_by text (scalar number) _ _ (λ is. (refl, (some, below))) (λ isnt. letter_on text)

braced_on : (text : List ℕ) → 1 ≤ line_len text → UnicodeOn text (braced_unicode (drop 1 text))
braced_on text one = let behind = drop 1 text in let n = hexadecimal_len behind in
    unicode_by text (not (n == 0) && begins 125 (drop n behind)) _ (escape (117 ∷ []) 2)
    (λ is. let last : 1 ≤ line_len (drop n behind) = begins_on 125 refl (drop n behind) (and_parts (not (n == 0)) _ is).1 in
    let digits : n + 1 ≤ line_len behind = further n 1 behind (hexadecimal_on behind) last in
    let all : 1 + (n + 1) ≤ line_len text = further 1 (n + 1) text one digits in
    character_on text (hexadecimal_value 0 (take n behind)) (n + 4) (omega arith) (omega (arith, all)))
    (λ isnt. letter_on text)

short_on : (text : List ℕ) → UnicodeOn text (short_unicode text)
short_on text = unicode_by text (hexadecimal_len (take 4 text) == 4) _ (escape (117 ∷ []) 2)
    (λ is. let four : hexadecimal_len (take 4 text) ≡ 4 = eqb-true (hexadecimal_len (take 4 text)) 4 is in
    let first : hexadecimal_len (take 4 text) ≤ line_len (take 4 text) = hexadecimal_on (take 4 text) in
    let second : line_len (take 4 text) ≤ line_len text = line_take 4 text in
    character_on text (hexadecimal_value 0 (take 4 text)) 6 (omega arith) (omega (arith, four, first, second)))
    (λ isnt. letter_on text)

unicode_on : (text : List ℕ) → UnicodeOn text (unicode text)
unicode_on text = unicode_by text (begins 123 text) (braced_unicode (drop 1 text)) (short_unicode text) (λ is. braced_on text (begins_on 123 refl text is)) (λ isnt. short_on text)

from_unicode : (b : Bool) (n : ℕ) (x : ℕ) (xs : List ℕ) → is_line_end x ≡ false → b ≡ false → 0 < n → n ≤ 2 + line_len xs → Escapes b (x ∷ xs) n
from_unicode true n x xs isnt is some below = absurd (let no : true ≡ false = is in cc)
from_unicode false n x xs isnt is some below = let line : line_len (x ∷ xs) ≡ suc (line_len xs) = ap (λ t. if t then 0 else suc (line_len xs)) isnt in
    (some, omega (arith, line, below))

double_on : (behind : List ℕ) → EscapeOn behind (double_escape behind)
double_on [] = (omega arith, omega arith)
double_on (b ∷ bs) = escape_by (b ∷ bs) (is_line_end b) (escaped_as_written false (as_written (b ∷ bs))) (if b == 117 then unicode bs else escape (letter_value b ∷ []) 2)
    (λ is. escaped_on false (b ∷ bs) (as_written (b ∷ bs)) (written_on (b ∷ bs) (omega arith)))
    (λ isnt. escape_by (b ∷ bs) (b == 117) (unicode bs) (escape (letter_value b ∷ []) 2)
    (λ is. let on : UnicodeOn bs (unicode bs) = unicode_on bs in from_unicode (unicode bs).ends_line (unicode bs).len b bs isnt on.0 on.1.0 on.1.1)
    (λ other. from_unicode false 2 b bs isnt refl (omega arith) (omega arith)))

regexp_on : (behind : List ℕ) → EscapeOn behind (regexp_escape behind)
regexp_on [] = (omega arith, omega arith)
regexp_on (b ∷ bs) = escaped_on true (b ∷ bs) (as_written (b ∷ bs)) (written_on (b ∷ bs) (omega arith))

escape_of_on : (q : Quotes) (behind : List ℕ) → EscapeOn behind (escape_of q behind)
escape_of_on quotes.Plain behind = plain_on behind
escape_of_on quotes.Double behind = double_on behind
escape_of_on quotes.Symbol behind = double_on behind
escape_of_on quotes.Regexp behind = regexp_on behind

whole_escape : (b : Bool) (n : ℕ) (text : List ℕ) → 1 ≤ line_len text → Escapes b (drop 1 text) n → Passes b text n
whole_escape true n text one on = on
whole_escape false n text one on = let sum : 1 + line_len (drop 1 text) ≤ line_len text = further 1 (line_len (drop 1 text)) text one (omega arith) in
    let below : n ≤ suc (line_len (drop 1 text)) = on.1 in (on.0, omega (arith, sum, below))

pub piece_here_on : (q : Quotes) (text : List ℕ) → 0 < length text → PieceOn text (piece_here q text)
unfolding piece_here
piece_here_on q text some = piece_by text (begins 92 text) (escape_of q (drop 1 text)) (as_written text)
    (λ is. whole_escape (escape_of q (drop 1 text)).ends_line (escape_of q (drop 1 text)).len text (begins_on 92 refl text is) (escape_of_on q (drop 1 text)))
    (λ isnt. written_on text some)

-- ---- what opens and closes

pub code_on : (text : List ℕ) → begins_code text ≡ true → OnLine text 2
code_on text is = let parts : (begins 35 text ≡ true) × (begins 123 (drop 1 text) ≡ true) = and_parts _ _ is in
    (omega arith, further 1 1 text (begins_on 35 refl text parts.0) (begins_on 123 refl (drop 1 text) parts.1))

closer_other : (q : Quotes) → is_line_end (closer q) ≡ false
closer_other quotes.Plain = refl
closer_other quotes.Double = refl
closer_other quotes.Symbol = refl
closer_other quotes.Regexp = refl

pub closer_on : (q : Quotes) (text : List ℕ) → begins (closer q) text ≡ true → 1 ≤ line_len text
closer_on q text is = begins_on (closer q) (closer_other q) text is

flags_on : (text : List ℕ) → flags_len text ≤ line_len text
flags_on text = runs_on (λ b bs. is_flag b) flags_len refl (λ b bs. refl) (λ b bs is. is_other is_flag refl refl b is) text

pub regexp_end_on : (text : List ℕ) → 1 ≤ line_len text → OnLine text (1 + flags_len (drop 1 text))
regexp_end_on text one = (omega arith, further 1 (flags_len (drop 1 text)) text one (flags_on (drop 1 text)))

-- what opens a word list is no line's end, nor is what closes it
closing_on : (b : ℕ) (bs : List ℕ) → IfSome (closing b) (λ c. (is_line_end c ≡ false) × (1 ≤ line_len (b ∷ bs)))
closing_on b bs = if_some _ (b == 40) (Some 41) _ (λ is. (refl, begins_on 40 refl (b ∷ bs) is))
    (λ isnt. if_some _ (b == 91) (Some 93) _ (λ is. (refl, begins_on 91 refl (b ∷ bs) is))
    (λ isnt. if_some _ (b == 123) (Some 125) _ (λ is. (refl, begins_on 123 refl (b ∷ bs) is))
    (λ isnt. if_some _ (b == 60) (Some 62) None (λ is. (refl, begins_on 60 refl (b ∷ bs) is)) (λ isnt. tt))))

pub closing_here_on : (text : List ℕ) → IfSome (closing_here text) (λ c. (is_line_end c ≡ false) × (1 ≤ line_len text))
closing_here_on [] = tt
closing_here_on (b ∷ bs) = closing_on b bs

pub words_of_on : (text : List ℕ) → IfSome (words_of text) (λ w. 1 ≤ line_len text)
words_of_on text = if_some _ (begins 119 text) _ _ (λ is. begins_on 119 refl text is) (λ isnt. if_some _ (begins 105 text) _ None (λ is. begins_on 105 refl text is) (λ no. tt))

-- ---- what opens a heredoc

-- the word has a byte and lies within the opening, which stands on the line behind so many bytes
abbrev pub OpensBehind : ℕ → List ℕ → Opening → Type 0
OpensBehind before text o = (o.word_start < o.word_end) × ((o.word_end ≤ o.len) × (o.len ≤ before + line_len text))

indent_on : (text : List ℕ) → indent_len text ≤ line_len text
indent_on text = below_by (first_is (λ b. b == 126 || b == 45) text) 1 0 (line_len text) (λ is. first_on (λ b. b == 126 || b == 45) refl refl text is) (λ isnt. omega arith)

bare_on : (before len : ℕ) (text : List ℕ) → len ≤ line_len text → IfSome (bare_opening before len) (OpensBehind before text)
bare_on before len text below = if_some (OpensBehind before text) (len == 0) None _ (λ none. tt)
    (λ some. let has : 0 < len = positive len some in (omega (arith, has), (omega arith, omega (arith, below))))

quoted_on : (quote before len : ℕ) (text : List ℕ) → is_line_end quote ≡ false → 1 ≤ line_len text → len ≤ line_len (drop 1 text)
    → IfSome (quoted_opening quote before len (drop 1 text)) (OpensBehind before text)
quoted_on quote before len text isnt one below = if_some (OpensBehind before text) (not (len == 0) && begins quote (drop len (drop 1 text))) _ None
    (λ is. let parts : (not (len == 0) ≡ true) × (begins quote (drop len (drop 1 text)) ≡ true) = and_parts _ _ is in
    let has : 0 < len = positive len (not-true (len == 0) parts.0) in
    let last : len + 1 ≤ line_len (drop 1 text) = further len 1 (drop 1 text) below (begins_on quote isnt (drop len (drop 1 text)) parts.1) in
    let all : 1 + (len + 1) ≤ line_len text = further 1 (len + 1) text one last in
    (omega (arith, has), (omega arith, omega (arith, all))))
    (λ no. tt)

behind_on : (before : ℕ) (text : List ℕ) → IfSome (opening_behind before text) (OpensBehind before text)
behind_on before text = if_some (OpensBehind before text) (begins 39 text) _ _
    (λ is. quoted_on 39 before (word_len (drop 1 text)) text refl (begins_on 39 refl text is) (word_on (drop 1 text)))
    (λ isnt. if_some (OpensBehind before text) (begins 34 text) _ _
    (λ is. quoted_on 34 before (word_len (drop 1 text)) text refl (begins_on 34 refl text is) (word_on (drop 1 text)))
    (λ no. bare_on before (word_len text) text (word_on text)))

wider : (before : ℕ) (text : List ℕ) → before ≤ line_len text → (o : Opening) → OpensBehind before (drop before text) o → OpensBehind 0 text o
wider before text first o opens = let sum : before + line_len (drop before text) ≤ line_len text = further before (line_len (drop before text)) text first (omega arith) in
    let below : o.len ≤ before + line_len (drop before text) = opens.1.1 in (opens.0, (opens.1.0, omega (arith, sum, below)))

if_some_then : {T : Type 0} {P Q : T → Type 0} (o : Option T) → IfSome o P → ((x : T) → P x → Q x) → IfSome o Q
if_some_then (Some x) is more = more x is
if_some_then None is more = tt

pub opening_on : (text : List ℕ) → IfSome (opening_here text) (OpensBehind 0 text)
unfolding opening_here
opening_on text = if_some_then (opening_behind (indent_len text) (drop (indent_len text) text)) (behind_on (indent_len text) (drop (indent_len text) text))
    (wider (indent_len text) text (indent_on text))
