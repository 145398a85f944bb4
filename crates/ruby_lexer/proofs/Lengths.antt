-- Each token has a byte at least, and stands before its line's end.
use Rattle.std.proofs.Common.{arith, ◌+◌, ◌≡◌, ◌<◌, ◌≤◌, ℕ, zero, suc, Bool, true, false, nat_le, ◌&&◌, ◌||◌, ◌==◌, if◌then◌else◌, List, [], ◌∷◌, length, take, drop, Option, Some, None, Result, Ok, Err, IfOk, IfSome, refl, sym, subst}
use Rattle.std.proofs.lemmas.Bool.{and_parts, ne_eqb}
use Rattle.std.proofs.lemmas.List.{length-take-le}
use Rattle.ruby_lexer.specs.declared.kind.RubyKind.{RubyKind}
use Rattle.ruby_lexer.specs.declared.kind.RubyKind.TheVariants as k
use Rattle.ruby_lexer.specs.declared.kind.Keyword.{Keyword}
use Rattle.ruby_lexer.specs.declared.token.RubyToken.{RubyToken}
use Rattle.ruby_lexer.specs.declared.token.RubyValue.TheVariants as value
use Rattle.ruby_lexer.specs.declared.refusal.RubyAt.{RubyAt}
use Rattle.ruby_lexer.specs.declared.refusal.Form.{Form}
use Rattle.ruby_lexer.specs.declared.refusal.Form.TheVariants as form
use Rattle.ruby_lexer.specs.declared.state.State.{State}
use Rattle.ruby_lexer.specs.declared.numbers.Base.{Base}
use Rattle.ruby_lexer.specs.declared.numbers.Base.TheVariants as base
use Rattle.ruby_lexer.specs.Characters.{is_digit, is_upper, is_mark, is_line_end, is_of_word, first_is, begins, begins_word, has_front, word_characters_len, word_len, single_equals, takes_mark, marked_len}
use Rattle.ruby_lexer.specs.Lines.{line_len}
use Rattle.ruby_lexer.specs.Numbers as numbers
use Rattle.ruby_lexer.specs.Numbers.{goes_on, is_digit_of, digits_front, digits_len, minus_len, number_here}
use Rattle.ruby_lexer.specs.Tokens.{token, refused}
use Rattle.ruby_lexer.specs.Words as words
use Rattle.ruby_lexer.specs.Words.{is_colon, label_tail_len, label_len, whole_word_len, word_here, name_here, variable_here}
use Rattle.ruby_lexer.specs.Symbols.{operators, first_front, operator_len, symbol_name_len, symbol_here}
use Rattle.ruby_lexer.proofs.Fronts.{OnLine, is_other, line_within, further, first_on, begins_on, runs_on, is_even, front_on}

-- the token ends so many bytes behind the place, on the line
abbrev pub Taken : State → List ℕ → RubyToken → Type 0
Taken s rest t = (n : ℕ) × ((t.span.end ≡ s.place + n) × OnLine rest n)

-- the token ends behind so many bytes and then so many of the line
abbrev Behind : State → ℕ → List ℕ → RubyToken → Type 0
Behind s before rest t = (n : ℕ) × ((t.span.end ≡ s.place + (before + n)) × OnLine rest n)

-- ---- choices

pub either : {T E : Type 0} (P : T → Type 0) (b : Bool) (x y : Result T E) → (b ≡ true → IfOk x P) → (b ≡ false → IfOk y P) → IfOk (if b then x else y) P
either P true x y one other = one refl
either P false x y one other = other refl

pub if_some : {T : Type 0} (P : T → Type 0) (b : Bool) (x y : Option T) → (b ≡ true → IfSome x P) → (b ≡ false → IfSome y P) → IfSome (if b then x else y) P
if_some P true x y one other = one refl
if_some P false x y one other = other refl

pub below_by : (b : Bool) (n m line : ℕ) → (b ≡ true → n ≤ line) → (b ≡ false → m ≤ line) → (if b then n else m) ≤ line
below_by true n m line one other = one refl
below_by false n m line one other = other refl

if_ok : {T E : Type 0} {P Q : T → Type 0} (r : Result T E) → IfOk r P → ((x : T) → P x → Q x) → IfOk r Q
if_ok (Ok x) is more = more x is
if_ok (Err e) is more = tt

pub positive : (n : ℕ) → (n == 0) ≡ false → 0 < n
positive zero is = absurd (let no : true ≡ false = is in cc)
positive (suc n) is = omega arith

pub nonzero : (n : ℕ) → 0 < n → (n == 0) ≡ false
nonzero n some = ne_eqb n 0 (λ is. omega (arith, some, is))

-- ---- numbers

goes_on_other : (b : Base) (x : ℕ) (xs : List ℕ) → goes_on b x xs ≡ true → is_line_end x ≡ false
goes_on_other base.Binary x xs is = is_other (λ x. goes_on base.Binary x xs) refl refl x is
goes_on_other base.Octal x xs is = is_other (λ x. goes_on base.Octal x xs) refl refl x is
goes_on_other base.Decimal x xs is = is_other (λ x. goes_on base.Decimal x xs) refl refl x is
goes_on_other base.Hexadecimal x xs is = is_other (λ x. goes_on base.Hexadecimal x xs) refl refl x is

digits_on : (b : Base) (text : List ℕ) → digits_len b text ≤ line_len text
digits_on b text = below_by (first_is (is_digit_of b) text) (digits_front b text) 0 (line_len text)
    (λ is. runs_on (goes_on b) (digits_front b) refl (λ x xs. refl) (goes_on_other b) text) (λ is. omega arith)

digits_by : (t x : Bool) (n : ℕ) → t ≡ true → 0 < (if t then (if t || x then suc n else 0) else 0)
digits_by true x n is = omega arith
digits_by false x n is = absurd (let no : false ≡ true = is in cc)

some_digits : (b : Base) (text : List ℕ) → first_is (is_digit_of b) text ≡ true → 0 < digits_len b text
some_digits b [] is = absurd (let no : false ≡ true = is in cc)
some_digits b (x ∷ xs) is = digits_by (is_digit_of b x) (x == 95 && first_is (is_digit_of b) xs) (digits_front b xs) is

suffixed : (P : RubyToken → Type 0) (s : State) (len : ℕ) (suffix : Option (ℕ × Form)) (plain : Result RubyToken RubyAt) → IfOk plain P
    → IfOk (numbers.with_suffix s len suffix plain) P
suffixed P s len None plain is = is
suffixed P s len (Some suffix) plain is = tt

sized_on : (minus : Bool) (s : State) (size before n : ℕ) (digits : List ℕ) → OnLine digits n → IfOk (numbers.sized minus s size (before + n)) (Behind s before digits)
sized_on minus s size before n digits on = sized_by (nat_le size (numbers.limit minus))
  where
    sized_by : (b : Bool) → IfOk (if b then Ok (token s k.Integer (value.Integer (numbers.signed minus size)) (before + n)) else Err (refused s (before + n) form.WideInteger)) (Behind s before digits)
    sized_by true = (n, (refl, on))
    sized_by false = tt

integer_on : (minus : Bool) (s : State) (b : Base) (before : ℕ) (digits : List ℕ) → first_is (is_digit_of b) digits ≡ true
    → IfOk (numbers.integer minus s b before digits) (Behind s before digits)
integer_on minus s b before digits is = let n = digits_len b digits in let size = numbers.value_from b 0 (take n digits) in
    suffixed (Behind s before digits) s (before + n) (numbers.suffix (drop n digits)) (numbers.sized minus s size (before + n))
    (sized_on minus s size before n digits (some_digits b digits is, digits_on b digits))

decimal_on : (minus : Bool) (s : State) (before : ℕ) (digits : List ℕ) → first_is is_digit digits ≡ true
    → IfOk (numbers.decimal minus s before digits) (Behind s before digits)
decimal_on minus s before digits is = let n = digits_len base.Decimal digits in let fraction = numbers.fraction_len (drop n digits) in
    let float : Result RubyToken RubyAt = Err (refused s (before + n + fraction) form.Float) in
    either (Behind s before digits) (fraction == 0) (numbers.integer minus s base.Decimal before digits)
    (numbers.with_suffix s (before + n + fraction) (numbers.suffix (drop (n + fraction) digits)) float)
    (λ whole. integer_on minus s base.Decimal before digits is)
    (λ other. suffixed (Behind s before digits) s (before + n + fraction) (numbers.suffix (drop (n + fraction) digits)) float tt)

-- what stands before the digits of a base
abbrev Based : Base → List ℕ → Type 0
Based base.Decimal text = Unit {0}
Based b text = (2 ≤ line_len text) × (first_is (is_digit_of b) (drop 2 text) ≡ true)

is_based_on : (letter : ℕ) (b : Base) (text : List ℕ) → is_line_end letter ≡ false → numbers.is_based letter b text ≡ true
    → (2 ≤ line_len text) × (first_is (is_digit_of b) (drop 2 text) ≡ true)
is_based_on letter b text isnt is =
    let first : (begins 48 text ≡ true) × ((begins letter (drop 1 text) && first_is (is_digit_of b) (drop 2 text)) ≡ true) = and_parts _ _ is in
    let more : (begins letter (drop 1 text) ≡ true) × (first_is (is_digit_of b) (drop 2 text) ≡ true) = and_parts _ _ first.1 in
    (further 1 1 text (begins_on 48 refl text first.0) (begins_on letter isnt (drop 1 text) more.0), more.1)

based : (text : List ℕ) → Based (numbers.base_of text) text
based text = by_hexadecimal (numbers.is_based 120 base.Hexadecimal text) refl
  where
    by_octal : (t : Bool) → numbers.is_based 111 base.Octal text ≡ t → Based (if t then base.Octal else base.Decimal) text
    by_octal true is = is_based_on 111 base.Octal text refl is
    by_octal false is = tt

    by_binary : (t : Bool) → numbers.is_based 98 base.Binary text ≡ t
        → Based (if t then base.Binary else (if numbers.is_based 111 base.Octal text then base.Octal else base.Decimal)) text
    by_binary true is = is_based_on 98 base.Binary text refl is
    by_binary false is = by_octal (numbers.is_based 111 base.Octal text) refl

    by_hexadecimal : (t : Bool) → numbers.is_based 120 base.Hexadecimal text ≡ t
        → Based (if t then base.Hexadecimal else (if numbers.is_based 98 base.Binary text then base.Binary else (if numbers.is_based 111 base.Octal text then base.Octal else base.Decimal))) text
    by_hexadecimal true is = is_based_on 120 base.Hexadecimal text refl is
    by_hexadecimal false is = by_binary (numbers.is_based 98 base.Binary text) refl

behind_base : (minus : Bool) (s : State) (digits : List ℕ) → 2 ≤ line_len digits → (t : RubyToken) → Behind s (minus_len minus + 2) (drop 2 digits) t
    → Behind s (minus_len minus) digits t
behind_base minus s digits two t (n, (is, on)) = (
  2 + n,
  (
    (let e : t.span.end ≡ s.place + (minus_len minus + (2 + n)) = omega (arith, is) in e),
    (omega arith, further 2 n digits two on.1),
  ),
)

number_of_on : (b : Base) (minus : Bool) (s : State) (digits : List ℕ) → first_is is_digit digits ≡ true → Based b digits
    → IfOk (numbers.number_of b minus s digits) (Behind s (minus_len minus) digits)
number_of_on base.Decimal minus s digits is on = decimal_on minus s (minus_len minus) digits is
number_of_on base.Binary minus s digits is on = if_ok _ (integer_on minus s base.Binary (minus_len minus + 2) (drop 2 digits) on.1) (behind_base minus s digits on.0)
number_of_on base.Octal minus s digits is on = if_ok _ (integer_on minus s base.Octal (minus_len minus + 2) (drop 2 digits) on.1) (behind_base minus s digits on.0)
number_of_on base.Hexadecimal minus s digits is on = if_ok _ (integer_on minus s base.Hexadecimal (minus_len minus + 2) (drop 2 digits) on.1) (behind_base minus s digits on.0)

number_on : (minus : Bool) (s : State) (digits : List ℕ) → first_is is_digit digits ≡ true → IfOk (number_here minus s digits) (Behind s (minus_len minus) digits)
unfolding number_here
number_on minus s digits is = number_of_on (numbers.base_of digits) minus s digits is (based digits)

pub plain_number : (s : State) (rest : List ℕ) → first_is is_digit rest ≡ true → IfOk (number_here false s rest) (Taken s rest)
plain_number s rest is = if_ok (number_here false s rest) (number_on false s rest is) (λ t taken. (taken.0, (let e : t.span.end ≡ s.place + (0 + taken.0) = taken.1.0 in omega (arith, e), taken.1.1)))

pub minus_number : (s : State) (len : ℕ) (rest : List ℕ) → OnLine rest len → first_is is_digit (drop len rest) ≡ true
    → IfOk (number_here true s (drop len rest)) (Taken s rest)
minus_number s len rest on is = if_ok (number_here true s (drop len rest)) (number_on true s (drop len rest) is)
    (λ t taken. (1 + taken.0, (taken.1.0, (omega arith, (let sum : len + taken.0 ≤ line_len rest = further len taken.0 rest on.1 taken.1.1.1 in let some : 0 < len = on.0 in omega (arith, sum, some))))))

-- ---- words

pub word_characters_on : (text : List ℕ) → word_characters_len text ≤ line_len text
word_characters_on text = runs_on is_of_word word_characters_len refl (λ b bs. refl) (λ b bs is. is_other (λ c. is_of_word c bs) refl refl b is) text

pub word_on : (text : List ℕ) → word_len text ≤ line_len text
word_on text = below_by (first_is is_digit text) 0 (word_characters_len text) (line_len text) (λ is. omega arith) (λ is. word_characters_on text)

mark_on : (text : List ℕ) → takes_mark text ≡ true → 1 ≤ line_len text
mark_on [] is = absurd (let no : false ≡ true = is in cc)
mark_on (b ∷ bs) is = first_on is_mark refl refl (b ∷ bs) (and_parts (is_mark b) _ is).0

equals_on : (text : List ℕ) → single_equals text ≡ true → 1 ≤ line_len text
equals_on [] is = absurd (let no : false ≡ true = is in cc)
equals_on (b ∷ bs) is = begins_on 61 refl (b ∷ bs) (and_parts (b == 61) _ is).0

one_behind : (n : ℕ) (text : List ℕ) → n ≤ line_len text → 1 ≤ line_len (drop n text) → suc n ≤ line_len text
one_behind n text below one = let sum : n + 1 ≤ line_len text = further n 1 text below one in omega (arith, sum)

marked_on : (text : List ℕ) → marked_len text ≤ line_len text
marked_on text = below_by (word_len text == 0) 0 _ (line_len text) (λ none. omega arith)
    (λ some. below_by (takes_mark (drop (word_len text) text)) (suc (word_len text)) (word_len text) (line_len text)
    (λ is. one_behind (word_len text) text (word_on text) (mark_on (drop (word_len text) text) is)) (λ isnt. word_on text))

whole_word_on : (text : List ℕ) → whole_word_len text ≤ line_len text
whole_word_on text = below_by (first_is is_upper text) (word_len text) (marked_len text) (line_len text) (λ is. word_on text) (λ isnt. marked_on text)

word_by : (digit word : Bool) (n : ℕ) → digit ≡ false → word ≡ true → 0 < (if digit then 0 else (if word then suc n else 0))
word_by true word n isnt is = absurd (let no : true ≡ false = isnt in cc)
word_by false true n isnt is = omega arith
word_by false false n isnt is = absurd (let no : false ≡ true = is in cc)

some_word : (text : List ℕ) → first_is is_digit text ≡ false → begins_word text ≡ true → 0 < word_len text
some_word [] isnt is = absurd (let no : false ≡ true = is in cc)
some_word (b ∷ bs) isnt is = word_by (is_digit b) (is_of_word b bs) (word_characters_len bs) isnt is

whole_by : (upper none mark : Bool) (n : ℕ) → 0 < n → none ≡ false → 0 < (if upper then n else (if none then 0 else (if mark then suc n else n)))
whole_by true none mark n some is = some
whole_by false true mark n some is = absurd (let no : true ≡ false = is in cc)
whole_by false false true n some is = omega arith
whole_by false false false n some is = some

some_whole_word : (text : List ℕ) → 0 < word_len text → 0 < whole_word_len text
some_whole_word text some = whole_by (first_is is_upper text) (word_len text == 0) (takes_mark (drop (word_len text) text)) (word_len text) some (nonzero (word_len text) some)

colon_on : (text : List ℕ) → is_colon text ≡ true → 1 ≤ line_len text
colon_on [] is = absurd (let no : false ≡ true = is in cc)
colon_on (b ∷ bs) is = begins_on 58 refl (b ∷ bs) (and_parts (b == 58) _ is).0

tail_on : (text : List ℕ) → label_tail_len text ≤ line_len text
tail_on text = below_by (is_colon text) 1 _ (line_len text) (λ is. colon_on text is)
    (λ isnt. below_by (first_is is_mark text && is_colon (drop 1 text)) 2 0 (line_len text)
    (λ is. let parts : (first_is is_mark text ≡ true) × (is_colon (drop 1 text) ≡ true) = and_parts _ _ is in further 1 1 text (first_on is_mark refl refl text parts.0) (colon_on (drop 1 text) parts.1))
    (λ isnt. omega arith))

label_on : (text : List ℕ) → label_len text ≤ line_len text
label_on text = below_by (label_tail_len (drop (word_len text) text) == 0) 0 _ (line_len text) (λ is. omega arith)
    (λ isnt. further (word_len text) (label_tail_len (drop (word_len text) text)) text (word_on text) (tail_on (drop (word_len text) text)))

-- the front of so many bytes
front_taken : (n : ℕ) (rest : List ℕ) → OnLine rest n → OnLine rest (length (take n rest))
front_taken n rest on = subst (λ k. OnLine rest k) (sym (length-take-le n rest (let line : line_len rest ≤ length rest = line_within rest in let below : n ≤ line_len rest = on.1 in omega (arith, line, below)))) on

word_token_on : (s : State) (rest run : List ℕ) (word : Option Keyword) → OnLine rest (length run) → Taken s rest (words.word_token s run word)
word_token_on s rest run (Some word) on = (length run, (refl, on))
word_token_on s rest run None on = (length run, (refl, on))

plain_word_on : (s : State) (rest run : List ℕ) (refused : Option Form) → OnLine rest (length run) → IfOk (words.plain_word s run refused) (Taken s rest)
plain_word_on s rest run (Some refused) on = tt
plain_word_on s rest run None on = word_token_on s rest run (words.entry run words.keywords) on

pub word_here_on : (text : List ℕ) (s : State) (rest : List ℕ) → first_is is_digit rest ≡ false → begins_word rest ≡ true → IfOk (word_here text s rest) (Taken s rest)
unfolding word_here
word_here_on text s rest isnt is = either (Taken s rest) (label_len rest == 0) _ _
    (λ none. either (Taken s rest) (words.ends_script text s rest) _ _ (λ ends. tt)
    (λ goes. plain_word_on s rest (take (whole_word_len rest) rest) (words.entry (take (whole_word_len rest) rest) words.refused_words)
    (front_taken (whole_word_len rest) rest (some_whole_word rest (some_word rest isnt is), whole_word_on rest))))
    (λ some. (label_len rest, (refl, (positive (label_len rest) some, label_on rest))))

-- ---- operators and symbols

-- whether no line ends in these
abbrev all_even : List (List ℕ) → Bool
all_even [] = true
all_even (front ∷ fronts) = is_even front && all_even fronts

first_front_on : (fronts : List (List ℕ)) (text : List ℕ) → all_even fronts ≡ true → first_front fronts text ≤ line_len text
first_front_on [] text even = omega arith
first_front_on (front ∷ fronts) text even = let parts : (is_even front ≡ true) × (all_even fronts ≡ true) = and_parts _ _ even in
    below_by (has_front front text) (length front) (first_front fronts text) (line_len text) (λ is. front_on front text parts.0 is) (λ isnt. first_front_on fronts text parts.1)

operator_on : (text : List ℕ) → operator_len text ≤ line_len text
unfolding operator_len
operator_on text = first_front_on operators text refl

symbol_name_on : (text : List ℕ) → symbol_name_len text ≤ line_len text
symbol_name_on text = below_by (marked_len text == 0) (operator_len text) _ (line_len text) (λ none. operator_on text)
    (λ some. below_by (marked_len text == word_len text && single_equals (drop (marked_len text) text)) (suc (marked_len text)) (marked_len text) (line_len text)
    (λ is. one_behind (marked_len text) text (marked_on text) (equals_on (drop (marked_len text) text) (and_parts _ _ is).1)) (λ isnt. marked_on text))

pub symbol_here_on : (s : State) (rest : List ℕ) → begins 58 rest ≡ true → IfSome (symbol_here s rest) (Taken s rest)
unfolding symbol_here
symbol_here_on s rest is = if_some (Taken s rest) (symbol_name_len (drop 1 rest) == 0) _ _ (λ none. tt)
    (λ some. (
      suc (symbol_name_len (drop 1 rest)),
      (
        refl,
        (
          omega arith,
          (let sum : 1 + symbol_name_len (drop 1 rest) ≤ line_len rest = further 1 (symbol_name_len (drop 1 rest)) rest (begins_on 58 refl rest is) (symbol_name_on (drop 1 rest)) in omega (arith, sum)),
        ),
      ),
    ))

-- ---- names and variables

pub name_here_on : (s : State) (rest : List ℕ) → IfSome (name_here s rest) (Taken s rest)
unfolding name_here
name_here_on s rest = if_some (Taken s rest) (whole_word_len rest == 0) _ _
    (λ none. if_some (Taken s rest) (operator_len rest == 0) _ _ (λ no. tt) (λ some. (operator_len rest, (refl, (positive (operator_len rest) some, operator_on rest)))))
    (λ some. (whole_word_len rest, (refl, (positive (whole_word_len rest) some, whole_word_on rest))))

named_on : (s : State) (rest : List ℕ) (kind : RubyKind) (signs len : ℕ) → signs ≤ line_len rest → len ≤ line_len (drop signs rest)
    → IfOk (words.named_variable s rest kind signs len) (Taken s rest)
named_on s rest kind signs len first second = either (Taken s rest) (len == 0) _ _ (λ none. tt)
    (λ some. (signs + len, (refl, ((let has : 0 < len = positive len some in omega (arith, has)), further signs len rest first second))))

pub variable_here_on : (s : State) (rest : List ℕ) → 1 ≤ line_len rest → IfOk (variable_here s rest) (Taken s rest)
unfolding variable_here
variable_here_on s rest one = either (Taken s rest) (begins 36 rest) _ _ (λ is. named_on s rest _ 1 _ one (word_characters_on (drop 1 rest)))
    (λ isnt. either (Taken s rest) (begins 64 (drop 1 rest)) _ _
    (λ is. named_on s rest _ 2 _ (further 1 1 rest one (begins_on 64 refl (drop 1 rest) is)) (word_on (drop 2 rest)))
    (λ no. named_on s rest _ 1 _ one (word_on (drop 1 rest))))
