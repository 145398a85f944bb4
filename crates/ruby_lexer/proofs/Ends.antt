-- The last token of a text is its end, and no other is.
use Rattle.std.proofs.Common.{arith, ◌+◌, ◌-◌, ◌≡◌, ℕ, zero, suc, Bool, true, false, not, ◌&&◌, ◌||◌, ◌==◌, if◌then◌else◌, List, [], ◌∷◌, ◌++◌, length, take, drop, Option, Some, None, Result, Ok, Err, IfOk, refl, ap, ◌∙◌}
use Rattle.std.specs.List.{All}
use Rattle.std.proofs.lemmas.List.Elements.{All-push}
use Rattle.src_text.specs.declared.span.Span.{Span}
use Rattle.ruby_lexer.specs.declared.kind.RubyKind.{RubyKind}
use Rattle.ruby_lexer.specs.declared.kind.RubyKind.TheVariants as k
use Rattle.ruby_lexer.specs.declared.kind.Sign.{Sign}
use Rattle.ruby_lexer.specs.declared.kind.Sign.TheVariants as sign
use Rattle.ruby_lexer.specs.declared.token.RubyToken.{RubyToken}
use Rattle.ruby_lexer.specs.declared.token.RubyValue.{RubyValue}
use Rattle.ruby_lexer.specs.declared.token.RubyValue.TheVariants as value
use Rattle.ruby_lexer.specs.declared.token.WordsOf.{WordsOf}
use Rattle.ruby_lexer.specs.declared.refusal.RubyAt.{RubyAt}
use Rattle.ruby_lexer.specs.declared.signs.Meaning.{Meaning}
use Rattle.ruby_lexer.specs.declared.signs.Meaning.TheVariants as is
use Rattle.ruby_lexer.specs.declared.signs.Found.{Found}
use Rattle.ruby_lexer.specs.declared.heredocs.Opening.{Opening}
use Rattle.ruby_lexer.specs.declared.state.State.{State}
use Rattle.ruby_lexer.specs.declared.machine.Machine.{Machine}
use Rattle.ruby_lexer.specs.declared.state.Opened.{Opened}
use Rattle.ruby_lexer.specs.declared.state.Opened.TheVariants as opened
use Rattle.ruby_lexer.specs.declared.state.Quoted.{Quoted}
use Rattle.ruby_lexer.specs.declared.state.Quotes.{Quotes}
use Rattle.ruby_lexer.specs.declared.state.Quotes.TheVariants as quotes
use Rattle.ruby_lexer.specs.declared.state.Words.{Words}
use Rattle.ruby_lexer.specs.declared.state.Heredoc.{Heredoc}
use Rattle.ruby_lexer.specs.Characters.{is_digit, is_space, is_nil, first_is, begins, begins_word}
use Rattle.ruby_lexer.specs.Lines.{line_end_len, line_len, whole_line_len, blank_len}
use Rattle.ruby_lexer.specs.Kinds.{is_so, is_first, ends_value, is_class_word, is_end}
use Rattle.ruby_lexer.specs.Tokens.{token, put, here}
use Rattle.ruby_lexer.specs.Symbols.{symbol_here}
use Rattle.ruby_lexer.specs.Words.{is_place_of_name, name_here, word_here, variable_here}
use Rattle.ruby_lexer.specs.Numbers.{number_here}
use Rattle.ruby_lexer.specs.Signs.{sign_here, is_prefix}
use Rattle.ruby_lexer.specs.Strings.{Piece, closer, begins_code, has_code, as_written, piece_here, flags_len, words_of, closing_here}
use Rattle.ruby_lexer.specs.Heredocs.{opening_here, body_start, ends_heredoc}
use Rattle.ruby_lexer.specs.Machine as m
use Rattle.ruby_lexer.specs.Machine.{Step, step, run, at_start, tokens_of, flushed, part_token, past_line, past_blank, past_comment, past_dropped, past_newline, past_piece_state, ends_line, plain_sign, prefix_sign, assigning, other_token, token_step, visible_step, line_step, code_step, closes_quoted, quoted_step, words_step, closes_heredoc, heredoc_step}
use Rattle.ruby_lexer.specs.Laws.{EndsOnce}

-- ---- the claim

-- the token isn't the end
abbrev Inner : RubyToken → Type 0
Inner t = is_end t.kind ≡ false

-- the tokens, by whether the last is the end
abbrev Stands : Bool → List RubyToken → Type 0
Stands true tokens = EndsOnce tokens
Stands false tokens = All Inner tokens

-- no token was the end so far
abbrev Before : Machine → Type 0
Before x = (is_so is_end x.state.last ≡ false) × All Inner x.tokens

-- behind a step
abbrev Keeps : Step → Type 0
Keeps s = IfOk s (λ next. Stands (is_so is_end next.state.last) next.tokens)

-- ---- small steps

put_last : (b : Bool) (tokens : List RubyToken) (t : RubyToken) → is_end t.kind ≡ b → All Inner tokens → Stands b (tokens ++ t ∷ [])
put_last true tokens t is all = (tokens, t, refl, is, all)
put_last false tokens t is all = All-push Inner tokens t all is

stays : (b : Bool) (tokens : List RubyToken) → b ≡ false → All Inner tokens → Stands b tokens
stays true tokens is all = absurd (let no : true ≡ false = is in cc)
stays false tokens is all = all

either : (b : Bool) (x y : Step) → Keeps x → Keeps y → Keeps (if b then x else y)
either true x y one other = one
either false x y one other = other

either_last : (b : Bool) (x y : State) (last : Option RubyKind) → x.last ≡ last → y.last ≡ last → (if b then x else y).last ≡ last
either_last true x y last one other = one
either_last false x y last one other = other

puts : (x : Machine) (t : RubyToken) → Before x → Keeps (m.puts x t)
puts x t before = put_last (is_end t.kind) x.tokens t refl before.1

opens : (x : Machine) (t : RubyToken) (o : Opened) → Before x → Keeps (m.opens x t o)
opens x t o before = put_last (is_end t.kind) x.tokens t refl before.1

moves : (x : Machine) (s : State) → s.last ≡ x.state.last → Before x → Keeps (m.moves x s)
moves x s same before = stays (is_so is_end s.last) x.tokens (ap (is_so is_end) same ∙ before.0) before.1

gives : (x : Machine) (r : Result RubyToken RubyAt) → Before x → Keeps (m.gives x r)
gives x (Ok t) before = puts x t before
gives x (Err e) before = tt

puts_kind : (x : Machine) (kind : RubyKind) (len : ℕ) → Before x → Keeps (m.puts_kind x kind len)
puts_kind x kind len before = puts x (token x.state kind value.Absent len) before

opens_quoted : (x : Machine) (q : Quotes) (alias : Bool) (kind : RubyKind) (len : ℕ) → Before x → Keeps (m.opens_quoted x q alias kind len)
opens_quoted x q alias kind len before = opens x (token x.state kind value.Absent len) (opened.Quoted (record { quotes = q; at = here x.state; alias = alias })) before

-- ---- in code

at_end : (x : Machine) (opening : Option Span) → Before x → Keeps (m.at_end x opening)
at_end x None before = puts_kind x k.End 0 before
at_end x (Some opening) before = tt

last_past_blank : (s : State) (rest : List ℕ) → (past_blank s rest).last ≡ s.last
last_past_blank s rest = either_last (first_is is_space rest) (record s { place = s.place + 1; blank = true }) (record (past_line s (blank_len rest)) { blank = true; line_start = true }) s.last refl refl

last_past_comment : (s : State) (rest : List ℕ) → (past_comment s rest).last ≡ s.last
last_past_comment s rest = either_last (s.line_start && not (line_end_len (drop (line_len rest) rest) == 0)) (record (past_line s (whole_line_len rest)) { blank = true }) (record s { place = s.place + line_len rest; blank = true }) s.last refl refl

line_end : (text : List ℕ) (x : Machine) (len : ℕ) → Before x → Keeps (ends_line text x len)
unfolding ends_line
line_end text x len before = either (m.is_dropped text x.state len) (m.moves x (past_dropped x.state len))
    (let t = token x.state k.Newline value.Absent len in Ok (record x { state = past_newline x.state t len; tokens = x.tokens ++ t ∷ [] }))
    (moves x (past_dropped x.state len) refl before) (put_last false x.tokens (token x.state k.Newline value.Absent len) refl before.1)

closes_brace : (x : Machine) → Before x → Keeps (m.closes_brace x)
closes_brace x before = puts_kind (record x { stack = m.popped x.stack }) (if m.is_plain_brace x.stack then k.Sign sign.RightBrace else k.CodeClose) 1 before

closes_paren : (x : Machine) → Before x → Keeps (m.closes_paren x)
closes_paren x before = either (m.is_forwarding x.state) _ (m.puts_kind x (k.Sign sign.RightParen) 1) tt (puts_kind x (k.Sign sign.RightParen) 1 before)

opens_brace : (x : Machine) (kind : RubyKind) → Before x → Keeps (m.opens_brace x kind)
opens_brace x kind before = opens x (token x.state kind value.Absent 1) opened.Brace before

plain : (x : Machine) (s : Sign) (len : ℕ) → Before x → Keeps (plain_sign x s len)
unfolding plain_sign
plain x sign.RightBrace len before = closes_brace x before
plain x sign.LeftBrace len before = opens_brace x (k.Sign sign.LeftBrace) before
plain x sign.RightParen len before = closes_paren x before
plain x s len before = puts_kind x (k.Sign s) len before

opens_words : (x : Machine) (words : Option WordsOf) (closer : Option ℕ) → Before x → Keeps (m.opens_words x words closer)
opens_words x (Some words) (Some closer) before = opens x (token x.state k.WordsOpen (value.Words words) 3) (opened.Words (record { closer = closer; at = here x.state })) before
opens_words x (Some words) None before = tt
opens_words x None closer before = tt

opens_heredoc : (x : Machine) (o : Opening) (body : Option ℕ) → Before x → Keeps (m.opens_heredoc x o body)
opens_heredoc x o None before = tt
opens_heredoc x o (Some body) before = put_last false x.tokens (token x.state k.HeredocOpen value.Absent (2 + o.len)) refl before.1

less_less : (text : List ℕ) (x : Machine) (o : Option Opening) → Before x → Keeps (m.less_less text x o)
less_less text x None before = puts_kind x (k.Prefix sign.LessLess) 2 before
less_less text x (Some o) before = either (is_so is_class_word x.state.last) (m.puts_kind x (k.Prefix sign.LessLess) 2) (m.opens_heredoc x o (body_start text x.state.bodies_end (x.state.place + 2 + o.len)))
    (puts_kind x (k.Prefix sign.LessLess) 2 before) (opens_heredoc x o (body_start text x.state.bodies_end (x.state.place + 2 + o.len)) before)

minus : (x : Machine) (behind : List ℕ) → Before x → Keeps (m.minus x behind)
minus x behind before = either (first_is is_digit behind) (m.gives x (number_here true x.state behind)) (m.puts_kind x (k.Prefix sign.Minus) 1)
    (gives x (number_here true x.state behind) before) (puts_kind x (k.Prefix sign.Minus) 1 before)

prefix : (text : List ℕ) (x : Machine) (s : Sign) (len : ℕ) (behind : List ℕ) → Before x → Keeps (prefix_sign text x s len behind)
unfolding prefix_sign
prefix text x sign.Minus len behind before = minus x behind before
prefix text x sign.Slash len behind before = opens_quoted x quotes.Regexp false k.RegexpOpen 1 before
prefix text x sign.Percent len behind before = opens_words x (words_of behind) (closing_here (drop 1 behind)) before
prefix text x sign.LessLess len behind before = less_less text x (opening_here behind) before
prefix text x sign.LeftBrace len behind before = opens_brace x (k.Prefix sign.LeftBrace) before
prefix text x s len behind before = puts_kind x (k.Prefix s) len before

assigns : (x : Machine) (rest : List ℕ) (len : ℕ) → Before x → Keeps (assigning x rest len)
unfolding assigning
assigns x rest len before = either (begins 47 rest && not (is_so ends_value x.state.last)) (m.opens_quoted x quotes.Regexp false k.RegexpOpen 1) (m.puts x (token x.state k.Assigning (value.Text (take (len - 1) rest)) len))
    (opens_quoted x quotes.Regexp false k.RegexpOpen 1 before) (puts x (token x.state k.Assigning (value.Text (take (len - 1) rest)) len) before)

found_sign : (text : List ℕ) (x : Machine) (rest : List ℕ) (len : ℕ) (meaning : Meaning) → Before x → Keeps (m.found_sign text x rest len meaning)
found_sign text x rest len is.Assigning before = assigns x rest len before
found_sign text x rest len (is.Sign s) before = either (is_prefix x.state s (drop len rest)) (prefix_sign text x s len (drop len rest)) (plain_sign x s len)
    (prefix text x s len (drop len rest) before) (plain x s len before)

sign_step : (text : List ℕ) (x : Machine) (rest : List ℕ) (found : Option Found) → Before x → Keeps (m.sign_step text x rest found)
sign_step text x rest None before = tt
sign_step text x rest (Some found) before = found_sign text x rest found.len found.meaning before

colon : (text : List ℕ) (x : Machine) (rest : List ℕ) (symbol : Option RubyToken) → Before x → Keeps (m.colon text x rest symbol)
colon text x rest (Some symbol) before = puts x symbol before
colon text x rest None before = sign_step text x rest (sign_here rest) before

other : (text : List ℕ) (x : Machine) (rest : List ℕ) → Before x → Keeps (other_token text x rest)
unfolding other_token
other text x rest before = either (begins 64 rest || begins 36 rest) _ _ (gives x (variable_here x.state rest) before)
    (either (begins 39 rest) _ _ (opens_quoted x quotes.Plain false k.StringOpen 1 before)
    (either (begins 34 rest) _ _ (opens_quoted x quotes.Double false k.StringOpen 1 before)
    (either (begins 58 rest && begins 34 (drop 1 rest)) _ _ (opens_quoted x quotes.Symbol (is_first x.state.alias) k.SymbolOpen 2 before)
    (either (begins 58 rest) _ _ (colon text x rest (symbol_here x.state rest) before)
    (sign_step text x rest (sign_here rest) before)))))

tokens : (text : List ℕ) (x : Machine) (rest : List ℕ) → Before x → Keeps (token_step text x rest)
unfolding token_step
tokens text x rest before = either (first_is is_digit rest) _ _ (gives x (number_here false x.state rest) before)
    (either (begins_word rest) _ _ (gives x (word_here text x.state rest) before) (other text x rest before))

name_step : (text : List ℕ) (x : Machine) (rest : List ℕ) (name : Option RubyToken) → Before x → Keeps (m.name_step text x rest name)
name_step text x rest (Some name) before = puts x name before
name_step text x rest None before = tokens text x rest before

visible : (text : List ℕ) (x : Machine) (rest : List ℕ) → Before x → Keeps (visible_step text x rest)
unfolding visible_step
visible text x rest before = either (is_place_of_name x.state) _ _ (name_step text x rest (name_here x.state rest) before) (tokens text x rest before)

line : (text : List ℕ) (x : Machine) (rest : List ℕ) → Before x → Keeps (line_step text x rest)
unfolding line_step
line text x rest before = either (is_nil rest) _ _ (at_end x (m.innermost x.stack) before)
    (either (not (blank_len rest == 0)) _ _ (moves x (past_blank x.state rest) (last_past_blank x.state rest) before)
    (either (begins 35 rest) _ _ (moves x (past_comment x.state rest) (last_past_comment x.state rest) before)
    (either (not (line_end_len rest == 0)) _ _ (line_end text x (line_end_len rest) before)
    (visible text x rest before))))

code : (text : List ℕ) (x : Machine) (rest : List ℕ) → Before x → Keeps (code_step text x rest)
unfolding code_step
code text x rest before = either (m.comment_here text x.state rest == 0) _ _ (line text x rest before)
    (moves x (record x.state { place = x.state.place + m.comment_here text x.state rest }) refl before)

-- ---- in texts

-- behind a part no token was the end
part_before : (b : Bool) (kind : RubyKind) (x : Machine) → is_end kind ≡ false → Before x
    → Before (if b then x else record x { state = put x.state (part_token kind x); part = []; tokens = x.tokens ++ part_token kind x ∷ [] })
part_before true kind x inner before = before
part_before false kind x inner before = (inner, All-push Inner x.tokens (part_token kind x) before.1 inner)

behind_part : (kind : RubyKind) (x : Machine) → is_end kind ≡ false → Before x → Before (flushed kind x)
behind_part kind x inner before = part_before (is_nil x.part) kind x inner before

last_past_piece : (s : State) (piece : Piece) → (past_piece_state s piece).last ≡ s.last
last_past_piece s piece = either_last piece.ends_line (past_line s piece.len) (record s { place = s.place + piece.len }) s.last refl refl

past_piece : (x : Machine) (piece : Piece) → Before x → Keeps (m.past_piece x piece)
past_piece x piece before = stays (is_so is_end (past_piece_state x.state piece).last) x.tokens (ap (is_so is_end) (last_past_piece x.state piece) ∙ before.0) before.1

opens_code : (x : Machine) → Before x → Keeps (m.opens_code x)
opens_code x before = opens (flushed k.Part x) (token (flushed k.Part x).state k.CodeOpen value.Absent 2) opened.Code (behind_part k.Part x refl before)

closes : (x : Machine) (part kind : RubyKind) (v : RubyValue) (len : ℕ) → is_end part ≡ false → Before x → Keeps (m.closes x part kind v len)
closes x part kind v len inner before = let f = flushed part x in puts (record f { stack = m.popped f.stack }) (token f.state kind v len) (behind_part part x inner before)

second_name : (b : Bool) (s : Step) → Keeps s → Keeps (m.before_second_name b s)
second_name true (Ok x) keeps = keeps
second_name true (Err e) keeps = tt
second_name false s keeps = keeps

quoted_end : (x : Machine) (q : Quotes) (alias : Bool) (behind : List ℕ) → Before x → Keeps (closes_quoted x q alias behind)
unfolding closes_quoted
quoted_end x quotes.Plain alias behind before = closes x k.Part k.StringClose value.Absent 1 refl before
quoted_end x quotes.Double alias behind before = closes x k.Part k.StringClose value.Absent 1 refl before
quoted_end x quotes.Symbol alias behind before = second_name alias (m.closes x k.Part k.SymbolClose value.Absent 1) (closes x k.Part k.SymbolClose value.Absent 1 refl before)
quoted_end x quotes.Regexp alias behind before = closes x k.Part k.RegexpClose (value.Text (take (flags_len behind) behind)) (1 + flags_len behind) refl before

quoted : (x : Machine) (q : Quoted) (rest : List ℕ) → Before x → Keeps (quoted_step x q rest)
unfolding quoted_step
quoted x q rest before = either (is_nil rest) _ _ tt
    (either (begins (closer q.quotes) rest) _ _ (quoted_end x q.quotes q.alias (drop 1 rest) before)
    (either (has_code q.quotes && begins_code rest) _ _ (opens_code x before)
    (past_piece x (piece_here q.quotes rest) before)))

words : (x : Machine) (w : Words) (rest : List ℕ) → Before x → Keeps (words_step x w rest)
unfolding words_step
words x w rest before = let f = flushed k.Word x in let fine : Before f = behind_part k.Word x refl before in
    either (is_nil rest) _ _ tt
    (either (begins w.closer rest) _ _ (closes x k.Word k.WordsClose value.Absent 1 refl before)
    (either (first_is is_space rest) _ _ (moves f (record f.state { place = f.state.place + 1 }) refl fine)
    (either (not (line_end_len rest == 0)) _ _ (moves f (past_line f.state (line_end_len rest)) refl fine)
    (stays (is_so is_end x.state.last) x.tokens before.0 before.1))))

heredoc_end : (x : Machine) (h : Heredoc) (rest : List ℕ) → Before x → Keeps (closes_heredoc x h rest)
unfolding closes_heredoc
heredoc_end x h rest before = let f = flushed k.Part x in put_last false f.tokens (m.heredoc_close f.state h) refl (behind_part k.Part x refl before).1

heredoc : (text : List ℕ) (x : Machine) (h : Heredoc) (rest : List ℕ) → Before x → Keeps (heredoc_step text x h rest)
unfolding heredoc_step
heredoc text x h rest before = either (ends_heredoc text h x.state.place rest) _ _ (heredoc_end x h rest before)
    (either (is_nil rest) _ _ tt
    (either h.plain _ _ (past_piece x (as_written rest) before)
    (either (begins_code rest) _ _ (opens_code x before)
    (past_piece x (piece_here quotes.Double rest) before))))

-- ---- the run

step_in : (text : List ℕ) (x : Machine) (o : Option Opened) (rest : List ℕ) → Before x → Keeps (m.step_in text x o rest)
step_in text x (Some (opened.Quoted q)) rest before = quoted x q rest before
step_in text x (Some (opened.Words w)) rest before = words x w rest before
step_in text x (Some (opened.Heredoc h)) rest before = heredoc text x h rest before
step_in text x (Some opened.Brace) rest before = code text x rest before
step_in text x (Some opened.Code) rest before = code text x rest before
step_in text x None rest before = code text x rest before

one_step : (text : List ℕ) (x : Machine) → Before x → Keeps (step text x)
unfolding step
one_step text x before = step_in text x (m.top x.stack) (drop x.state.place text) before

-- behind a step, where what runs on ends once
behind_step : (n : ℕ) (text : List ℕ) (more : (next : Machine) → Before next → IfOk (run n text next) EndsOnce) (s : Step) → Keeps s
    → IfOk (elim s [ Ok next ↦ if is_so is_end next.state.last then Ok next.tokens else run n text next | Err e ↦ Err e ]) EndsOnce
behind_step n text more (Err e) keeps = tt
behind_step n text more (Ok next) keeps = by_last (is_so is_end next.state.last) refl keeps
  where
    by_last : (b : Bool) → is_so is_end next.state.last ≡ b → Stands b next.tokens → IfOk (if b then Ok next.tokens else run n text next) EndsOnce
    by_last true last stands = stands
    by_last false last stands = more next (last, stands)

runs : (n : ℕ) (text : List ℕ) (x : Machine) → Before x → IfOk (run n text x) EndsOnce
runs zero text x before = tt
runs (suc n) text x before = behind_step n text (λ next. runs n text next) (step text x) (one_step text x before)

-- the tokens of a text
pub ends_once : (text : List ℕ) → IfOk (tokens_of text) EndsOnce
unfolding tokens_of
ends_once text = runs (suc (length text)) text at_start (refl, (λ k d below. absurd (omega (arith, below))))
