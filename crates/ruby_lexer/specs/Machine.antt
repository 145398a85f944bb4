-- The lexer as a machine over a text, and the tokens of the text.
use Rattle.std.specs.Prelude.{ℕ, zero, suc, ◌+◌, ◌-◌, ◌==◌, Bool, true, false, not, ◌&&◌, ◌||◌, if◌then◌else◌, List, [], ◌∷◌, ◌++◌, length, take, drop, Option, Some, None, Result, Ok, Err}
use Rattle.src_text.specs.declared.span.Span.{Span}
use Rattle.ruby_lexer.specs.declared.kind.RubyKind.{RubyKind}
use Rattle.ruby_lexer.specs.declared.kind.RubyKind.TheVariants as k
use Rattle.ruby_lexer.specs.declared.kind.Sign.{Sign}
use Rattle.ruby_lexer.specs.declared.kind.Sign.TheVariants as sign
use Rattle.ruby_lexer.specs.declared.token.RubyToken.{RubyToken}
use Rattle.ruby_lexer.specs.declared.token.RubyValue.{RubyValue}
use Rattle.ruby_lexer.specs.declared.token.RubyValue.TheVariants as value
use Rattle.ruby_lexer.specs.declared.token.WordsOf.{WordsOf}
use Rattle.ruby_lexer.specs.declared.refusal.RubyAt.{RubyAt}
use Rattle.ruby_lexer.specs.declared.refusal.RubyAt.TheVariants as at
use Rattle.ruby_lexer.specs.declared.refusal.Form.TheVariants as form
use Rattle.ruby_lexer.specs.declared.signs.Meaning.{Meaning}
use Rattle.ruby_lexer.specs.declared.signs.Meaning.TheVariants as is
use Rattle.ruby_lexer.specs.declared.signs.Found.{Found}
use Rattle.ruby_lexer.specs.declared.heredocs.Opening.{Opening}
use Rattle.ruby_lexer.specs.declared.state.State.{State}
use Rattle.ruby_lexer.specs.declared.machine.Machine.{Machine}
use Rattle.ruby_lexer.specs.declared.state.Alias.TheVariants as alias
use Rattle.ruby_lexer.specs.declared.state.Opened.{Opened}
use Rattle.ruby_lexer.specs.declared.state.Opened.TheVariants as opened
use Rattle.ruby_lexer.specs.declared.state.Quoted.{Quoted}
use Rattle.ruby_lexer.specs.declared.state.Quotes.{Quotes}
use Rattle.ruby_lexer.specs.declared.state.Quotes.TheVariants as quotes
use Rattle.ruby_lexer.specs.declared.state.Words.{Words}
use Rattle.ruby_lexer.specs.declared.state.Heredoc.{Heredoc}
use Rattle.ruby_lexer.specs.Characters.{is_digit, is_space, is_nil, first_is, begins, character_len, begins_word}
use Rattle.ruby_lexer.specs.Lines.{line_end_len, line_len, whole_line_len, begins_line, blank_len, long_comment_len, begins_with_dot}
use Rattle.ruby_lexer.specs.Kinds.{is_so, is_first, ends_value, drops_line_end, is_class_word, is_dots, precedes_parameter, is_end}
use Rattle.ruby_lexer.specs.Tokens.{token, start, put, here, no_token, behind_line}
use Rattle.ruby_lexer.specs.Symbols.{symbol_here}
use Rattle.ruby_lexer.specs.Words.{is_place_of_name, name_here, word_here, variable_here}
use Rattle.ruby_lexer.specs.Numbers.{number_here}
use Rattle.ruby_lexer.specs.Signs.{sign_here, is_prefix}
use Rattle.ruby_lexer.specs.Strings.{Piece, closer, begins_code, has_code, as_written, piece_here, flags_len, words_of, closing_here}
use Rattle.ruby_lexer.specs.Heredocs.{opening_here, body_start, ends_heredoc}

-- A step gives the machine behind it, or what is refused.
abbrev pub Step : Type 0
Step = Result Machine RubyAt

-- ---- small steps

-- no token
abbrev pub moves : Machine → State → Step
moves m s = Ok (record m { state = s })

-- one token
abbrev pub puts : Machine → RubyToken → Step
puts m t = Ok (record m { state = put m.state t; tokens = m.tokens ++ t ∷ [] })

-- one token, or what is refused
abbrev pub gives : Machine → Result RubyToken RubyAt → Step
gives m (Ok t) = puts m t
gives m (Err e) = Err e

-- one token that opens something
abbrev pub opens : Machine → RubyToken → Opened → Step
opens m t o = Ok (record m { state = put m.state t; stack = o ∷ m.stack; tokens = m.tokens ++ t ∷ [] })

-- one token that opens a text up to a character
abbrev pub opens_quoted : Machine → Quotes → Bool → RubyKind → ℕ → Step
opens_quoted m quotes alias kind len = opens m (token m.state kind value.Absent len) (opened.Quoted (record { quotes = quotes; at = here m.state; alias = alias }))

-- no token stands here, whose character has so many bytes
abbrev pub fails_here : Machine → ℕ → Step
fails_here m len = Err (no_token m.state.place len)

-- a sign or the like, of so many bytes
abbrev pub puts_kind : Machine → RubyKind → ℕ → Step
puts_kind m kind len = puts m (token m.state kind value.Absent len)

-- what is open innermost
abbrev pub top : List Opened → Option Opened
top [] = None
top (o ∷ more) = Some o

-- what is left open without the innermost
abbrev pub popped : List Opened → List Opened
popped [] = []
popped (o ∷ more) = more

-- ---- in code: blanks, comments and lines

-- the opening of what is open, where it is a text
abbrev pub opening_of : Opened → Option Span
opening_of (opened.Quoted q) = Some q.at
opening_of (opened.Words w) = Some w.at
opening_of (opened.Heredoc h) = Some h.at
opening_of other = None

-- the first of two
abbrev pub or_else : Option Span → Option Span → Option Span
or_else None other = other
or_else (Some at) other = Some at

-- the opening of the innermost text that is open
abbrev pub innermost : List Opened → Option Span
innermost [] = None
innermost (o ∷ more) = or_else (opening_of o) (innermost more)

-- the end of the text
abbrev pub at_end : Machine → Option Span → Step
at_end m None = puts_kind m k.End 0
at_end m (Some opening) = Err (at.Syntax opening)

-- behind a line's end of so many bytes from here
abbrev pub past_line : State → ℕ → State
past_line s len = record s { place = behind_line s.bodies_end (s.place + len); bodies_end = None }

-- behind a blank
abbrev pub past_blank : State → List ℕ → State
past_blank s rest = if first_is is_space rest then record s { place = s.place + 1; blank = true }
    else record (past_line s (blank_len rest)) { blank = true; line_start = true }

-- behind a comment; with its line's end, where nothing else stands on the line
abbrev pub past_comment : State → List ℕ → State
past_comment s rest = if s.line_start && not (line_end_len (drop (line_len rest) rest) == 0) then record (past_line s (whole_line_len rest)) { blank = true }
    else record s { place = s.place + line_len rest; blank = true }

-- behind a line's end that is no token
abbrev pub past_dropped : State → ℕ → State
past_dropped s len = record (past_line s len) { blank = true; line_start = true }

-- behind a line's end that is a token
abbrev pub past_newline : State → RubyToken → ℕ → State
past_newline s t len = record (put s t) { place = behind_line s.bodies_end (s.place + len); bodies_end = None; line_start = true }

-- whether the line's end here is no token: by the token before it, and by what the next line begins with
abbrev pub is_dropped : List ℕ → State → ℕ → Bool
is_dropped text s len = is_so drops_line_end s.last || begins_with_dot (drop (behind_line s.bodies_end (s.place + len)) text)

-- a line's end of so many bytes
unfoldable pub ends_line : List ℕ → Machine → ℕ → Step
ends_line text m len = if is_dropped text m.state len then moves m (past_dropped m.state len)
    else (let t = token m.state k.Newline value.Absent len in Ok (record m { state = past_newline m.state t len; tokens = m.tokens ++ t ∷ [] }))

-- ---- in code: signs

-- whether the innermost is a brace or nothing, so that a `}` is a sign
abbrev pub is_plain_brace : List Opened → Bool
is_plain_brace stack = is_brace (top stack)
  where
    is_brace : Option Opened → Bool
    is_brace None = true
    is_brace (Some opened.Brace) = true
    is_brace (Some other) = false

-- a `}`: it closes the brace or the code
abbrev pub closes_brace : Machine → Step
closes_brace m = puts_kind (record m { stack = popped m.stack }) (if is_plain_brace m.stack then k.Sign sign.RightBrace else k.CodeClose) 1

-- whether `...` stands before, behind `(` or `,`
abbrev pub is_forwarding : State → Bool
is_forwarding s = is_so is_dots s.last && is_so precedes_parameter s.before

-- a `)`
abbrev pub closes_paren : Machine → Step
closes_paren m = if is_forwarding m.state then Err (at.Unsupported m.state.last_span form.Forwarding) else puts_kind m (k.Sign sign.RightParen) 1

-- a `{` of either form
abbrev pub opens_brace : Machine → RubyKind → Step
opens_brace m kind = opens m (token m.state kind value.Absent 1) opened.Brace

-- a sign of so many bytes that isn't in prefix form
unfoldable pub plain_sign : Machine → Sign → ℕ → Step
plain_sign m sign.RightBrace len = closes_brace m
plain_sign m sign.LeftBrace len = opens_brace m (k.Sign sign.LeftBrace)
plain_sign m sign.RightParen len = closes_paren m
plain_sign m sign len = puts_kind m (k.Sign sign) len

-- a word list whose `%` is here
abbrev pub opens_words : Machine → Option WordsOf → Option ℕ → Step
opens_words m (Some words) (Some closer) = opens m (token m.state k.WordsOpen (value.Words words) 3) (opened.Words (record { closer = closer; at = here m.state }))
opens_words m words closer = fails_here m 1

-- the heredoc of an opening whose `<<` is here, and whose body begins there
abbrev pub heredoc_of : State → Opening → ℕ → Heredoc
heredoc_of s o body = record { at = here s; word_start = s.place + 2 + o.word_start; word_end = s.place + 2 + o.word_end; plain = o.plain; behind = s.place + 2 + o.len; body = body }

-- the opening of a heredoc whose body begins there: the body comes next
abbrev pub opens_heredoc : Machine → Opening → Option ℕ → Step
opens_heredoc m o None = fails_here m 1
opens_heredoc m o (Some body) = let t = token m.state k.HeredocOpen value.Absent (2 + o.len) in
    Ok (record m {
      state = record (put m.state t) { place = body; bodies_end = None; part_start = body };
      stack = opened.Heredoc (heredoc_of m.state o body) ∷ m.stack;
      tokens = m.tokens ++ t ∷ [];
    })

-- a `<<` in prefix form, by what it opens
abbrev pub less_less : List ℕ → Machine → Option Opening → Step
less_less text m None = puts_kind m (k.Prefix sign.LessLess) 2
less_less text m (Some o) = if is_so is_class_word m.state.last then puts_kind m (k.Prefix sign.LessLess) 2
    else opens_heredoc m o (body_start text m.state.bodies_end (m.state.place + 2 + o.len))

-- a `-` in prefix form: it belongs to the number behind it
abbrev pub minus : Machine → List ℕ → Step
minus m behind = if first_is is_digit behind then gives m (number_here true m.state behind) else puts_kind m (k.Prefix sign.Minus) 1

-- a sign of so many bytes in prefix form, before this text
unfoldable pub prefix_sign : List ℕ → Machine → Sign → ℕ → List ℕ → Step
prefix_sign text m sign.Minus len behind = minus m behind
prefix_sign text m sign.Slash len behind = opens_quoted m quotes.Regexp false k.RegexpOpen 1
prefix_sign text m sign.Percent len behind = opens_words m (words_of behind) (closing_here (drop 1 behind))
prefix_sign text m sign.LessLess len behind = less_less text m (opening_here behind)
prefix_sign text m sign.LeftBrace len behind = opens_brace m (k.Prefix sign.LeftBrace)
prefix_sign text m sign len behind = puts_kind m (k.Prefix sign) len

-- an operator with `=` behind it; `/=` opens a regexp where no value ends before it
unfoldable pub assigning : Machine → List ℕ → ℕ → Step
assigning m rest len = if begins 47 rest && not (is_so ends_value m.state.last) then opens_quoted m quotes.Regexp false k.RegexpOpen 1
    else puts m (token m.state k.Assigning (value.Text (take (len - 1) rest)) len)

-- a sign of so many bytes, by what it is
abbrev pub found_sign : List ℕ → Machine → List ℕ → ℕ → Meaning → Step
found_sign text m rest len is.Assigning = assigning m rest len
found_sign text m rest len (is.Sign sign) = if is_prefix m.state sign (drop len rest) then prefix_sign text m sign len (drop len rest) else plain_sign m sign len

-- a sign, or what is none
abbrev pub sign_step : List ℕ → Machine → List ℕ → Option Found → Step
sign_step text m rest None = fails_here m (character_len rest)
sign_step text m rest (Some found) = found_sign text m rest found.len found.meaning

-- ---- in code: the tokens

-- a `:`
abbrev pub colon : List ℕ → Machine → List ℕ → Option RubyToken → Step
colon text m rest (Some symbol) = puts m symbol
colon text m rest None = sign_step text m rest (sign_here rest)

-- a token that is no word and no number, by its first byte
unfoldable pub other_token : List ℕ → Machine → List ℕ → Step
other_token text m rest = if begins 64 rest || begins 36 rest then gives m (variable_here m.state rest)
    else (if begins 39 rest then opens_quoted m quotes.Plain false k.StringOpen 1
    else (if begins 34 rest then opens_quoted m quotes.Double false k.StringOpen 1
    else (if begins 58 rest && begins 34 (drop 1 rest) then opens_quoted m quotes.Symbol (is_first m.state.alias) k.SymbolOpen 2
    else (if begins 58 rest then colon text m rest (symbol_here m.state rest)
    else sign_step text m rest (sign_here rest)))))

-- a token where no name stands
unfoldable pub token_step : List ℕ → Machine → List ℕ → Step
token_step text m rest = if first_is is_digit rest then gives m (number_here false m.state rest)
    else (if begins_word rest then gives m (word_here text m.state rest) else other_token text m rest)

-- a name, or what stands here where there is none
abbrev pub name_step : List ℕ → Machine → List ℕ → Option RubyToken → Step
name_step text m rest (Some name) = puts m name
name_step text m rest None = token_step text m rest

-- what isn't a blank, a comment or a line's end
unfoldable pub visible_step : List ℕ → Machine → List ℕ → Step
visible_step text m rest = if is_place_of_name m.state then name_step text m rest (name_here m.state rest) else token_step text m rest

-- a step in code, but for long comments
unfoldable pub line_step : List ℕ → Machine → List ℕ → Step
line_step text m rest = if is_nil rest then at_end m (innermost m.stack)
    else (if not (blank_len rest == 0) then moves m (past_blank m.state rest)
    else (if begins 35 rest then moves m (past_comment m.state rest)
    else (if not (line_end_len rest == 0) then ends_line text m (line_end_len rest)
    else visible_step text m rest)))

-- how long the long comment is that begins here, where a line begins here too
abbrev pub comment_here : List ℕ → State → List ℕ → ℕ
comment_here text s rest = if s.line_start && begins_line text s.place then long_comment_len rest else 0

-- a step in code
unfoldable pub code_step : List ℕ → Machine → List ℕ → Step
code_step text m rest = if comment_here text m.state rest == 0 then line_step text m rest
    else moves m (record m.state { place = m.state.place + comment_here text m.state rest })

-- ---- in texts

-- the part that was read so far
abbrev pub part_token : RubyKind → Machine → RubyToken
part_token kind m = record { kind = kind; value = value.Text m.part; span = record { start = m.state.part_start; end = m.state.place }; blank = m.state.blank }

-- behind the part that was read so far, where it stands for something
abbrev pub flushed : RubyKind → Machine → Machine
flushed kind m = if is_nil m.part then m else record m { state = put m.state (part_token kind m); part = []; tokens = m.tokens ++ part_token kind m ∷ [] }

-- behind a piece
abbrev pub past_piece_state : State → Piece → State
past_piece_state s piece = if piece.ends_line then past_line s piece.len else record s { place = s.place + piece.len }

-- a piece, whose value goes to the part
abbrev pub past_piece : Machine → Piece → Step
past_piece m piece = Ok (record m { state = past_piece_state m.state piece; part = m.part ++ piece.value })

-- a `#{`
abbrev pub opens_code : Machine → Step
opens_code m = let f = flushed k.Part m in opens f (token f.state k.CodeOpen value.Absent 2) opened.Code

-- the end of a text whose parts are of the first kind; the token of its end is of the second kind
abbrev pub closes : Machine → RubyKind → RubyKind → RubyValue → ℕ → Step
closes m part kind value len = let f = flushed part m in puts (record f { stack = popped f.stack }) (token f.state kind value len)

-- behind a symbol in quotes: as an alias's first name it is followed by the second
abbrev pub before_second_name : Bool → Step → Step
before_second_name true (Ok m) = Ok (record m { state = record m.state { alias = alias.Second } })
before_second_name first step = step

-- the end of a text in quotes, by what stands behind its closing byte
unfoldable pub closes_quoted : Machine → Quotes → Bool → List ℕ → Step
closes_quoted m quotes.Plain alias behind = closes m k.Part k.StringClose value.Absent 1
closes_quoted m quotes.Double alias behind = closes m k.Part k.StringClose value.Absent 1
closes_quoted m quotes.Symbol alias behind = before_second_name alias (closes m k.Part k.SymbolClose value.Absent 1)
closes_quoted m quotes.Regexp alias behind = closes m k.Part k.RegexpClose (value.Text (take (flags_len behind) behind)) (1 + flags_len behind)

-- a step in a text in quotes
unfoldable pub quoted_step : Machine → Quoted → List ℕ → Step
quoted_step m q rest = if is_nil rest then Err (at.Syntax q.at)
    else (if begins (closer q.quotes) rest then closes_quoted m q.quotes q.alias (drop 1 rest)
    else (if has_code q.quotes && begins_code rest then opens_code m
    else past_piece m (piece_here q.quotes rest)))

-- the word that was read so far, where there is one, and a space or a tab
abbrev pub past_space : Machine → Step
past_space m = let f = flushed k.Word m in moves f (record f.state { place = f.state.place + 1 })

-- the word that was read so far, where there is one, and a line's end of so many bytes
abbrev pub past_words_line : Machine → ℕ → Step
past_words_line m len = let f = flushed k.Word m in moves f (past_line f.state len)

-- a byte of a word
abbrev pub word_byte : Machine → List ℕ → Step
word_byte m rest = Ok (record m { state = record m.state { place = m.state.place + 1; part_start = if is_nil m.part then m.state.place else m.state.part_start }; part = m.part ++ take 1 rest })

-- a step in a word list
unfoldable pub words_step : Machine → Words → List ℕ → Step
words_step m w rest = if is_nil rest then Err (at.Syntax w.at)
    else (if begins w.closer rest then closes m k.Word k.WordsClose value.Absent 1
    else (if first_is is_space rest then past_space m
    else (if not (line_end_len rest == 0) then past_words_line m (line_end_len rest)
    else word_byte m rest)))

-- the token of a heredoc's end, which stands behind its opening
abbrev pub heredoc_close : State → Heredoc → RubyToken
heredoc_close s h = record { kind = k.HeredocClose; value = value.Body (record { start = h.body; end = s.place }); span = record { start = h.behind; end = h.behind }; blank = s.blank }

-- the end of a heredoc, at the line of its word: it goes on behind the opening
unfoldable pub closes_heredoc : Machine → Heredoc → List ℕ → Step
closes_heredoc m h rest = let f = flushed k.Part m in
    let t = heredoc_close f.state h in
    Ok (record f { state = record (put f.state t) { bodies_end = Some (f.state.place + whole_line_len rest) }; stack = popped f.stack; tokens = f.tokens ++ t ∷ [] })

-- a step in a heredoc's body
unfoldable pub heredoc_step : List ℕ → Machine → Heredoc → List ℕ → Step
heredoc_step text m h rest = if ends_heredoc text h m.state.place rest then closes_heredoc m h rest
    else (if is_nil rest then Err (at.Syntax h.at)
    else (if h.plain then past_piece m (as_written rest)
    else (if begins_code rest then opens_code m
    else past_piece m (piece_here quotes.Double rest))))

-- ---- the run

-- a step, by what is open innermost
abbrev pub step_in : List ℕ → Machine → Option Opened → List ℕ → Step
step_in text m (Some (opened.Quoted q)) rest = quoted_step m q rest
step_in text m (Some (opened.Words w)) rest = words_step m w rest
step_in text m (Some (opened.Heredoc h)) rest = heredoc_step text m h rest
step_in text m other rest = code_step text m rest

-- a step
unfoldable pub step : List ℕ → Machine → Step
step text m = step_in text m (top m.stack) (drop m.state.place text)

-- The tokens, in at most so many steps from here, up to the end. Each step but the last consumes a character that no step consumed
-- before, so there are as many steps as characters, and one, at most.
abbrev pub run : ℕ → List ℕ → Machine → Result (List RubyToken) RubyAt
run zero text m = Err (no_token m.state.place 0)
run (suc n) text m = elim (step text m) [
  | Ok next ↦ if is_so is_end next.state.last then Ok next.tokens else run n text next
  | Err e ↦ Err e
]

-- at the text's start
abbrev pub at_start : Machine
at_start = record { state = start; stack = []; part = []; tokens = [] }

-- the tokens of a text, or the first place where none stands or one that is refused
unfoldable pub tokens_of : List ℕ → Result (List RubyToken) RubyAt
tokens_of text = run (suc (length text)) text at_start
