-- Each step but the last leaves less to read, so that as many steps as there are bytes, and one, suffice.
use Rattle.std.proofs.Common.{arith, ◌+◌, ◌-◌, ◌≡◌, ◌<◌, ◌≤◌, ℕ, zero, suc, Bool, true, false, not, ◌&&◌, ◌||◌, ◌==◌, if◌then◌else◌, List, [], ◌∷◌, ◌++◌, length, take, drop, min, Option, Some, None, Result, Ok, Err, IfOk, IfSome, refl, ap, sym, subst, ◌∙◌, length-drop}
use Rattle.std.proofs.lemmas.Bool.{and_parts, not-true, eqb-true}
use Rattle.std.proofs.lemmas.List.{drop-drop, length-take}
use Rattle.src_text.specs.declared.span.Span.{Span}
use Rattle.ruby_lexer.specs.declared.kind.RubyKind.{RubyKind}
use Rattle.ruby_lexer.specs.declared.kind.RubyKind.TheVariants as k
use Rattle.ruby_lexer.specs.declared.kind.Sign.{Sign}
use Rattle.ruby_lexer.specs.declared.kind.Sign.TheVariants as sign
use Rattle.ruby_lexer.specs.declared.token.RubyToken.{RubyToken}
use Rattle.ruby_lexer.specs.declared.token.RubyValue.{RubyValue}
use Rattle.ruby_lexer.specs.declared.token.RubyValue.TheVariants as value
use Rattle.ruby_lexer.specs.declared.token.WordsOf.{WordsOf}
use Rattle.ruby_lexer.specs.declared.refusal.RubyAt.{RubyAt}
use Rattle.ruby_lexer.specs.declared.signs.Meaning.{Meaning}
use Rattle.ruby_lexer.specs.declared.signs.Meaning.TheVariants as is
use Rattle.ruby_lexer.specs.declared.signs.Found.{Found}
use Rattle.ruby_lexer.specs.declared.heredocs.Opening.{Opening}
use Rattle.ruby_lexer.specs.declared.state.State.{State}
use Rattle.ruby_lexer.specs.declared.machine.Machine.{Machine}
use Rattle.ruby_lexer.specs.declared.state.Opened.{Opened}
use Rattle.ruby_lexer.specs.declared.state.Opened.TheVariants as opened
use Rattle.ruby_lexer.specs.declared.state.Quoted.{Quoted}
use Rattle.ruby_lexer.specs.declared.state.Quotes.{Quotes}
use Rattle.ruby_lexer.specs.declared.state.Quotes.TheVariants as quotes
use Rattle.ruby_lexer.specs.declared.state.Words.{Words}
use Rattle.ruby_lexer.specs.declared.state.Heredoc.{Heredoc}
use Rattle.ruby_lexer.specs.Characters.{is_digit, is_space, is_nil, is_line_end, first_is, begins, begins_word}
use Rattle.ruby_lexer.specs.Lines.{line_end_len, line_len, whole_line_len, begins_line, blank_len, begins_comment, long_comment_len, spaces_len, is_line}
use Rattle.ruby_lexer.specs.Kinds.{is_so, is_first, ends_value, is_class_word, is_end}
use Rattle.ruby_lexer.specs.Tokens.{token, put, here, slice, behind_line}
use Rattle.ruby_lexer.specs.Symbols.{symbol_here}
use Rattle.ruby_lexer.specs.Words.{is_place_of_name, name_here, word_here, variable_here}
use Rattle.ruby_lexer.specs.Numbers.{number_here}
use Rattle.ruby_lexer.specs.Signs.{least_len, sign_here, is_prefix}
use Rattle.ruby_lexer.specs.Strings.{Piece, closer, begins_code, has_code, as_written, piece_here, flags_len, words_of, closing_here}
use Rattle.ruby_lexer.specs.Heredocs.{opening_here, body_start, ends_heredoc}
use Rattle.ruby_lexer.specs.Machine as m
use Rattle.ruby_lexer.specs.Machine.{Step, step, run, at_start, tokens_of, flushed, part_token, past_line, past_blank, past_comment, past_dropped, past_newline, past_piece_state, popped, comment_here, ends_line, plain_sign, prefix_sign, assigning, other_token, token_step, visible_step, line_step, code_step, closes_quoted, quoted_step, words_step, closes_heredoc, heredoc_step}
use Rattle.ruby_lexer.specs.Laws.{answer_within}
use Rattle.ruby_lexer.proofs.Fronts.{OnLine, line_within, further, first_on, begins_on, whole_behind, whole_within, some_whole, no_end, not_begun}
use Rattle.ruby_lexer.proofs.Found.{sign_on}
use Rattle.ruby_lexer.proofs.Lengths.{Taken, either, positive, plain_number, minus_number, word_here_on, symbol_here_on, name_here_on, variable_here_on}
use Rattle.ruby_lexer.proofs.Pieces.{Passes, PieceOn, OpensBehind, written_on, piece_here_on, code_on, closer_on, regexp_end_on, closing_here_on, words_of_on, opening_on}

-- ---- what is left to read

-- at a place: the rest of the text, or where the line's heredocs have bodies the rest of the line and the text behind these bodies
abbrev left_at : List ℕ → ℕ → Option ℕ → ℕ
left_at text place None = length text - place
left_at text place (Some bodies_end) = whole_line_len (drop place text) + (length text - bodies_end)

-- for what is open: a heredoc is followed by the rest of its opening's line
abbrev kept_line : List ℕ → Opened → ℕ
kept_line text (opened.Heredoc h) = whole_line_len (drop h.behind text)
kept_line text other = 0

abbrev kept_lines : List ℕ → List Opened → ℕ
kept_lines text [] = 0
kept_lines text (o ∷ more) = kept_line text o + kept_lines text more

abbrev pub left : List ℕ → Machine → ℕ
left text x = left_at text x.state.place x.state.bodies_end + kept_lines text x.stack

-- ---- what holds between the steps

-- no line begins where bodies are pending
abbrev AtPlace : List ℕ → ℕ → Option ℕ → Type 0
AtPlace text place None = Unit {0}
AtPlace text place (Some bodies_end) = begins_line text place ≡ false

-- what closes a word list ends no line; a heredoc's word has a byte, and no line begins behind its opening
abbrev IsOpen : List ℕ → Opened → Type 0
IsOpen text (opened.Words w) = is_line_end w.closer ≡ false
IsOpen text (opened.Heredoc h) = (begins_line text h.behind ≡ false) × ((h.word_start < h.word_end) × (h.word_start < length text))
IsOpen text other = Unit {0}

abbrev AllOpen : List ℕ → List Opened → Type 0
AllOpen text [] = Unit {0}
AllOpen text (o ∷ more) = IsOpen text o × AllOpen text more

-- a machine between two steps
abbrev pub Good : List ℕ → Machine → Type 0
Good text x = AtPlace text x.state.place x.state.bodies_end × AllOpen text x.stack

-- less is left than so much
abbrev pub Less : List ℕ → ℕ → Machine → Type 0
Less text size next = is_so is_end next.state.last ≡ false → (left text next < size) × Good text next

-- behind a step that isn't the last less is left
abbrev pub Falls : List ℕ → Machine → Step → Type 0
Falls text x s = IfOk s (Less text (left text x))

abbrev rest_of : List ℕ → Machine → List ℕ
rest_of text x = drop x.state.place text

-- ---- places

-- at another place, where less is left
abbrev Moves : List ℕ → ℕ → Option ℕ → ℕ → Option ℕ → Type 0
Moves text place bodies_end next next_end = (left_at text next next_end < left_at text place bodies_end) × AtPlace text next next_end

behind_front : (text : List ℕ) (place n : ℕ) (bodies_end : Option ℕ) → OnLine (drop place text) n → Moves text place bodies_end (place + n) bodies_end
behind_front text place n None on = let some : 0 < n = on.0 in let below : n ≤ line_len (drop place text) = on.1 in
    let line : line_len (drop place text) ≤ length (drop place text) = line_within (drop place text) in
    let rest : length (drop place text) ≡ length text - place = length-drop place text in (omega (arith, some, below, line, rest), tt)
behind_front text place n (Some bodies_end) on = let some : 0 < n = on.0 in
    let line : whole_line_len (drop n (drop place text)) + n ≡ whole_line_len (drop place text) = whole_behind n (drop place text) on.1 in
    let same : whole_line_len (drop n (drop place text)) ≡ whole_line_len (drop (place + n) text) = ap whole_line_len (drop-drop n place text) in
    (omega (arith, some, line, same), not_begun place n text on)

moved : (text : List ℕ) (place next n : ℕ) (bodies_end : Option ℕ) → next ≡ place + n → OnLine (drop place text) n → Moves text place bodies_end next bodies_end
moved text place next n bodies_end is on = subst (λ p. Moves text place bodies_end p bodies_end) (sym is) (behind_front text place n bodies_end on)

behind_end : (text : List ℕ) (place n : ℕ) (bodies_end : Option ℕ) → 0 < n → 0 < length (drop place text)
    → Moves text place bodies_end (behind_line bodies_end (place + n)) None
behind_end text place n None some more = let rest : length (drop place text) ≡ length text - place = length-drop place text in (omega (arith, some, more, rest), tt)
behind_end text place n (Some bodies_end) some more = let line : 0 < whole_line_len (drop place text) = some_whole (drop place text) more in (omega (arith, line), tt)

has_some : (text : List ℕ) → is_nil text ≡ false → 0 < length text
has_some [] is = absurd (let no : true ≡ false = is in cc)
has_some (b ∷ bs) is = omega arith

has_line : (text : List ℕ) → 1 ≤ line_len text → 0 < length text
has_line text one = let line : line_len text ≤ length text = line_within text in omega (arith, line, one)

-- ---- what is open

popped_kept : (text : List ℕ) (stack : List Opened) → kept_lines text (popped stack) ≤ kept_lines text stack
popped_kept text [] = omega arith
popped_kept text (o ∷ more) = omega arith

popped_open : (text : List ℕ) (stack : List Opened) → AllOpen text stack → AllOpen text (popped stack)
popped_open text [] all = tt
popped_open text (o ∷ more) all = all.1

-- ---- small steps

-- from a machine that has no more left
lower : (text : List ℕ) (x y : Machine) (s : Step) → left text y ≤ left text x → Falls text y s → Falls text x s
lower text x y (Ok next) below falls = λ goes. let less : left text next < left text y = (falls goes).0 in (omega (arith, less, below), (falls goes).1)
lower text x y (Err e) below falls = tt

less_by : (text : List ℕ) (place next : ℕ) (bodies_end next_end : Option ℕ) (stack next_stack : List Opened) → Moves text place bodies_end next next_end
    → kept_lines text next_stack ≤ kept_lines text stack → AllOpen text next_stack
    → (left_at text next next_end + kept_lines text next_stack < left_at text place bodies_end + kept_lines text stack) × (AtPlace text next next_end × AllOpen text next_stack)
less_by text place next bodies_end next_end stack next_stack moves below all =
    let less : left_at text next next_end < left_at text place bodies_end = moves.0 in (omega (arith, less, below), (moves.1, all))

moves : (text : List ℕ) (x : Machine) (s : State) → Good text x → Moves text x.state.place x.state.bodies_end s.place s.bodies_end → Falls text x (m.moves x s)
moves text x s good to = λ goes. less_by text x.state.place s.place x.state.bodies_end s.bodies_end x.stack x.stack to (omega arith) good.1

puts : (text : List ℕ) (x : Machine) (t : RubyToken) → Good text x → Taken x.state (rest_of text x) t → Falls text x (m.puts x t)
puts text x t good (n, (is, on)) = λ goes. less_by text x.state.place t.span.end x.state.bodies_end x.state.bodies_end x.stack x.stack
    (moved text x.state.place t.span.end n x.state.bodies_end is on) (omega arith) good.1

gives : (text : List ℕ) (x : Machine) (r : Result RubyToken RubyAt) → Good text x → IfOk r (Taken x.state (rest_of text x)) → Falls text x (m.gives x r)
gives text x (Ok t) good taken = puts text x t good taken
gives text x (Err e) good taken = tt

opens : (text : List ℕ) (x : Machine) (t : RubyToken) (o : Opened) → Good text x → kept_line text o ≡ 0 → IsOpen text o → Taken x.state (rest_of text x) t
    → Falls text x (m.opens x t o)
opens text x t o good none stands (n, (is, on)) = λ goes. less_by text x.state.place t.span.end x.state.bodies_end x.state.bodies_end x.stack (o ∷ x.stack)
    (moved text x.state.place t.span.end n x.state.bodies_end is on) (omega (arith, none)) (stands, good.1)

puts_kind : (text : List ℕ) (x : Machine) (kind : RubyKind) (n : ℕ) → Good text x → OnLine (rest_of text x) n → Falls text x (m.puts_kind x kind n)
puts_kind text x kind n good on = puts text x (token x.state kind value.Absent n) good (n, (refl, on))

opens_quoted : (text : List ℕ) (x : Machine) (q : Quotes) (alias : Bool) (kind : RubyKind) (n : ℕ) → Good text x → OnLine (rest_of text x) n
    → Falls text x (m.opens_quoted x q alias kind n)
opens_quoted text x q alias kind n good on = opens text x (token x.state kind value.Absent n) (opened.Quoted (record { quotes = q; at = here x.state; alias = alias })) good refl tt (n, (refl, on))

-- ---- in code: blanks, comments and lines

at_end : (text : List ℕ) (x : Machine) (opening : Option Span) → Falls text x (m.at_end x opening)
at_end text x None = λ goes. absurd (let no : true ≡ false = goes in cc)
at_end text x (Some opening) = tt

to_state : (text : List ℕ) (s : State) (b : Bool) (y z : State) → (b ≡ true → Moves text s.place s.bodies_end y.place y.bodies_end)
    → (b ≡ false → Moves text s.place s.bodies_end z.place z.bodies_end)
    → Moves text s.place s.bodies_end (if b then y else z).place (if b then y else z).bodies_end
to_state text s true y z one other = one refl
to_state text s false y z one other = other refl

behind_blank : (text : List ℕ) (s : State) → 0 < length (drop s.place text) → 0 < blank_len (drop s.place text)
    → Moves text s.place s.bodies_end (past_blank s (drop s.place text)).place (past_blank s (drop s.place text)).bodies_end
behind_blank text s some blank = to_state text s (first_is is_space (drop s.place text)) (record s { place = s.place + 1; blank = true })
    (record (past_line s (blank_len (drop s.place text))) { blank = true; line_start = true })
    (λ is. behind_front text s.place 1 s.bodies_end (omega arith, first_on is_space refl refl (drop s.place text) is))
    (λ isnt. behind_end text s.place (blank_len (drop s.place text)) s.bodies_end blank some)

behind_comment : (text : List ℕ) (s : State) → begins 35 (drop s.place text) ≡ true
    → Moves text s.place s.bodies_end (past_comment s (drop s.place text)).place (past_comment s (drop s.place text)).bodies_end
behind_comment text s is = let rest = drop s.place text in let one : 1 ≤ line_len rest = begins_on 35 refl rest is in let some : 0 < length rest = has_line rest one in
    to_state text s (s.line_start && not (line_end_len (drop (line_len rest) rest) == 0)) (record (past_line s (whole_line_len rest)) { blank = true }) (record s { place = s.place + line_len rest; blank = true })
    (λ alone. behind_end text s.place (whole_line_len rest) s.bodies_end (some_whole rest some) some)
    (λ other. behind_front text s.place (line_len rest) s.bodies_end (omega (arith, one), omega arith))

line_end : (text : List ℕ) (x : Machine) (n : ℕ) → Good text x → 0 < n → 0 < length (rest_of text x) → Falls text x (ends_line text x n)
unfolding ends_line
line_end text x n good some more = let to : Moves text x.state.place x.state.bodies_end (behind_line x.state.bodies_end (x.state.place + n)) None = behind_end text x.state.place n x.state.bodies_end some more in
    either (Less text (left text x)) (m.is_dropped text x.state n) _ _ (λ is. moves text x (past_dropped x.state n) good to)
    (λ isnt. λ goes. less_by text x.state.place (behind_line x.state.bodies_end (x.state.place + n)) x.state.bodies_end None x.stack x.stack to (omega arith) good.1)

comment_by : (starts begun : Bool) (n : ℕ) → 0 < (if starts && begun then n else 0) → (begun ≡ true) × (0 < n)
comment_by true true n some = (refl, some)
comment_by true false n some = absurd (omega (arith, some))
comment_by false begun n some = absurd (omega (arith, some))

none_by : (b : Bool) → 0 < (if b then 0 else 0) → ⊥
none_by true some = omega (arith, some)
none_by false some = omega (arith, some)

comment_some : (rest : List ℕ) → 0 < long_comment_len rest → 0 < length rest
comment_some [] some = absurd (none_by (begins_comment []) some)
comment_some (b ∷ bs) some = omega arith

behind_long_comment : (text : List ℕ) (place n : ℕ) (bodies_end : Option ℕ) → AtPlace text place bodies_end → begins_line text place ≡ true → 0 < n
    → 0 < length (drop place text) → Moves text place bodies_end (place + n) bodies_end
behind_long_comment text place n None at begun some more = behind_end text place n None some more
behind_long_comment text place n (Some bodies_end) at begun some more = absurd (let no : true ≡ false = sym begun ∙ at in cc)

-- ---- in code: signs

closes_brace : (text : List ℕ) (x : Machine) → Good text x → 1 ≤ line_len (rest_of text x) → Falls text x (m.closes_brace x)
closes_brace text x good one = let y : Machine = record x { stack = popped x.stack } in
    let kept : kept_lines text (popped x.stack) ≤ kept_lines text x.stack = popped_kept text x.stack in
    lower text x y (m.closes_brace x) (omega (arith, kept)) (puts_kind text y (if m.is_plain_brace x.stack then k.Sign sign.RightBrace else k.CodeClose) 1
    (good.0, popped_open text x.stack good.1) (omega arith, one))

closes_paren : (text : List ℕ) (x : Machine) → Good text x → 1 ≤ line_len (rest_of text x) → Falls text x (m.closes_paren x)
closes_paren text x good one = either (Less text (left text x)) (m.is_forwarding x.state) _ _ (λ is. tt) (λ isnt. puts_kind text x (k.Sign sign.RightParen) 1 good (omega arith, one))

opens_brace : (text : List ℕ) (x : Machine) (kind : RubyKind) → Good text x → 1 ≤ line_len (rest_of text x) → Falls text x (m.opens_brace x kind)
opens_brace text x kind good one = opens text x (token x.state kind value.Absent 1) opened.Brace good refl tt (1, (refl, (omega arith, one)))

one_of : (text : List ℕ) (n : ℕ) → OnLine text n → 1 ≤ line_len text
one_of text n on = let some : 0 < n = on.0 in let below : n ≤ line_len text = on.1 in omega (arith, some, below)

plain : (text : List ℕ) (x : Machine) (s : Sign) (n : ℕ) → Good text x → OnLine (rest_of text x) n → Falls text x (plain_sign x s n)
unfolding plain_sign
plain text x sign.RightBrace n good on = closes_brace text x good (one_of (rest_of text x) n on)
plain text x sign.LeftBrace n good on = opens_brace text x (k.Sign sign.LeftBrace) good (one_of (rest_of text x) n on)
plain text x sign.RightParen n good on = closes_paren text x good (one_of (rest_of text x) n on)
plain text x s n good on = puts_kind text x (k.Sign s) n good on

opens_words : (text : List ℕ) (x : Machine) (n : ℕ) (words : Option WordsOf) (closer : Option ℕ) → Good text x → OnLine (rest_of text x) n
    → IfSome words (λ w. 1 ≤ line_len (drop n (rest_of text x))) → IfSome closer (λ c. (is_line_end c ≡ false) × (1 ≤ line_len (drop 1 (drop n (rest_of text x)))))
    → Falls text x (m.opens_words x words closer)
opens_words text x n (Some words) (Some closer) good on first second =
    let two : 1 + 1 ≤ line_len (drop n (rest_of text x)) = further 1 1 (drop n (rest_of text x)) first second.1 in
    let all : n + (1 + 1) ≤ line_len (rest_of text x) = further n (1 + 1) (rest_of text x) on.1 two in let some : 0 < n = on.0 in
    opens text x (token x.state k.WordsOpen (value.Words words) 3) (opened.Words (record { closer = closer; at = here x.state })) good refl second.0 (3, (refl, (omega arith, omega (arith, some, all))))
opens_words text x n (Some words) None good on first second = tt
opens_words text x n None closer good on first second = tt

-- the body of a heredoc whose opening ends there
body_left : (text : List ℕ) (place n behind : ℕ) (bodies_end : Option ℕ) → behind ≡ place + n → OnLine (drop place text) n
    → IfSome (body_start text bodies_end behind) (λ body. (length text - body) + whole_line_len (drop behind text) < left_at text place bodies_end)
body_left text place n behind None is on = by_end (line_end_len (drop (line_len (drop behind text)) (drop behind text)) == 0)
  where
    by_end : (b : Bool) → IfSome (if b then None else Some (behind + whole_line_len (drop behind text))) (λ body. (length text - body) + whole_line_len (drop behind text) < length text - place)
    by_end true = tt
    by_end false = let some : 0 < n = on.0 in let below : n ≤ line_len (drop place text) = on.1 in
        let line : line_len (drop place text) ≤ length (drop place text) = line_within (drop place text) in
        let rest : length (drop place text) ≡ length text - place = length-drop place text in
        let whole : whole_line_len (drop behind text) ≤ length (drop behind text) = whole_within (drop behind text) in
        let more : length (drop behind text) ≡ length text - behind = length-drop behind text in
        omega (arith, is, some, below, line, rest, whole, more)
body_left text place n behind (Some bodies_end) is on = let some : 0 < n = on.0 in
    let line : whole_line_len (drop n (drop place text)) + n ≡ whole_line_len (drop place text) = whole_behind n (drop place text) on.1 in
    let same : drop n (drop place text) ≡ drop behind text = drop-drop n place text ∙ ap (λ p. drop p text) (sym is) in
    let whole : whole_line_len (drop n (drop place text)) ≡ whole_line_len (drop behind text) = ap whole_line_len same in
    omega (arith, some, line, whole)

opens_heredoc : (text : List ℕ) (x : Machine) (o : Opening) (body : Option ℕ) → Good text x → OnLine (rest_of text x) (2 + o.len)
    → o.word_start < o.word_end → o.word_end ≤ o.len
    → IfSome body (λ b. (length text - b) + whole_line_len (drop (x.state.place + 2 + o.len) text) < left_at text x.state.place x.state.bodies_end)
    → Falls text x (m.opens_heredoc x o body)
opens_heredoc text x o None good on word within less = tt
opens_heredoc text x o (Some body) good on word within less = λ goes.
    let place = x.state.place in
    let below : 2 + o.len ≤ line_len (drop place text) = on.1 in
    let line : line_len (drop place text) ≤ length (drop place text) = line_within (drop place text) in
    let rest : length (drop place text) ≡ length text - place = length-drop place text in
    let sum : place + (2 + o.len) ≡ place + 2 + o.len = omega arith in
    (omega (arith, less), (tt, ((subst (λ p. begins_line text p ≡ false) sum (not_begun place (2 + o.len) text on), (omega (arith, word), omega (arith, word, within, below, line, rest))), good.1)))

less_less : (text : List ℕ) (x : Machine) (n : ℕ) (o : Option Opening) → Good text x → OnLine (rest_of text x) n → 2 ≤ n → IfSome o (OpensBehind 0 (drop n (rest_of text x)))
    → Falls text x (m.less_less text x o)
less_less text x n None good on two opens = puts_kind text x (k.Prefix sign.LessLess) 2 good (omega arith, (let below : n ≤ line_len (rest_of text x) = on.1 in omega (arith, two, below)))
less_less text x n (Some o) good on two (word, (within, len)) = let below : n ≤ line_len (rest_of text x) = on.1 in
    either (Less text (left text x)) (is_so is_class_word x.state.last) _ _
    (λ is. puts_kind text x (k.Prefix sign.LessLess) 2 good (omega arith, omega (arith, two, below)))
    (λ isnt. let all : n + o.len ≤ line_len (rest_of text x) = further n o.len (rest_of text x) on.1 (omega (arith, len)) in
    let fits : OnLine (rest_of text x) (2 + o.len) = (omega arith, omega (arith, all, two)) in
    let sum : x.state.place + 2 + o.len ≡ x.state.place + (2 + o.len) = omega arith in
    opens_heredoc text x o (body_start text x.state.bodies_end (x.state.place + 2 + o.len)) good fits word within
    (body_left text x.state.place (2 + o.len) (x.state.place + 2 + o.len) x.state.bodies_end sum fits))

minus : (text : List ℕ) (x : Machine) (n : ℕ) → Good text x → OnLine (rest_of text x) n → Falls text x (m.minus x (drop n (rest_of text x)))
minus text x n good on = either (Less text (left text x)) (first_is is_digit (drop n (rest_of text x))) _ _
    (λ is. gives text x (number_here true x.state (drop n (rest_of text x))) good (minus_number x.state n (rest_of text x) on is))
    (λ isnt. puts_kind text x (k.Prefix sign.Minus) 1 good (omega arith, one_of (rest_of text x) n on))

prefix : (text : List ℕ) (x : Machine) (s : Sign) (n : ℕ) → Good text x → OnLine (rest_of text x) n → least_len (is.Sign s) ≤ n
    → Falls text x (prefix_sign text x s n (drop n (rest_of text x)))
unfolding prefix_sign
prefix text x sign.Minus n good on least = minus text x n good on
prefix text x sign.Slash n good on least = opens_quoted text x quotes.Regexp false k.RegexpOpen 1 good (omega arith, one_of (rest_of text x) n on)
prefix text x sign.Percent n good on least = opens_words text x n (words_of (drop n (rest_of text x))) (closing_here (drop 1 (drop n (rest_of text x)))) good on
    (words_of_on (drop n (rest_of text x))) (closing_here_on (drop 1 (drop n (rest_of text x))))
prefix text x sign.LessLess n good on least = less_less text x n (opening_here (drop n (rest_of text x))) good on least (opening_on (drop n (rest_of text x)))
prefix text x sign.LeftBrace n good on least = opens_brace text x (k.Prefix sign.LeftBrace) good (one_of (rest_of text x) n on)
prefix text x s n good on least = puts_kind text x (k.Prefix s) n good on

assigns : (text : List ℕ) (x : Machine) (n : ℕ) → Good text x → OnLine (rest_of text x) n → Falls text x (assigning x (rest_of text x) n)
unfolding assigning
assigns text x n good on = either (Less text (left text x)) (begins 47 (rest_of text x) && not (is_so ends_value x.state.last)) _ _
    (λ is. opens_quoted text x quotes.Regexp false k.RegexpOpen 1 good (omega arith, one_of (rest_of text x) n on))
    (λ isnt. puts text x (token x.state k.Assigning (value.Text (take (n - 1) (rest_of text x))) n) good (n, (refl, on)))

found_sign : (text : List ℕ) (x : Machine) (n : ℕ) (meaning : Meaning) → Good text x → OnLine (rest_of text x) n → least_len meaning ≤ n
    → Falls text x (m.found_sign text x (rest_of text x) n meaning)
found_sign text x n is.Assigning good on least = assigns text x n good on
found_sign text x n (is.Sign s) good on least = either (Less text (left text x)) (is_prefix x.state s (drop n (rest_of text x))) _ _
    (λ is. prefix text x s n good on least) (λ isnt. plain text x s n good on)

sign_step_by : (text : List ℕ) (x : Machine) (found : Option Found) → Good text x → IfSome found (λ f. (least_len f.meaning ≤ f.len) × OnLine (rest_of text x) f.len)
    → Falls text x (m.sign_step text x (rest_of text x) found)
sign_step_by text x None good on = tt
sign_step_by text x (Some found) good on = found_sign text x found.len found.meaning good on.1 on.0

sign_step : (text : List ℕ) (x : Machine) → Good text x → Falls text x (m.sign_step text x (rest_of text x) (sign_here (rest_of text x)))
sign_step text x good = sign_step_by text x (sign_here (rest_of text x)) good (sign_on (rest_of text x))

-- ---- in code: the tokens

colon : (text : List ℕ) (x : Machine) (symbol : Option RubyToken) → Good text x → IfSome symbol (Taken x.state (rest_of text x))
    → Falls text x (m.colon text x (rest_of text x) symbol)
colon text x (Some symbol) good taken = puts text x symbol good taken
colon text x None good taken = sign_step text x good

variable_on : (text : List ℕ) → (begins 64 text || begins 36 text) ≡ true → 1 ≤ line_len text
variable_on text is = by_first (begins 64 text) refl
  where
    by_first : (b : Bool) → begins 64 text ≡ b → 1 ≤ line_len text
    by_first true first = begins_on 64 refl text first
    by_first false first = begins_on 36 refl text (sym (ap (λ b. b || begins 36 text) first) ∙ is)

other : (text : List ℕ) (x : Machine) → Good text x → Falls text x (other_token text x (rest_of text x))
unfolding other_token
other text x good = let rest = rest_of text x in let P = Less text (left text x) in
    either P (begins 64 rest || begins 36 rest) _ _ (λ is. gives text x (variable_here x.state rest) good (variable_here_on x.state rest (variable_on rest is)))
    (λ isnt. either P (begins 39 rest) _ _ (λ is. opens_quoted text x quotes.Plain false k.StringOpen 1 good (omega arith, begins_on 39 refl rest is))
    (λ isnt. either P (begins 34 rest) _ _ (λ is. opens_quoted text x quotes.Double false k.StringOpen 1 good (omega arith, begins_on 34 refl rest is))
    (λ isnt. either P (begins 58 rest && begins 34 (drop 1 rest)) _ _
    (λ is. let parts : (begins 58 rest ≡ true) × (begins 34 (drop 1 rest) ≡ true) = and_parts _ _ is in
    opens_quoted text x quotes.Symbol (is_first x.state.alias) k.SymbolOpen 2 good (omega arith, further 1 1 rest (begins_on 58 refl rest parts.0) (begins_on 34 refl (drop 1 rest) parts.1)))
    (λ isnt. either P (begins 58 rest) _ _ (λ is. colon text x (symbol_here x.state rest) good (symbol_here_on x.state rest is))
    (λ isnt. sign_step text x good)))))

tokens : (text : List ℕ) (x : Machine) → Good text x → Falls text x (token_step text x (rest_of text x))
unfolding token_step
tokens text x good = let rest = rest_of text x in let P = Less text (left text x) in
    either P (first_is is_digit rest) _ _ (λ is. gives text x (number_here false x.state rest) good (plain_number x.state rest is))
    (λ digit. either P (begins_word rest) _ _ (λ is. gives text x (word_here text x.state rest) good (word_here_on text x.state rest digit is)) (λ isnt. other text x good))

name_step : (text : List ℕ) (x : Machine) (name : Option RubyToken) → Good text x → IfSome name (Taken x.state (rest_of text x))
    → Falls text x (m.name_step text x (rest_of text x) name)
name_step text x (Some name) good taken = puts text x name good taken
name_step text x None good taken = tokens text x good

visible : (text : List ℕ) (x : Machine) → Good text x → Falls text x (visible_step text x (rest_of text x))
unfolding visible_step
visible text x good = either (Less text (left text x)) (is_place_of_name x.state) _ _
    (λ is. name_step text x (name_here x.state (rest_of text x)) good (name_here_on x.state (rest_of text x))) (λ isnt. tokens text x good)

line : (text : List ℕ) (x : Machine) → Good text x → Falls text x (line_step text x (rest_of text x))
unfolding line_step
line text x good = let rest = rest_of text x in let P = Less text (left text x) in
    either P (is_nil rest) _ _ (λ is. at_end text x (m.innermost x.stack))
    (λ more. let some : 0 < length rest = has_some rest more in
    either P (not (blank_len rest == 0)) _ _ (λ is. moves text x (past_blank x.state rest) good (behind_blank text x.state some (positive (blank_len rest) (not-true (blank_len rest == 0) is))))
    (λ isnt. either P (begins 35 rest) _ _ (λ is. moves text x (past_comment x.state rest) good (behind_comment text x.state is))
    (λ isnt. either P (not (line_end_len rest == 0)) _ _ (λ is. line_end text x (line_end_len rest) good (positive (line_end_len rest) (not-true (line_end_len rest == 0) is)) some)
    (λ isnt. visible text x good))))

code : (text : List ℕ) (x : Machine) → Good text x → Falls text x (code_step text x (rest_of text x))
unfolding code_step
code text x good = let n = comment_here text x.state (rest_of text x) in
    either (Less text (left text x)) (n == 0) _ _ (λ none. line text x good)
    (λ is. let some : 0 < n = positive n is in
    let parts : (begins_line text x.state.place ≡ true) × (0 < long_comment_len (rest_of text x)) = comment_by x.state.line_start (begins_line text x.state.place) (long_comment_len (rest_of text x)) some in
    moves text x (record x.state { place = x.state.place + n }) good
    (behind_long_comment text x.state.place n x.state.bodies_end good.0 parts.0 some (comment_some (rest_of text x) parts.1)))

-- ---- in texts

-- the part that was read moves no place and opens nothing
carried_by : (b : Bool) (P : ℕ → Option ℕ → List Opened → Type 0) (kind : RubyKind) (x : Machine) → P x.state.place x.state.bodies_end x.stack
    → (let f : Machine = if b then x else record x { state = put x.state (part_token kind x); part = []; tokens = x.tokens ++ part_token kind x ∷ [] } in P f.state.place f.state.bodies_end f.stack)
carried_by true P kind x is = is
carried_by false P kind x is = is

carried : (P : ℕ → Option ℕ → List Opened → Type 0) (kind : RubyKind) (x : Machine) → P x.state.place x.state.bodies_end x.stack
    → P (flushed kind x).state.place (flushed kind x).state.bodies_end (flushed kind x).stack
carried P kind x is = carried_by (is_nil x.part) P kind x is

good_part : (text : List ℕ) (kind : RubyKind) (x : Machine) → Good text x → Good text (flushed kind x)
good_part text kind x good = carried (λ place bodies_end stack. AtPlace text place bodies_end × AllOpen text stack) kind x good

on_part : (text : List ℕ) (kind : RubyKind) (x : Machine) (n : ℕ) → OnLine (rest_of text x) n → OnLine (rest_of text (flushed kind x)) n
on_part text kind x n on = carried (λ place bodies_end stack. OnLine (drop place text) n) kind x on

left_part : (text : List ℕ) (kind : RubyKind) (x : Machine) → left text (flushed kind x) ≤ left text x
left_part text kind x = carried (λ place bodies_end stack. left_at text place bodies_end + kept_lines text stack ≤ left text x) kind x (omega arith)

behind_piece : (text : List ℕ) (s : State) (p : Piece) → 0 < length (drop s.place text) → PieceOn (drop s.place text) p
    → Moves text s.place s.bodies_end (past_piece_state s p).place (past_piece_state s p).bodies_end
behind_piece text s p more on = by_end p.ends_line on
  where
    by_end : (b : Bool) → Passes b (drop s.place text) p.len → (let y : State = if b then past_line s p.len else record s { place = s.place + p.len } in Moves text s.place s.bodies_end y.place y.bodies_end)
    by_end true some = behind_end text s.place p.len s.bodies_end some more
    by_end false on = behind_front text s.place p.len s.bodies_end on

past_piece : (text : List ℕ) (x : Machine) (p : Piece) → Good text x → 0 < length (rest_of text x) → PieceOn (rest_of text x) p → Falls text x (m.past_piece x p)
past_piece text x p good more on = λ goes. less_by text x.state.place (past_piece_state x.state p).place x.state.bodies_end (past_piece_state x.state p).bodies_end x.stack x.stack
    (behind_piece text x.state p more on) (omega arith) good.1

opens_code : (text : List ℕ) (x : Machine) → Good text x → OnLine (rest_of text x) 2 → Falls text x (m.opens_code x)
opens_code text x good on = let f : Machine = flushed k.Part x in
    lower text x f (m.opens_code x) (left_part text k.Part x) (opens text f (token f.state k.CodeOpen value.Absent 2) opened.Code (good_part text k.Part x good) refl tt (2, (refl, on_part text k.Part x 2 on)))

closes : (text : List ℕ) (x : Machine) (part kind : RubyKind) (v : RubyValue) (n : ℕ) → Good text x → OnLine (rest_of text x) n → Falls text x (m.closes x part kind v n)
closes text x part kind v n good on = let f : Machine = flushed part x in let y : Machine = record f { stack = popped f.stack } in
    let same : left text f ≤ left text x = left_part text part x in
    let kept : kept_lines text (popped f.stack) ≤ kept_lines text f.stack = popped_kept text f.stack in
    let fine : Good text f = good_part text part x good in
    lower text x y (m.closes x part kind v n) (omega (arith, same, kept))
    (puts text y (token f.state kind v n) (fine.0, popped_open text f.stack fine.1) (n, (refl, on_part text part x n on)))

second_name : (text : List ℕ) (x : Machine) (b : Bool) (s : Step) → Falls text x s → Falls text x (m.before_second_name b s)
second_name text x true (Ok next) falls = falls
second_name text x true (Err e) falls = tt
second_name text x false s falls = falls

quoted_end : (text : List ℕ) (x : Machine) (q : Quotes) (alias : Bool) → Good text x → 1 ≤ line_len (rest_of text x) → Falls text x (closes_quoted x q alias (drop 1 (rest_of text x)))
unfolding closes_quoted
quoted_end text x quotes.Plain alias good one = closes text x k.Part k.StringClose value.Absent 1 good (omega arith, one)
quoted_end text x quotes.Double alias good one = closes text x k.Part k.StringClose value.Absent 1 good (omega arith, one)
quoted_end text x quotes.Symbol alias good one = second_name text x alias (m.closes x k.Part k.SymbolClose value.Absent 1) (closes text x k.Part k.SymbolClose value.Absent 1 good (omega arith, one))
quoted_end text x quotes.Regexp alias good one = let behind = drop 1 (rest_of text x) in
    closes text x k.Part k.RegexpClose (value.Text (take (flags_len behind) behind)) (1 + flags_len behind) good (regexp_end_on (rest_of text x) one)

quoted : (text : List ℕ) (x : Machine) (q : Quoted) → Good text x → Falls text x (quoted_step x q (rest_of text x))
unfolding quoted_step
quoted text x q good = let rest = rest_of text x in let P = Less text (left text x) in
    either P (is_nil rest) _ _ (λ is. tt)
    (λ more. let some : 0 < length rest = has_some rest more in
    either P (begins (closer q.quotes) rest) _ _ (λ is. quoted_end text x q.quotes q.alias good (closer_on q.quotes rest is))
    (λ isnt. either P (has_code q.quotes && begins_code rest) _ _ (λ is. opens_code text x good (code_on rest (and_parts (has_code q.quotes) (begins_code rest) is).1))
    (λ isnt. past_piece text x (piece_here q.quotes rest) good some (piece_here_on q.quotes rest some))))

words : (text : List ℕ) (x : Machine) (w : Words) → Good text x → is_line_end w.closer ≡ false → Falls text x (words_step x w (rest_of text x))
unfolding words_step
words text x w good isnt_end = let rest = rest_of text x in let P = Less text (left text x) in let f : Machine = flushed k.Word x in
    either P (is_nil rest) _ _ (λ is. tt)
    (λ more. let some : 0 < length rest = has_some rest more in
    either P (begins w.closer rest) _ _ (λ is. closes text x k.Word k.WordsClose value.Absent 1 good (omega arith, begins_on w.closer isnt_end rest is))
    (λ isnt. either P (first_is is_space rest) _ _
    (λ is. lower text x f (m.past_space x) (left_part text k.Word x) (moves text f (record f.state { place = f.state.place + 1 }) (good_part text k.Word x good)
    (behind_front text f.state.place 1 f.state.bodies_end (on_part text k.Word x 1 (omega arith, first_on is_space refl refl rest is)))))
    (λ isnt. either P (not (line_end_len rest == 0)) _ _
    (λ is. lower text x f (m.past_words_line x (line_end_len rest)) (left_part text k.Word x) (moves text f (past_line f.state (line_end_len rest)) (good_part text k.Word x good)
    (behind_end text f.state.place (line_end_len rest) f.state.bodies_end (positive (line_end_len rest) (not-true (line_end_len rest == 0) is))
    (carried (λ place bodies_end stack. 0 < length (drop place text)) k.Word x some))))
    (λ none. λ goes. less_by text x.state.place (x.state.place + 1) x.state.bodies_end x.state.bodies_end x.stack x.stack
    (behind_front text x.state.place 1 x.state.bodies_end (omega arith, no_end rest some (not_not (line_end_len rest) none))) (omega arith) good.1))))
  where
    not_by : (n : ℕ) (b : Bool) → (n == 0) ≡ b → not b ≡ false → n ≡ 0
    not_by n true is none = eqb-true n 0 is
    not_by n false is none = absurd (let no : true ≡ false = none in cc)

    not_not : (n : ℕ) → not (n == 0) ≡ false → n ≡ 0
    not_not n none = not_by n (n == 0) refl none

-- ---- in heredocs

-- a line that is a word isn't the text's end
word_some : (word text : List ℕ) → 0 < length word → is_line word text ≡ true → 0 < length text
word_some [] text some is = absurd (omega (arith, some))
word_some (w ∷ ws) [] some is = absurd (let no : false ≡ true = is in cc)
word_some (w ∷ ws) (b ∷ bs) some is = omega arith

slice_some : (text : List ℕ) (start end : ℕ) → start < end → start < length text → 0 < length (slice text start end)
slice_some text start end some within = let rest : length (drop start text) ≡ length text - start = length-drop start text in
    let size : length (slice text start end) ≡ min (end - start) (length (drop start text)) = length-take (end - start) (drop start text) in omega (arith, some, within, rest, size)

-- the line that ends a heredoc: a line begins at it, and it has a byte
ending : (text : List ℕ) (h : Heredoc) (place : ℕ) (rest : List ℕ) → h.word_start < h.word_end → h.word_start < length text → ends_heredoc text h place rest ≡ true
    → (begins_line text place ≡ true) × (0 < length rest)
unfolding ends_heredoc
ending text h place rest word within is =
    let parts : (begins_line text place ≡ true) × (is_line (slice text h.word_start h.word_end) (drop (spaces_len rest) rest) ≡ true) = and_parts _ _ is in
    let some : 0 < length (drop (spaces_len rest) rest) = word_some (slice text h.word_start h.word_end) (drop (spaces_len rest) rest) (slice_some text h.word_start h.word_end word within) parts.1 in
    let less : length (drop (spaces_len rest) rest) ≡ length rest - spaces_len rest = length-drop (spaces_len rest) rest in
    (parts.0, omega (arith, some, less))

closed : (text : List ℕ) (h : Heredoc) (more : List Opened) (place n : ℕ) (bodies_end : Option ℕ) → AtPlace text place bodies_end → begins_line text place ≡ true
    → AllOpen text (opened.Heredoc h ∷ more) → 0 < n → place < length text
    → (left_at text h.behind (Some (place + n)) + kept_lines text more < left_at text place bodies_end + kept_lines text (opened.Heredoc h ∷ more))
    × (AtPlace text h.behind (Some (place + n)) × AllOpen text more)
closed text h more place n None at begun all some within = (omega (arith, some, within), (all.0.0, all.1))
closed text h more place n (Some bodies_end) at begun all some within = absurd (let no : true ≡ false = sym begun ∙ at in cc)

heredoc_end : (text : List ℕ) (x : Machine) (h : Heredoc) (more : List Opened) → x.stack ≡ opened.Heredoc h ∷ more → Good text x
    → ends_heredoc text h x.state.place (rest_of text x) ≡ true → Falls text x (closes_heredoc x h (rest_of text x))
unfolding closes_heredoc
heredoc_end text x h more is good ends = λ goes. let f : Machine = flushed k.Part x in let rest = rest_of text x in
    let all : AllOpen text (opened.Heredoc h ∷ more) = subst (λ stack. AllOpen text stack) is good.1 in
    let line : (begins_line text x.state.place ≡ true) × (0 < length rest) = ending text h x.state.place rest all.0.1.0 all.0.1.1 ends in
    let size : length rest ≡ length text - x.state.place = length-drop x.state.place text in
    let within : x.state.place < length text = let some : 0 < length rest = line.1 in omega (arith, size, some) in
    let same : f.stack ≡ opened.Heredoc h ∷ more = carried (λ place bodies_end stack. stack ≡ opened.Heredoc h ∷ more) k.Part x is in
    let n = whole_line_len rest in
    let less : (left_at text h.behind (Some (f.state.place + n)) + kept_lines text more < left_at text f.state.place f.state.bodies_end + kept_lines text (opened.Heredoc h ∷ more))
    × (AtPlace text h.behind (Some (f.state.place + n)) × AllOpen text more) =
    closed text h more f.state.place n f.state.bodies_end (good_part text k.Part x good).0 (carried (λ place bodies_end stack. begins_line text place ≡ true) k.Part x line.0) all
    (some_whole rest line.1) (carried (λ place bodies_end stack. place < length text) k.Part x within) in
    let whole : left text f ≤ left text x = left_part text k.Part x in
    let kept : kept_lines text f.stack ≡ kept_lines text (opened.Heredoc h ∷ more) = ap (kept_lines text) same in
    let behind : kept_lines text (popped f.stack) ≡ kept_lines text more = ap (λ stack. kept_lines text (popped stack)) same in
    let first : left_at text h.behind (Some (f.state.place + n)) + kept_lines text more < left_at text f.state.place f.state.bodies_end + kept_lines text (opened.Heredoc h ∷ more) = less.0 in
    (omega (arith, first, whole, kept, behind), (less.1.0, subst (λ stack. AllOpen text (popped stack)) (sym same) less.1.1))

heredoc : (text : List ℕ) (x : Machine) (h : Heredoc) (more : List Opened) → x.stack ≡ opened.Heredoc h ∷ more → Good text x
    → Falls text x (heredoc_step text x h (rest_of text x))
unfolding heredoc_step
heredoc text x h more is good = let rest = rest_of text x in let P = Less text (left text x) in
    either P (ends_heredoc text h x.state.place rest) _ _ (λ ends. heredoc_end text x h more is good ends)
    (λ goes. either P (is_nil rest) _ _ (λ nil. tt)
    (λ others. let some : 0 < length rest = has_some rest others in
    either P h.plain _ _ (λ plain. past_piece text x (as_written rest) good some (written_on rest some))
    (λ escapes. either P (begins_code rest) _ _ (λ code. opens_code text x good (code_on rest code))
    (λ piece. past_piece text x (piece_here quotes.Double rest) good some (piece_here_on quotes.Double rest some)))))

-- ---- the run

by_top : (text : List ℕ) (x : Machine) (stack : List Opened) → x.stack ≡ stack → Good text x → Falls text x (m.step_in text x (m.top stack) (rest_of text x))
by_top text x [] is good = code text x good
by_top text x (opened.Quoted q ∷ more) is good = quoted text x q good
by_top text x (opened.Words w ∷ more) is good = words text x w good (subst (λ stack. AllOpen text stack) is good.1).0
by_top text x (opened.Heredoc h ∷ more) is good = heredoc text x h more is good
by_top text x (opened.Brace ∷ more) is good = code text x good
by_top text x (opened.Code ∷ more) is good = code text x good

pub one_step : (text : List ℕ) (x : Machine) → Good text x → Falls text x (step text x)
unfolding step
one_step text x good = by_top text x x.stack refl good

-- behind a step, where what is answered from there on is what the run gives
behind_step : (n i : ℕ) (text : List ℕ) (size : ℕ) (s : Step) → IfOk s (Less text size) → size ≤ n → size ≤ i
    → ((next : Machine) → Good text next → left text next < n → left text next < i → answer_within n text next ≡ Some (run i text next))
    → elim s [ Ok next ↦ if is_so is_end next.state.last then Some (Ok next.tokens) else answer_within n text next | Err e ↦ Some (Err e) ]
    ≡ Some (elim s [ Ok next ↦ if is_so is_end next.state.last then Ok next.tokens else run i text next | Err e ↦ Err e ])
behind_step n i text size (Err e) falls first second more = refl
behind_step n i text size (Ok next) falls first second more = by_last (is_so is_end next.state.last) refl
  where
    by_last : (b : Bool) → is_so is_end next.state.last ≡ b → (if b then Some (Ok next.tokens) else answer_within n text next) ≡ Some (if b then Ok next.tokens else run i text next)
    by_last true last = refl
    by_last false last = let less : left text next < size = (falls last).0 in more next (falls last).1 (omega (arith, less, first)) (omega (arith, less, second))

pub runs : (n i : ℕ) (text : List ℕ) (x : Machine) → Good text x → left text x < n → left text x < i → answer_within n text x ≡ Some (run i text x)
runs zero i text x good first second = absurd (omega (arith, first))
runs (suc n) zero text x good first second = absurd (omega (arith, second))
runs (suc n) (suc i) text x good first second = behind_step n i text (left text x) (step text x) (one_step text x good) (omega (arith, first)) (omega (arith, second)) (λ next. runs n i text next)

-- at the start
pub good_start : (text : List ℕ) → Good text at_start
good_start text = (tt, tt)

-- more steps than there are bytes suffice
pub steps_suffice : (text : List ℕ) (steps : ℕ) → length text < steps → answer_within steps text at_start ≡ Some (tokens_of text)
unfolding tokens_of
steps_suffice text steps enough = runs steps (suc (length text)) text at_start (good_start text) (omega (arith, enough)) (omega arith)
