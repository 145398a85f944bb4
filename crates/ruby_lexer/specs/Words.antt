-- Words, names and variables.
use Rattle.std.specs.Prelude.{ℕ, ◌+◌, ◌-◌, ◌==◌, Bool, false, not, ◌&&◌, ◌||◌, if◌then◌else◌, List, [], ◌∷◌, length, take, drop, Option, Some, None, Result, Ok, Err, codes, bytes_eq}
use Rattle.ruby_lexer.specs.declared.kind.RubyKind.{RubyKind}
use Rattle.ruby_lexer.specs.declared.kind.RubyKind.TheVariants as k
use Rattle.ruby_lexer.specs.declared.kind.Keyword.{Keyword}
use Rattle.ruby_lexer.specs.declared.kind.Keyword.TheVariants as word
use Rattle.ruby_lexer.specs.declared.refusal.RubyAt.{RubyAt}
use Rattle.ruby_lexer.specs.declared.refusal.Form.{Form}
use Rattle.ruby_lexer.specs.declared.refusal.Form.TheVariants as form
use Rattle.ruby_lexer.specs.declared.token.RubyToken.{RubyToken}
use Rattle.ruby_lexer.specs.declared.token.RubyValue.TheVariants as value
use Rattle.ruby_lexer.specs.declared.state.State.{State}
use Rattle.ruby_lexer.specs.Characters.{is_upper, is_mark, first_is, begins, word_len, word_characters_len, marked_len}
use Rattle.ruby_lexer.specs.Lines.{begins_line, is_bare_line}
use Rattle.ruby_lexer.specs.Kinds.{is_so, is_second, precedes_name}
use Rattle.ruby_lexer.specs.Symbols.{operator_len}
use Rattle.ruby_lexer.specs.Tokens.{token, no_token, refused}

-- the keywords
abbrev pub keywords : List (List ℕ × Keyword)
keywords = (codes "alias", word.Alias) ∷ (codes "and", word.And) ∷ (codes "begin", word.Begin) ∷ (codes "break", word.Break) ∷ (codes "case", word.Case)
    ∷ (codes "class", word.Class) ∷ (codes "def", word.Def) ∷ (codes "defined?", word.Defined) ∷ (codes "do", word.Do) ∷ (codes "else", word.Else)
    ∷ (codes "elsif", word.Elsif) ∷ (codes "end", word.End) ∷ (codes "ensure", word.Ensure) ∷ (codes "false", word.False) ∷ (codes "if", word.If)
    ∷ (codes "module", word.Module) ∷ (codes "next", word.Next) ∷ (codes "nil", word.Nil) ∷ (codes "not", word.Not) ∷ (codes "or", word.Or)
    ∷ (codes "rescue", word.Rescue) ∷ (codes "return", word.Return) ∷ (codes "self", word.SelfWord) ∷ (codes "super", word.Super) ∷ (codes "then", word.Then)
    ∷ (codes "true", word.True) ∷ (codes "unless", word.Unless) ∷ (codes "until", word.Until) ∷ (codes "when", word.When) ∷ (codes "while", word.While)
    ∷ (codes "yield", word.Yield) ∷ (codes "__FILE__", word.File) ∷ []

-- the words that are refused wherever no name stands
abbrev pub refused_words : List (List ℕ × Form)
refused_words = (codes "BEGIN", form.BeginBlock) ∷ (codes "END", form.EndBlock) ∷ (codes "__LINE__", form.Line) ∷ (codes "__ENCODING__", form.Encoding)
    ∷ (codes "for", form.For) ∷ (codes "redo", form.Redo) ∷ (codes "retry", form.Retry) ∷ (codes "undef", form.Undef) ∷ (codes "in", form.Pattern)
    ∷ (codes "_1", form.NumberedParameter) ∷ (codes "_2", form.NumberedParameter) ∷ (codes "_3", form.NumberedParameter) ∷ (codes "_4", form.NumberedParameter)
    ∷ (codes "_5", form.NumberedParameter) ∷ (codes "_6", form.NumberedParameter) ∷ (codes "_7", form.NumberedParameter) ∷ (codes "_8", form.NumberedParameter)
    ∷ (codes "_9", form.NumberedParameter) ∷ []

-- what a table has for these bytes
abbrev pub entry : {T : Type 0} → List ℕ → List (List ℕ × T) → Option T
entry bytes [] = None
entry bytes (e ∷ es) = if bytes_eq bytes e.0 then Some e.1 else entry bytes es

-- a word as it is read where it is no label: a lower-case one with the mark that it takes
abbrev pub whole_word_len : List ℕ → ℕ
whole_word_len text = if first_is is_upper text then word_len text else marked_len text

-- whether one `:` is here, and not two
abbrev pub is_colon : List ℕ → Bool
is_colon [] = false
is_colon (b ∷ bs) = b == 58 && not (begins 58 bs)

-- how long a label is behind its word: a mark or none, and the `:`
abbrev pub label_tail_len : List ℕ → ℕ
label_tail_len text = if is_colon text then 1 else (if first_is is_mark text && is_colon (drop 1 text) then 2 else 0)

-- a label with its `:`
abbrev pub label_len : List ℕ → ℕ
label_len text = let tail = label_tail_len (drop (word_len text) text) in
    if tail == 0 then 0 else word_len text + tail

-- the kind of a word that isn't refused, and what it carries
abbrev pub word_token : State → List ℕ → Option Keyword → RubyToken
word_token s run (Some word) = token s (k.Keyword word) value.Absent (length run)
word_token s run None = token s (if first_is is_upper run then k.Constant else k.Identifier) (value.Text run) (length run)

-- a word that is no label
abbrev pub plain_word : State → List ℕ → Option Form → Result RubyToken RubyAt
plain_word s run (Some form) = Err (refused s (length run) form)
plain_word s run None = Ok (word_token s run (entry run keywords))

-- whether the word here ends the script
abbrev pub ends_script : List ℕ → State → List ℕ → Bool
ends_script text s rest = begins_line text s.place && is_bare_line (codes "__END__") rest

-- the word here, where no name stands
unfoldable pub word_here : List ℕ → State → List ℕ → Result RubyToken RubyAt
word_here text s rest = if label_len rest == 0
    then (if ends_script text s rest then Err (refused s 7 form.EndOfScript)
    else (let run = take (whole_word_len rest) rest in plain_word s run (entry run refused_words)))
    else Ok (token s k.Label (value.Text (take (label_len rest - 1) rest)) (label_len rest))

-- ---- names

-- whether a name stands here
abbrev pub is_place_of_name : State → Bool
is_place_of_name s = is_second s.alias || is_so precedes_name s.last

-- the kind of a word that is a name
abbrev pub name_kind : List ℕ → RubyKind
name_kind run = if bytes_eq run (codes "self") then k.NamedSelf else (if first_is is_upper run then k.NamedConstant else k.NamedWord)

-- the name here: a word, or else the longest operator
unfoldable pub name_here : State → List ℕ → Option RubyToken
name_here s rest = if whole_word_len rest == 0
    then (if operator_len rest == 0 then None else Some (token s k.NamedOperator (value.Text (take (operator_len rest) rest)) (operator_len rest)))
    else (let run = take (whole_word_len rest) rest in Some (token s (name_kind run) (value.Text run) (whole_word_len rest)))

-- ---- variables

-- a variable of so many characters behind its signs
abbrev pub named_variable : State → List ℕ → RubyKind → ℕ → ℕ → Result RubyToken RubyAt
named_variable s rest kind signs len = if len == 0 then Err (no_token s.place 1) else Ok (token s kind (value.Text (take (signs + len) rest)) (signs + len))

-- the variable here: behind `$` stand any characters of words, behind `@` and `@@` a word
unfoldable pub variable_here : State → List ℕ → Result RubyToken RubyAt
variable_here s rest = if begins 36 rest then named_variable s rest k.GlobalVariable 1 (word_characters_len (drop 1 rest))
    else (if begins 64 (drop 1 rest) then named_variable s rest k.ClassVariable 2 (word_len (drop 2 rest))
    else named_variable s rest k.InstanceVariable 1 (word_len (drop 1 rest)))
