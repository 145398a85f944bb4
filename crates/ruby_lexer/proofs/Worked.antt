-- Worked rows, computed: small texts and their tokens.
use Rattle.std.proofs.Common.{◌≡◌, ℕ, pos, negsuc, Bool, true, false, [], ◌∷◌, Ok, Err, refl}
use Rattle.ruby_lexer.specs.declared.kind.RubyKind.{RubyKind}
use Rattle.ruby_lexer.specs.declared.kind.RubyKind.TheVariants as k
use Rattle.ruby_lexer.specs.declared.kind.Keyword.TheVariants as word
use Rattle.ruby_lexer.specs.declared.kind.Sign.TheVariants as sign
use Rattle.ruby_lexer.specs.declared.token.RubyToken.{RubyToken}
use Rattle.ruby_lexer.specs.declared.token.RubyValue.{RubyValue}
use Rattle.ruby_lexer.specs.declared.token.RubyValue.TheVariants as value
use Rattle.ruby_lexer.specs.declared.token.WordsOf.TheVariants as words
use Rattle.ruby_lexer.specs.declared.refusal.RubyAt.TheVariants as at
use Rattle.ruby_lexer.specs.declared.refusal.Form.TheVariants as form
use Rattle.ruby_lexer.specs.Lines.{ends_comment, begins_comment, begins_with_dot}
use Rattle.ruby_lexer.specs.Kinds.{ends_value}
use Rattle.ruby_lexer.specs.Words.{word_here, name_here, variable_here}
use Rattle.ruby_lexer.specs.Symbols.{operator_len, symbol_here}
use Rattle.ruby_lexer.specs.Numbers.{number_here}
use Rattle.ruby_lexer.specs.Signs.{sign_here, is_prefix}
use Rattle.ruby_lexer.specs.Strings.{piece_here}
use Rattle.ruby_lexer.specs.Heredocs.{opening_here, ends_heredoc}
use Rattle.ruby_lexer.specs.Machine.{ends_line, plain_sign, prefix_sign, assigning, other_token, token_step, visible_step, line_step, code_step, closes_quoted, quoted_step, words_step, closes_heredoc, heredoc_step, step, tokens_of}
use Rattle.std.specs.Char.{encode_utf8}

-- A row unfolds this, and with it all that is computed.
computed : Unit {0}
unfolding ends_comment begins_comment begins_with_dot ends_value word_here name_here variable_here operator_len symbol_here number_here sign_here is_prefix piece_here opening_here ends_heredoc ends_line plain_sign prefix_sign assigning other_token token_step visible_step line_step code_step closes_quoted quoted_step words_step closes_heredoc heredoc_step step tokens_of encode_utf8
computed = tt

abbrev a : RubyKind → RubyValue → ℕ → ℕ → Bool → RubyToken
a kind value start end blank = record { kind = kind; value = value; span = record { start = start; end = end }; blank = blank }

-- the end alone
pub row_empty : tokens_of [] ≡ Ok (a k.End value.Absent 0 0 false
    ∷ [])
unfolding computed
row_empty = refl

-- a keyword where a name stands is a name, and elsewhere it isn't
pub row_a_call : tokens_of (120 ∷ 46 ∷ 99 ∷ 108 ∷ 97 ∷ 115 ∷ 115 ∷ 32 ∷ 105 ∷ 102 ∷ 32 ∷ 65 ∷ 10 ∷ []) ≡ Ok (a k.Identifier (value.Text (120 ∷ [])) 0 1 false
    ∷ a (k.Sign sign.Dot) value.Absent 1 2 false
    ∷ a k.NamedWord (value.Text (99 ∷ 108 ∷ 97 ∷ 115 ∷ 115 ∷ [])) 2 7 false
    ∷ a (k.Keyword word.If) value.Absent 8 10 true
    ∷ a k.Constant (value.Text (65 ∷ [])) 11 12 true
    ∷ a k.Newline value.Absent 12 13 false
    ∷ a k.End value.Absent 13 13 false
    ∷ [])
unfolding computed
row_a_call = refl

-- `a -1` is a command of a negative integer, `- b` isn't
pub row_minus : tokens_of (97 ∷ 32 ∷ 45 ∷ 49 ∷ 32 ∷ 45 ∷ 32 ∷ 98 ∷ []) ≡ Ok (a k.Identifier (value.Text (97 ∷ [])) 0 1 false
    ∷ a k.Integer (value.Integer (negsuc 0)) 2 4 true
    ∷ a (k.Sign sign.Minus) value.Absent 5 6 true
    ∷ a k.Identifier (value.Text (98 ∷ [])) 7 8 true
    ∷ a k.End value.Absent 8 8 false
    ∷ [])
unfolding computed
row_minus = refl

-- an escape, and code in a text
pub row_text : tokens_of (34 ∷ 97 ∷ 92 ∷ 110 ∷ 35 ∷ 123 ∷ 98 ∷ 125 ∷ 34 ∷ []) ≡ Ok (a k.StringOpen value.Absent 0 1 false
    ∷ a k.Part (value.Text (97 ∷ 10 ∷ [])) 1 4 false
    ∷ a k.CodeOpen value.Absent 4 6 false
    ∷ a k.Identifier (value.Text (98 ∷ [])) 6 7 false
    ∷ a k.CodeClose value.Absent 7 8 false
    ∷ a k.StringClose value.Absent 8 9 false
    ∷ a k.End value.Absent 9 9 false
    ∷ [])
unfolding computed
row_text = refl

-- a regexp behind an identifier and a blank
pub row_regexp : tokens_of (97 ∷ 32 ∷ 47 ∷ 98 ∷ 47 ∷ 105 ∷ []) ≡ Ok (a k.Identifier (value.Text (97 ∷ [])) 0 1 false
    ∷ a k.RegexpOpen value.Absent 2 3 true
    ∷ a k.Part (value.Text (98 ∷ [])) 3 4 false
    ∷ a k.RegexpClose (value.Text (105 ∷ [])) 4 6 false
    ∷ a k.End value.Absent 6 6 false
    ∷ [])
unfolding computed
row_regexp = refl

-- a heredoc: its body stands behind its opening
pub row_heredoc : tokens_of (102 ∷ 40 ∷ 60 ∷ 60 ∷ 65 ∷ 41 ∷ 10 ∷ 120 ∷ 10 ∷ 32 ∷ 65 ∷ 10 ∷ 49 ∷ []) ≡ Ok (a k.Identifier (value.Text (102 ∷ [])) 0 1 false
    ∷ a (k.Sign sign.LeftParen) value.Absent 1 2 false
    ∷ a k.HeredocOpen value.Absent 2 5 false
    ∷ a k.Part (value.Text (120 ∷ 10 ∷ [])) 7 9 false
    ∷ a k.HeredocClose (value.Body (record { start = 7; end = 9 })) 5 5 false
    ∷ a (k.Sign sign.RightParen) value.Absent 5 6 false
    ∷ a k.Newline value.Absent 6 7 false
    ∷ a k.Integer (value.Integer (pos 1)) 12 13 false
    ∷ a k.End value.Absent 13 13 false
    ∷ [])
unfolding computed
row_heredoc = refl

-- a line that begins with `.` goes on with the line before, past comments
pub row_dots : tokens_of (97 ∷ 32 ∷ 35 ∷ 32 ∷ 98 ∷ 10 ∷ 32 ∷ 35 ∷ 32 ∷ 99 ∷ 10 ∷ 32 ∷ 46 ∷ 100 ∷ []) ≡ Ok (a k.Identifier (value.Text (97 ∷ [])) 0 1 false
    ∷ a (k.Sign sign.Dot) value.Absent 12 13 true
    ∷ a k.NamedWord (value.Text (100 ∷ [])) 13 14 false
    ∷ a k.End value.Absent 14 14 false
    ∷ [])
unfolding computed
row_dots = refl

-- a word list
pub row_words_list : tokens_of (37 ∷ 119 ∷ 91 ∷ 97 ∷ 32 ∷ 98 ∷ 99 ∷ 93 ∷ []) ≡ Ok (a k.WordsOpen (value.Words words.Strings) 0 3 false
    ∷ a k.Word (value.Text (97 ∷ [])) 3 4 false
    ∷ a k.Word (value.Text (98 ∷ 99 ∷ [])) 5 7 false
    ∷ a k.WordsClose value.Absent 7 8 false
    ∷ a k.End value.Absent 8 8 false
    ∷ [])
unfolding computed
row_words_list = refl

-- a symbol and a name of an alias
pub row_alias_of : tokens_of (97 ∷ 108 ∷ 105 ∷ 97 ∷ 115 ∷ 32 ∷ 97 ∷ 61 ∷ 32 ∷ 58 ∷ 98 ∷ []) ≡ Ok (a (k.Keyword word.Alias) value.Absent 0 5 false
    ∷ a k.NamedWord (value.Text (97 ∷ [])) 6 7 true
    ∷ a (k.Sign sign.Equals) value.Absent 7 8 false
    ∷ a k.Symbol (value.Text (98 ∷ [])) 9 11 true
    ∷ a k.End value.Absent 11 11 false
    ∷ [])
unfolding computed
row_alias_of = refl

-- a label
pub row_label : tokens_of (123 ∷ 97 ∷ 63 ∷ 58 ∷ 32 ∷ 49 ∷ 125 ∷ []) ≡ Ok (a (k.Prefix sign.LeftBrace) value.Absent 0 1 false
    ∷ a k.Label (value.Text (97 ∷ 63 ∷ [])) 1 4 false
    ∷ a k.Integer (value.Integer (pos 1)) 5 6 true
    ∷ a (k.Sign sign.RightBrace) value.Absent 6 7 false
    ∷ a k.End value.Absent 7 7 false
    ∷ [])
unfolding computed
row_label = refl

-- a float is refused, with its minus
pub row_float : tokens_of (45 ∷ 49 ∷ 46 ∷ 53 ∷ 101 ∷ 51 ∷ []) ≡ Err (at.Unsupported (record { start = 0; end = 6 }) form.Float)
unfolding computed
row_float = refl

-- arguments that are handed on are refused
pub row_forwarding : tokens_of (102 ∷ 40 ∷ 46 ∷ 46 ∷ 46 ∷ 41 ∷ []) ≡ Err (at.Unsupported (record { start = 2; end = 5 }) form.Forwarding)
unfolding computed
row_forwarding = refl

-- a text that isn't closed has no token at its opening
pub row_not_closed : tokens_of (34 ∷ 97 ∷ 35 ∷ 123 ∷ 98 ∷ []) ≡ Err (at.Syntax (record { start = 0; end = 1 }))
unfolding computed
row_not_closed = refl

-- an integer past 128 bits
pub row_wide : tokens_of (49 ∷ 55 ∷ 48 ∷ 49 ∷ 52 ∷ 49 ∷ 49 ∷ 56 ∷ 51 ∷ 52 ∷ 54 ∷ 48 ∷ 52 ∷ 54 ∷ 57 ∷ 50 ∷ 51 ∷ 49 ∷ 55 ∷ 51 ∷ 49 ∷ 54 ∷ 56 ∷ 55 ∷ 51 ∷ 48 ∷ 51 ∷ 55 ∷ 49 ∷ 53 ∷ 56 ∷ 56 ∷ 52 ∷ 49 ∷ 48 ∷ 53 ∷ 55 ∷ 50 ∷ 56 ∷ []) ≡ Err (at.Unsupported (record { start = 0; end = 39 }) form.WideInteger)
unfolding computed
row_wide = refl

-- no token
pub row_no_sign : tokens_of (97 ∷ 32 ∷ 96 ∷ []) ≡ Err (at.Syntax (record { start = 2; end = 3 }))
unfolding computed
row_no_sign = refl

-- an assigning operator, and digits of base 16
pub row_assigning : tokens_of (97 ∷ 32 ∷ 124 ∷ 124 ∷ 61 ∷ 32 ∷ 48 ∷ 120 ∷ 49 ∷ 70 ∷ []) ≡ Ok (a k.Identifier (value.Text (97 ∷ [])) 0 1 false
    ∷ a k.Assigning (value.Text (124 ∷ 124 ∷ [])) 2 5 true
    ∷ a k.Integer (value.Integer (pos 31)) 6 10 true
    ∷ a k.End value.Absent 10 10 false
    ∷ [])
unfolding computed
row_assigning = refl

-- a comment of lines
pub row_long_comment : tokens_of (61 ∷ 98 ∷ 101 ∷ 103 ∷ 105 ∷ 110 ∷ 10 ∷ 120 ∷ 10 ∷ 61 ∷ 101 ∷ 110 ∷ 100 ∷ 10 ∷ 64 ∷ 97 ∷ []) ≡ Ok (a k.InstanceVariable (value.Text (64 ∷ 97 ∷ [])) 14 16 false
    ∷ a k.End value.Absent 16 16 false
    ∷ [])
unfolding computed
row_long_comment = refl

-- a character by its number
pub row_unicode : tokens_of (34 ∷ 92 ∷ 117 ∷ 123 ∷ 101 ∷ 57 ∷ 125 ∷ 34 ∷ []) ≡ Ok (a k.StringOpen value.Absent 0 1 false
    ∷ a k.Part (value.Text (195 ∷ 169 ∷ [])) 1 7 false
    ∷ a k.StringClose value.Absent 7 8 false
    ∷ a k.End value.Absent 8 8 false
    ∷ [])
unfolding computed
row_unicode = refl
