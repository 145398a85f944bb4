-- Each piece of what is printed is the longest run where it stands.
pub use Rattle.rbs_printer.proofs.Follow.{ends_word, has_mark}
pub use Rattle.rbs_printer.proofs.SignTokens.{blank_is_front, left_paren_is_front, right_paren_is_front, left_bracket_is_front, right_bracket_is_front, left_brace_is_front, right_brace_is_front, comma_is_front, question_is_front, colons_is_front, colon_is_front, arrow_is_front, bar_is_front, ampersand_is_front, star_is_front, star_star_is_front, caret_is_front}
pub use Rattle.rbs_printer.proofs.WordTokens.{word_utf8, word_is_front}
pub use Rattle.rbs_printer.proofs.IntegerTokens.{integer_utf8, integer_is_front}
pub use Rattle.rbs_printer.proofs.StringTokens.{string_utf8, string_is_front}
pub use Rattle.rbs_printer.proofs.SymbolTokens.{symbol_utf8, symbol_is_front}
