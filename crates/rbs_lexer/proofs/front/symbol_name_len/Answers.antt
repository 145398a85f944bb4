use Rattle.std.proofs.Common.{◌≡◌}
use Rattle.rbs_lexer.specs.Finds.{symbol_name_len}
use Rattle.rbs_lexer.proofs.Fronts.{symbol_name_within}
use Rattle.rbs_lexer.proofs.front.symbol_name_len.Goals as goal

is_value : (c : goal.After-longer_len) → c.longer_len.result ≡ symbol_name_len c.args.text.now
unfolding symbol_name_len
is_value c = cc (c.as_bytes-bytes.ensures.value, c.operator_len.ensures, c.string_len.ensures.value, c.longer_len-found.ensures, c.marked_len.ensures.value, c.longer_len-found-2.ensures, c.any_word_len.ensures.value, c.longer_len.ensures)

pub returns-clause-within : goal.returns-clause-within
returns-clause-within c = symbol_name_within c.args.text.now c.longer_len.result c.utf8.text (is_value c)
