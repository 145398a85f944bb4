use Rattle.std.proofs.Common.{◌≡◌, sym, ◌∙◌, rules}
use Rattle.std.specs.Prelude.{slice_index}
use Rattle.rbs_lexer.proofs.Keywords.{of_a}
use Rattle.rbs_lexer.proofs.words.word_kind.Goals as goal

pub returns-in-97 : goal.returns-in-97
returns-in-97 c =
    let first : slice_index c.args.word.now 0 ≡ 97 = Prim.search rules in
    c.kind_among.ensures ∙ sym (of_a c.args.word.now first)
