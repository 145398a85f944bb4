use Rattle.std.proofs.Common.{rules, arith, ◌∙◌}
use Rattle.std.proofs.lemmas.Grind.{common_steps}
use Rattle.rbs_parser.proofs.NameWords.{outer_begin, outer_step, outer_end}
use Rattle.rbs_parser.proofs.names.outer_words.Goals as goal

pub items-init : goal.items-init
items-init c =
    let e = outer_begin c.args.cursor.now in
    first_of (search rules, grind (arith, common_steps))

pub returns-in_err-next : goal.returns-in_err-next
returns-in_err-next c =
    let e = outer_step c.items.words c.items.cursor c.items-test.ensures in
    first_of (search rules, grind (arith, common_steps))

pub items-preserved : goal.items-preserved
items-preserved c =
    let e = outer_step c.items.words c.items.cursor c.items-test.ensures in
    first_of (search rules, grind (arith, common_steps))

pub returns : goal.returns
returns c = c.items.invariant ∙ outer_end c.items.words c.items.cursor c.items-test.ensures
