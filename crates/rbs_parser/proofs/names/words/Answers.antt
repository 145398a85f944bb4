use Rattle.std.proofs.Common.{rules, arith, ◌∙◌}
use Rattle.std.proofs.lemmas.Grind.{common_steps}
use Rattle.rbs_parser.proofs.NameWords.{words_begin, words_step, words_end, words_smaller}
use Rattle.rbs_parser.proofs.names.words.Goals as goal

pub returns-in_err-first : goal.returns-in_err-first
returns-in_err-first c =
    let e = words_begin c.args.lone c.args.ends c.args.cursor.now in
    first_of (search rules, grind (arith, common_steps))

pub items-init : goal.items-init
items-init c =
    let e = words_begin c.args.lone c.args.ends c.args.cursor.now in
    first_of (search rules, grind (arith, common_steps))

pub returns-in_err-next : goal.returns-in_err-next
returns-in_err-next c =
    let h = c.in_err-next.ensures c.items.stage in
    let e = words_step c.args.lone c.args.ends c.items.words c.items.stage c.items.cursor c.items-test.ensures in
    first_of (search rules, grind (arith, common_steps))

pub items-preserved : goal.items-preserved
items-preserved c =
    let h = c.in_ok-next.ensures c.items.stage in
    let e = words_step c.args.lone c.args.ends c.items.words c.items.stage c.items.cursor c.items-test.ensures in
    first_of (search rules, grind (arith, common_steps))

pub items-smaller : goal.items-smaller
items-smaller c = words_smaller c.args.lone c.args.ends c.items.stage c.items.cursor c.name_part.new.cursor (c.in_ok-next.next.now, c.in_ok-next.after) (c.in_ok-next.ensures c.items.stage)

pub returns : goal.returns
returns c = c.items.invariant ∙ words_end c.args.lone c.args.ends c.items.words c.items.stage c.items.cursor c.items-test.ensures
