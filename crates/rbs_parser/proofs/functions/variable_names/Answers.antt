use Rattle.std.proofs.Common.{rules, arith, ◌∙◌}
use Rattle.std.proofs.lemmas.Grind.{common_steps}
use Rattle.rbs_lexer.specs.declared.kind.Kind.TheVariants as k
use Rattle.rbs_grammar.specs.Levels.{full}
use Rattle.rbs_parser.specs.Parameters.{variable_name}
use Rattle.rbs_parser.proofs.Variables.{fine_variables}
use Rattle.rbs_parser.proofs.Loops.{begin_rest, step_rest, end_rest, smaller_rest}
use Rattle.rbs_parser.proofs.functions.variable_names.Goals as goal

pub returns-in_err-first : goal.returns-in_err-first
returns-in_err-first c =
    let e = begin_rest full k.Comma variable_name fine_variables c.args.cursor.now in
    first_of (search rules, grind (arith, common_steps))

pub items-init : goal.items-init
items-init c =
    let e = begin_rest full k.Comma variable_name fine_variables c.args.cursor.now in
    first_of (search rules, grind (arith, common_steps))

pub returns-in_err-next : goal.returns-in_err-next
returns-in_err-next c =
    let e = step_rest full k.Comma variable_name fine_variables c.items.all c.items.cursor c.items-test.ensures.found in
    first_of (search rules, grind (arith, common_steps))

pub items-smaller : goal.items-smaller
items-smaller c = smaller_rest full k.Comma variable_name fine_variables c.items.cursor c.eat.new.self c.variable_name-in-items.new.cursor c.in_ok-next.next c.items-test.ensures.found c.items-test.ensures.after c.in_ok-next.ensures

pub items-preserved : goal.items-preserved
items-preserved c =
    let e = step_rest full k.Comma variable_name fine_variables c.items.all c.items.cursor c.items-test.ensures.found in
    first_of (search rules, grind (arith, common_steps))

pub returns : goal.returns
returns c = c.items.invariant ∙ end_rest full k.Comma variable_name fine_variables c.items.all c.items.cursor c.eat.new.self c.items-test.ensures.found c.items-test.ensures.after
