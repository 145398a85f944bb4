use Rattle.std.proofs.Common.{rules, arith, ◌∙◌}
use Rattle.std.proofs.lemmas.Grind.{common_steps}
use Rattle.rbs_grammar.specs.Levels.{rooms}
use Rattle.rbs_parser.proofs.Adding.{params_begin, params_end}
use Rattle.rbs_parser.proofs.Steps.{turn_refused, turn_taken, turn_smaller}
use Rattle.rbs_parser.proofs.types.Types.params.Goals as goal

pub returns-in_err-first : goal.returns-in_err-first
returns-in_err-first g c =
    let e = params_begin (rooms c.args.self.now.marked c.args.self.now.functions) c.args.cursor.now in
    first_of (search rules, grind (arith, common_steps))

pub items-init : goal.items-init
items-init g c =
    let e = params_begin (rooms c.args.self.now.marked c.args.self.now.functions) c.args.cursor.now in
    first_of (search rules, grind (arith, common_steps))

pub returns-in_err-held : goal.returns-in_err-held
returns-in_err-held g c =
    let e = turn_refused c.args.self.now.marked c.args.self.now.functions c.items.all c.items.stage c.items.cursor c.next_param-found.new.cursor c.next_param-found.result c.items-test.ensures c.next_param-found.ensures c.in_err-held.field-0.0 c.in_err-held.ensures in
    first_of (search rules, grind (arith, common_steps))

pub items-smaller : goal.items-smaller
items-smaller g c = turn_smaller c.args.self.now.marked c.args.self.now.functions c.items.all c.items.stage c.items.cursor c.next_param-found.new.cursor c.next_param-found.result c.items-test.ensures c.next_param-found.ensures c.in_ok-held.held c.in_ok-held.next c.in_ok-held.behind c.in_ok-held.ensures

pub items-preserved : goal.items-preserved
items-preserved g c = c.items.invariant ∙ turn_taken c.args.self.now.marked c.args.self.now.functions c.items.all c.items.stage c.items.cursor c.next_param-found.new.cursor c.next_param-found.result c.items-test.ensures c.next_param-found.ensures c.in_ok-held.held c.in_ok-all-2.all c.in_ok-held.next c.in_ok-held.behind c.in_ok-held.ensures c.in_ok-all-2.ensures

pub returns : goal.returns
returns g c = c.items.invariant ∙ params_end (rooms c.args.self.now.marked c.args.self.now.functions) c.items.all c.items.stage c.items.cursor c.items-test.ensures
