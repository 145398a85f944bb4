use Rattle.std.proofs.Common.{rules, arith, ◌∙◌}
use Rattle.std.proofs.lemmas.Grind.{common_steps}
use Rattle.rbs_grammar.specs.Levels.{rooms}
use Rattle.rbs_parser.proofs.FieldLoops.{begin_fields, step_fields, end_comma, end_fields, smaller_fields}
use Rattle.rbs_parser.proofs.types.Types.fields.Goals as goal

pub returns-in_err-first : goal.returns-in_err-first
returns-in_err-first g c =
    let e = begin_fields (rooms c.args.self.now.marked c.args.self.now.functions) c.args.cursor.now in
    first_of (search rules, grind (arith, common_steps))

pub items-init : goal.items-init
items-init g c =
    let e = begin_fields (rooms c.args.self.now.marked c.args.self.now.functions) c.args.cursor.now in
    first_of (search rules, grind (arith, common_steps))

pub returns-then-not-sees : goal.returns-then-not-sees
returns-then-not-sees g c = c.items.invariant
    ∙ end_comma (rooms c.args.self.now.marked c.args.self.now.functions) c.items.all c.items.cursor c.eat.new.self c.items-test.ensures.found c.items-test.ensures.after c.if-not-sees.ensures

pub returns-in_err-next : goal.returns-in_err-next
returns-in_err-next g c =
    let e = step_fields (rooms c.args.self.now.marked c.args.self.now.functions) c.items.all c.items.cursor c.eat.new.self c.items-test.ensures.found c.items-test.ensures.after c.if-not-sees.ensures in
    first_of (search rules, grind (arith, common_steps))

pub items-smaller : goal.items-smaller
items-smaller g c = smaller_fields (rooms c.args.self.now.marked c.args.self.now.functions) c.items.cursor c.eat.new.self c.field-in-items.new.cursor c.in_ok-next.next c.items-test.ensures.found c.items-test.ensures.after c.in_ok-next.ensures

pub items-preserved : goal.items-preserved
items-preserved g c =
    let e = step_fields (rooms c.args.self.now.marked c.args.self.now.functions) c.items.all c.items.cursor c.eat.new.self c.items-test.ensures.found c.items-test.ensures.after c.if-not-sees.ensures in
    first_of (search rules, grind (arith, common_steps))

pub returns : goal.returns
returns g c = c.items.invariant ∙ end_fields (rooms c.args.self.now.marked c.args.self.now.functions) c.items.all c.items.cursor c.eat.new.self c.items-test.ensures.found c.items-test.ensures.after
