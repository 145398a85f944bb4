use Rattle.std.proofs.Common.{rules, arith, ◌∙◌}
use Rattle.std.proofs.lemmas.Grind.{common_steps}
use Rattle.rbs_grammar.specs.Levels.{rooms}
use Rattle.rbs_grammar.specs.Members.{a_declaration}
use Rattle.rbs_grammar.specs.Declarations.{file}
use Rattle.rbs_parser.proofs.FineMembers.{fine_declaration, some_declaration, first_declaration}
use Rattle.rbs_parser.proofs.Loops.{begin_more, step_more, end_more, smaller_more}
use Rattle.rbs_parser.proofs.declarations.Declarations.declarations.Goals as goal

pub items-init : goal.items-init
unfolding file
items-init g c =
    let e = begin_more (rooms c.args.self.now.room.marked c.args.self.now.room.functions) a_declaration fine_declaration some_declaration c.args.cursor.now in
    first_of (search rules, grind (arith, common_steps))

pub returns-in_err-next : goal.returns-in_err-next
returns-in_err-next g c =
    let e = step_more (rooms c.args.self.now.room.marked c.args.self.now.room.functions) a_declaration fine_declaration some_declaration c.items.all c.items.cursor (first_declaration c.items.cursor c.items-test.ensures) in
    first_of (search rules, grind (arith, common_steps))

pub items-smaller : goal.items-smaller
items-smaller g c = smaller_more (rooms c.args.self.now.room.marked c.args.self.now.room.functions) a_declaration fine_declaration some_declaration c.items.cursor c.a_declaration.new.cursor c.in_ok-next.next c.in_ok-next.ensures

pub items-preserved : goal.items-preserved
items-preserved g c =
    let e = step_more (rooms c.args.self.now.room.marked c.args.self.now.room.functions) a_declaration fine_declaration some_declaration c.items.all c.items.cursor (first_declaration c.items.cursor c.items-test.ensures) in
    first_of (search rules, grind (arith, common_steps))

pub returns : goal.returns
returns g c = c.items.invariant ∙ end_more (rooms c.args.self.now.room.marked c.args.self.now.room.functions) a_declaration fine_declaration some_declaration c.items.all c.items.cursor (first_declaration c.items.cursor c.items-test.ensures)
