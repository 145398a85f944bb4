use Rattle.std.proofs.Common.{rules, arith, ◌∙◌}
use Rattle.std.proofs.lemmas.Grind.{common_steps}
use Rattle.rbs_grammar.specs.Levels.{rooms}
use Rattle.rbs_grammar.specs.Members.{interface_member}
use Rattle.rbs_parser.specs.MemberParts.{interface_members}
use Rattle.rbs_parser.proofs.FineMembers.{fine_interface_member, some_interface_member}
use Rattle.rbs_parser.proofs.Loops.{begin_more, step_more, end_more, smaller_more}
use Rattle.rbs_parser.proofs.members.Room.interface_members.Goals as goal

pub items-init : goal.items-init
unfolding interface_members
items-init c =
    let e = begin_more (rooms c.args.self.now.marked c.args.self.now.functions) interface_member fine_interface_member some_interface_member c.args.cursor.now in
    first_of (search rules, grind (arith, common_steps))

pub returns-in_err-next : goal.returns-in_err-next
returns-in_err-next c =
    let e = step_more (rooms c.args.self.now.marked c.args.self.now.functions) interface_member fine_interface_member some_interface_member c.items.all c.items.cursor c.items-test.ensures in
    first_of (search rules, grind (arith, common_steps))

pub items-smaller : goal.items-smaller
items-smaller c = smaller_more (rooms c.args.self.now.marked c.args.self.now.functions) interface_member fine_interface_member some_interface_member c.items.cursor c.interface_member.new.cursor c.in_ok-next.next c.in_ok-next.ensures

pub items-preserved : goal.items-preserved
items-preserved c =
    let e = step_more (rooms c.args.self.now.marked c.args.self.now.functions) interface_member fine_interface_member some_interface_member c.items.all c.items.cursor c.items-test.ensures in
    first_of (search rules, grind (arith, common_steps))

pub returns : goal.returns
returns c = c.items.invariant ∙ end_more (rooms c.args.self.now.marked c.args.self.now.functions) interface_member fine_interface_member some_interface_member c.items.all c.items.cursor c.items-test.ensures
