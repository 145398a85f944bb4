use Rattle.std.proofs.Common.{rules, arith, ◌∙◌}
use Rattle.std.proofs.lemmas.Grind.{common_steps}
use Rattle.rbs_grammar.specs.Levels.{rooms}
use Rattle.rbs_grammar.specs.Members.{member}
use Rattle.rbs_parser.specs.MemberParts.{class_members}
use Rattle.rbs_parser.proofs.FineMembers.{fine_member, some_member}
use Rattle.rbs_parser.proofs.Loops.{begin_more, step_more, end_more, smaller_more}
use Rattle.rbs_parser.proofs.declarations.Declarations.members.Goals as goal

pub items-init : goal.items-init
unfolding class_members
items-init g c =
    let e = begin_more (rooms c.args.self.now.room.marked c.args.self.now.room.functions) member fine_member some_member c.args.cursor.now in
    first_of (search rules, grind (arith, common_steps))

pub returns-in_err-next : goal.returns-in_err-next
returns-in_err-next g c =
    let e = step_more (rooms c.args.self.now.room.marked c.args.self.now.room.functions) member fine_member some_member c.items.all c.items.cursor c.items-test.ensures in
    first_of (search rules, grind (arith, common_steps))

pub items-smaller : goal.items-smaller
items-smaller g c = smaller_more (rooms c.args.self.now.room.marked c.args.self.now.room.functions) member fine_member some_member c.items.cursor c.member.new.cursor c.in_ok-next.next c.in_ok-next.ensures

pub items-preserved : goal.items-preserved
items-preserved g c =
    let e = step_more (rooms c.args.self.now.room.marked c.args.self.now.room.functions) member fine_member some_member c.items.all c.items.cursor c.items-test.ensures in
    first_of (search rules, grind (arith, common_steps))

pub returns : goal.returns
returns g c = c.items.invariant ∙ end_more (rooms c.args.self.now.room.marked c.args.self.now.room.functions) member fine_member some_member c.items.all c.items.cursor c.items-test.ensures
