use Rattle.std.proofs.Common.{rules, arith}
use Rattle.std.proofs.lemmas.Grind.{common_steps}
use Rattle.rbs_grammar.specs.Levels.{rooms}
use Rattle.rbs_grammar.specs.Parts.{map_value}
use Rattle.rbs_grammar.specs.Functions.{method_type}
use Rattle.rbs_grammar.specs.Members.{an_overload, overloads_of, overloads_lead, next_overload, overloads}
use Rattle.rbs_parser.specs.MemberParts.{one_overload, with_overloads}
use Rattle.rbs_parser.proofs.FineMembers.{fine_overload, some_overload}
use Rattle.rbs_parser.proofs.Overloads.{first_overload, overloads_begin, overloads_step}
use Rattle.rbs_parser.proofs.Stages.{begin_stages, step_stages, end_stages, smaller_stages}
use Rattle.rbs_parser.proofs.members.Room.overloads.Goals as goal

pub returns-in_err-first : goal.returns-in_err-first
unfolding overloads
returns-in_err-first c =
    let e = begin_stages (rooms c.args.self.now.marked c.args.self.now.functions) overloads_of (map_value an_overload method_type) overloads_lead next_overload first_overload one_overload with_overloads overloads_begin c.args.cursor.now in
    first_of (search rules, grind (arith, common_steps))

pub items-init : goal.items-init
unfolding overloads
items-init c =
    let e = begin_stages (rooms c.args.self.now.marked c.args.self.now.functions) overloads_of (map_value an_overload method_type) overloads_lead next_overload first_overload one_overload with_overloads overloads_begin c.args.cursor.now in
    first_of (search rules, grind (arith, common_steps))

pub returns-in_err-next : goal.returns-in_err-next
returns-in_err-next c =
    let e = step_stages (rooms c.args.self.now.marked c.args.self.now.functions) overloads_of (map_value an_overload method_type) overloads_lead next_overload first_overload one_overload with_overloads fine_overload some_overload overloads_step c.items.found c.items.stage c.items.cursor c.items-test.ensures in
    first_of (search rules, grind (arith, common_steps))

pub items-smaller : goal.items-smaller
items-smaller c = smaller_stages (rooms c.args.self.now.marked c.args.self.now.functions) overloads_of (map_value an_overload method_type) overloads_lead next_overload first_overload one_overload with_overloads fine_overload some_overload c.items.stage c.items.cursor c.next_overload.new.cursor c.in_ok-next.next c.in_ok-next.ensures

pub items-preserved : goal.items-preserved
items-preserved c =
    let e = step_stages (rooms c.args.self.now.marked c.args.self.now.functions) overloads_of (map_value an_overload method_type) overloads_lead next_overload first_overload one_overload with_overloads fine_overload some_overload overloads_step c.items.found c.items.stage c.items.cursor c.items-test.ensures in
    first_of (search rules, grind (arith, common_steps))

pub returns : goal.returns
returns c =
    let e = end_stages (rooms c.args.self.now.marked c.args.self.now.functions) overloads_of (map_value an_overload method_type) overloads_lead next_overload first_overload one_overload with_overloads fine_overload some_overload c.items.found c.items.stage c.items.cursor c.items-test.ensures in
    first_of (search rules, grind (arith, common_steps))
