use Rattle.std.proofs.Common.{rules, arith, ◌∙◌}
use Rattle.std.proofs.lemmas.Grind.{common_steps}
use Rattle.rbs_lexer.specs.declared.kind.Kind.TheVariants as k
use Rattle.rbs_grammar.specs.Levels.{rooms}
use Rattle.rbs_grammar.specs.Types.{inter}
use Rattle.rbs_parser.proofs.FineTypes.{fine_inters}
use Rattle.rbs_parser.proofs.Loops.{begin_behind, step_rest, end_rest, smaller_rest}
use Rattle.rbs_parser.proofs.types.Types.more_inters.Goals as goal

pub items-init : goal.items-init
items-init g c =
    let e = begin_behind (rooms c.args.self.now.marked c.args.self.now.functions) k.Bar inter fine_inters c.args.first c.args.cursor.now in
    first_of (search rules, grind (arith, common_steps))

pub returns-in_err-next : goal.returns-in_err-next
returns-in_err-next g c =
    let e = step_rest (rooms c.args.self.now.marked c.args.self.now.functions) k.Bar inter fine_inters c.items.all c.items.cursor c.items-test.ensures.found in
    first_of (search rules, grind (arith, common_steps))

pub items-smaller : goal.items-smaller
items-smaller g c = smaller_rest (rooms c.args.self.now.marked c.args.self.now.functions) k.Bar inter fine_inters c.items.cursor c.eat.new.self c.inter.new.cursor c.in_ok-next.next c.items-test.ensures.found c.items-test.ensures.after c.in_ok-next.ensures

pub items-preserved : goal.items-preserved
items-preserved g c =
    let e = step_rest (rooms c.args.self.now.marked c.args.self.now.functions) k.Bar inter fine_inters c.items.all c.items.cursor c.items-test.ensures.found in
    first_of (search rules, grind (arith, common_steps))

pub returns : goal.returns
returns g c = c.items.invariant ∙ end_rest (rooms c.args.self.now.marked c.args.self.now.functions) k.Bar inter fine_inters c.items.all c.items.cursor c.eat.new.self c.items-test.ensures.found c.items-test.ensures.after
