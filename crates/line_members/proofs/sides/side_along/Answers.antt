use Rattle.std.proofs.Common.{◌∙◌}
use Rattle.line_members.proofs.SideLemmas.{declared_there, describes, from_start, variables_there}
use Rattle.line_members.proofs.sides.side_along.Goals as goal

pub returns : goal.returns
returns g c =
    let all = g.N.Names.all c.args.names.now in
    let steps = c.args.steps.now in
    let side = c.args.behind.now.side.now in
    let found = from_start all c.args.kind steps c.start_of-start.result c.args.behind.now.start side c.start_of-start.ensures.same c.requires.behind in
    describes all c.args.kind (g.M.Making.made c.args.making.now) steps c.in_ok-declared-2.declared c.in_ok-all.all.methods c.in_ok-all.all.makes_new c.in_ok-variables-2.variables c.requires.made
    (c.in_ok-declared-2.ensures (declared_there all c.args.kind (g.M.Making.made c.args.making.now) _ side c.in_ok-declared.declared c.requires.made found c.in_ok-declared.ensures))
    c.in_ok-all.ensures
    (c.in_ok-variables-2.ensures (variables_there all c.args.kind _ side c.in_ok-variables.variables found (c.in_ok-variables.ensures ∙ c.as_slice.ensures)))
