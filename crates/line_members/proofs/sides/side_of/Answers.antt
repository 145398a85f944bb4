use Rattle.std.proofs.Common.{◌≤◌, ◌∙◌, ◌≡◌, ap, sym, subst, IfOk, List}
use Rattle.sig_rules.specs.declared.line.Step.{Step}
use Rattle.sig_rules.specs.Counts.{IsBuildFault, methods_count, most_methods}
use Rattle.sig_rules.specs.Lines.{line}
use Rattle.line_members.specs.Sides.{Describes, IsBehind}
use Rattle.line_members.proofs.AlongLemmas.{if_err, if_ok, on_ok}
use Rattle.line_members.proofs.SideLemmas.{counts, too_many}
use Rattle.line_members.proofs.sides.side_of.Goals as goal

pub side_with-requires-clause-behind : goal.side_with-requires-clause-behind
side_with-requires-clause-behind g c =
    subst (λ (ss : List Step). IsBehind (g.L.Names.all c.args.lines.now) c.args.kind ss c.args.behind) (sym c.steps_of-steps.ensures) c.requires.behind

pub returns-clause-side : goal.returns-clause-side
returns-clause-side g c =
    if_ok _ (λ side same. subst (λ s. Describes (g.L.Names.all c.args.lines.now) c.args.kind (line (g.L.Names.all c.args.lines.now) c.args.name.now.path c.args.kind).steps s) (sym same)
    (subst (λ (ss : List Step). Describes (g.L.Names.all c.args.lines.now) c.args.kind ss c.in_ok-side.side) c.steps_of-steps.ensures c.in_ok-side.ensures)) c.counted.ensures.same

pub returns-clause-few : goal.returns-clause-few
returns-clause-few g c =
    on_ok _ (subst (λ n. n ≤ most_methods) (counts (g.L.Names.all c.args.lines.now) c.args.name.now.path c.args.kind c.in_ok-side.side
    (subst (λ (ss : List Step). Describes (g.L.Names.all c.args.lines.now) c.args.kind ss c.in_ok-side.side) c.steps_of-steps.ensures c.in_ok-side.ensures))) c.counted.ensures.few

pub returns-clause-fault : goal.returns-clause-fault
returns-clause-fault g c =
    if_err _ (λ e many. too_many (g.L.Names.all c.args.lines.now) c.args.name.now.path c.args.kind _ e (counts (g.L.Names.all c.args.lines.now) c.args.name.now.path c.args.kind c.in_ok-side.side
    (subst (λ (ss : List Step). Describes (g.L.Names.all c.args.lines.now) c.args.kind ss c.in_ok-side.side) c.steps_of-steps.ensures c.in_ok-side.ensures)) many) c.counted.ensures.many
