use Rattle.std.proofs.Common.{◌∙◌, sym}
use Rattle.line_members.specs.declared.methods.WithNew.{WithNew}
use Rattle.line_members.proofs.AlongLemmas.{if_ok2}
use Rattle.line_members.proofs.SideLemmas.{adds_new, adds_nothing}
use Rattle.line_members.proofs.methods.with_made.Goals as goal

pub returns-then-not-needs_new : goal.returns-then-not-needs_new
returns-then-not-needs_new g c = adds_nothing (g.M.Making.made c.args.making.now) c.only_new.ensures c.args.steps.now c.args.declared (sym c.needs_new.ensures ∙ c.if-not-needs_new.true)

pub returns : goal.returns
returns g c =
    if_ok2 _ (λ (all : WithNew) methods makes. adds_new (g.M.Making.made c.args.making.now) c.only_new.ensures c.args.steps.now c.args.declared all.methods c.in_ok-new.new all.makes_new
    (sym c.needs_new.ensures ∙ c.if-not-needs_new.false) c.in_ok-new.ensures methods makes) c.with_new.ensures.methods c.with_new.ensures.makes
