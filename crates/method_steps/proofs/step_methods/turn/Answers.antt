use Rattle.std.proofs.Common.{◌∙◌, sym, ap}
use Rattle.method_steps.specs.Gathering.{wanted}
use Rattle.method_steps.proofs.HoldsLemmas.{Holds-finish, Holds-follow}
use Rattle.method_steps.proofs.step_methods.turn.Goals as goal

pub returns-in_ok-push-in-Some-clause-holds : goal.returns-in_ok-push-in-Some-clause-holds
returns-in_ok-push-in-Some-clause-holds g c = λ task made step rest steps comes holds.
    Holds-follow task c.args.methods.now c.args.left.now c.take_wanted.new.groups c.args.waiting.now.items c.push.new.self.items c.args.entry c.in-Some.next c.in_ok-push-in-Some.ensures.items
    (ap wanted (sym c.as_slice.ensures) ∙ c.in-Some.ensures.some) c.in-Some.ensures.taken holds

pub returns-in_ok-finish-in-None-clause-holds : goal.returns-in_ok-finish-in-None-clause-holds
returns-in_ok-finish-in-None-clause-holds g c = λ task made step rest steps comes holds.
    c.next_entry.ensures.holds task c.finish.new.methods
    (Holds-finish task c.args.methods.now c.finish.new.methods c.args.left.now c.take_wanted.new.groups c.args.waiting.now.items c.args.entry c.as_slice.result.now
    (g.M.Making.made c.args.site.now.making.now) c.args.site.now.step.now c.args.site.now.rest.now c.args.site.now.steps.now made step rest steps comes holds
    c.as_slice.ensures c.in-None.ensures.none c.in-None.ensures.kept c.in_ok-finish-in-None.ensures)
