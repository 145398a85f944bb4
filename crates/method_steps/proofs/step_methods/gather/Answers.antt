use Rattle.std.proofs.Common.{refl, rules}
use Rattle.method_steps.proofs.HoldsLemmas.{Holds-begin, Holds-last}
use Rattle.method_steps.proofs.step_methods.gather.Goals as goal

pub loop-hand-init : goal.loop-hand-init
loop-hand-init g c = record {
  holds = λ alive turns few grouped comes. Holds-begin _ c.args.behind c.args.groups c.take_any-hand.new.groups c.new-waiting.result.items c.take_any-hand.result few grouped refl c.take_any-hand.ensures.kept c.take_any-hand.ensures.taken c.new-waiting.ensures.items;
  ends = search rules;
}

pub returns : goal.returns
returns g c = λ alive turns few grouped comes.
    Holds-last _ c.loop-hand.methods c.loop-hand.left c.loop-hand.waiting.items c.loop-hand.hand c.in_default.is (c.loop-hand.invariant.ends c.in_default.is) (c.loop-hand.invariant.holds alive turns few grouped comes)
