use Rattle.std.proofs.Common.{◌≡◌, ◌++◌, List, [], subst, sym, rules}
use Rattle.std.specs.Option.{option_to_list}
use Rattle.method_steps.specs.Gathering.{Entry, Holds}
use Rattle.method_steps.proofs.HoldsLemmas.{Holds-any}
use Rattle.method_steps.proofs.step_methods.next_entry.Goals as goal

pub returns-in-None-clause-holds : goal.returns-in-None-clause-holds
returns-in-None-clause-holds c = λ task methods holds.
    let before : c.args.waiting.now.items ≡ [] = search rules in
    let after : c.pop.new.self.items ≡ [] = search rules in
    subst (λ (es : List Entry). Holds task methods c.take_any.new.groups (es ++ option_to_list c.take_any.result)) (sym after)
    (Holds-any task methods c.args.left.now c.take_any.new.groups c.take_any.result c.take_any.ensures.kept c.take_any.ensures.taken (subst (λ (es : List Entry). Holds task methods c.args.left.now es) before holds))
