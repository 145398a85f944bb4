use Rattle.std.proofs.Common.{◌∙◌, ◌++◌, ◌∷◌, [], ap}
use Rattle.line_members.proofs.EntryLemmas.{none_taken, one_taken}
use Rattle.line_members.proofs.methods.take_one.Goals as goal

pub returns-in-None : goal.returns-in-None
returns-in-None c = λ found seen taken. none_taken found seen c.args.own.now c.args.left.now c.take.new.self c.args.name.now c.in-None.ensures.none c.in-None.ensures.kept taken

pub returns-in_ok-push-in-Some : goal.returns-in_ok-push-in-Some
returns-in_ok-push-in-Some c = λ found seen taken.
    one_taken found seen c.args.own.now c.push.new.self c.args.left.now c.take.new.self c.args.name.now c.in-Some.entry c.in-Some.ensures.named c.in-Some.ensures.some c.take.ensures.values
    (c.in_ok-push-in-Some.ensures.ok ∙ ap (λ e. c.args.own.now ++ e ∷ []) c.in_ok-new-in-Some.ensures) taken
