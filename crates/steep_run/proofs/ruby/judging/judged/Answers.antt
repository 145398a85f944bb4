use Rattle.steep_run.specs.Ruby.{call_of}
use Rattle.steep_run.proofs.ClassLemmas.{judged_call}
use Rattle.steep_run.proofs.ruby.judging.judged.Goals as goal

pub returns-in-Some-clause-judged : goal.returns-in-Some-clause-judged
returns-in-Some-clause-judged g c =
    judged_call c.judged_by.result (g.M.Names.all c.args.members.now) (call_of c.args.call.now) _ c.in-Some.methods.now _ c.in_ok-note_class.ensures.noted c.in-Some.ensures
    c.asked.ensures c.judged_by.ensures
