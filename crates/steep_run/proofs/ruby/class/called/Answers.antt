use Rattle.steep_run.proofs.ClassLemmas.{called_word}
use Rattle.steep_run.proofs.ruby.class.called.Goals as goal

pub returns : goal.returns
returns g c =
    called_word (g.M.Names.all c.args.members.now) _ c.in-Some.class.now c.args.word.now c.methods_of.result.now c.in_ok-methods-in-Some.methods c.in_ok-name.ensures c.in-Some.ensures
    c.methods_of.ensures c.in_ok-methods-in-Some.ensures
