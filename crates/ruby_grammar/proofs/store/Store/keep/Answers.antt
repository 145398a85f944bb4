use Rattle.std.proofs.Common.{ap}
use Rattle.ruby_grammar.specs.declared.trail.Trail.{Trail}
use Rattle.ruby_grammar.specs.Memos.{outcome_of}
use Rattle.ruby_grammar.proofs.Extends.{extends_same}
use Rattle.ruby_grammar.proofs.Soundness.{kept_sound}
use Rattle.ruby_grammar.proofs.Reading.{no_memory}
use Rattle.ruby_grammar.proofs.Trails.{goes_joined}
use Rattle.ruby_grammar.proofs.store.Store.keep.Goals as goal

pub returns-in-Err-clause-extends : goal.returns-in-Err-clause-extends
returns-in-Err-clause-extends c = extends_same c.args.self.now.forest

pub returns-in-Err-clause-goes : goal.returns-in-Err-clause-goes
returns-in-Err-clause-goes c = λ r ts lists goes. no_memory r ts lists _ _ _

pub returns-in-None-clause-sound : goal.returns-in-None-clause-sound
returns-in-None-clause-sound c = λ rules given room lists. kept_sound rules given room lists c.args.self.now.forest c.args.rule c.args.place c.args.before.row c.args.next c.args.self.now.trail c.join.new.self c.args.self.now.memo c.store.new.self (ap (λ (t : Trail). t.row) c.join.ensures) c.in-Ok.ensures.ok

pub returns-in-None-clause-extends : goal.returns-in-None-clause-extends
returns-in-None-clause-extends c = extends_same c.args.self.now.forest

pub returns-in-None-clause-goes : goal.returns-in-None-clause-goes
returns-in-None-clause-goes c = λ r ts lists. goes_joined r ts lists c.args.self.now.forest c.args.before c.args.self.now.trail c.join.new.self c.args.next _ (ap outcome_of c.in-None.is) c.join.ensures

pub returns-in-Some-clause-sound : goal.returns-in-Some-clause-sound
returns-in-Some-clause-sound c = λ rules given room lists. kept_sound rules given room lists c.args.self.now.forest c.args.rule c.args.place c.args.before.row c.args.next c.args.self.now.trail c.join.new.self c.args.self.now.memo c.store.new.self (ap (λ (t : Trail). t.row) c.join.ensures) c.in-Ok.ensures.ok

pub returns-in-Some-clause-extends : goal.returns-in-Some-clause-extends
returns-in-Some-clause-extends c = extends_same c.args.self.now.forest

pub returns-in-Some-clause-goes : goal.returns-in-Some-clause-goes
returns-in-Some-clause-goes c = λ r ts lists. goes_joined r ts lists c.args.self.now.forest c.args.before c.args.self.now.trail c.join.new.self c.args.next _ (ap outcome_of c.in-Some.is) c.join.ensures
