use Rattle.ruby_grammar.proofs.Extends.{extends_same}
use Rattle.ruby_grammar.proofs.Soundness.{still_sound, grown_sound, sound_row}
use Rattle.ruby_grammar.proofs.Reading.{no_memory}
use Rattle.ruby_grammar.proofs.Trails.{goes_row, goes_recalled, fails_recalled}
use Rattle.ruby_grammar.proofs.store.Store.recall.Goals as goal

pub returns-in-None-clause-extends : goal.returns-in-None-clause-extends
returns-in-None-clause-extends c = extends_same c.args.self.now.forest

pub returns-in-None-clause-goes : goal.returns-in-None-clause-goes
returns-in-None-clause-goes c = λ r ts. fails_recalled r ts c.args.self.now.forest c.args.kept c.args.self.now.trail c.join.new.self c.in-None.is c.join.ensures

pub returns-in-Ok-clause-sound : goal.returns-in-Ok-clause-sound
returns-in-Ok-clause-sound c = λ rules given r ts recalls sound. still_sound rules given c.args.self.now.forest c.moved.new.self c.args.self.now.memo c.args.self.now.trail.row c.join-in-Ok.new.self.row c.moved.ensures.extends
    (goes_row r ts c.args.self.now.forest c.moved.new.self c.args.self.now.trail c.join-in-Ok.new.self c.in-Some.next
    (goes_recalled r ts c.args.self.now.forest c.moved.new.self c.args.kept c.args.self.now.trail c.join-in-Ok.new.self c.in-Ok.row c.in-Some.next c.in-Some.is c.in-Ok.ensures.made c.join-in-Ok.ensures recalls)
    (sound_row rules given c.args.self.now.forest c.args.self.now.memo c.args.self.now.trail.row sound)) sound

pub returns-in-Ok-clause-goes : goal.returns-in-Ok-clause-goes
returns-in-Ok-clause-goes c = λ r ts. goes_recalled r ts c.args.self.now.forest c.moved.new.self c.args.kept c.args.self.now.trail c.join-in-Ok.new.self c.in-Ok.row c.in-Some.next c.in-Some.is c.in-Ok.ensures.made c.join-in-Ok.ensures

pub returns-in-Err-clause-sound : goal.returns-in-Err-clause-sound
returns-in-Err-clause-sound c = λ rules given r ts recalls. grown_sound rules given c.args.self.now.forest c.moved.new.self c.args.self.now.memo c.args.self.now.trail.row c.moved.ensures.extends

pub returns-in-Err-clause-goes : goal.returns-in-Err-clause-goes
returns-in-Err-clause-goes c = λ r ts recalls. no_memory r ts _ _ _ _
