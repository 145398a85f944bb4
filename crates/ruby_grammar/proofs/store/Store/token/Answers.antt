use Rattle.ruby_grammar.proofs.Extends.{extends_same, grows_row}
use Rattle.ruby_grammar.proofs.Reading.{goes_failed, no_memory}
use Rattle.ruby_grammar.proofs.Soundness.{still_sound, grown_sound, sound_row}
use Rattle.ruby_grammar.proofs.Trails.{goes_passed}
use Rattle.ruby_grammar.proofs.store.Store.token.Goals as goal

pub returns-in-Ok-clause-sound : goal.returns-in-Ok-clause-sound
returns-in-Ok-clause-sound c = λ rules given sound. still_sound rules given c.args.self.now.forest c.leaf.new.self c.args.self.now.memo c.args.self.now.trail.row c.in-Ok.row c.leaf.ensures.extends
    (grows_row c.args.self.now.forest c.leaf.new.self c.args.self.now.trail.row c.in-Ok.row _ c.in-Ok.ensures.made (sound_row rules given c.args.self.now.forest c.args.self.now.memo c.args.self.now.trail.row sound)) sound

pub returns-in-Ok-clause-goes : goal.returns-in-Ok-clause-goes
returns-in-Ok-clause-goes c = goes_passed _ _ c.args.self.now.forest c.leaf.new.self c.args.self.now.trail c.in-Ok.row _ c.if-stands_in.ensures c.in-Ok.ensures.made

pub returns-in-Err-clause-sound : goal.returns-in-Err-clause-sound
returns-in-Err-clause-sound c = λ rules given. grown_sound rules given c.args.self.now.forest c.leaf.new.self c.args.self.now.memo c.args.self.now.trail.row c.leaf.ensures.extends

pub returns-in-Err-clause-goes : goal.returns-in-Err-clause-goes
returns-in-Err-clause-goes c = no_memory _ _ _ _ _ _

pub returns-else-stands_in-clause-extends : goal.returns-else-stands_in-clause-extends
returns-else-stands_in-clause-extends c = extends_same c.args.self.now.forest

pub returns-else-stands_in-clause-goes : goal.returns-else-stands_in-clause-goes
returns-else-stands_in-clause-goes c = goes_failed _ _ c.args.self.now.forest c.args.self.now.trail _ c.args.place c.if-stands_in.ensures c.fails.ensures
