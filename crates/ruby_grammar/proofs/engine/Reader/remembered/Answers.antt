use Rattle.ruby_grammar.specs.Meaning.{called, opens, within}
use Rattle.ruby_grammar.proofs.Extends.{extends_same, extends_then}
use Rattle.ruby_grammar.proofs.Reading.{deep_same, goes_failed, no_memory}
use Rattle.ruby_grammar.proofs.Soundness.{found, sound_row}
use Rattle.ruby_grammar.proofs.Within.{own_step}
use Rattle.ruby_grammar.proofs.engine.Reader.remembered.Goals as goal

pub returns-then-is_barred-clause-goes : goal.returns-then-is_barred-clause-goes
returns-then-is_barred-clause-goes g c = goes_failed _ _ _ _ _ c.args.place (own_step c.args.self.now.rules.now c.args.self.now.tokens.now c.args.self.now.room c.args.self.now.number c.args.place c.args.rule.now _ c.requires.is
    (c.is_barred.ensures c.if-is_barred.true (opens c.args.self.now.rules.now c.args.self.now.tokens.now c.args.self.now.room.rules c.args.self.now.room.words) (called c.args.self.now.rules.now c.args.self.now.tokens.now (opens c.args.self.now.rules.now c.args.self.now.tokens.now c.args.self.now.room.rules c.args.self.now.room.words) c.args.self.now.number))) c.fails.ensures

pub returns-then-is_barred-clause-extends : goal.returns-then-is_barred-clause-extends
returns-then-is_barred-clause-extends g c = extends_same _

pub returns-then-fits-clause-sound : goal.returns-then-fits-clause-sound
returns-then-fits-clause-sound g c = c.recall.ensures.sound c.args.self.now.rules.now c.args.self.now.tokens.now ((within c.args.self.now.rules.now c.args.self.now.tokens.now c.args.self.now.room.rules c.args.self.now.room.words c.args.self.now.number).step c.args.place) ((within c.args.self.now.rules.now c.args.self.now.tokens.now c.args.self.now.room.rules c.args.self.now.room.words c.args.self.now.number).trees c.args.place) (found c.args.self.now.rules.now c.args.self.now.tokens.now c.args.store.now.forest c.args.store.now.memo c.args.store.now.trail.row c.args.self.now.room c.args.self.now.number c.args.place c.in-Some.kept c.requires.sound c.in-Some.ensures (c.fits.ensures.0 c.if-fits.true)) c.requires.sound

pub returns-then-fits-clause-goes : goal.returns-then-fits-clause-goes
returns-then-fits-clause-goes g c = c.recall.ensures.goes ((within c.args.self.now.rules.now c.args.self.now.tokens.now c.args.self.now.room.rules c.args.self.now.room.words c.args.self.now.number).step c.args.place) ((within c.args.self.now.rules.now c.args.self.now.tokens.now c.args.self.now.room.rules c.args.self.now.room.words c.args.self.now.number).trees c.args.place) (found c.args.self.now.rules.now c.args.self.now.tokens.now c.args.store.now.forest c.args.store.now.memo c.args.store.now.trail.row c.args.self.now.room c.args.self.now.number c.args.place c.in-Some.kept c.requires.sound c.in-Some.ensures (c.fits.ensures.0 c.if-fits.true))

pub returns-in-Passed-clause-sound : goal.returns-in-Passed-clause-sound
returns-in-Passed-clause-sound g c = c.keep.ensures.sound c.args.self.now.rules.now c.args.self.now.tokens.now c.args.self.now.room c.args.store.now.forest (sound_row c.args.self.now.rules.now c.args.self.now.tokens.now c.args.store.now.forest c.args.store.now.memo c.args.store.now.trail.row c.requires.sound) c.in-Passed.ensures.extends c.in-Passed.ensures.goes c.in-Passed.ensures.sound

pub returns-in-Passed-clause-goes : goal.returns-in-Passed-clause-goes
returns-in-Passed-clause-goes g c = c.keep.ensures.goes ((within c.args.self.now.rules.now c.args.self.now.tokens.now c.args.self.now.room.rules c.args.self.now.room.words c.args.self.now.number).step c.args.place) ((within c.args.self.now.rules.now c.args.self.now.tokens.now c.args.self.now.room.rules c.args.self.now.room.words c.args.self.now.number).trees c.args.place) c.args.store.now.forest c.in-Passed.ensures.goes

pub returns-in-Passed-clause-extends : goal.returns-in-Passed-clause-extends
returns-in-Passed-clause-extends g c = extends_then _ _ _ c.in-Passed.ensures.extends c.keep.ensures.extends

pub returns-in-Failed-clause-sound : goal.returns-in-Failed-clause-sound
returns-in-Failed-clause-sound g c = c.keep-in-Failed.ensures.sound c.args.self.now.rules.now c.args.self.now.tokens.now c.args.self.now.room c.args.store.now.forest (sound_row c.args.self.now.rules.now c.args.self.now.tokens.now c.args.store.now.forest c.args.store.now.memo c.args.store.now.trail.row c.requires.sound) c.in-Failed.ensures.extends c.in-Failed.ensures.goes c.in-Failed.ensures.sound

pub returns-in-Failed-clause-goes : goal.returns-in-Failed-clause-goes
returns-in-Failed-clause-goes g c = c.keep-in-Failed.ensures.goes ((within c.args.self.now.rules.now c.args.self.now.tokens.now c.args.self.now.room.rules c.args.self.now.room.words c.args.self.now.number).step c.args.place) ((within c.args.self.now.rules.now c.args.self.now.tokens.now c.args.self.now.room.rules c.args.self.now.room.words c.args.self.now.number).trees c.args.place) c.args.store.now.forest c.in-Failed.ensures.goes

pub returns-in-Failed-clause-extends : goal.returns-in-Failed-clause-extends
returns-in-Failed-clause-extends g c = extends_then _ _ _ c.in-Failed.ensures.extends c.keep-in-Failed.ensures.extends

pub returns-in-TooDeep-clause-goes : goal.returns-in-TooDeep-clause-goes
returns-in-TooDeep-clause-goes g c = deep_same _ _ _ _ _ _ _ _ _ _ _ c.in-TooDeep.ensures.goes

pub returns-in-NoMemory-clause-goes : goal.returns-in-NoMemory-clause-goes
returns-in-NoMemory-clause-goes g c = no_memory _ _ _ _ _ _
