use Rattle.std.proofs.Common.{ap, length}
use Rattle.ruby_grammar.specs.Meaning.{Meaning}
use Rattle.ruby_grammar.proofs.Reading.{goes_failed}
use Rattle.ruby_grammar.proofs.Within.{within_missing, less_work}
use Rattle.ruby_grammar.proofs.engine.Reader.entered.Goals as goal

pub returns-else-rule-self-clause-goes : goal.returns-else-rule-self-clause-goes
returns-else-rule-self-clause-goes g c = goes_failed _ _ c.args.store.now.forest c.args.store.now.trail _ c.args.place (ap (λ (m : Meaning). m.step c.args.place) (within_missing c.args.self.now.rules.now c.args.self.now.tokens.now c.args.room.rules c.args.room.words c.args.rule c.if-rule-self.false)) c.fails.ensures

pub within-requires-clause-less : goal.within-requires-clause-less
within-requires-clause-less g c = less_work (length c.args.self.now.rules.now) c.args.room c.args.self.now.room c.args.rule c.args.self.now.number c.requires.less c.if-rule-self.true
