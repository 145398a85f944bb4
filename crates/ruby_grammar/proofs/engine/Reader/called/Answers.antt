use Rattle.ruby_grammar.proofs.Within.{called_goes}
use Rattle.ruby_grammar.proofs.engine.Reader.called.Goals as goal

pub returns-then-rule-self-clause-goes : goal.returns-then-rule-self-clause-goes
returns-then-rule-self-clause-goes g c = called_goes c.args.self.now.rules.now c.args.self.now.tokens.now c.args.self.now.room.rules c.args.self.now.room.words c.args.self.now.number c.args.rule c.args.place c.args.store.now.forest _ c.args.store.now.trail _ c.within.result c.if-rule-self.true c.within.ensures.goes
