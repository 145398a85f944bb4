use Rattle.ruby_grammar.proofs.Within.{own_goes}
use Rattle.ruby_grammar.proofs.engine.Reader.scanned.Goals as goal

pub returns-clause-goes : goal.returns-clause-goes
returns-clause-goes g c = own_goes c.args.self.now.rules.now c.args.self.now.tokens.now c.args.self.now.room c.args.self.now.number c.args.place c.args.rule.now c.args.store.now.forest _ c.args.store.now.trail _ c.scan.result c.requires.is c.scan.ensures.goes
