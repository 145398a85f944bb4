use Rattle.std.proofs.Common.{ap}
use Rattle.ruby_grammar.specs.Meaning.{Meaning}
use Rattle.ruby_grammar.proofs.Extends.{extends_same}
use Rattle.ruby_grammar.proofs.Reading.{goes_failed}
use Rattle.ruby_grammar.proofs.Within.{within_none}
use Rattle.ruby_grammar.proofs.engine.+read_rule.Goals as goal

pub returns-in-None-clause-goes : goal.returns-in-None-clause-goes
returns-in-None-clause-goes t c = goes_failed _ _ _ _ _ c.args.place (ap (λ (m : Meaning). m.step c.args.place) (within_none c.args.rules.now c.args.tokens.now c.args.room.rules c.args.room.words c.args.number c.in-None.ensures)) c.fails.ensures

pub returns-in-None-clause-extends : goal.returns-in-None-clause-extends
returns-in-None-clause-extends t c = extends_same _
