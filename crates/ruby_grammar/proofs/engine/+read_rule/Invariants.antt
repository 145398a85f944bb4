use Rattle.std.proofs.Common.{length}
use Rattle.ruby_grammar.specs.Memos.{work}
use Rattle.ruby_grammar.proofs.engine.+read_rule.Given as goal

abbrev pub decreases-read_rule : goal.decreases-read_rule
decreases-read_rule l = work (length l.rules.now) l.room l.number
