use Rattle.std.proofs.Common.{◌≡◌, map, take}
use Rattle.ruby_grammar.specs.Firsts.{guarded_rule}
use Rattle.ruby_grammar.proofs.guarded.all_guarded.Given as goal

abbrev pub invariant-loop-rule : goal.invariant-loop-rule
invariant-loop-rule l = l.all ≡ map (guarded_rule l.firsts) (take l.rule-index l.rules)
